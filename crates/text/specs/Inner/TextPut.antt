-- A text put into a lent buffer, for every index and every length of the buffer.
use Rattle.std.specs.Prelude.{◌≡◌, List, [], ◌∷◌, ℕ, ◌+◌, ◌-◌, ◌≤◌, min, length, set}
use Rattle.text.specs.declared.put.TextBuffer.{TextBuffer}

-- the greatest index, 2^64 - 1; no buffer has a byte there
abbrev pub last_index : ℕ
last_index = 0xffff_ffff_ffff_ffff

-- the index k bytes after another, or the greatest where that would be larger
unfoldable pub index_after : ℕ → ℕ → ℕ
index_after at k = at + min k (last_index - at)

-- the bytes of a text stored in sequence from an index on; a byte past the buffer's end is left out, and all other bytes of the buffer stay as they are
unfoldable pub stored : List ℕ → ℕ → List ℕ → List ℕ
stored s at [] = s
stored s at (b ∷ t) = stored (set s at b) (index_after at 1) t

-- Of a text buffer before and after a text was put: the text is stored from the position on, as far as the lent bytes reach; the new position is the index after the whole text, also where some of it was left out, or the greatest index where that would be larger; the text has at most `longest` bytes; the buffer still lends the same memory.
pub record Put (longest : ℕ) (before : TextBuffer) (text : List ℕ) (after : TextBuffer) : Type 0 where
  pub is-stored : after.bytes.now ≡ stored before.bytes.now before.position text
  pub ended : after.position ≡ index_after before.position (length text)
  pub short : length text ≤ longest
  pub same_reference : after.bytes.ghost_name ≡ before.bytes.ghost_name
