-- Entries of one width in sequence: what the loops over a list of the file use.
use Rattle.drawing.specs.declared.refusal.Refusal.{Refusal}
use Rattle.std.specs.Prelude.{List, [], ◌∷◌, ℕ, zero, suc, length, drop, Result, Ok, Err}
use Rattle.file.specs.declared.entries.Entries.{Entries}
use Rattle.file.specs.Reading.{Read, got, refused}

-- the bytes from each of n indices on, the first index 0 and each other `width` bytes after the one before it
unfoldable pub places : ℕ → ℕ → List ℕ → List (List ℕ)
places width zero l = []
places width (suc n) l = l ∷ places width n (drop width l)

-- how many entries a list has, or why it is refused
unfoldable pub count_of : {A : Type 0} → Read (List A) → Result ℕ Refusal
count_of (got entries rest) = Ok (length entries)
count_of (refused r) = Err r

-- the bytes from the first byte of each entry on
abbrev pub entry_starts : Entries → List (List ℕ)
entry_starts e = places e.width e.count (drop e.at e.bytes.now)
