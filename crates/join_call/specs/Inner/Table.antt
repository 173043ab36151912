-- The table of n pieces in a slice of words: n indices, and behind them the pieces, four words each.
use Rattle.std.specs.Prelude.{◌≡◌, List, [], ◌∷◌, map, ℕ, zero, suc, ◌+◌, ◌*◌, ◌^◌, ◌≤◌, ◌<◌, length, get_or, take, drop}
use Rattle.laws.specs.Lists.{All}
use Rattle.laws.specs.Sort.{sort_by}
use Rattle.drawing.specs.Entries.{SegmentColumns, segments}
use Rattle.drawing.specs.Inner.Entries.{segment_at}
use Rattle.drawing.specs.Inner.Lengths.{SegmentsAgree}
use Rattle.drawing.specs.Held.{FitSegment}
use Rattle.joining.specs.declared.piece.Piece.{Piece}
use Rattle.joining.specs.Inner.Pieces.{piece_of}
use Rattle.joining.specs.Joined.{canonical_zeros, is_in_order}

-- ---- the table
unfoldable pub piece_words : Piece → List ℕ
piece_words p = p.net_and_orientation ∷ p.fixed ∷ p.start ∷ p.end ∷ []

-- the piece whose words begin at j
abbrev pub piece_from : List ℕ → ℕ → Piece
piece_from a j = record { net_and_orientation = get_or a j 0; fixed = get_or a (j + 1) 0; start = get_or a (j + 2) 0; end = get_or a (j + 3) 0 }

-- of n pieces, the k-th in order
abbrev pub placed : ℕ → List ℕ → ℕ → Piece
placed n a k = piece_from a (n + 4 * get_or a k 0)

-- so many of them from the k-th on
unfoldable pub entries_from : ℕ → List ℕ → ℕ → ℕ → List Piece
entries_from n a k zero = []
entries_from n a k (suc m) = placed n a k ∷ entries_from n a (k + 1) m

-- segments that passed the checks, and m words, enough for a table of them
pub record Lists (c : SegmentColumns) (m : ℕ) : Type 0 where
  pub agree : SegmentsAgree c
  pub few : length c.net ≤ 4096
  pub fit : All FitSegment (segments c)
  pub nets : (i : ℕ) → get_or c.net i 0 < 2 ^ 32
  pub room : 5 * length c.net ≤ m

-- the first i segments are in the table
pub record Gathered (c : SegmentColumns) (i : ℕ) (s r : List ℕ) : Type 0 where
  pub same : length r ≡ length s
  pub rows : (j : ℕ) → j < i → take 4 (drop (length c.net + 4 * j) r) ≡ piece_words (piece_of (canonical_zeros (segment_at c j)))

-- n indices, each of a whole row of the table
pub record Tabled (n : ℕ) (a : List ℕ) : Type 0 where
  pub few : n ≤ 4096
  pub long : 5 * n ≤ length a
  pub small : (k : ℕ) → k < n → get_or a k 0 < n

-- the table has the segments of the columns, and their indices are in order
pub record TableInOrder (c : SegmentColumns) (a : List ℕ) : Type 0 where
  pub tabled : Tabled (length c.net) a
  pub entries : entries_from (length c.net) a 0 (length c.net) ≡ map piece_of (sort_by is_in_order (map canonical_zeros (segments c)))
