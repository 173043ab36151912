-- What only inner contracts cite, here and in the crates of the sweeps: what the tables in a slice of words hold. There are n sorted rows: l.
-- Words 0 .. 2 n: the sorted events, by number: event j < n is the end of row j, event n + j its start.
-- From 2 n on, n words each: the keys of the ends, the keys of the starts, the keys of the lines, the nets.
use Rattle.std.specs.Prelude.{◌≡◌, cond, List, [], ◌∷◌, ℕ, ◌+◌, ◌-◌, ◌*◌, ◌≤◌, ◌<◌, ltb, length, get_or, take, drop}
use Rattle.std.proofs.Math.Seq.{paste}
use Rattle.drawing.specs.Entries.{Segment, SegmentColumns, segments}
use Rattle.drawing.specs.Inner.Lengths.{SegmentsAgree}
use Rattle.rows.specs.Rows.{Row, words, Event, ends, starts}
use Rattle.rows.specs.Inner.Placed.{rows_of, all_words}

-- the row at an index
abbrev pub no_row : Row
no_row = record { net = 0; line = 0; start = 0; end = 0 }

abbrev pub row_from : List Row → ℕ → Row
row_from l j = get_or l j no_row

-- the event of a number
abbrev pub event_from : List Row → ℕ → Event
event_from l e = cond (ltb e (length l)) (ends e (row_from l e)) (starts (e - length l) (row_from l (e - length l)))

-- the k-th of the columns of n words
abbrev pub column : ℕ → ℕ → List ℕ → List ℕ
column n k s = take n (drop (k * n) s)

-- `orderable`, as facts
pub record Orderable (c : SegmentColumns) (m : ℕ) : Type 0 where
  pub agree : SegmentsAgree c
  pub room : 5 * length c.net ≤ m

-- the first words of s are the indices of the rows l in a table from word t on, four words each
pub record RowsOrdered (l : List Row) (t : ℕ) (s : List ℕ) : Type 0 where
  pub small : (j : ℕ) → j < length l → get_or s j 0 < length l
  pub rows : (j : ℕ) → j < length l → take 4 (drop (t + 4 * get_or s j 0) s) ≡ words (row_from l j)

-- `spreadable`, as facts
pub record Spreadable (n from table : ℕ) (s : List ℕ) : Type 0 where
  pub room : 6 * n ≤ from
  pub apart : n ≤ table
  pub inside : from + table ≤ length s
  pub rows : (j : ℕ) → j < n → from + table + 4 * get_or s (from + j) 0 + 4 ≤ length s

-- the segment's row after the n rows of a table, where the orientation is its own: m rows then
pub record RowAdded (t n o : ℕ) (x : Segment) (s r : List ℕ) (m : ℕ) : Type 0 where
  pub same : length r ≡ length s
  pub count : m ≡ n + length (rows_of o (x ∷ []))
  pub is : r ≡ paste s (t + 4 * n) (all_words (rows_of o (x ∷ []))) (4 * length (rows_of o (x ∷ [])))

-- all rows of one orientation, n of them
pub record Gathered (t o : ℕ) (c : SegmentColumns) (s r : List ℕ) (n : ℕ) : Type 0 where
  pub same : length r ≡ length s
  pub few : n ≤ length c.net
  pub count : n ≡ length (rows_of o (segments c))
  pub is : r ≡ paste s t (all_words (rows_of o (segments c))) (4 * n)
