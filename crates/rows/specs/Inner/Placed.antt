-- What the functions of this crate do to the words s that they are lent, whatever these are.
use Rattle.std.specs.Prelude.{Bool, not, ◌&&◌, cond, List, [], ◌∷◌, ◌++◌, map, ℕ, ◌+◌, ◌*◌, eqb, leb, length, get_or, take, drop}
use Rattle.std.proofs.Math.Seq.{paste}
use Rattle.laws.specs.Lists.{chosen}
use Rattle.sorting.specs.Inner.Sorted.{sortable, sorted, up_to}
use Rattle.drawing.specs.Entries.{Segment, SegmentColumns, segments}
use Rattle.drawing.specs.Checks.{segments_differ}
use Rattle.rows.specs.Rows.{Row, row_of, words}

-- ---- the rows of one orientation
-- those of its segments, in the order of the list
abbrev pub rows_of : ℕ → List Segment → List Row
rows_of o l = chosen (λ s. eqb s.orientation o) row_of l

-- their words, row after row
unfoldable pub all_words : List Row → List ℕ
all_words [] = []
all_words (r ∷ l) = words r ++ all_words l

-- columns of equal length, and m words: for every segment one for an index and four for a row
unfoldable pub orderable : SegmentColumns → ℕ → Bool
orderable c m = not (segments_differ c) && leb (5 * length c.net) m

-- how many rows are sorted in m words
unfoldable pub row_count : ℕ → SegmentColumns → ℕ → ℕ
row_count o c m = cond (orderable c m) (length (rows_of o (segments c))) 0

-- the table of the rows begins after one word for each segment, their indices in sorted order are at the front, and all else is as it was
unfoldable pub rows_placed : ℕ → SegmentColumns → List ℕ → List ℕ
rows_placed o c s =
    let t = length c.net in
    let l = rows_of o (segments c) in
    let n = length l in
    cond (orderable c (length s)) (sorted (up_to n ++ drop n (paste s t (all_words l) (4 * n))) n t 4) s

-- ---- the sorted rows, column by column
-- one word of each row: k begins with the n indices in sorted order, the table of the rows begins at its word `table`
abbrev pub row_column : ℕ → ℕ → ℕ → List ℕ → List ℕ
row_column n table word k = map (λ i. get_or k (table + 4 * i + word) 0) (take n k)

-- from word `from` on are n indices, each with a whole row in the table; before them is room for six columns
unfoldable pub spreadable : ℕ → ℕ → ℕ → List ℕ → Bool
spreadable n from table s = leb (6 * n) from && (leb from (length s) && sortable (drop from s) n table 4)

-- from word 2 n on: the ends, the starts, the lines and the nets; all else is as it was
unfoldable pub rows_spread : ℕ → ℕ → ℕ → List ℕ → List ℕ
rows_spread n from table s =
    let k = drop from s in
    cond (spreadable n from table s) (paste s (2 * n) (row_column n table 2 k ++ (row_column n table 1 k ++ (row_column n table 0 k ++ row_column n table 3 k))) (4 * n)) s

-- ---- the events
-- the numbers of the 2 n events sorted by their keys, which follow them; all else is as it was
unfoldable pub events_placed : ℕ → List ℕ → List ℕ
events_placed n s = cond (leb (4 * n) (length s)) (sorted (up_to (2 * n) ++ drop (2 * n) s) (2 * n) (2 * n) 1) s
