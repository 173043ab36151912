-- The segments of one orientation as sorted rows, and their sorted events (SCOPE 5.8, 5.9): separation's walk is defined over them, and the code of both sweeps runs over them. Congestion's walk is defined over wires in 64ths. How many segments an orientation with fewer than two counts for is here too.
use Rattle.std.specs.Prelude.{Bool, cond, List, [], ◌∷◌, ℕ, suc, ltb, eqb, Float}
use Rattle.laws.specs.Lists.{chosen}
use Rattle.laws.specs.Rows.{row_le}
use Rattle.laws.specs.Sort.{sort_by}
use Rattle.floats.specs.TotalOrder.{key_of}
use Rattle.floats.specs.Values.{canonical_zero}
use Rattle.drawing.specs.Entries.{Segment}
use Rattle.drawing.specs.Orders.{segments_in_order}

-- a segment's coordinates as these measures take them. SCOPE 3.7, 9.2: "Zeros become +0."
unfoldable pub fixed_of : Segment → Float
fixed_of s = canonical_zero s.fixed

unfoldable pub start_of : Segment → Float
start_of s = canonical_zero s.start

unfoldable pub end_of : Segment → Float
end_of s = canonical_zero s.end

-- a segment's net, and its coordinates by their positions in totalOrder, `line` being that of the fixed one; `float_at` gives the coordinate at a position
pub record Row : Type 0 where
  pub net : ℕ
  pub line : ℕ
  pub start : ℕ
  pub end : ℕ

unfoldable pub row_of : Segment → Row
row_of s = record { net = s.net; line = key_of (fixed_of s); start = key_of (start_of s); end = key_of (end_of s) }

-- SCOPE 5.9: rows are sorted by fixed, start, end, net, as the Rust's separation sorts them. Its congestion keeps the list's order (SCOPE 5.12), on which the figures of that sweep do not depend.
unfoldable pub words : Row → List ℕ
words r = r.line ∷ r.start ∷ r.end ∷ r.net ∷ []

abbrev pub rows_in_order : Row → Row → Bool
rows_in_order a b = row_le (words a) (words b)

-- the segments of one orientation. SCOPE 9.4: "Each measure walks as if its segments came in the order net, orientation byte, fixed, start, end .. The Rust's own orders then follow, and what they leave tied keeps this order"
unfoldable pub oriented : ℕ → List Segment → List Row
oriented o l = sort_by rows_in_order (chosen (λ s. eqb s.orientation o) row_of (segments_in_order l))

-- ---- how many are swept

-- SCOPE 4.5, 5.8: n, or 0 where it is less than two
abbrev pub at_least_two : ℕ → ℕ
at_least_two n = cond (ltb n 2) 0 n

-- ---- the events
-- SCOPE 5.9: each segment has two events, its end and its start; its index is that of its row in sorted order
pub data Event : Type 0 where
  ends starts : ℕ → Row → Event

-- SCOPE 5.9: events come by coordinate, ends before starts, then by index
unfoldable pub moment : Event → List ℕ
moment (ends i r) = r.end ∷ 0 ∷ i ∷ []
moment (starts i r) = r.start ∷ 1 ∷ i ∷ []

abbrev pub events_in_order : Event → Event → Bool
events_in_order d e = row_le (moment d) (moment e)

-- the events of rows whose indices begin at i
unfoldable pub events_from : ℕ → List Row → List Event
events_from i [] = []
events_from i (r ∷ l) = ends i r ∷ starts i r ∷ events_from (suc i) l

-- the events, sorted
unfoldable pub events : List Row → List Event
events l = sort_by events_in_order (events_from 0 l)
