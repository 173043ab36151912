-- The figures of separation over all pairs of segments (SCOPE 3.7, 3.8, 3.9): no tree, no sweep, no order and no allowance.
use Rattle.std.specs.Prelude.{Bool, not, ◌&&◌, List, eqb, Float, Option}
use Rattle.std.specs.Float.Ieee.{lt, eq}
use Rattle.laws.specs.Lists.{chosen, keep, pairs}
use Rattle.floats.specs.Values.{plus_zero, lesser_of, greater_of, gap_of}
use Rattle.drawing.specs.Entries.{Segment}
use Rattle.drawing.specs.Gaps.{least_gap}
use Rattle.rows.specs.Rows.{fixed_of, start_of, end_of}

-- SCOPE 3.7: "whose overlap is positive (larger start < smaller end)"
unfoldable pub overlapping : Segment → Segment → Bool
overlapping a b = lt (greater_of (start_of a) (start_of b)) (lesser_of (end_of a) (end_of b))

-- SCOPE 3.7: "same-orientation, different-net pairs whose overlap is positive"
unfoldable pub is_counted : Segment × Segment → Bool
is_counted p = eqb p.0.orientation p.1.orientation && (not (eqb p.0.net p.1.net) && overlapping p.0 p.1)

-- SCOPE 3.8: "the .. rounded gap of fixed coordinates": one rounded subtraction, its sign dropped. "An overflowing gap is +infinity, a present value."
unfoldable pub gap_between : Segment × Segment → Float
gap_between p = gap_of (fixed_of p.0) (fixed_of p.1)

-- the gap of each pair that counts
unfoldable pub gaps : List Segment → List Float
gaps l = chosen is_counted gap_between (pairs l)

unfoldable pub nonzero : Float → Bool
nonzero x = not (eq x plus_zero)

pub record Figures : Type 0 where
  pub least : Option Float
  pub least_nonzero : Option Float

-- the least of a list of gaps, and the least nonzero one
unfoldable pub least_of : List Float → Figures
least_of l = record { least = least_gap l; least_nonzero = least_gap (keep nonzero l) }

-- SCOPE 3.9: "the least rounded gap of fixed coordinates; and the least nonzero one. Each is absent if there is no such pair."
unfoldable pub figures : List Segment → Figures
figures l = least_of (gaps l)
