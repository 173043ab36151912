-- Congestion's visit count (SCOPE 4.5), from the segments as they are taken: their orientation bytes, and comparisons of floats.
use Rattle.std.specs.Prelude.{List, cond, ℕ, ◌+◌, ◌*◌, eqb, Float}
use Rattle.std.specs.Float.Ieee.{lt}
use Rattle.laws.specs.Lists.{count, pairs}
use Rattle.floats.specs.Values.{plus_zero}
use Rattle.drawing.specs.Entries.{Segment}
use Rattle.rows.specs.Rows.{at_least_two}
use Rattle.congestion.specs.Rounded.{close_floats}

-- the number of segments of one orientation
abbrev pub segments_along : ℕ → List Segment → ℕ
segments_along orientation l = count (λ (s : Segment). eqb s.orientation orientation) l

-- SCOPE 4.5: "Congestion: segments in orientations holding at least two, plus twice the close pairs of all nets, equal nets included; 0 if the cutoff is 0 or less." `at_least_two` of a number below two is 0. `close_floats` compares floats, SCOPE 3.10: "same orientation, positive overlap, fixed gap below the cutoff", the gap one rounded subtraction.
unfoldable pub visit_count : Float → List Segment → ℕ
visit_count cutoff l = cond (lt plus_zero cutoff) (at_least_two (segments_along 1 l) + at_least_two (segments_along 0 l) + 2 * count (λ p. close_floats cutoff p.0 p.1) (pairs l)) 0
