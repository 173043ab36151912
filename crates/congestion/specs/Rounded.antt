-- Closeness and the sums of lengths with IEEE 754's rounded steps (SCOPE 1.3, 8.2).
use Rattle.std.specs.Prelude.{List, [], ◌∷◌, map, Bool, not, ◌&&◌, eqb, ltb, Float}
use Rattle.std.specs.Float.{binary64}
use Rattle.std.specs.Float.Ieee.{add, sub, lt}
use Rattle.laws.specs.Lists.{chosen, pairs}
use Rattle.floats.specs.TotalOrder.{key_of}
use Rattle.floats.specs.Values.{plus_zero, canonical_zero, lesser_of, greater_of, gap_of}
use Rattle.drawing.specs.Entries.{Segment}

-- SCOPE 3.10: "Close: same orientation, positive overlap, fixed gap below the cutoff", by comparisons of floats
unfoldable pub close_floats : Float → Segment → Segment → Bool
close_floats cutoff s t = eqb s.orientation t.orientation && lt (gap_of s.fixed t.fixed) cutoff && lt (greater_of s.start t.start) (lesser_of s.end t.end)

-- SCOPE 5.12, 9.1: `Excluded(FloatKey(query.fixed - cutoff)), Excluded(FloatKey(query.fixed + cutoff))`: the Rust's range of lines, each bound one rounded step, compared by totalOrder's keys; zeros are +0 first
unfoldable pub in_range_floats : Float → Segment → Segment → Bool
in_range_floats cutoff s t =
    let x = canonical_zero s.fixed in
    let y = key_of (canonical_zero t.fixed) in
    ltb (key_of (sub binary64 x cutoff)) y && ltb y (key_of (add binary64 x cutoff))

-- a sum that begins with a float, one rounded addition after the other
unfoldable pub running_sum : Float → List Float → Float
running_sum x [] = x
running_sum x (y ∷ l) = running_sum (add binary64 x y) l

-- SCOPE 9.2: "Congestion turns -0 into +0 first": the length from one coordinate to another, one rounded subtraction
abbrev pub span : Float → Float → Float
span from to = sub binary64 (canonical_zero to) (canonical_zero from)

-- SCOPE 3.11: "total length": the lengths of the segments in the list's order
unfoldable pub rounded_total : List Segment → Float
rounded_total l = running_sum plus_zero (map (λ s. span s.start s.end) l)

-- SCOPE 3.13: "summed overlap of close different-net pairs": each from the larger start to the smaller end
unfoldable pub rounded_overlap : Float → List Segment → Float
rounded_overlap cutoff l = running_sum plus_zero (chosen (λ p. close_floats cutoff p.0 p.1 && not (eqb p.0.net p.1.net)) (λ p. span (greater_of p.0.start p.1.start) (lesser_of p.0.end p.1.end)) (pairs l))
