-- The conditions of refusals 2 to 6 and 8, SCOPE 7.2 to 7.6 and 7.8, each over its arguments alone.
use Rattle.std.specs.Prelude.{Bool, not, ◌||◌, List, ℕ, ◌+◌, ◌*◌, ltb, eqb, Float}
use Rattle.std.specs.Float.{binary64}
use Rattle.std.specs.Float.Ieee.{add, lt}
use Rattle.std.specs.Float.Ieee.Scale.{finite}
use Rattle.laws.specs.Lists.{some_of}
use Rattle.floats.specs.Values.{plus_zero}
use Rattle.floats.specs.Grid.{on_grid}
use Rattle.drawing.specs.Entries.{Segment, Node}

-- SCOPE 7.2: "The columns of one list differ in length": some length is not the first one's
unfoldable pub differ : ℕ → List ℕ → Bool
differ n l = some_of (λ m. not (eqb n m)) l

-- SCOPE 7.3: "A list holds more than 4,096 entries"
unfoldable pub too_many : ℕ → Bool
too_many n = ltb 4096 n

-- SCOPE 7.4, 2.7: "The scratch is shorter than stated above": "at least 32 times (segments + nodes) plus 64 words"
unfoldable pub short_scratch : ℕ → ℕ → ℕ → Bool
short_scratch words segments nodes = ltb words (32 * (segments + nodes) + 64)

-- SCOPE 7.5: "an orientation byte above 1, a non-finite number, start not below end". The segment is one as it is taken (SCOPE 2.8), so that the last is "Start equal to end still gives 5"
unfoldable pub unfit_fields : ℕ → Float → Float → Float → Bool
unfit_fields orientation fixed start end = ltb 1 orientation || not (finite fixed) || not (finite start) || not (finite end) || not (lt start end)

unfoldable pub unfit_segment : Segment → Bool
unfit_segment s = unfit_fields s.orientation s.fixed s.start s.end

-- SCOPE 7.5, along one axis of a node's box: "a non-finite number, .. width or height not above 0, a non-finite right or bottom edge"
unfoldable pub unfit_extent : Float → Float → Bool
unfit_extent corner extent = not (finite corner) || not (finite extent) || not (lt plus_zero extent) || not (finite (add binary64 corner extent))

-- and along both
unfoldable pub unfit_box : Float → Float → Float → Float → Bool
unfit_box x y width height = unfit_extent x width || unfit_extent y height

unfoldable pub unfit_node : Node → Bool
unfit_node n = unfit_box n.x n.y n.width n.height

-- SCOPE 7.5: "a non-finite number, .. or a threshold below 0 (-0 passes)"
unfoldable pub unfit_threshold : Float → Bool
unfit_threshold t = not (finite t) || lt t plus_zero

-- SCOPE 7.5: "a non-finite number"
unfoldable pub unfit_cutoff : Float → Bool
unfit_cutoff c = not (finite c)

-- SCOPE 7.6: "a coordinate or the cutoff is off the grid"
unfoldable pub off_grid_fields : Float → Float → Float → Bool
off_grid_fields fixed start end = not (on_grid fixed) || not (on_grid start) || not (on_grid end)

unfoldable pub off_grid_segment : Segment → Bool
off_grid_segment s = off_grid_fields s.fixed s.start s.end

unfoldable pub off_grid_cutoff : Float → Bool
off_grid_cutoff c = not (on_grid c)

-- SCOPE 7.8: "the shortest lent output column holds fewer entries than the answer needs": some length is below what is needed
unfoldable pub short_output : ℕ → List ℕ → Bool
short_output needed lengths = some_of (λ m. ltb m needed) lengths
