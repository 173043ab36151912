-- The joined list (SCOPE 16), computed: zeros are made +0, the segments put in order, and each is taken into the piece before it where the two touch. That this is what was asked for, the fewest pieces that cover the same points, is stated in `JoinedLists`.
use Rattle.std.specs.Prelude.{Bool, not, ◌&&◌, cond, List, [], ◌∷◌, ◌++◌, map, ℕ, ◌-◌, leb, ltb, eqb}
use Rattle.laws.specs.Lists.{put}
use Rattle.laws.specs.Rows.{row_le}
use Rattle.laws.specs.Sort.{sort_by}
use Rattle.floats.specs.TotalOrder.{key_of}
use Rattle.floats.specs.Values.{canonical_zero}
use Rattle.drawing.specs.declared.lists.Segment.{Segment}

-- SCOPE 16.4: "with zeros made +0"
unfoldable pub canonical_zeros : Segment → Segment
canonical_zeros s = record { net = s.net; orientation = s.orientation; fixed = canonical_zero s.fixed; start = canonical_zero s.start; end = canonical_zero s.end }

-- SCOPE 16.4: "ordered by net, horizontal first, then fixed, start and end by totalOrder"; the orientation byte of a horizontal segment is 1
abbrev pub line_row : Segment → List ℕ
line_row s = s.net ∷ (1 - s.orientation) ∷ key_of s.fixed ∷ []

unfoldable pub piece_row : Segment → List ℕ
piece_row s = line_row s ++ (key_of s.start ∷ key_of s.end ∷ [])

abbrev pub is_in_order : Segment → Segment → Bool
is_in_order a b = row_le (piece_row a) (piece_row b)

-- x, which does not come before c in order, lies on the line of c and begins no later than c ends
unfoldable pub touches : Segment → Segment → Bool
touches c x = eqb c.net x.net && (eqb (1 - c.orientation) (1 - x.orientation) && (eqb (key_of c.fixed) (key_of x.fixed) && leb (key_of x.start) (key_of c.end)))

-- c up to the greater of the two ends
unfoldable pub extended : Segment → Segment → Segment
extended c x = record { net = c.net; orientation = c.orientation; fixed = c.fixed; start = c.start; end = cond (ltb (key_of c.end) (key_of x.end)) x.end c.end }

-- the pieces of c and of segments that follow it in order: c is extended as long as the next one touches it, and then the next one begins a piece
unfoldable pub join_from : Segment → List Segment → List Segment
join_from c [] = c ∷ []
join_from c (x ∷ l) = put (not (touches c x)) c (join_from (cond (touches c x) (extended c x) x) l)

unfoldable pub pieces : List Segment → List Segment
pieces [] = []
pieces (x ∷ l) = join_from x l

-- of segments as they are taken
unfoldable pub joined : List Segment → List Segment
joined l = pieces (sort_by is_in_order (map canonical_zeros l))
