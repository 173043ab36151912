-- Boxes of nodes and segments, the union of two boxes, and their distance. SCOPE 3.1 to 3.3, 5.3.
use Rattle.std.specs.Prelude.{Bool, true, false, cond, eqb, Float}
use Rattle.std.specs.Float.{binary64}
use Rattle.std.specs.Float.Ieee.{add, sub, lt}
use Rattle.floats.specs.Values.{plus_zero, lesser_of, greater_of}
use Rattle.drawing.specs.Entries.{Segment, Node}
use Rattle.boxes.specs.declared.aabb.Aabb.{Aabb}

-- SCOPE 3.1: "A node's right edge is x + width rounded once, bottom likewise."
unfoldable pub from_node : Float → Float → Float → Float → Aabb
from_node x y width height = record { left = x; top = y; right = add binary64 x width; bottom = add binary64 y height }

-- SCOPE 3.1: a segment's box has no extent across the segment
unfoldable pub from_segment : Bool → Float → Float → Float → Aabb
from_segment true fixed start end = record { left = start; top = fixed; right = end; bottom = fixed }
from_segment false fixed start end = record { left = fixed; top = start; right = fixed; bottom = end }

unfoldable pub node_box : Node → Aabb
node_box n = from_node n.x n.y n.width n.height

-- SCOPE 2.1: "orientation byte 1 horizontal or 0 vertical"
unfoldable pub segment_box : Segment → Aabb
segment_box s = from_segment (eqb s.orientation 1) s.fixed s.start s.end

-- the least box around two. SCOPE 5.3, 15.8: "`min`, `max`, `abs`: comparisons and negation"
unfoldable pub union : Aabb → Aabb → Aabb
union p q = record { left = lesser_of p.left q.left; top = lesser_of p.top q.top; right = greater_of p.right q.right; bottom = greater_of p.bottom q.bottom }

-- SCOPE 3.2, of the extents a..b and c..d along one axis: "each gap is one rounded subtraction, or 0 where the extents touch or overlap"
unfoldable pub axis_gap : Float → Float → Float → Float → Float
axis_gap a b c d = cond (lt b c) (sub binary64 c b) (cond (lt d a) (sub binary64 a d) plus_zero)

-- SCOPE 3.3: "Distance is the larger of the two axis gaps"
unfoldable pub distance : Aabb → Aabb → Float
distance p q = greater_of (axis_gap p.left p.right q.left q.right) (axis_gap p.top p.bottom q.top q.bottom)
