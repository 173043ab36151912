-- The orders in which the lists are walked. SCOPE 9.4: "segments came in the order net, orientation byte, fixed, start, end, and its nodes in the order id, x, y, width, height, floats by totalOrder".
use Rattle.std.specs.Prelude.{List, [], ◌∷◌, ℕ}
use Rattle.laws.specs.Rows.{row_le}
use Rattle.laws.specs.Sort.{sort_by}
use Rattle.floats.specs.TotalOrder.{key_of}
use Rattle.drawing.specs.Entries.{Segment, Node}

unfoldable pub segment_row : Segment → List ℕ
segment_row s = s.net ∷ s.orientation ∷ key_of s.fixed ∷ key_of s.start ∷ key_of s.end ∷ []

unfoldable pub node_row : Node → List ℕ
node_row n = n.id ∷ key_of n.x ∷ key_of n.y ∷ key_of n.width ∷ key_of n.height ∷ []

unfoldable pub segments_in_order : List Segment → List Segment
segments_in_order l = sort_by (λ a b. row_le (segment_row a) (segment_row b)) l

unfoldable pub nodes_in_order : List Node → List Node
nodes_in_order l = sort_by (λ a b. row_le (node_row a) (node_row b)) l
