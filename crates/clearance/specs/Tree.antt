-- The tree over the nodes, which `build_clearance_bvh` builds (SCOPE 5.1 to 5.3).
use Rattle.std.specs.Prelude.{ℕ, zero, suc, ◌/◌, Bool, true, false, List, [], ◌∷◌, map, length, take, drop, nat_le}
use Rattle.std.specs.Float.{binary64}
use Rattle.std.specs.Float.Ieee.{sub}
use Rattle.laws.specs.Rows.{row_le}
use Rattle.laws.specs.Sort.{sort_by}
use Rattle.floats.specs.TotalOrder.{key_of}
use Rattle.floats.specs.Values.{plus_zero}
use Rattle.drawing.specs.Entries.{Node}
use Rattle.drawing.specs.Orders.{nodes_in_order}
use Rattle.boxes.specs.declared.aabb.Aabb.{Aabb}
use Rattle.boxes.specs.Boxes.{node_box, union}

-- what the tree holds of a node
pub record IndexedNode : Type 0 where
  pub id : ℕ
  pub bounds : Aabb

unfoldable pub indexed : Node → IndexedNode
indexed n = record { id = n.id; bounds = node_box n }

-- SCOPE 5.2: `compare_indexed_nodes` compares these numbers, and the first that differ decide: along the horizontal axis, or along the vertical one
unfoldable pub indexed_row : Bool → IndexedNode → List ℕ
indexed_row true n = key_of n.bounds.left ∷ key_of n.bounds.right ∷ key_of n.bounds.top ∷ key_of n.bounds.bottom ∷ n.id ∷ []
indexed_row false n = key_of n.bounds.top ∷ key_of n.bounds.bottom ∷ key_of n.bounds.left ∷ key_of n.bounds.right ∷ n.id ∷ []

-- SCOPE 5.2: "Each list is put in `compare_indexed_nodes` order"
unfoldable pub indexed_in_order : Bool → List IndexedNode → List IndexedNode
indexed_in_order horizontal l = sort_by (λ a b. row_le (indexed_row horizontal a) (indexed_row horizontal b)) l

-- SCOPE 5.2: "along its wider axis, horizontal when the spans are equal": the spans by totalOrder, as the Rust compares them
unfoldable pub horizontal_wider : Aabb → Bool
horizontal_wider b = nat_le (key_of (sub binary64 b.bottom b.top)) (key_of (sub binary64 b.right b.left))

-- SCOPE 5.3: the union of a box with the boxes of a list, from the first on
unfoldable pub hull : Aabb → List IndexedNode → Aabb
hull b [] = b
hull b (n ∷ l) = hull (union b n.bounds) l

-- SCOPE 5.1: `empty` is the tree of an empty list, for which the Rust builds none
pub data Tree : Type 0 where
  empty : Tree
  leaf : IndexedNode → Tree
  branch : Aabb → Tree → Tree → Tree

-- the box around a tree's nodes; an empty tree has none
unfoldable pub bounds_of : Tree → Aabb
bounds_of empty = record { left = plus_zero; top = plus_zero; right = plus_zero; bottom = plus_zero }
bounds_of (leaf n) = n.bounds
bounds_of (branch b l r) = b

-- SCOPE 5.1: "The tree halves its list again and again until one node is left. .. the left child takes the first half, rounded down."
-- SCOPE 5.3: the box of a branch is the Rust's `bounds`, the boxes of the list as it arrives, before it is put in order, folded by `union` from the first node's on.
-- The number bounds the depth: the length of the list is enough.
unfoldable pub build : ℕ → List IndexedNode → Tree
build zero l = empty
build (suc k) [] = empty
build (suc k) (n ∷ []) = leaf n
build (suc k) (n ∷ m ∷ l) =
    let box = hull n.bounds (m ∷ l) in
    let row = indexed_in_order (horizontal_wider box) (n ∷ m ∷ l) in
    let half = length row / 2 in
    branch box (build k (take half row)) (build k (drop half row))

-- SCOPE 9.4: the nodes come in the order of the departures
unfoldable pub tree_of : List Node → Tree
tree_of ns = build (length ns) (map indexed (nodes_in_order ns))
