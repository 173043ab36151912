-- The order of the tree's leaves. Only inner contracts cite this.
use Rattle.std.specs.Prelude.{Bool, cond, List, [], ◌∷◌, ◌++◌, map, ℕ, zero, suc, ◌+◌, ◌*◌, ◌/◌, ◌≤◌, ◌<◌, ltb, length, take, drop}
use Rattle.laws.specs.Lists.{All}
use Rattle.laws.specs.Sort.{sort_by}
use Rattle.sorting.specs.Inner.Sorted.{before}
use Rattle.drawing.specs.Entries.{NodeColumns}
use Rattle.drawing.specs.Inner.Entries.{node_at}
use Rattle.drawing.specs.Inner.Lengths.{NodesAgree}
use Rattle.boxes.specs.declared.aabb.Aabb.{Aabb}
use Rattle.boxes.specs.Boxes.{union}
use Rattle.clearance.specs.Tree.{IndexedNode, indexed, hull, horizontal_wider, Tree, empty, leaf, branch, bounds_of}

-- the node at an index of the columns
abbrev pub indexed_at : NodeColumns → ℕ → IndexedNode
indexed_at c i = indexed (node_at c i)

-- the box around the nodes at the indices of a list, the first one given
unfoldable pub box_from : NodeColumns → ℕ → List ℕ → Aabb
box_from c i l = hull (indexed_at c i).bounds (map (indexed_at c) l)

-- whether the nodes at these indices extend further along the horizontal axis, or as far along both
unfoldable pub horizontal_part : NodeColumns → List ℕ → Bool
horizontal_part c [] = horizontal_wider (box_from c 0 [])
horizontal_part c (i ∷ l) = horizontal_wider (box_from c i l)

-- the indices in the order of the table along the wider axis
unfoldable pub in_axis_order : NodeColumns → List ℕ → List ℕ → List ℕ → List ℕ
in_axis_order c kx ky l = sort_by (before (cond (horizontal_part c l) kx ky) 5) l

-- a list of indices halved again and again, each part put in order before it is halved; the number bounds the depth
unfoldable pub leaf_order : ℕ → NodeColumns → List ℕ → List ℕ → List ℕ → List ℕ
leaf_order zero c kx ky l = l
leaf_order (suc k) c kx ky l =
    let row = in_axis_order c kx ky l in
    let halves = leaf_order k c kx ky (take (length l / 2) row) ++ leaf_order k c kx ky (drop (length l / 2) row) in
    cond (ltb (length l) 2) l halves

-- the tree over a list that is in leaf order already, as it is stored: a branch's box is the union of its children's, which is not the box that `build` folds
unfoldable pub tree_over : ℕ → List IndexedNode → Tree
tree_over zero l = empty
tree_over (suc k) [] = empty
tree_over (suc k) (n ∷ []) = leaf n
tree_over (suc k) (n ∷ m ∷ l) =
    let half = length (n ∷ m ∷ l) / 2 in
    let left = tree_over k (take half (n ∷ m ∷ l)) in
    let right = tree_over k (drop half (n ∷ m ∷ l)) in
    branch (union (bounds_of left) (bounds_of right)) left right

-- the first n words of a slice are indices of the columns
pub record Places (s : List ℕ) (n : ℕ) (c : NodeColumns) : Type 0 where
  pub inside : n ≤ length s
  pub small : All (λ i. i < length c.id) (take n s)
  pub agree : NodesAgree c

-- and after them, from word t on, there is room for two tables, each with a row of five words for every node
pub record Buildable (s : List ℕ) (n t : ℕ) (c : NodeColumns) : Type 0 where
  pub places : Places s n c
  pub apart : n ≤ t
  pub room : t + 10 * length c.id ≤ length s
