-- The tree in the scratch. Only inner contracts cite this. A leaf has nine words: the edges of its box, those of the branch whose right half starts at this leaf, and its id.
use Rattle.std.specs.Prelude.{◌≡◌, ◌⊎◌, true, false, cond, List, [], ◌∷◌, map, ℕ, zero, suc, ◌+◌, ◌-◌, ◌*◌, ◌/◌, ◌≤◌, ◌<◌, eqb, length, get_or, take, drop}
use Rattle.std.specs.Float.{binary64}
use Rattle.std.specs.Float.Ieee.{of_bits}
use Rattle.sorting.specs.Inner.Sorted.{up_to}
use Rattle.drawing.specs.Entries.{NodeColumns}
use Rattle.boxes.specs.declared.aabb.Aabb.{Aabb}
use Rattle.clearance.specs.Tree.{IndexedNode, Tree, empty, leaf, branch, bounds_of}
use Rattle.clearance_call.specs.Inner.LeafOrder.{indexed_at, leaf_order, tree_over}
use Rattle.clearance_call.specs.Inner.Tables.{node_row_at}

-- the box whose edges are stored from word p on, as bit patterns
abbrev pub box_at : List ℕ → ℕ → Aabb
box_at w p = record { left = of_bits binary64 (get_or w p 0); top = of_bits binary64 (get_or w (p + 1) 0); right = of_bits binary64 (get_or w (p + 2) 0); bottom = of_bits binary64 (get_or w (p + 3) 0) }

-- the leaf whose words start at word p
abbrev pub leaf_from : List ℕ → ℕ → IndexedNode
leaf_from w p = record { id = get_or w (p + 8) 0; bounds = box_at w p }

abbrev pub leaf_at : List ℕ → ℕ → IndexedNode
leaf_at w i = leaf_from w (9 * i)

abbrev pub split_at : List ℕ → ℕ → Aabb
split_at w i = box_at w (9 * i + 4)

-- the tree over the n leaves from leaf i on: the left child takes the first half, rounded down; the number bounds the depth
unfoldable pub stored_tree : ℕ → List ℕ → ℕ → ℕ → Tree
stored_tree zero w i n = empty
stored_tree (suc k) w i n =
    let half = n / 2 in
    let both = branch (split_at w (i + half)) (stored_tree k w i half) (stored_tree k w (i + half) (n - half)) in
    cond (eqb n 0) empty (cond (eqb n 1) (leaf (leaf_at w i)) both)

-- the n leaves from leaf i on
unfoldable pub leaves_from : List ℕ → ℕ → ℕ → List IndexedNode
leaves_from w i zero = []
leaves_from w i (suc n) = leaf_at w i ∷ leaves_from w (suc i) n

-- a box was put at word p, and nothing else changed
pub record BoxPut (s r : List ℕ) (p : ℕ) (b : Aabb) : Type 0 where
  pub len : length r ≡ length s
  pub box : box_at r p ≡ b
  pub low : (q : ℕ) → q < p → get_or r q 0 ≡ get_or s q 0
  pub high : (q : ℕ) → p + 4 ≤ q → get_or r q 0 ≡ get_or s q 0

-- a leaf was put at word p, and no word before p changed
pub record LeafPut (s r : List ℕ) (p : ℕ) (n : IndexedNode) : Type 0 where
  pub len : length r ≡ length s
  pub leaf : leaf_from r p ≡ n
  pub low : (q : ℕ) → q < p → get_or r q 0 ≡ get_or s q 0

-- the nodes whose indices are in the first n words were put as leaves, from word r on, and no word before r changed
pub record LeavesPut (s e : List ℕ) (r n : ℕ) (c : NodeColumns) : Type 0 where
  pub len : length e ≡ length s
  pub low : (q : ℕ) → q < r → get_or e q 0 ≡ get_or s q 0
  pub leaf : (j : ℕ) → j < n → leaf_from e (r + 9 * j) ≡ indexed_at c (get_or s j 0)

-- word q belongs to no split box of the leaves after leaf i, among the n from leaf i on
abbrev pub Outside : ℕ → ℕ → ℕ → Type 0
Outside i n q = (j : ℕ) → i < j → j < i + n → (q < 9 * j + 4) ⊎ (9 * j + 8 ≤ q)

-- the split boxes of the tree over the n leaves from leaf i on were put, and nothing else changed; b is the box around them
pub record SplitsPut (s r : List ℕ) (i n : ℕ) (b : Aabb) : Type 0 where
  pub len : length r ≡ length s
  pub else : (q : ℕ) → Outside i n q → get_or r q 0 ≡ get_or s q 0
  pub tree : (k : ℕ) → n ≤ k → stored_tree k r i n ≡ tree_over k (leaves_from s i n)
  pub box : (k : ℕ) → n ≤ k → b ≡ bounds_of (tree_over k (leaves_from s i n))

-- r holds the tree over the nodes, after 11 words for each node: the tree over the leaf order that two tables of the nodes' rows give
pub record TreeStored (c : NodeColumns) (r : List ℕ) : Type 0 where
  pub table_across : List ℕ
  pub table_down : List ℕ
  pub across : (i : ℕ) → i < length c.id → take 5 (drop (i * 5) table_across) ≡ node_row_at true c i
  pub down : (i : ℕ) → i < length c.id → take 5 (drop (i * 5) table_down) ≡ node_row_at false c i
  pub tree : (k : ℕ) → length c.id ≤ k → stored_tree k (drop (11 * length c.id) r) 0 (length c.id) ≡ tree_over k (map (indexed_at c) (leaf_order k c table_across table_down (up_to (length c.id))))
