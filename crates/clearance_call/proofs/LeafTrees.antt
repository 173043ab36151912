-- The tree of a list of nodes, with the union of the children's boxes at each branch, is the tree over its leaf order. Assumes nothing.
use mathlib.Core.Path.{◌≡◌, refl, sym, ap, ap₂, subst, ◌∙◌}
use mathlib.Core.Bool.{Bool, true, false, cond}
use mathlib.Core.List.{List, [], ◌∷◌, ◌++◌, map, map-append}
use Prim.Native.Nat.{ℕ, zero, suc, ◌*◌, ◌/◌, ◌≤◌, ◌<◌}
use native.Mathlib.Nat.{not-suc-le-zero}
use native.Mathlib.Omega.{arith}
use lib.ListN.{length, take, drop, length-map, length-take, length-drop, take-append-drop}
use lib.Seq.{take_at, drop_at, length-take-le}
use Rattle.laws.specs.Lists.{All}
use Rattle.laws.proofs.ListLaws.{all_mem, all_first, all-second}
use Rattle.laws.proofs.Perms.{perm-length, perm-all, perm_sym, perm-map}
use Rattle.sorting.proofs.Entries.{sorted_entries}
use Rattle.drawing.specs.Entries.{NodeColumns}
use Rattle.clearance.specs.Tree.{IndexedNode, indexed_row, indexed_in_order, Tree, build}
use Rattle.clearance_call.specs.Inner.LeafOrder.{indexed_at, box_from, horizontal_part, in_axis_order, leaf_order, tree_over}
use Rattle.clearance.proofs.TreeLaws.{FitIndexed}
use Rattle.clearance.proofs.UnionTrees.{joined, rejoined}
use Rattle.clearance_call.proofs.LeafOrders.{order-short, order-long, order-perm, along-perm}
use Rattle.clearance.proofs.NodeOrder.{row_one}
use Rattle.clearance_call.proofs.TableLaws.{node_wide}

-- the two tables hold the rows of the nodes along either axis
pub record Tabled (c : NodeColumns) (kx ky : List ℕ) : Type 0 where
  pub across : (i : ℕ) → i < length c.id → take 5 (drop (i * 5) kx) ≡ indexed_row true (indexed_at c i)
  pub down : (i : ℕ) → i < length c.id → take 5 (drop (i * 5) ky) ≡ indexed_row false (indexed_at c i)

-- ---- parts of a mapped list
map-take : {A B : Type 0} (f : A → B) (h : ℕ) (l : List A) → take h (map f l) ≡ map f (take h l)
map-take f zero l = refl
map-take f (suc h) [] = refl
map-take f (suc h) (x ∷ l) = ap (λ z. f x ∷ z) (map-take f h l)

map-drop : {A B : Type 0} (f : A → B) (h : ℕ) (l : List A) → drop h (map f l) ≡ map f (drop h l)
map-drop f zero l = refl
map-drop f (suc h) [] = refl
map-drop f (suc h) (x ∷ l) = map-drop f h l

-- ---- trees
-- a branch over the two parts of a list
abbrev pub over : (List IndexedNode → Tree) → ℕ → List IndexedNode → Tree
over f h l = joined (f (take h l)) (f (drop h l))

pub tree-two : (k : ℕ) (l : List IndexedNode) → 2 ≤ length l
    → tree_over (suc k) l ≡ over (tree_over k) (length l / 2) l
unfolding tree_over
tree-two k [] h = absurd (omega arith)
tree-two k (n ∷ []) h = absurd (omega arith)
tree-two k (n ∷ m ∷ l) h = refl

-- the tree of a list as it is stored
abbrev stored : ℕ → List IndexedNode → Tree
stored k l = rejoined (build k l)

-- ---- indices in order along the wider axis are the nodes in order along it
module _ (c : NodeColumns) (kx ky : List ℕ) (tabled : Tabled c kx ky) where
  abbrev Small : List ℕ → Type 0
  Small l = All (λ i. i < length c.id) l

  abbrev Fitting : List ℕ → Type 0
  Fitting l = All FitIndexed (map (indexed_at c) l)

  table_row : (h : Bool) (i : ℕ) → i < length c.id → take 5 (drop (i * 5) (cond h kx ky)) ≡ indexed_row h (indexed_at c i)
  table_row true i p = tabled.across i p
  table_row false i p = tabled.down i p

  along-nodes : (l : List ℕ) → Small l → Fitting l → map (indexed_at c) (in_axis_order c kx ky l) ≡ indexed_in_order (horizontal_part c l) (map (indexed_at c) l)
  unfolding in_axis_order indexed_in_order
  along-nodes l p q =
      let h = horizontal_part c l in
      sorted_entries (cond h kx ky) 5 l (indexed_at c) (indexed_row h) (node_wide h) (λ i m. table_row h i (all_mem (λ i. i < length c.id) l p i m)) FitIndexed (row_one h) q

  -- the halves of a list of indices, as nodes
  module _ (l : List ℕ) (p : Small l) (q : Fitting l) where
    abbrev line : List ℕ
    line = in_axis_order c kx ky l

    line_small : Small line
    line_small = perm-all (λ i. i < length c.id) (perm_sym (along-perm c kx ky l)) p

    line_fitting : Fitting line
    line_fitting = perm-all FitIndexed (perm-map (indexed_at c) (perm_sym (along-perm c kx ky l))) q

    first_small : (h : ℕ) → Small (take h line)
    first_small h = all_first (λ i. i < length c.id) (take h line) (drop h line) (subst Small (sym (take-append-drop h line)) line_small)

    second-small : (h : ℕ) → Small (drop h line)
    second-small h = all-second (λ i. i < length c.id) (take h line) (drop h line) (subst Small (sym (take-append-drop h line)) line_small)

    parts : (h : ℕ) → Fitting (take h line ++ drop h line)
    parts h = subst Fitting (sym (take-append-drop h line)) line_fitting

    first_fitting : (h : ℕ) → Fitting (take h line)
    first_fitting h = all_first FitIndexed (map (indexed_at c) (take h line)) (map (indexed_at c) (drop h line)) (subst (All FitIndexed) (map-append (indexed_at c) (take h line) (drop h line)) (parts h))

    second_fitting : (h : ℕ) → Fitting (drop h line)
    second_fitting h = all-second FitIndexed (map (indexed_at c) (take h line)) (map (indexed_at c) (drop h line)) (subst (All FitIndexed) (map-append (indexed_at c) (take h line) (drop h line)) (parts h))

    length-line : length line ≡ length l
    length-line = perm-length (along-perm c kx ky l)

  -- one halving, the same on both sides
  module _ (k i j : ℕ) (l : List ℕ) (p : Small (i ∷ j ∷ l)) (q : Fitting (i ∷ j ∷ l)) where
    abbrev whole : List ℕ
    whole = i ∷ j ∷ l

    abbrev in_line : List ℕ
    in_line = in_axis_order c kx ky whole

    abbrev half : ℕ
    half = length whole / 2

    pub halves : stored k (map (indexed_at c) (take half in_line)) ≡ tree_over k (map (indexed_at c) (leaf_order k c kx ky (take half in_line)))
        → stored k (map (indexed_at c) (drop half in_line)) ≡ tree_over k (map (indexed_at c) (leaf_order k c kx ky (drop half in_line)))
        → stored (suc k) (map (indexed_at c) whole) ≡ tree_over (suc k) (map (indexed_at c) (leaf_order (suc k) c kx ky whole))
    unfolding build rejoined horizontal_part box_from
    halves first second =
        let e = indexed_at c in
        let P = leaf_order k c kx ky (take half in_line) in
        let Q = leaf_order k c kx ky (drop half in_line) in
        let len = length-line whole p q in
        let lp : length (map e P) ≡ half = length-map P e ∙ perm-length (order-perm k c kx ky (take half in_line)) ∙ length-take-le half in_line (omega arith) in
        let lm : length (map e in_line) ≡ length whole = length-map in_line e ∙ len in
        let lo : map e (leaf_order (suc k) c kx ky whole) ≡ map e P ++ map e Q = ap (map e) (order-long k c kx ky whole (omega arith)) ∙ map-append e P Q in
        let ll : length (map e P ++ map e Q) ≡ length whole = sym (ap length lo) ∙ length-map (leaf_order (suc k) c kx ky whole) e ∙ perm-length (order-perm (suc k) c kx ky whole) in
        ap (λ (r : List IndexedNode). over (stored k) (length r / 2) r) (sym (along-nodes whole p q))
        ∙ ap (λ (n : ℕ). over (stored k) (n / 2) (map e in_line)) lm
        ∙ ap₂ joined (ap (stored k) (map-take e half in_line) ∙ first) (ap (stored k) (map-drop e half in_line) ∙ second)
        ∙ sym (ap (tree_over (suc k)) lo ∙ tree-two k (map e P ++ map e Q) (omega arith)
        ∙ ap (λ (n : ℕ). over (tree_over k) (n / 2) (map e P ++ map e Q)) ll
        ∙ ap₂ (λ (x y : List IndexedNode). joined (tree_over k x) (tree_over k y)) (take_at (map e P) (map e Q) half lp) (drop_at (map e P) (map e Q) half lp))

  pub build_over : (k : ℕ) (l : List ℕ) → length l ≤ k → Small l → Fitting l → rejoined (build k (map (indexed_at c) l)) ≡ tree_over k (map (indexed_at c) (leaf_order k c kx ky l))
  unfolding build rejoined tree_over
  build_over zero [] h p q = refl
  build_over zero (i ∷ l) h p q = absurd (not-suc-le-zero h)
  build_over (suc k) [] h p q = ap (λ (z : List ℕ). tree_over (suc k) (map (indexed_at c) z)) (sym (order-short (suc k) c kx ky [] (omega arith)))
  build_over (suc k) (i ∷ []) h p q = ap (λ (z : List ℕ). tree_over (suc k) (map (indexed_at c) z)) (sym (order-short (suc k) c kx ky (i ∷ []) (omega arith)))
  build_over (suc k) (i ∷ j ∷ l) h p q =
      let w = i ∷ j ∷ l in
      let A = in_axis_order c kx ky w in
      let n = length w / 2 in
      let len = length-line w p q in
      halves k i j l p q
      (build_over k (take n A) (rw length-take (omega arith)) (first_small w p q n) (first_fitting w p q n))
      (build_over k (drop n A) (rw length-drop (omega arith)) (second-small w p q n) (second_fitting w p q n))
