-- Stored trees in which the box of a branch holds the boxes below it: their parts are such trees, and where the farthest edges of a part are nearer than the threshold every box of it is. Assumes nothing.
use mathlib.Core.Path.{◌≡◌, sym, ap, ap₂, subst, ◌∙◌}
use mathlib.Core.Logic.{inl, inr}
use mathlib.Core.Bool.{true}
use mathlib.Core.List.{List, [], ◌∷◌, ◌++◌, map}
use Prim.Native.Nat.{ℕ, zero, suc, ◌+◌, ◌-◌, ◌*◌, ◌/◌, ◌≤◌, ◌<◌}
use native.Mathlib.Omega.{arith}
use lib.Ieee.{Float, binary64, lt}
use lib.ListN.{length, take, drop, length-map, take-append-drop}
use Rattle.laws.specs.Lists.{All}
use Rattle.laws.proofs.Tests.{le_or_lt}
use Rattle.laws.proofs.Perms.{perm-length}
use Rattle.floats.specs.Values.{plus_zero}
use Rattle.floats.proofs.Rank.{Num}
use Rattle.drawing.specs.Entries.{Node}
use Rattle.drawing.specs.Orders.{nodes_in_order}
use Rattle.drawing.proofs.ListOrders.{nodes-in_order-perm}
use Rattle.drawing.proofs.Fit.{FitNode}
use Rattle.boxes.specs.declared.aabb.Aabb.{Aabb}
use Rattle.boxes.specs.Inner.Fitting.{FitBox, Within}
use Rattle.boxes.proofs.BoxLaws.{within-trans, fit-union, union-first, union-second}
use Rattle.clearance.specs.Tree.{IndexedNode, indexed, Tree, empty, leaf, branch, bounds_of, build, tree_of}
use Rattle.clearance_call.specs.Inner.Stored.{box_at, split_at, stored_tree, leaves_from}
use Rattle.clearance.specs.Inner.State.{edges_below}
use Rattle.clearance_call.specs.Inner.Nested.{Nested, TreeBelow}
use Rattle.clearance.proofs.TreeLaws.{FitIndexed, leaves, ordered, halves_all, first_some, second-some, first_small, second-small, enough, in_order-fit}
use Rattle.clearance.proofs.UnionTrees.{rejoined}
use Rattle.clearance_call.proofs.StoredBoxes.{leaves-take, leaves-drop, stored-none, stored-leaf, stored-branch}
use Rattle.clearance.proofs.Below.{below-within}

-- ---- the number that bounds a stored tree's depth does not matter where it is large enough
pub stored_same : (k l : ℕ) (w : List ℕ) (i n : ℕ) → n ≤ k → n ≤ l → stored_tree k w i n ≡ stored_tree l w i n
stored_same zero l w i n p q = stored-none zero w i n (omega arith) ∙ sym (stored-none l w i n (omega arith))
stored_same (suc k) zero w i n p q = stored-none (suc k) w i n (omega arith) ∙ sym (stored-none zero w i n (omega arith))
stored_same (suc k) (suc l) w i n p q = elim (le_or_lt 2 n) [
  | inl h ↦
      let left = stored_same k l w i (n / 2) (omega arith) (omega arith) in
      let right = stored_same k l w (i + n / 2) (n - n / 2) (omega arith) (omega arith) in
      stored-branch k w i n h ∙ (λ j. branch (split_at w (i + n / 2)) (left j) (right j)) ∙ sym (stored-branch l w i n h)
  | inr h ↦ elim (le_or_lt 1 n) [
    | inl g ↦ let e : n ≡ 1 = omega arith in stored-leaf k w i n e ∙ sym (stored-leaf l w i n e)
    | inr g ↦ let e : n ≡ 0 = omega arith in stored-none (suc k) w i n e ∙ sym (stored-none (suc l) w i n e)
  ]
]

-- ---- its leaves are consecutive
pub stored-leaves : (k : ℕ) (w : List ℕ) (i n : ℕ) → n ≤ k → leaves (stored_tree k w i n) ≡ leaves_from w i n
unfolding leaves leaves_from
stored-leaves zero w i n p = let e : n ≡ 0 = omega arith in ap leaves (stored-none zero w i n e) ∙ sym (ap (leaves_from w i) e)
stored-leaves (suc k) w i n p = elim (le_or_lt 2 n) [
  | inl h ↦
      let left = stored-leaves k w i (n / 2) (omega arith) in
      let right = stored-leaves k w (i + n / 2) (n - n / 2) (omega arith) in
      ap leaves (stored-branch k w i n h)
      ∙ ap₂ ◌++◌ (left ∙ sym (leaves-take w i n (n / 2) (omega arith))) (right ∙ sym (leaves-drop w i n (n / 2) (omega arith)))
      ∙ take-append-drop (n / 2) (leaves_from w i n)
  | inr h ↦ elim (le_or_lt 1 n) [
    | inl g ↦ let e : n ≡ 1 = omega arith in ap leaves (stored-leaf k w i n e) ∙ sym (ap (leaves_from w i) e)
    | inr g ↦ let e : n ≡ 0 = omega arith in ap leaves (stored-none (suc k) w i n e) ∙ sym (ap (leaves_from w i) e)
  ]
]

-- ---- its boxes are fit
pub nested-leaf : (w : List ℕ) (i n : ℕ) → n ≡ 1 → Nested (stored_tree n w i n) → FitBox (box_at w (9 * i))
nested-leaf w i n e h = subst Nested (ap (λ (z : ℕ). stored_tree z w i n) e ∙ stored-leaf 0 w i n e) h

pub nested-at : (k : ℕ) (w : List ℕ) (i n : ℕ) → n ≤ k → Nested (stored_tree k w i n) → (j : ℕ) → i ≤ j → j < i + n → FitBox (box_at w (9 * j))
nested-at zero w i n p h j a b = absurd (omega arith)
nested-at (suc k) w i n p h j a b = elim (le_or_lt 2 n) [
  | inl m ↦
      let c = subst Nested (stored-branch k w i n m) h in
      elim (le_or_lt (i + n / 2) j) [
        | inl g ↦ nested-at k w (i + n / 2) (n - n / 2) (omega arith) c.4 j g (omega arith)
        | inr g ↦ nested-at k w i (n / 2) (omega arith) c.3 j a g
      ]
  | inr m ↦ let e : n ≡ 1 = omega arith in let same : i ≡ j = omega arith in subst (λ (z : ℕ). FitBox (box_at w (9 * z))) same (subst Nested (stored-leaf k w i n e) h)
]

-- ---- the halves of such a tree are such trees
module _ (w : List ℕ) (i n : ℕ) (more : 2 ≤ n) (h : Nested (stored_tree n w i n)) where
  split : Nested (branch (split_at w (i + n / 2)) (stored_tree (n - 1) w i (n / 2)) (stored_tree (n - 1) w (i + n / 2) (n - n / 2)))
  split = let e : n ≡ suc (n - 1) = omega arith in subst Nested (ap (λ (z : ℕ). stored_tree z w i n) e ∙ stored-branch (n - 1) w i n more) h

  pub nested_split : FitBox (split_at w (i + n / 2))
  nested_split = split.0

  pub nested-left : Nested (stored_tree (n / 2) w i (n / 2))
  nested-left = subst Nested (stored_same (n - 1) (n / 2) w i (n / 2) (omega arith) (omega arith)) split.3

  pub nested-right : Nested (stored_tree (n - n / 2) w (i + n / 2) (n - n / 2))
  nested-right = subst Nested (stored_same (n - 1) (n - n / 2) w (i + n / 2) (n - n / 2) (omega arith) (omega arith)) split.4

-- ---- the tree over fit nodes is such a tree
pub nested-box : (tree : Tree) → Nested tree → FitBox (bounds_of tree)
unfolding bounds_of
nested-box empty h = absurd h
nested-box (leaf n) h = h
nested-box (branch b l r) h = h.0

nested-build : (k : ℕ) (l : List IndexedNode) → 1 ≤ length l → length l ≤ k → All FitIndexed l → Nested (rejoined (build k l))
unfolding build rejoined ordered
nested-build zero l some h f = absurd (omega arith)
nested-build (suc k) [] some h f = absurd (omega arith)
nested-build (suc k) (n ∷ []) some h f = f.0
nested-build (suc k) (n ∷ m ∷ l) some h f =
    let row = ordered n m l in
    let half = length row / 2 in
    let fit = halves_all n m l FitIndexed f in
    let left = nested-build k (take half row) (first_some n m l) (first_small n m l k h) fit.0 in
    let right = nested-build k (drop half row) (second-some n m l) (second-small n m l k h) fit.1 in
    let a = nested-box _ left in
    let b = nested-box _ right in
    (fit-union _ _ a b, union-first _ _ a b, union-second _ _ a b, left, right)

pub nested-tree : (ns : List Node) → 1 ≤ length ns → All FitNode ns → Nested (rejoined (tree_of ns))
unfolding tree_of
nested-tree ns some f = let e = length-map (nodes_in_order ns) indexed ∙ perm-length (nodes-in_order-perm ns) in nested-build (length ns) (map indexed (nodes_in_order ns)) (omega arith) (enough ns) (in_order-fit ns f)

-- ---- a part whose farthest edges are nearer than the threshold
module _ (p q : Aabb) (t : Float) (fp : FitBox p) (fq : FitBox q) (n : Num binary64 t) (z : lt plus_zero t ≡ true) (e : edges_below p q t ≡ true) where
  pub nested-below : (tree : Tree) → Nested tree → Within (bounds_of tree) q → TreeBelow p t tree
  unfolding bounds_of
  nested-below empty h w = absurd h
  nested-below (leaf m) h w = below-within p m.bounds q t fp h fq n z w e
  nested-below (branch b l r) h w = (
    below-within p b q t fp h.0 fq n z w e,
    nested-below l h.3 (within-trans _ _ _ (nested-box l h.3) h.0 fq h.1 w),
    nested-below r h.4 (within-trans _ _ _ (nested-box r h.4) h.0 fq h.2 w),
  )
