-- Boxes and split boxes in the scratch. Assumes nothing.
use mathlib.Core.Path.{◌≡◌, refl, sym, ap, ap₂, subst, ◌∙◌}
use mathlib.Core.Logic.{◌⊎◌, inl, inr, ⊎_elim}
use mathlib.Core.Bool.{Bool, not}
use mathlib.Core.List.{List, ◌∷◌}
use Prim.Native.Nat.{ℕ, zero, suc, ◌+◌, ◌-◌, ◌*◌, ◌/◌, ◌≤◌, ◌<◌}
use native.Mathlib.Omega.{arith}
use borrow.Author.Tests.{eq-eqb, ne_eqb}
use lib.Dec.{T}
use lib.Ieee.{Float, binary64, fits, nan_bits, of_bits, to_bits}
use lib.Ieee.Bits.{of_bits-to_bits, nan_bits_is}
use lib.ListN.{length, get_or, set, take, drop, length-set}
use lib.Seq.{get_or-set_same, get_or-set_other}
use Rattle.laws.proofs.Tests.{le_or_lt, same_or_not}
use Rattle.floats.proofs.Rank.{Fin, fin_num}
use Rattle.boxes.specs.declared.aabb.Aabb.{Aabb}
use Rattle.boxes.specs.Boxes.{union}
use Rattle.clearance.specs.Tree.{IndexedNode, empty, leaf, branch, bounds_of}
use Rattle.clearance_call.specs.Inner.LeafOrder.{tree_over}
use Rattle.clearance.proofs.UnionTrees.{joined}
use Rattle.clearance_call.proofs.LeafTrees.{over, tree-two}
use Rattle.clearance_call.specs.Inner.Stored.{box_at, leaf_at, split_at, stored_tree, leaves_from, BoxPut, Outside, SplitsPut}

-- ---- four words put
module _ (s : List ℕ) (p : ℕ) (w₀ w₁ w₂ w₃ : ℕ) (room : p + 4 ≤ length s) where
  abbrev four : List ℕ
  four = set (set (set (set s p w₀) (p + 1) w₁) (p + 2) w₂) (p + 3) w₃

  four-length : length four ≡ length s
  four-length = simp length-set

  other : (q : ℕ) → (q ≡ p → ⊥) → (q ≡ p + 1 → ⊥) → (q ≡ p + 2 → ⊥) → (q ≡ p + 3 → ⊥) → get_or four q 0 ≡ get_or s q 0
  other q a b c d =
      get_or-set_other (set (set (set s p w₀) (p + 1) w₁) (p + 2) w₂) (p + 3) q w₃ 0 d
      ∙ get_or-set_other (set (set s p w₀) (p + 1) w₁) (p + 2) q w₂ 0 c
      ∙ get_or-set_other (set s p w₀) (p + 1) q w₁ 0 b
      ∙ get_or-set_other s p q w₀ 0 a

  at-three : get_or four (p + 3) 0 ≡ w₃
  at-three = get_or-set_same (set (set (set s p w₀) (p + 1) w₁) (p + 2) w₂) (p + 3) w₃ 0 (simp length-set (omega arith))

  at-two : get_or four (p + 2) 0 ≡ w₂
  at-two = get_or-set_other (set (set (set s p w₀) (p + 1) w₁) (p + 2) w₂) (p + 3) (p + 2) w₃ 0 (λ e. omega arith) ∙ get_or-set_same (set (set s p w₀) (p + 1) w₁) (p + 2) w₂ 0 (simp length-set (omega arith))

  at_one : get_or four (p + 1) 0 ≡ w₁
  at_one =
      get_or-set_other (set (set (set s p w₀) (p + 1) w₁) (p + 2) w₂) (p + 3) (p + 1) w₃ 0 (λ e. omega arith)
      ∙ get_or-set_other (set (set s p w₀) (p + 1) w₁) (p + 2) (p + 1) w₂ 0 (λ e. omega arith)
      ∙ get_or-set_same (set s p w₀) (p + 1) w₁ 0 (simp length-set (omega arith))

  at_none : get_or four p 0 ≡ w₀
  at_none =
      get_or-set_other (set (set (set s p w₀) (p + 1) w₁) (p + 2) w₂) (p + 3) p w₃ 0 (λ e. omega arith)
      ∙ get_or-set_other (set (set s p w₀) (p + 1) w₁) (p + 2) p w₂ 0 (λ e. omega arith)
      ∙ get_or-set_other (set s p w₀) (p + 1) p w₁ 0 (λ e. omega arith)
      ∙ get_or-set_same s p w₀ 0 (omega arith)

-- from the word of a float the float is read again
back : (w : ℕ) (x : Float) → T (fits binary64 x) → w ≡ to_bits binary64 x → of_bits binary64 w ≡ x
back w x h e = ap (of_bits binary64) e ∙ of_bits-to_bits binary64 x h

-- the word of a finite float is not that of a NaN
pub fit_word : (w : ℕ) → Fin binary64 (of_bits binary64 w) → T (not (nan_bits binary64 w))
fit_word w h = subst (λ (b : Bool). T (not b)) (sym (nan_bits_is binary64 w)) (fin_num binary64 (of_bits binary64 w) h).1

pub box-put : (s : List ℕ) (p w₀ w₁ w₂ w₃ : ℕ) (a b c d : Float) → p + 4 ≤ length s
    → T (fits binary64 a) → T (fits binary64 b) → T (fits binary64 c) → T (fits binary64 d)
    → w₀ ≡ to_bits binary64 a → w₁ ≡ to_bits binary64 b → w₂ ≡ to_bits binary64 c → w₃ ≡ to_bits binary64 d
    → BoxPut s (set (set (set (set s p w₀) (p + 1) w₁) (p + 2) w₂) (p + 3) w₃) p (record { left = a; top = b; right = c; bottom = d })
box-put s p w₀ w₁ w₂ w₃ a b c d room fa fb fc fd ea eb ec ed =
    let za = ap (of_bits binary64) (at_none s p w₀ w₁ w₂ w₃ room) ∙ back w₀ a fa ea in
    let zb = ap (of_bits binary64) (at_one s p w₀ w₁ w₂ w₃ room) ∙ back w₁ b fb eb in
    let zc = ap (of_bits binary64) (at-two s p w₀ w₁ w₂ w₃ room) ∙ back w₂ c fc ec in
    let zd = ap (of_bits binary64) (at-three s p w₀ w₁ w₂ w₃ room) ∙ back w₃ d fd ed in
    record {
      len = four-length s p w₀ w₁ w₂ w₃ room;
      box = λ i. record { left = za i; top = zb i; right = zc i; bottom = zd i };
      low = λ q h. other s p w₀ w₁ w₂ w₃ room q (λ e. omega arith) (λ e. omega arith) (λ e. omega arith) (λ e. omega arith);
      high = λ q h. other s p w₀ w₁ w₂ w₃ room q (λ e. omega arith) (λ e. omega arith) (λ e. omega arith) (λ e. omega arith);
    }

-- ---- consecutive leaves
pub leaves-length : (w : List ℕ) (i n : ℕ) → length (leaves_from w i n) ≡ n
unfolding leaves_from
leaves-length w i zero = refl
leaves-length w i (suc n) = ap suc (leaves-length w (suc i) n)

pub leaves-take : (w : List ℕ) (i n h : ℕ) → h ≤ n → take h (leaves_from w i n) ≡ leaves_from w i h
unfolding leaves_from
leaves-take w i n zero h = refl
leaves-take w i zero (suc h) g = absurd (omega arith)
leaves-take w i (suc n) (suc h) g = ap (λ (z : List IndexedNode). leaf_at w i ∷ z) (leaves-take w (suc i) n h (omega arith))

pub leaves-drop : (w : List ℕ) (i n h : ℕ) → h ≤ n → drop h (leaves_from w i n) ≡ leaves_from w (i + h) (n - h)
unfolding leaves_from
leaves-drop w i n zero h = ap₂ (leaves_from w) (none i) (less n)
  where
    none : (i : ℕ) → i ≡ i + 0
    none i = omega arith

    less : (n : ℕ) → n ≡ n - 0
    less n = omega arith
leaves-drop w i zero (suc h) g = absurd (omega arith)
leaves-drop w i (suc n) (suc h) g = leaves-drop w (suc i) n h (omega arith) ∙ ap₂ (leaves_from w) (on i h) (less n h)
  where
    on : (i h : ℕ) → suc i + h ≡ i + suc h
    on i h = omega arith

    less : (n h : ℕ) → n - h ≡ suc n - suc h
    less n h = omega arith

pub leaves-same : (s r : List ℕ) → ((j : ℕ) → leaf_at r j ≡ leaf_at s j) → (i n : ℕ) → leaves_from r i n ≡ leaves_from s i n
unfolding leaves_from
leaves-same s r h i zero = refl
leaves-same s r h i (suc n) = ap₂ (λ (x : IndexedNode) (z : List IndexedNode). x ∷ z) (h i) (leaves-same s r h (suc i) n)

-- ---- what a stored tree depends on
pub box-same : (s r : List ℕ) (p : ℕ) → ((q : ℕ) → p ≤ q → q < p + 4 → get_or r q 0 ≡ get_or s q 0) → box_at r p ≡ box_at s p
box-same s r p h =
    let a = h p (omega arith) (omega arith) in
    let b = h (p + 1) (omega arith) (omega arith) in
    let c = h (p + 2) (omega arith) (omega arith) in
    let d = h (p + 3) (omega arith) (omega arith) in
    λ i. record { left = of_bits binary64 (a i); top = of_bits binary64 (b i); right = of_bits binary64 (c i); bottom = of_bits binary64 (d i) }

leaf-same : (s r : List ℕ) (j : ℕ) → ((q : ℕ) → 9 * j ≤ q → q < 9 * j + 4 → get_or r q 0 ≡ get_or s q 0) → get_or r (9 * j + 8) 0 ≡ get_or s (9 * j + 8) 0 → leaf_at r j ≡ leaf_at s j
leaf-same s r j h e = let b = box-same s r (9 * j) h in λ i. record { id = e i; bounds = b i }

pub stored-none : (k : ℕ) (w : List ℕ) (i n : ℕ) → n ≡ 0 → stored_tree k w i n ≡ empty
unfolding stored_tree
stored-none zero w i n e = refl
stored-none (suc k) w i n e = rw (eq-eqb n 0 e)

pub stored-leaf : (k : ℕ) (w : List ℕ) (i n : ℕ) → n ≡ 1 → stored_tree (suc k) w i n ≡ leaf (leaf_at w i)
unfolding stored_tree
stored-leaf k w i n e = rw (ne_eqb n 0 (λ z. omega arith), eq-eqb n 1 e)

pub stored-branch : (k : ℕ) (w : List ℕ) (i n : ℕ) → 2 ≤ n → stored_tree (suc k) w i n ≡ branch (split_at w (i + n / 2)) (stored_tree k w i (n / 2)) (stored_tree k w (i + n / 2) (n - n / 2))
unfolding stored_tree
stored-branch k w i n h = rw (ne_eqb n 0 (λ z. omega arith), ne_eqb n 1 (λ z. omega arith))

pub tree-same : (k : ℕ) (s r : List ℕ) (i n : ℕ) → ((j : ℕ) → leaf_at r j ≡ leaf_at s j) → ((j : ℕ) → i < j → j < i + n → split_at r j ≡ split_at s j) → stored_tree k r i n ≡ stored_tree k s i n
tree-same zero s r i n f g = unfold stored_tree in refl
tree-same (suc k) s r i n f g = elim (same_or_not n 0) [
  | inl e ↦ stored-none (suc k) r i n e ∙ sym (stored-none (suc k) s i n e)
  | inr a ↦ elim (same_or_not n 1) [
    | inl e ↦ stored-leaf k r i n e ∙ ap leaf (f i) ∙ sym (stored-leaf k s i n e)
    | inr b ↦
        let two : 2 ≤ n = omega arith in
        let x = g (i + n / 2) (omega arith) (omega arith) in
        let y = tree-same k s r i (n / 2) f (λ j u v. g j u (omega arith)) in
        let z = tree-same k s r (i + n / 2) (n - n / 2) f (λ j u v. g j (omega arith) (omega arith)) in
        stored-branch k r i n two ∙ (λ t. branch (x t) (y t) (z t)) ∙ sym (stored-branch k s i n two)
  ]
]

-- ---- split boxes put
-- a leaf's own words belong to no split box
leaf_outside : (i n j t : ℕ) → (t < 4) ⊎ (t ≡ 8) → Outside i n (9 * j + t)
leaf_outside i n j t c m a b = elim (le_or_lt j m) [
  | inl h ↦ ⊎_elim (λ x. inl (omega arith)) (λ x. elim (same_or_not j m) [ inl e ↦ inr (omega arith) | inr e ↦ inl (omega arith) ]) c
  | inr h ↦ inr (omega arith)
]

pub put-leaves : (s r : List ℕ) (i n : ℕ) (b : Aabb) → SplitsPut s r i n b → (j : ℕ) → leaf_at r j ≡ leaf_at s j
put-leaves s r i n b p j = leaf-same s r j (λ q u v. own q u v) (p.else (9 * j + 8) (leaf_outside i n j 8 (inr refl)))
  where
    own : (q : ℕ) → 9 * j ≤ q → q < 9 * j + 4 → get_or r q 0 ≡ get_or s q 0
    own q u v = let e : 9 * j + (q - 9 * j) ≡ q = omega arith in p.else q (subst (Outside i n) e (leaf_outside i n j (q - 9 * j) (inl (omega arith))))

one-leaf : (k : ℕ) (s : List ℕ) (i n : ℕ) → n ≡ 1 → tree_over (suc k) (leaves_from s i n) ≡ leaf (leaf_at s i)
unfolding tree_over leaves_from
one-leaf k s i n e = ap (λ (m : ℕ). tree_over (suc k) (leaves_from s i m)) e

pub splits_one : (s : List ℕ) (i n : ℕ) (b : Aabb) → 1 ≤ n → n < 2 → b ≡ box_at s (9 * i) → SplitsPut s s i n b
splits_one s i n b h g e = record { len = refl; else = λ q o. refl; tree = tree; box = box }
  where
    one : n ≡ 1
    one = omega arith

    tree : (k : ℕ) → n ≤ k → stored_tree k s i n ≡ tree_over k (leaves_from s i n)
    tree zero q = absurd (omega arith)
    tree (suc k) q = stored-leaf k s i n one ∙ sym (one-leaf k s i n one)

    box : (k : ℕ) → n ≤ k → b ≡ bounds_of (tree_over k (leaves_from s i n))
    box zero q = absurd (omega arith)
    box (suc k) q = e ∙ sym (ap bounds_of (one-leaf k s i n one) ∙ unfold bounds_of in refl)

module _ (s₀ s₁ s₂ s₃ : List ℕ) (i n : ℕ) (bl br u : Aabb) (two : 2 ≤ n) (p : SplitsPut s₀ s₁ i (n / 2) bl) (q : SplitsPut s₁ s₂ (i + n / 2) (n - n / 2) br) (e : u ≡ union bl br) (b : BoxPut s₂ s₃ (9 * (i + n / 2) + 4) u) where
  -- the leaves are unchanged
  last_leaf : (j : ℕ) → leaf_at s₃ j ≡ leaf_at s₂ j
  last_leaf j = elim (le_or_lt j (i + n / 2)) [
    | inl h ↦ leaf-same s₂ s₃ j (λ x y z. b.low x (omega arith)) (elim (same_or_not j (i + n / 2)) [ inl g ↦ b.high (9 * j + 8) (omega arith) | inr g ↦ b.low (9 * j + 8) (omega arith) ])
    | inr h ↦ leaf-same s₂ s₃ j (λ x y z. b.high x (omega arith)) (b.high (9 * j + 8) (omega arith))
  ]

  leaf₂ : (j : ℕ) → leaf_at s₂ j ≡ leaf_at s₁ j
  leaf₂ j = put-leaves s₁ s₂ (i + n / 2) (n - n / 2) br q j

  -- the splits of the left part are unchanged
  left_split : (j : ℕ) → i < j → j < i + n / 2 → split_at s₃ j ≡ split_at s₁ j
  left_split j x y = box-same s₁ s₃ (9 * j + 4) (λ w c d. b.low w (omega arith) ∙ q.else w (λ m f g. inl (omega arith)))

  -- and so are those of the right part
  right_split : (j : ℕ) → i + n / 2 < j → j < i + n / 2 + (n - n / 2) → split_at s₃ j ≡ split_at s₂ j
  right_split j x y = box-same s₂ s₃ (9 * j + 4) (λ w c d. b.high w (omega arith))

  left-leaves : (k : ℕ) → leaves_from s₁ (i + n / 2) k ≡ leaves_from s₀ (i + n / 2) k
  left-leaves k = leaves-same s₀ s₁ (put-leaves s₀ s₁ i (n / 2) bl p) (i + n / 2) k

  -- both sides over k
  module _ (k : ℕ) (h : n ≤ suc k) where
    left-tree : stored_tree k s₃ i (n / 2) ≡ tree_over k (leaves_from s₀ i (n / 2))
    left-tree = tree-same k s₁ s₃ i (n / 2) (λ j. last_leaf j ∙ leaf₂ j) left_split ∙ p.tree k (omega arith)

    right-tree : stored_tree k s₃ (i + n / 2) (n - n / 2) ≡ tree_over k (leaves_from s₀ (i + n / 2) (n - n / 2))
    right-tree = tree-same k s₂ s₃ (i + n / 2) (n - n / 2) last_leaf right_split ∙ q.tree k (omega arith) ∙ ap (tree_over k) (left-leaves (n - n / 2))

    both_boxes : u ≡ union (bounds_of (tree_over k (leaves_from s₀ i (n / 2)))) (bounds_of (tree_over k (leaves_from s₀ (i + n / 2) (n - n / 2))))
    both_boxes = e ∙ ap₂ union (p.box k (omega arith)) (q.box k (omega arith) ∙ ap (λ (l : List IndexedNode). bounds_of (tree_over k l)) (left-leaves (n - n / 2)))

    over_both : tree_over (suc k) (leaves_from s₀ i n) ≡ joined (tree_over k (leaves_from s₀ i (n / 2))) (tree_over k (leaves_from s₀ (i + n / 2) (n - n / 2)))
    over_both =
        let l = leaves-length s₀ i n in
        tree-two k (leaves_from s₀ i n) (omega arith)
        ∙ ap (λ (m : ℕ). over (tree_over k) (m / 2) (leaves_from s₀ i n)) l
        ∙ ap₂ (λ (x y : List IndexedNode). joined (tree_over k x) (tree_over k y)) (leaves-take s₀ i n (n / 2) (omega arith)) (leaves-drop s₀ i n (n / 2) (omega arith))

    whole-tree : stored_tree (suc k) s₃ i n ≡ tree_over (suc k) (leaves_from s₀ i n)
    whole-tree = stored-branch k s₃ i n two ∙ (λ t. branch ((b.box ∙ both_boxes) t) (left-tree t) (right-tree t)) ∙ sym over_both

    whole-box : u ≡ bounds_of (tree_over (suc k) (leaves_from s₀ i n))
    unfolding bounds_of
    whole-box = both_boxes ∙ sym (ap bounds_of over_both)

  pub splits_join : SplitsPut s₀ s₃ i n u
  splits_join = record { len = b.len ∙ q.len ∙ p.len; else = else; tree = tree; box = box }
    where
      else : (w : ℕ) → Outside i n w → get_or s₃ w 0 ≡ get_or s₀ w 0
      else w o = ⊎_elim (λ x. b.low w x) (λ x. b.high w (omega arith)) (o (i + n / 2) (omega arith) (omega arith)) ∙ q.else w (λ m f g. o m (omega arith) (omega arith)) ∙ p.else w (λ m f g. o m f (omega arith))

      tree : (k : ℕ) → n ≤ k → stored_tree k s₃ i n ≡ tree_over k (leaves_from s₀ i n)
      tree zero h = absurd (omega arith)
      tree (suc k) h = whole-tree k h

      box : (k : ℕ) → n ≤ k → u ≡ bounds_of (tree_over k (leaves_from s₀ i n))
      box zero h = absurd (omega arith)
      box (suc k) h = whole-box k h
