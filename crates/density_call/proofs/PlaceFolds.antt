-- Folds over the indices 0 .. n - 1 to which only those from an index p on contribute, and how they grow as p falls. Assumes nothing.
use mathlib.Core.Path.{◌≡◌, sym, ap, ap₂, ◌∙◌}
use mathlib.Core.Logic.{inl, inr}
use mathlib.Core.List.{[], ◌∷◌}
use mathlib.Core.Bool.{Bool, true, false, cond}
use Prim.Native.Nat.{ℕ, zero, suc, ◌+◌, ◌*◌, ◌≤◌, ◌<◌}
use native.Mathlib.Omega.{arith}
use lib.Dec.{leb, eqb}
use lib.ListN.{length}
use borrow.Author.Tests.{le-leb, lt-leb, eq-eqb, ne_eqb}
use Rattle.laws.specs.Lists.{bit, fold}
use Rattle.laws.proofs.Tests.{le_or_lt, same_or_not, cond_true, cond_false}
use Rattle.laws.proofs.Folds.{Monoid, plus, idr, fold_same, fold_both, fold-unit, fold-append, sum-at_most}
use Rattle.sorting.specs.Inner.Sorted.{up_to}
use Rattle.sorting.proofs.Entries.{length-up_to, up_to-below}

abbrev pub since : {M : Type 0} → (M → M → M) → M → ℕ → ℕ → (ℕ → M) → M
since ◌⊕◌ u n p g = fold ◌⊕◌ u (λ k. cond (leb p k) (g k) u) (up_to n)

module _ {M : Type 0} {◌⊕◌ : M → M → M} {u : M} (O : Monoid ◌⊕◌ u) where
  infixl 65 ◌⊕◌
  -- only the index i contributes
  fold-one : (n i : ℕ) (x : M) → i < n → fold ◌⊕◌ u (λ k. cond (eqb k i) x u) (up_to n) ≡ x
  unfolding fold up_to
  fold-one zero i x h = absurd (omega arith)
  fold-one (suc n) i x h = fold-append O (λ k. cond (eqb k i) x u) (up_to n) (n ∷ []) ∙ elim (same_or_not n i) [
    | inl e ↦
        ap₂ ◌⊕◌ (fold-unit O (λ k. cond (eqb k i) x u) (up_to n) (λ k m. let b = up_to-below n k m in cond_false (eqb k i) x u (ne_eqb k i (λ q. omega arith)))) (ap (λ (z : M). z ⊕ u) (cond_true (eqb n i) x u (eq-eqb n i e)) ∙ idr O x)
        ∙ O.idl x
    | inr e ↦
        ap₂ ◌⊕◌ (fold-one n i x (omega arith)) (ap (λ (z : M). z ⊕ u) (cond_false (eqb n i) x u (ne_eqb n i e)) ∙ idr O u)
        ∙ idr O x
  ]

  -- none from p on
  pub since_none : (n p : ℕ) (g : ℕ → M) → ((k : ℕ) → k < n → p ≤ k → g k ≡ u) → since ◌⊕◌ u n p g ≡ u
  since_none n p g h = fold-unit O (λ k. cond (leb p k) (g k) u) (up_to n) (λ k m. elim (le_or_lt p k) [
    | inl a ↦ cond_true (leb p k) (g k) u (le-leb p k a) ∙ h k (up_to-below n k m) a
    | inr a ↦ cond_false (leb p k) (g k) u (lt-leb p k a)
  ])

  -- the index i is added, and none between it and p contributes
  pub since_next : (n i p : ℕ) (g : ℕ → M) → i < n → i < p → ((k : ℕ) → k < n → i < k → k < p → g k ≡ u) → since ◌⊕◌ u n i g ≡ since ◌⊕◌ u n p g ⊕ g i
  since_next n i p g a b h =
      fold_same O (λ k. cond (leb i k) (g k) u) (λ k. cond (leb p k) (g k) u ⊕ cond (eqb k i) (g i) u) (up_to n) (λ k m. at k (up_to-below n k m))
      ∙ fold_both O (λ k. cond (leb p k) (g k) u) (λ k. cond (eqb k i) (g i) u) (up_to n)
      ∙ ap (λ (z : M). since ◌⊕◌ u n p g ⊕ z) (fold-one n i (g i) a)
    where
      at : (k : ℕ) → k < n → cond (leb i k) (g k) u ≡ cond (leb p k) (g k) u ⊕ cond (eqb k i) (g i) u
      at k l = elim (le_or_lt i k) [
        | inr x ↦ rw (lt-leb i k x, lt-leb p k (omega arith), ne_eqb k i (λ e. omega arith)) (sym (O.idl u))
        | inl x ↦ elim (same_or_not k i) [
          | inl e ↦ rw (le-leb i k x, lt-leb p k (omega arith), eq-eqb k i e) (ap g e ∙ sym (O.idl (g i)))
          | inr e ↦ elim (le_or_lt p k) [
            | inl y ↦ rw (le-leb i k x, le-leb p k y, ne_eqb k i e) (sym (idr O (g k)))
            | inr y ↦ rw (le-leb i k x, lt-leb p k y, ne_eqb k i e) (h k l (omega arith) y ∙ sym (O.idl u))
          ]
        ]
      ]

  -- none below p
  pub since_all : (n p : ℕ) (g : ℕ → M) → ((k : ℕ) → k < n → k < p → g k ≡ u) → since ◌⊕◌ u n p g ≡ fold ◌⊕◌ u g (up_to n)
  since_all n p g h = fold_same O (λ k. cond (leb p k) (g k) u) g (up_to n) (λ k m. elim (le_or_lt p k) [
    | inl a ↦ cond_true (leb p k) (g k) u (le-leb p k a)
    | inr a ↦ cond_false (leb p k) (g k) u (lt-leb p k a) ∙ sym (h k (up_to-below n k m) a)
  ])

-- ---- sums
pub since_at_most : (n p : ℕ) (t : ℕ → Bool) → since ◌+◌ 0 n p (λ k. bit (t k)) ≤ n
since_at_most n p t =
    let b : since ◌+◌ 0 n p (λ k. bit (t k)) ≤ length (up_to n) * 1 = sum-at_most (λ k. cond (leb p k) (bit (t k)) 0) 1 (up_to n) (λ k m. small (leb p k) (t k)) in
    omega (arith, length-up_to n)
  where
    small : (a b : Bool) → cond a (bit b) 0 ≤ 1
    small true true = omega arith
    small true false = omega arith
    small false b = omega arith

pub since_below_all : (n p : ℕ) (g : ℕ → ℕ) → since ◌+◌ 0 n p g ≤ fold ◌+◌ 0 g (up_to n)
since_below_all n p g =
    let e : fold ◌+◌ 0 g (up_to n) ≡ since ◌+◌ 0 n p g + fold ◌+◌ 0 (λ k. cond (leb p k) 0 (g k)) (up_to n) = fold_same plus g (λ k. cond (leb p k) (g k) 0 + cond (leb p k) 0 (g k)) (up_to n) (λ k m. either (leb p k) (g k)) ∙ fold_both plus (λ k. cond (leb p k) (g k) 0) (λ k. cond (leb p k) 0 (g k)) (up_to n) in
    omega arith
  where
    either : (t : Bool) (x : ℕ) → x ≡ cond t x 0 + cond t 0 x
    either true x = omega arith
    either false x = omega arith
