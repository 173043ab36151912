-- The least of a list of values that are ranked by a number: it depends on which values are in the list, not on their order. Assumes nothing.
use Rattle.std.specs.Prelude.{Option, None, Some}
use mathlib.Core.Path.{◌≡◌, refl, sym, ap, ◌∙◌, subst}
use mathlib.Core.Logic.{inl, inr}
use mathlib.Core.List.{List, [], ◌∷◌, ◌++◌, append_assoc}
use mathlib.Core.Bool.{Bool}
use Prim.Native.Nat.{ℕ, ◌≤◌, ◌<◌}
use native.Mathlib.Nat.{le_refl, le_trans, le_antisymm, le_of_eq, le_of_lt}
use native.Mathlib.Omega.{arith}
use borrow.Author.Tests.{ltb-true, ltb-false}
use lib.Dec.{ltb}
use Rattle.laws.specs.Lists.{Mem, All}
use Rattle.laws.specs.Perm.{Perm}
use Rattle.laws.specs.Least.{lesser, least}
use Rattle.laws.proofs.Tests.{decide, le_or_lt}
use Rattle.laws.proofs.ListLaws.{all_mem, all_append, mem_append, append_left, append_right}
use Rattle.laws.proofs.Perms.{perm_sym, perm_mem, perm-all, perm-turn}

-- on the values with P, `lt` is the order of a number, and values with one number are one value
pub record Ranked {A : Type 0} (P : A → Type 0) (lt : A → A → Bool) (rank : A → ℕ) : Type 0 where
  pub below : (x y : A) → P x → P y → lt x y ≡ ltb (rank x) (rank y)
  pub one : (x y : A) → P x → P y → rank x ≡ rank y → x ≡ y

-- what the least is: an entry of the list that no other ranks below
abbrev pub IsLeast : {A : Type 0} → (A → ℕ) → List A → Option A → Type 0
IsLeast {A} rank l None = (x : A) → Mem x l → ⊥
IsLeast {A} rank l (Some m) = Mem m l × ((x : A) → Mem x l → rank m ≤ rank x)

-- some value of l ranks no higher than x
abbrev pub Reaches : {A : Type 0} → (A → ℕ) → List A → A → Type 0
Reaches {A} rank l x = (y : A) × Mem y l × (rank y ≤ rank x)

-- a value that may be absent, with P where it is present
abbrev pub Perhaps : {A : Type 0} → (A → Type 0) → Option A → Type 0
Perhaps P None = Unit {0}
Perhaps P (Some x) = P x

module _ {A : Type 0} {P : A → Type 0} {lt : A → A → Bool} {rank : A → ℕ} (R : Ranked P lt rank) where
  -- ---- the lesser of two
  pub lesser-first : (x y : A) → P x → P y → rank x ≤ rank y → lesser lt (Some x) (Some y) ≡ Some x
  unfolding lesser
  lesser-first x y p q h = elim (decide (lt y x)) [
    | inl t ↦ let k : rank y < rank x = ltb-true (rank y) (rank x) (sym (R.below y x q p) ∙ t) in absurd (omega arith)
    | inr f ↦ rw f
  ]

  pub lesser-second : (x y : A) → P x → P y → rank y ≤ rank x → lesser lt (Some x) (Some y) ≡ Some y
  unfolding lesser
  lesser-second x y p q h = elim (decide (lt y x)) [
    | inl t ↦ rw t
    | inr f ↦ let k : rank x ≤ rank y = ltb-false (rank y) (rank x) (sym (R.below y x q p) ∙ f) in rw f (ap Some (R.one x y p q (le_antisymm k h)))
  ]

  -- ---- the least of two lists together is the lesser of their leasts
  join : (l r : List A) → All P l → All P r → (a b : Option A) → IsLeast rank l a → IsLeast rank r b → IsLeast rank (l ++ r) (lesser lt a b)
  unfolding lesser
  join l r h k None None p q = λ x m. elim (mem_append x l r m) [ inl n ↦ p x n | inr n ↦ q x n ]
  join l r h k None (Some y) p q = (append_right y l r q.0, λ x m. elim (mem_append x l r m) [ inl n ↦ absurd (p x n) | inr n ↦ q.1 x n ])
  join l r h k (Some x) None p q = (append_left x l r p.0, λ z m. elim (mem_append z l r m) [ inl n ↦ p.1 z n | inr n ↦ absurd (q z n) ])
  join l r h k (Some x) (Some y) p q = elim (le_or_lt (rank x) (rank y)) [
    | inl g ↦ subst (IsLeast rank (l ++ r)) (sym (lesser-first x y px py g)) (append_left x l r p.0, λ z m. elim (mem_append z l r m) [ inl n ↦ p.1 z n | inr n ↦ le_trans g (q.1 z n) ])
    | inr g ↦ subst (IsLeast rank (l ++ r)) (sym (lesser-second x y px py (le_of_lt g))) (append_right y l r q.0, λ z m. elim (mem_append z l r m) [ inl n ↦ le_trans (le_of_lt g) (p.1 z n) | inr n ↦ q.1 z n ])
  ]
    where
      px : P x
      px = all_mem P l h x p.0

      py : P y
      py = all_mem P r k y q.0

  pub is-least : (l : List A) → All P l → IsLeast rank l (least lt l)
  unfolding least
  is-least [] h = λ x m. m
  is-least (x ∷ l) h = join (x ∷ []) l (h.0, tt) h.1 (Some x) (least lt l) (inl refl, alone) (is-least l h.1)
    where
      alone : (y : A) → Mem y (x ∷ []) → rank x ≤ rank y
      alone y (inl e) = le_of_eq (ap rank (sym e))
      alone y (inr m) = absurd m

  -- ---- lists that reach each other's values have the same least
  pub least-same : (l r : List A) → All P l → All P r → ((x : A) → Mem x l → Reaches rank r x) → ((x : A) → Mem x r → Reaches rank l x) → least lt l ≡ least lt r
  least-same l r h k f g = go (least lt l) (least lt r) (is-least l h) (is-least r k)
    where
      go : (a b : Option A) → IsLeast rank l a → IsLeast rank r b → a ≡ b
      go None None p q = refl
      go None (Some y) p q = let w = g y q.0 in absurd (p w.0 w.1)
      go (Some x) None p q = let w = f x p.0 in absurd (q w.0 w.1)
      go (Some x) (Some y) p q =
          let v = f x p.0 in
          let w = g y q.0 in
          ap Some (R.one x y (all_mem P l h x p.0) (all_mem P r k y q.0) (le_antisymm (le_trans (p.1 w.0 w.1) w.2) (le_trans (q.1 v.0 v.1) v.2)))

  pub least-perm : {l r : List A} → Perm l r → All P l → least lt l ≡ least lt r
  least-perm {l} {r} p h = least-same l r h (perm-all P p h) (λ x m. (x, perm_mem x p m, le_refl (rank x))) (λ x m. (x, perm_mem x (perm_sym p) m, le_refl (rank x)))

  -- and a value that is the least of a list is its `least`
  pub least_unique : (l : List A) → All P l → (a : Option A) → IsLeast rank l a → a ≡ least lt l
  least_unique l h a p = go a (least lt l) p (is-least l h)
    where
      go : (a b : Option A) → IsLeast rank l a → IsLeast rank l b → a ≡ b
      go None None p q = refl
      go None (Some y) p q = absurd (p y q.0)
      go (Some x) None p q = absurd (q x p.0)
      go (Some x) (Some y) p q = ap Some (R.one x y (all_mem P l h x p.0) (all_mem P l h y q.0) (le_antisymm (p.1 y q.0) (q.1 x p.0)))

  pub least-append : (l r : List A) → All P l → All P r → lesser lt (least lt l) (least lt r) ≡ least lt (l ++ r)
  least-append l r h k = least_unique (l ++ r) (all_append P l r h k) (lesser lt (least lt l) (least lt r)) (join l r h k (least lt l) (least lt r) (is-least l h) (is-least r k))

  -- ---- so the lesser of two values is commutative and associative, as data
  listed : (a : Option A) → List A
  listed None = []
  listed (Some x) = x ∷ []

  of-listed : (a : Option A) → least lt (listed a) ≡ a
  unfolding least lesser listed
  of-listed None = refl
  of-listed (Some x) = refl

  all_listed : (a : Option A) → Perhaps P a → All P (listed a)
  unfolding listed
  all_listed None p = tt
  all_listed (Some x) p = (p, tt)

  of_two : (a b : Option A) → Perhaps P a → Perhaps P b → lesser lt a b ≡ least lt (listed a ++ listed b)
  of_two a b p q = (λ i. lesser lt (sym (of-listed a) i) (sym (of-listed b) i)) ∙ least-append (listed a) (listed b) (all_listed a p) (all_listed b q)

  pub lesser_comm : (a b : Option A) → Perhaps P a → Perhaps P b → lesser lt a b ≡ lesser lt b a
  lesser_comm a b p q = of_two a b p q ∙ least-perm (perm-turn (listed a) (listed b)) (all_append P (listed a) (listed b) (all_listed a p) (all_listed b q)) ∙ sym (of_two b a q p)

  pub lesser_assoc : (a b c : Option A) → Perhaps P a → Perhaps P b → Perhaps P c → lesser lt (lesser lt a b) c ≡ lesser lt a (lesser lt b c)
  lesser_assoc a b c p q o =
      let x = listed a in
      let y = listed b in
      let z = listed c in
      let hx = all_listed a p in
      let hy = all_listed b q in
      let hz = all_listed c o in
      (λ i. lesser lt (of_two a b p q i) (sym (of-listed c) i))
      ∙ least-append (x ++ y) z (all_append P x y hx hy) hz
      ∙ ap (least lt) (append_assoc x y z)
      ∙ sym (least-append x (y ++ z) hx (all_append P y z hy hz))
      ∙ (λ i. lesser lt (of-listed a i) (sym (of_two b c q o) i))
