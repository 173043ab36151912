-- Folds over chosen entries and over pairs, and least numbers: what the figures of this crate need besides the laws of folds. Assumes nothing.
use Rattle.std.specs.Prelude.{Option, None, Some}
use mathlib.Core.Path.{◌≡◌, refl, sym, ap, ◌∙◌}
use mathlib.Core.Logic.{inl, inr}
use mathlib.Core.List.{List, [], ◌∷◌, map}
use mathlib.Core.Bool.{Bool, true, false, not, ◌||◌, cond}
use Prim.Native.Nat.{ℕ, ◌+◌, ◌*◌}
use native.Mathlib.Nat.{le_refl, suc-mul, zero-mul}
use native.Mathlib.Omega.{arith}
use lib.Dec.{ltb, eqb}
use lib.ListN.{length}
use borrow.Author.Tests.{ne_eqb}
use Rattle.laws.specs.Lists.{Mem, some_of, put, chosen, fold, bit, sum, count, beside, pairs}
use Rattle.laws.specs.Perm.{Perm}
use Rattle.laws.specs.Least.{lesser}
use Rattle.laws.proofs.Leasts.{Ranked, Perhaps, lesser_comm, lesser_assoc, lesser-first}
use Rattle.laws.proofs.Perms.{perm-pairs}
use Rattle.laws.proofs.Folds.{Monoid, fold-append, fold-map, fold-perm}

-- ---- the lesser of two numbers that may be absent
anything : ℕ → Type 0
anything n = Unit {0}

numbers_ranked : Ranked anything ltb (λ n. n)
unfolding anything
numbers_ranked = record { below = λ x y p q. refl; one = λ x y p q e. e }

any : (a : Option ℕ) → Perhaps anything a
unfolding anything
any None = tt
any (Some n) = tt

pub fewest : Monoid (lesser ltb) None
unfolding lesser
fewest = record { assoc = λ a b c. lesser_assoc numbers_ranked a b c (any a) (any b) (any c); comm = λ a b. lesser_comm numbers_ranked a b (any a) (any b); idl = λ a. refl }

pub lesser-same : (a : Option ℕ) → lesser ltb a a ≡ a
unfolding lesser anything
lesser-same None = refl
lesser-same (Some n) = lesser-first numbers_ranked n n tt tt (le_refl n)

-- ---- chosen entries
module _ {M : Type 0} {◌⊕◌ : M → M → M} {u : M} (L : Monoid ◌⊕◌ u) where
  pub fold-chosen : {A C : Type 0} (f : C → M) (p : A → Bool) (h : A → C) (l : List A) → fold ◌⊕◌ u f (chosen p h l) ≡ fold ◌⊕◌ u (λ x. cond (p x) (f (h x)) u) l
  unfolding fold chosen
  fold-chosen f p h [] = refl
  fold-chosen {A} {C} f p h (x ∷ l) = go (p x) (fold-chosen f p h l)
    where
      go : (b : Bool) → fold ◌⊕◌ u f (chosen p h l) ≡ fold ◌⊕◌ u (λ y. cond (p y) (f (h y)) u) l → fold ◌⊕◌ u f (put b (h x) (chosen p h l)) ≡ ◌⊕◌ (cond b (f (h x)) u) (fold ◌⊕◌ u (λ y. cond (p y) (f (h y)) u) l)
      go true e = ap (◌⊕◌ (f (h x))) e
      go false e = e ∙ sym (L.idl (fold ◌⊕◌ u (λ y. cond (p y) (f (h y)) u) l))

pub chosen-map : {A B C : Type 0} (p : B → Bool) (h : B → C) (g : A → B) (l : List A) → chosen p h (map g l) ≡ chosen (λ x. p (g x)) (λ x. h (g x)) l
unfolding chosen
chosen-map p h g [] = refl
chosen-map p h g (x ∷ l) = ap (put (p (g x)) (h (g x))) (chosen-map p h g l)

-- chosen values under a function
pub chosen_under : {A C D : Type 0} (p : A → Bool) (h : A → C) (f : C → D) (g : A → D) (l : List A) → ((x : A) → Mem x l → p x ≡ true → g x ≡ f (h x)) → chosen p g l ≡ map f (chosen p h l)
unfolding chosen
chosen_under p h f g [] e = refl
chosen_under {A} {C} {D} p h f g (x ∷ l) e = ap (put (p x) (g x)) (chosen_under p h f g l (λ y m. e y (inr m))) ∙ go (p x) (e x (inl refl))
  where
    go : (b : Bool) → (b ≡ true → g x ≡ f (h x)) → put b (g x) (map f (chosen p h l)) ≡ map f (put b (h x) (chosen p h l))
    go true k = ap (λ (z : D). z ∷ map f (chosen p h l)) (k refl)
    go false k = refl

-- ---- pairs
beside-map : {A B : Type 0} (x : A) (l : List B) → beside x l ≡ map {A = B} {B = A × B} (λ y. (x, y)) l
beside-map x [] = refl
beside-map x (y ∷ l) = ap (◌∷◌ (x, y)) (beside-map x l)

-- the first entry of a list: its pairs with the others come first
pub fold-pairs : {M A : Type 0} {◌⊕◌ : M → M → M} {u : M} (L : Monoid ◌⊕◌ u) (f : A × A → M) (x : A) (l : List A) → fold ◌⊕◌ u f (pairs (x ∷ l)) ≡ ◌⊕◌ (fold ◌⊕◌ u (λ y. f (x, y)) l) (fold ◌⊕◌ u f (pairs l))
unfolding pairs
fold-pairs {A = A} {◌⊕◌ = ◌⊕◌} {u = u} L f x l = fold-append L f (beside x l) (pairs l) ∙ ap (λ z. ◌⊕◌ z (fold ◌⊕◌ u f (pairs l))) (ap (fold ◌⊕◌ u f) (beside-map x l) ∙ fold-map L f (λ y. (x, y)) l)

-- a fold over pairs that does not depend on which entry comes first is the same for every order of the list
pub pairs-perm : {M A : Type 0} {◌⊕◌ : M → M → M} {u : M} (L : Monoid ◌⊕◌ u) (f : A × A → M) → ((x y : A) → f (x, y) ≡ f (y, x)) → {l m : List A} → Perm l m → fold ◌⊕◌ u f (pairs l) ≡ fold ◌⊕◌ u f (pairs m)
pairs-perm L f turn {l} {m} p = sym (fold-chosen L (λ z. z) (λ q. true) f (pairs l)) ∙ fold-perm L (λ z. z) (perm-pairs (λ q. true) f (λ x y. refl) turn p) ∙ fold-chosen L (λ z. z) (λ q. true) f (pairs m)

-- ---- sums
pub sum_const : {A : Type 0} (b : ℕ) (l : List A) → sum (λ x. b) l ≡ length l * b
unfolding fold
sum_const b [] = sym (zero-mul b)
sum_const b (x ∷ l) = ap (λ (z : ℕ). b + z) (sum_const b l) ∙ omega (arith, suc-mul (length l) b)

-- some entry passes where the number of those that do is not 0
pub some-count : {A : Type 0} (p : A → Bool) (l : List A) → some_of p l ≡ not (eqb (count p l) 0)
unfolding some_of fold
some-count p [] = refl
some-count p (x ∷ l) = go (p x) (count p l) (some_of p l) (some-count p l)
  where
    go : (b : Bool) (n : ℕ) (r : Bool) → r ≡ not (eqb n 0) → (b || r) ≡ not (eqb (bit b + n) 0)
    go true n r e = sym (ap not (ne_eqb (1 + n) 0 (λ q. omega arith)))
    go false n r e = let z : n ≡ 0 + n = omega arith in e ∙ ap (λ (k : ℕ). not (eqb k 0)) z
