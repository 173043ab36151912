-- Folds by an operation that is associative and commutative and has a unit: sums, counts, greatest and least values. Assumes nothing.
use mathlib.Core.Path.{◌≡◌, refl, sym, ap, ap₂, ◌∙◌}
use mathlib.Core.List.{List, [], ◌∷◌, ◌++◌, map}
use mathlib.Core.Logic.{inl, inr}
use mathlib.Core.Bool.{Bool, true, false}
use Prim.Native.Nat.{ℕ, suc, ◌+◌, ◌*◌, ◌≤◌, max, zero-le}
use native.Mathlib.Nat.{le_refl, suc-mul}
use native.Mathlib.Omega.{arith}
use lib.Dec.{T}
use lib.ListN.{length}
use Rattle.laws.specs.Lists.{Mem, fold, bit, sum, count, chosen, put, beside, pairs}
use Rattle.laws.specs.Perm.{Perm, none, first, swap, via}

pub record Monoid {M : Type 0} (◌⊕◌ : M → M → M) (u : M) : Type 0 where
  pub assoc : (a b c : M) → ◌⊕◌ (◌⊕◌ a b) c ≡ ◌⊕◌ a (◌⊕◌ b c)
  pub comm : (a b : M) → ◌⊕◌ a b ≡ ◌⊕◌ b a
  pub idl : (a : M) → ◌⊕◌ u a ≡ a

pub plus : Monoid ◌+◌ 0
plus = record { assoc = λ a b c. omega arith; comm = λ a b. omega arith; idl = λ a. omega arith }

pub greatest : Monoid max 0
greatest = record { assoc = λ a b c. omega arith; comm = λ a b. omega arith; idl = λ a. omega arith }

module _ {M : Type 0} {◌⊕◌ : M → M → M} {u : M} (L : Monoid ◌⊕◌ u) where
  infixl 65 ◌⊕◌
  pub idr : (a : M) → a ⊕ u ≡ a
  idr a = L.comm a u ∙ L.idl a

  -- the middle two are exchanged
  pub exchange : (a b c d : M) → (a ⊕ b) ⊕ (c ⊕ d) ≡ (a ⊕ c) ⊕ (b ⊕ d)
  exchange a b c d = L.assoc a b (c ⊕ d) ∙ ap (λ (z : M). a ⊕ z) (sym (L.assoc b c d) ∙ ap (λ (z : M). z ⊕ d) (L.comm b c) ∙ L.assoc c b d) ∙ sym (L.assoc a c (b ⊕ d))

  module _ {A : Type 0} where
    pub fold_same : (f g : A → M) (l : List A) → ((x : A) → Mem x l → f x ≡ g x) → fold ◌⊕◌ u f l ≡ fold ◌⊕◌ u g l
    unfolding fold
    fold_same f g [] h = refl
    fold_same f g (x ∷ l) h = ap₂ ◌⊕◌ (h x (inl refl)) (fold_same f g l (λ y m. h y (inr m)))

    pub fold_both : (f g : A → M) (l : List A) → fold ◌⊕◌ u (λ x. f x ⊕ g x) l ≡ fold ◌⊕◌ u f l ⊕ fold ◌⊕◌ u g l
    unfolding fold
    fold_both f g [] = sym (L.idl u)
    fold_both f g (x ∷ l) = ap (λ (z : M). (f x ⊕ g x) ⊕ z) (fold_both f g l) ∙ exchange (f x) (g x) (fold ◌⊕◌ u f l) (fold ◌⊕◌ u g l)

    pub fold-unit : (f : A → M) (l : List A) → ((x : A) → Mem x l → f x ≡ u) → fold ◌⊕◌ u f l ≡ u
    unfolding fold
    fold-unit f [] h = refl
    fold-unit f (x ∷ l) h = ap₂ ◌⊕◌ (h x (inl refl)) (fold-unit f l (λ y m. h y (inr m))) ∙ L.idl u

    pub fold-append : (f : A → M) (l r : List A) → fold ◌⊕◌ u f (l ++ r) ≡ fold ◌⊕◌ u f l ⊕ fold ◌⊕◌ u f r
    unfolding fold
    fold-append f [] r = sym (L.idl (fold ◌⊕◌ u f r))
    fold-append f (x ∷ l) r = ap (λ (z : M). f x ⊕ z) (fold-append f l r) ∙ sym (L.assoc (f x) (fold ◌⊕◌ u f l) (fold ◌⊕◌ u f r))

    pub fold-perm : (f : A → M) {l r : List A} → Perm l r → fold ◌⊕◌ u f l ≡ fold ◌⊕◌ u f r
    unfolding fold
    fold-perm f none = refl
    fold-perm f (first {x = x} p) = ap (λ (z : M). f x ⊕ z) (fold-perm f p)
    fold-perm f (swap {x = x} {y = y} {l = l}) = sym (L.assoc (f x) (f y) (fold ◌⊕◌ u f l)) ∙ ap (λ (z : M). z ⊕ fold ◌⊕◌ u f l) (L.comm (f x) (f y)) ∙ L.assoc (f y) (f x) (fold ◌⊕◌ u f l)
    fold-perm f (via p q) = fold-perm f p ∙ fold-perm f q

  pub fold-map : {A B : Type 0} (f : B → M) (g : A → B) (l : List A) → fold ◌⊕◌ u f (map g l) ≡ fold ◌⊕◌ u (λ x. f (g x)) l
  unfolding fold
  fold-map f g [] = refl
  fold-map f g (x ∷ l) = ap (λ (z : M). f (g x) ⊕ z) (fold-map f g l)

  -- ---- over one entry with each of a list, and over two lists: entry by entry of the first, or of the second
  fold-beside : {A B : Type 0} (f : A × B → M) (x : A) (m : List B) → fold ◌⊕◌ u f (beside x m) ≡ fold ◌⊕◌ u (λ y. f (x, y)) m
  unfolding fold
  fold-beside f x [] = refl
  fold-beside f x (y ∷ m) = ap (λ (z : M). f (x, y) ⊕ z) (fold-beside f x m)

  pub fold-fold : {A B : Type 0} (h : A → B → M) (l : List A) (m : List B) → fold ◌⊕◌ u (λ x. fold ◌⊕◌ u (h x) m) l ≡ fold ◌⊕◌ u (λ y. fold ◌⊕◌ u (λ x. h x y) l) m
  unfolding fold
  fold-fold h [] m = sym (fold-unit (λ y. u) m (λ y k. refl))
  fold-fold h (x ∷ l) m = ap (λ (z : M). fold ◌⊕◌ u (h x) m ⊕ z) (fold-fold h l m) ∙ sym (fold_both (h x) (λ y. fold ◌⊕◌ u (λ a. h a y) l) m)

  -- ---- over the pairs of one list
  module _ {A : Type 0} where
    fold-pairs : (f : A × A → M) (x : A) (l : List A) → fold ◌⊕◌ u f (pairs (x ∷ l)) ≡ fold ◌⊕◌ u (λ y. f (x, y)) l ⊕ fold ◌⊕◌ u f (pairs l)
    unfolding pairs
    fold-pairs f x l = fold-append f (beside x l) (pairs l) ∙ ap (λ (z : M). z ⊕ fold ◌⊕◌ u f (pairs l)) (fold-beside f x l)

    no_pairs : (f : A × A → M) → fold ◌⊕◌ u f (pairs []) ≡ u
    unfolding fold pairs
    no_pairs f = refl

    -- all ordered pairs: each entry with itself, and each unordered pair both ways
    pub fold_square : (g : A → A → M) (l : List A) → fold ◌⊕◌ u (λ x. fold ◌⊕◌ u (g x) l) l ≡ fold ◌⊕◌ u (λ x. g x x) l ⊕ fold ◌⊕◌ u (λ p. g p.0 p.1 ⊕ g p.1 p.0) (pairs l)
    unfolding fold
    fold_square g [] = sym (ap (λ (z : M). u ⊕ z) (no_pairs (λ p. g p.0 p.1 ⊕ g p.1 p.0)) ∙ L.idl u)
    fold_square g (x ∷ l) =
        ap (λ (z : M). (g x x ⊕ fold ◌⊕◌ u (g x) l) ⊕ z) (fold_both (λ y. g y x) (λ y. fold ◌⊕◌ u (g y) l) l ∙ ap (λ (z : M). fold ◌⊕◌ u (λ y. g y x) l ⊕ z) (fold_square g l))
        ∙ regroup (g x x) (fold ◌⊕◌ u (g x) l) (fold ◌⊕◌ u (λ y. g y x) l) (fold ◌⊕◌ u (λ y. g y y) l) rest
        ∙ ap (λ (z : M). (g x x ⊕ fold ◌⊕◌ u (λ y. g y y) l) ⊕ (z ⊕ rest)) (sym (fold_both (g x) (λ y. g y x) l))
        ∙ ap (λ (z : M). (g x x ⊕ fold ◌⊕◌ u (λ y. g y y) l) ⊕ z) (sym (fold-pairs (λ p. g p.0 p.1 ⊕ g p.1 p.0) x l))
      where
        rest : M
        rest = fold ◌⊕◌ u (λ p. g p.0 p.1 ⊕ g p.1 p.0) (pairs l)

        regroup : (a b c d e : M) → (a ⊕ b) ⊕ (c ⊕ (d ⊕ e)) ≡ (a ⊕ d) ⊕ ((b ⊕ c) ⊕ e)
        regroup a b c d e = ap (λ (z : M). (a ⊕ b) ⊕ z) (sym (L.assoc c d e) ∙ ap (λ (z : M). z ⊕ e) (L.comm c d) ∙ L.assoc d c e) ∙ exchange a b d (c ⊕ e) ∙ ap (λ (z : M). (a ⊕ d) ⊕ z) (sym (L.assoc b c e))

-- ---- counts
module _ {A : Type 0} where
  pub count-at_most : (p : A → Bool) (l : List A) → count p l ≤ length l
  unfolding fold
  count-at_most p [] = le_refl 0
  count-at_most p (x ∷ l) = go (p x) (count p l) (length l) (count-at_most p l)
    where
      go : (b : Bool) (m n : ℕ) → m ≤ n → bit b + m ≤ suc n
      go true m n h = omega arith
      go false m n h = omega arith

  -- a wider test counts no fewer
  pub count_grows : (p q : A → Bool) (l : List A) → ((x : A) → Mem x l → T (p x) → T (q x)) → count p l ≤ count q l
  unfolding fold
  count_grows p q [] h = le_refl 0
  count_grows p q (x ∷ l) h = go (p x) (q x) (count p l) (count q l) (h x (inl refl)) (count_grows p q l (λ y m. h y (inr m)))
    where
      go : (a b : Bool) (m n : ℕ) → (T a → T b) → m ≤ n → bit a + m ≤ bit b + n
      go true true m n h p = omega arith
      go true false m n h p = absurd (h tt)
      go false true m n h p = omega arith
      go false false m n h p = omega arith

  pub count-chosen : {C : Type 0} (p : A → Bool) (h : A → C) (l : List A) → count p l ≡ length (chosen p h l)
  unfolding fold chosen
  count-chosen p h [] = refl
  count-chosen p h (x ∷ l) = go (p x) (count p l) (chosen p h l) (count-chosen p h l)
    where
      go : (b : Bool) (m : ℕ) (r : List _) → m ≡ length r → bit b + m ≡ length (put b (h x) r)
      go true m r e = omega arith
      go false m r e = omega arith

  pub sum-at_most : (f : A → ℕ) (b : ℕ) (l : List A) → ((x : A) → Mem x l → f x ≤ b) → sum f l ≤ length l * b
  unfolding fold
  sum-at_most f b [] h = zero-le
  sum-at_most f b (x ∷ l) h = let p = h x (inl refl) in let q = sum-at_most f b l (λ y m. h y (inr m)) in omega (arith, suc-mul (length l) b)

  pub greatest_at_most : (f : A → ℕ) (b : ℕ) (l : List A) → ((x : A) → Mem x l → f x ≤ b) → fold max 0 f l ≤ b
  unfolding fold
  greatest_at_most f b [] h = zero-le
  greatest_at_most f b (x ∷ l) h = let p = h x (inl refl) in let q = greatest_at_most f b l (λ y m. h y (inr m)) in omega arith

  pub at_most_greatest : (f : A → ℕ) (l : List A) (x : A) → Mem x l → f x ≤ fold max 0 f l
  unfolding fold
  at_most_greatest f [] x x3 = elim x3 [ ]
  at_most_greatest f (y ∷ l) x (inl e) = let h = ap f e in omega arith
  at_most_greatest f (y ∷ l) x (inr m) = let h = at_most_greatest f l x m in omega arith
