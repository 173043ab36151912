-- The dictionary order of rows is total, and rows that may come in either order are equal. Assumes nothing.
use mathlib.Core.Path.{◌≡◌, refl, sym, ◌∙◌}
use mathlib.Core.Logic.{◌⊎◌, inl, inr}
use mathlib.Core.Bool.{true, false}
use mathlib.Core.List.{List, [], ◌∷◌}
use Prim.Native.Nat.{ℕ, ◌≤◌, ◌<◌}
use native.Mathlib.Omega.{arith}
use lib.Dec.{leb}
use borrow.Author.Tests.{lt-ltb, le-ltb, lt-leb, le-leb, eq-eqb, ne_eqb}
use Rattle.laws.specs.Rows.{row_le}
use Rattle.laws.proofs.Orders.{Order}
use Rattle.laws.proofs.Tests.{clash, le_or_lt, same_or_not}

-- ---- one word at a time
pub row_less : (x y : ℕ) (a b : List ℕ) → x < y → row_le (x ∷ a) (y ∷ b) ≡ true
unfolding row_le
row_less x y a b h = rw (lt-ltb x y h)

pub row_more : (x y : ℕ) (a b : List ℕ) → y < x → row_le (x ∷ a) (y ∷ b) ≡ false
unfolding row_le
row_more x y a b h = rw (le-ltb x y (omega arith), ne_eqb x y (λ e. omega arith))

pub row_next : (x y : ℕ) (a b : List ℕ) → x ≡ y → row_le (x ∷ a) (y ∷ b) ≡ row_le a b
unfolding row_le
row_next x y a b e = rw (le-ltb x y (omega arith), eq-eqb x y e)

row_ends : row_le [] [] ≡ true
unfolding row_le
row_ends = refl

-- rows of one word
pub row_one : (i j : ℕ) → row_le (i ∷ []) (j ∷ []) ≡ leb i j
row_one i j = elim (le_or_lt i j) [
  | inr h ↦ row_more i j [] [] h ∙ sym (lt-leb i j h)
  | inl h ↦ elim (le_or_lt j i) [
    | inr k ↦ row_less i j [] [] k ∙ sym (le-leb i j h)
    | inl k ↦ row_next i j [] [] (omega arith) ∙ row_ends ∙ sym (le-leb i j h)
  ]
]

-- which of the three cases it is, from the answer
row_true : (x y : ℕ) (a b : List ℕ) → row_le (x ∷ a) (y ∷ b) ≡ true → (x < y) ⊎ ((x ≡ y) × (row_le a b ≡ true))
row_true x y a b h = elim (le_or_lt y x) [
  | inr k ↦ inl k
  | inl k ↦ elim (same_or_not x y) [
    | inl e ↦ inr (e, sym (row_next x y a b e) ∙ h)
    | inr n ↦ clash (row_le (x ∷ a) (y ∷ b)) h (row_more x y a b (strict k n))
  ]
]
  where
    strict : y ≤ x → (x ≡ y → ⊥) → y < x
    strict k n = omega arith

row-empty : (b : List ℕ) → row_le [] b ≡ true
unfolding row_le
row-empty b = refl

row-short : (x : ℕ) (a : List ℕ) → row_le (x ∷ a) [] ≡ false
unfolding row_le
row-short x a = refl

row-total : (a b : List ℕ) → row_le a b ≡ false → row_le b a ≡ true
row-total [] b h = clash (row_le [] b) (row-empty b) h
row-total (x ∷ a) [] h = row-empty (x ∷ a)
row-total (x ∷ a) (y ∷ b) h = elim (le_or_lt x y) [
  | inr k ↦ row_less y x b a k
  | inl k ↦ elim (same_or_not x y) [
    | inl e ↦ row_next y x b a (sym e) ∙ row-total a b (sym (row_next x y a b e) ∙ h)
    | inr n ↦ clash (row_le (x ∷ a) (y ∷ b)) (row_less x y a b (omega arith)) h
  ]
]

row-trans : (a b c : List ℕ) → row_le a b ≡ true → row_le b c ≡ true → row_le a c ≡ true
row-trans [] b c h k = row-empty c
row-trans (x ∷ a) [] c h k = clash (row_le (x ∷ a) []) h (row-short x a)
row-trans (x ∷ a) (y ∷ b) [] h k = clash (row_le (y ∷ b) []) k (row-short y b)
row-trans (x ∷ a) (y ∷ b) (z ∷ c) h k = go (row_true x y a b h) (row_true y z b c k) (row-trans a b c)
  where
    go : (x < y) ⊎ ((x ≡ y) × (row_le a b ≡ true)) → (y < z) ⊎ ((y ≡ z) × (row_le b c ≡ true)) → (row_le a b ≡ true → row_le b c ≡ true → row_le a c ≡ true) → row_le (x ∷ a) (z ∷ c) ≡ true
    go (inl p) (inl q) r = row_less x z a c (omega arith)
    go (inl p) (inr q) r = row_less x z a c (omega (arith, q.0))
    go (inr p) (inl q) r = row_less x z a c (omega (arith, p.0))
    go (inr p) (inr q) r = row_next x z a c (p.0 ∙ q.0) ∙ r p.1 q.1

pub row_antisym : (a b : List ℕ) → row_le a b ≡ true → row_le b a ≡ true → a ≡ b
row_antisym [] [] h k = refl
row_antisym [] (y ∷ b) h k = clash (row_le (y ∷ b) []) k (row-short y b)
row_antisym (x ∷ a) [] h k = clash (row_le (x ∷ a) []) h (row-short x a)
row_antisym (x ∷ a) (y ∷ b) h k = go (row_true x y a b h) (row_true y x b a k) (row_antisym a b)
  where
    go : (x < y) ⊎ ((x ≡ y) × (row_le a b ≡ true)) → (y < x) ⊎ ((y ≡ x) × (row_le b a ≡ true)) → (row_le a b ≡ true → row_le b a ≡ true → a ≡ b) → x ∷ a ≡ y ∷ b
    go (inl p) (inl q) r = absurd (omega arith)
    go (inl p) (inr q) r = absurd (omega (arith, q.0))
    go (inr p) (inl q) r = absurd (omega (arith, p.0))
    go (inr p) (inr q) r = cc (p.0, r p.1 q.1)

-- entries by their rows
pub by_rows : {A : Type 0} (row : A → List ℕ) → Order (λ (a b : A). row_le (row a) (row b))
by_rows row = record { total = λ a b. row-total (row a) (row b); trans = λ a b c. row-trans (row a) (row b) (row c) }
