-- Rows that begin with a part of one length, as those of segments begin with the row of their line: these parts decide, or else what follows them. Assumes nothing.
use mathlib.Core.Path.{◌≡◌, refl, sym, ◌∙◌}
use mathlib.Core.Logic.{◌⊎◌, inl, inr}
use mathlib.Core.Bool.{true, false}
use mathlib.Core.List.{List, [], ◌∷◌, ◌++◌}
use Prim.Native.Nat.{ℕ, ◌≤◌, ◌<◌}
use native.Mathlib.Omega.{arith}
use lib.Dec.{leb}
use lib.ListN.{length}
use borrow.Author.Tests.{leb-true, leb-false}
use Rattle.laws.specs.Rows.{row_le}
use Rattle.laws.proofs.Tests.{clash, le_or_lt, same_or_not}
use Rattle.laws.proofs.RowLaws.{row_less, row_more, row_next, row_one}

-- whatever follows, a row that begins with t comes before one that begins with u, and not after it
abbrev pub Under : List ℕ → List ℕ → Type 0
Under t u = (a b : List ℕ) → (row_le (t ++ a) (u ++ b) ≡ true) × (row_le (u ++ b) (t ++ a) ≡ false)

pub lead : (t u a b : List ℕ) → length t ≡ length u → row_le (t ++ a) (u ++ b) ≡ true → ((t ≡ u) × (row_le a b ≡ true)) ⊎ Under t u
lead [] [] a b e h = inl (refl, h)
lead [] (y ∷ u) a b e h = absurd (omega arith)
lead (x ∷ t) [] a b e h = absurd (omega arith)
lead (x ∷ t) (y ∷ u) a b e h = elim (le_or_lt y x) [
  | inr k ↦ inr (λ c d. (row_less x y (t ++ c) (u ++ d) k, row_more y x (u ++ d) (t ++ c) k))
  | inl k ↦ elim (same_or_not x y) [
    | inl s ↦ next s (lead t u a b (omega arith) (sym (row_next x y (t ++ a) (u ++ b) s) ∙ h))
    | inr n ↦ clash (row_le (x ∷ t ++ a) (y ∷ u ++ b)) h (row_more x y (t ++ a) (u ++ b) (strict k n))
  ]
]
  where
    strict : y ≤ x → (x ≡ y → ⊥) → y < x
    strict k n = omega arith

    next : x ≡ y → ((t ≡ u) × (row_le a b ≡ true)) ⊎ Under t u → ((x ∷ t ≡ y ∷ u) × (row_le a b ≡ true)) ⊎ Under (x ∷ t) (y ∷ u)
    next s (inl q) = inl (cc (s, q.0), q.1)
    next s (inr q) = inr (λ c d. (row_next x y (t ++ c) (u ++ d) s ∙ (q c d).0, row_next y x (u ++ d) (t ++ c) (sym s) ∙ (q c d).1))

-- on one line the words after it decide
pub same_lead : (t a b : List ℕ) → row_le (t ++ a) (t ++ b) ≡ row_le a b
same_lead [] a b = refl
same_lead (x ∷ t) a b = row_next x x (t ++ a) (t ++ b) refl ∙ same_lead t a b

pub on_one : (t u : List ℕ) (x y : ℕ) → t ≡ u → row_le (t ++ (x ∷ [])) (u ++ (y ∷ [])) ≡ leb x y
on_one t u x y e = rw e (same_lead u (x ∷ []) (y ∷ []) ∙ row_one x y)

pub one_up : (t u : List ℕ) (x y : ℕ) → t ≡ u → row_le (t ++ (x ∷ [])) (u ++ (y ∷ [])) ≡ true → x ≤ y
one_up t u x y e h = leb-true x y (sym (on_one t u x y e) ∙ h)

pub one-above : (t u : List ℕ) (x y : ℕ) → t ≡ u → row_le (t ++ (x ∷ [])) (u ++ (y ∷ [])) ≡ false → y < x
one-above t u x y e h = leb-false x y (sym (on_one t u x y e) ∙ h)
