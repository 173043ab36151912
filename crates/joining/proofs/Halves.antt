-- A line of points: the numbers in halves of the smallest positive binary64 value. So what is said of every line is said of something; the real line is another. Assumes nothing.
use mathlib.Core.Logic.{inl, inr}
use Prim.Native.Nat.{ℕ, ◌+◌, ◌*◌, ◌≤◌, ◌<◌}
use native.Mathlib.Nat.{le_trans, le_of_lt}
use native.Mathlib.Omega.{arith}
use lib.Ieee.{binary64, lt, le}
use Rattle.laws.proofs.Tests.{of_true, le_or_lt}
use Rattle.floats.proofs.Rank.{rank, fin_num, le→, lt→}
use Rattle.joining.specs.Points.{NumberLine}

pub halves : NumberLine
halves = record {
  Point = ℕ;
  up_to = λ p q. p ≤ q;
  total = λ p q. elim (le_or_lt p q) [ inl h ↦ inl h | inr h ↦ inr (le_of_lt h) ];
  trans = λ p q r h k. le_trans h k;
  at = λ x. 2 * rank binary64 x;
  keeps = λ x y p q h. twice (rank binary64 x) (rank binary64 y) (le→ binary64 x y (fin_num binary64 x p) (fin_num binary64 y q) (of_true (le x y) h));
  between = λ x y p q h. odd (rank binary64 x) (rank binary64 y) (lt→ binary64 x y (fin_num binary64 x p) (fin_num binary64 y q) (of_true (lt x y) h));
}
  where
    twice : (m n : ℕ) → m ≤ n → 2 * m ≤ 2 * n
    twice m n h = omega arith

    odd : (m n : ℕ) → m < n → (p : ℕ) × (p ≤ 2 * m → ⊥) × (2 * n ≤ p → ⊥)
    odd m n h = (2 * m + 1, λ k. omega arith, λ k. omega arith)
