-- Of two items that overlap exactly one is active when the other starts, and exactly one when the other ends; of two that do not, neither. Assumes nothing.
use mathlib.Core.Path.{◌≡◌, refl}
use mathlib.Core.Logic.{◌⊎◌, inl, inr}
use mathlib.Core.Bool.{Bool, true, false, ◌&&◌}
use Prim.Native.Nat.{ℕ, ◌+◌, ◌*◌, ◌≤◌, ◌<◌, min, max}
use native.Mathlib.Omega.{arith}
use lib.Dec.{T, leb, ltb, ltb→lt, lt→ltb, leb→le, le→leb}
use lib.Ieee.Fits.{and_l, and_r, and_i}
use Rattle.laws.specs.Lists.{bit}
use Rattle.laws.proofs.Tests.{le_or_lt}
use Rattle.congestion.specs.Figures.{overlaps}
use Rattle.congestion.specs.Walk.{Item}
use Rattle.congestion.proofs.Moments.{start_key, end_key, active_at, starts-differ, ends-differ}

one_of : (a b o : Bool) → (T a → T o) → (T b → T o) → (T a → T b → ⊥) → (T o → T a ⊎ T b) → bit a + bit b ≡ bit o
one_of true true o f g h k = absurd (h tt tt)
one_of true false true f g h k = refl
one_of true false false f g h k = absurd (f tt)
one_of false true true f g h k = refl
one_of false true false f g h k = absurd (g tt)
one_of false false false f g h k = refl
one_of false false true f g h k = absurd (elim (k tt) [ inl x ↦ x | inr x ↦ x ])

-- the active test of keys p below q, and q no greater than r
of-active : (p q r : ℕ) → T (ltb p q && leb q r) → (p < q) × (q ≤ r)
of-active p q r t = (ltb→lt p q (and_l (ltb p q) (leb q r) t), leb→le q r (and_r (ltb p q) (leb q r) t))

is-active : (p q r : ℕ) → p < q → q ≤ r → T (ltb p q && leb q r)
is-active p q r h k = and_i (ltb p q) (leb q r) (lt→ltb p q h) (le→leb q r k)

-- start a, end b, index x; and u, v, y
module _ (a b x u v y : ℕ) (ab : a < b) (uv : u < v) (xs : x < 4096) (ys : y < 4096) (d : x ≡ y → ⊥) where
  abbrev over : Bool
  over = ltb (max a u) (min b v)

  ends-number : bit (ltb (u * 8192 + 4096 + y) (b * 8192 + x) && leb (b * 8192 + x) (v * 8192 + y)) + bit (ltb (a * 8192 + 4096 + x) (v * 8192 + y) && leb (v * 8192 + y) (b * 8192 + x)) ≡ bit over
  ends-number = one_of (ltb (u * 8192 + 4096 + y) (b * 8192 + x) && leb (b * 8192 + x) (v * 8192 + y)) (ltb (a * 8192 + 4096 + x) (v * 8192 + y) && leb (v * 8192 + y) (b * 8192 + x)) over
      (λ t. let h = of-active (u * 8192 + 4096 + y) (b * 8192 + x) (v * 8192 + y) t in lt→ltb (max a u) (min b v) (first h.0 h.1))
      (λ t. let h = of-active (a * 8192 + 4096 + x) (v * 8192 + y) (b * 8192 + x) t in lt→ltb (max a u) (min b v) (second h.0 h.1))
      (λ s t. let h = of-active (u * 8192 + 4096 + y) (b * 8192 + x) (v * 8192 + y) s in let k = of-active (a * 8192 + 4096 + x) (v * 8192 + y) (b * 8192 + x) t in ends-differ b x v y xs ys d (one h.1 k.1))
      (λ t. either (ltb→lt (max a u) (min b v) t))
    where
      first : u * 8192 + 4096 + y < b * 8192 + x → b * 8192 + x ≤ v * 8192 + y → max a u < min b v
      first h k = omega arith

      second : a * 8192 + 4096 + x < v * 8192 + y → v * 8192 + y ≤ b * 8192 + x → max a u < min b v
      second h k = omega arith

      one : b * 8192 + x ≤ v * 8192 + y → v * 8192 + y ≤ b * 8192 + x → b * 8192 + x ≡ v * 8192 + y
      one h k = omega arith

      either : max a u < min b v → T (ltb (u * 8192 + 4096 + y) (b * 8192 + x) && leb (b * 8192 + x) (v * 8192 + y)) ⊎ T (ltb (a * 8192 + 4096 + x) (v * 8192 + y) && leb (v * 8192 + y) (b * 8192 + x))
      either h = elim (le_or_lt (b * 8192 + x) (v * 8192 + y)) [
        | inl k ↦ inl (is-active (u * 8192 + 4096 + y) (b * 8192 + x) (v * 8192 + y) (omega arith) k)
        | inr k ↦ inr (is-active (a * 8192 + 4096 + x) (v * 8192 + y) (b * 8192 + x) (omega arith) (omega arith))
      ]

  starts-number : bit (ltb (u * 8192 + 4096 + y) (a * 8192 + 4096 + x) && leb (a * 8192 + 4096 + x) (v * 8192 + y)) + bit (ltb (a * 8192 + 4096 + x) (u * 8192 + 4096 + y) && leb (u * 8192 + 4096 + y) (b * 8192 + x)) ≡ bit over
  starts-number = one_of (ltb (u * 8192 + 4096 + y) (a * 8192 + 4096 + x) && leb (a * 8192 + 4096 + x) (v * 8192 + y)) (ltb (a * 8192 + 4096 + x) (u * 8192 + 4096 + y) && leb (u * 8192 + 4096 + y) (b * 8192 + x)) over
      (λ t. let h = of-active (u * 8192 + 4096 + y) (a * 8192 + 4096 + x) (v * 8192 + y) t in lt→ltb (max a u) (min b v) (first h.0 h.1))
      (λ t. let h = of-active (a * 8192 + 4096 + x) (u * 8192 + 4096 + y) (b * 8192 + x) t in lt→ltb (max a u) (min b v) (second h.0 h.1))
      (λ s t. let h = of-active (u * 8192 + 4096 + y) (a * 8192 + 4096 + x) (v * 8192 + y) s in let k = of-active (a * 8192 + 4096 + x) (u * 8192 + 4096 + y) (b * 8192 + x) t in never h.0 k.0)
      (λ t. either (ltb→lt (max a u) (min b v) t))
    where
      first : u * 8192 + 4096 + y < a * 8192 + 4096 + x → a * 8192 + 4096 + x ≤ v * 8192 + y → max a u < min b v
      first h k = omega arith

      second : a * 8192 + 4096 + x < u * 8192 + 4096 + y → u * 8192 + 4096 + y ≤ b * 8192 + x → max a u < min b v
      second h k = omega arith

      never : u * 8192 + 4096 + y < a * 8192 + 4096 + x → a * 8192 + 4096 + x < u * 8192 + 4096 + y → ⊥
      never h k = omega arith

      strict : (m n : ℕ) → m ≤ n → (m ≡ n → ⊥) → m < n
      strict m n p q = omega arith

      either : max a u < min b v → T (ltb (u * 8192 + 4096 + y) (a * 8192 + 4096 + x) && leb (a * 8192 + 4096 + x) (v * 8192 + y)) ⊎ T (ltb (a * 8192 + 4096 + x) (u * 8192 + 4096 + y) && leb (u * 8192 + 4096 + y) (b * 8192 + x))
      either h = elim (le_or_lt (a * 8192 + 4096 + x) (u * 8192 + 4096 + y)) [
        | inr k ↦ inl (is-active (u * 8192 + 4096 + y) (a * 8192 + 4096 + x) (v * 8192 + y) k (omega arith))
        | inl k ↦ inr (is-active (a * 8192 + 4096 + x) (u * 8192 + 4096 + y) (b * 8192 + x) (strict (a * 8192 + 4096 + x) (u * 8192 + 4096 + y) k (starts-differ a x u y xs ys d)) (omega arith))
      ]

module _ (i j : Item) (il : i.wire.start < i.wire.end) (jl : j.wire.start < j.wire.end) (ix : i.index < 4096) (jx : j.index < 4096) (d : i.index ≡ j.index → ⊥) where
  pub ends_once : bit (active_at (end_key i) j) + bit (active_at (end_key j) i) ≡ bit (overlaps i.wire j.wire)
  ends_once = ends-number i.wire.start i.wire.end i.index j.wire.start j.wire.end j.index il jl ix jx d

  pub starts_once : bit (active_at (start_key i) j) + bit (active_at (start_key j) i) ≡ bit (overlaps i.wire j.wire)
  starts_once = starts-number i.wire.start i.wire.end i.index j.wire.start j.wire.end j.index il jl ix jx d
