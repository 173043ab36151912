-- The bits of a number: one set, one cleared, those below an index, the greatest one. Assumes nothing.
use mathlib.Core.Path.{◌≡◌, sym, ap, ◌∙◌, subst}
use mathlib.Core.Logic.{inl, inr}
use mathlib.Core.Bool.{true, false}
use Prim.Native.Nat.{ℕ, suc, ◌+◌, ◌-◌, ◌*◌, ◌/◌, ◌%◌, ◌^◌, ◌≤◌, ◌<◌}
use native.Mathlib.Nat.{add-div_right, add-mul-div_right, div-div-eq-div-mul, div-eq_of_lt, div-lt_iff_lt-mul, le-div_iff_mul-le, mod-eq_of_lt, mod-eq-sub-mod, one-mul, pow-succ'}
use native.Mathlib.Numerals.{add-one}
use native.Mathlib.Omega.{arith}
use borrow.Author.Tests.{eq-eqb, ne_eqb, eqb-true, eqb-false}
use lib.Count.{count_leading_zeros, leading_top}
use lib.Dec.{eqb}
use lib.Pow.{pow_pos, pow_mono, pow-add, shr_lt, shr-shr, shl_exact, field, mod-mod-pow}
use Rattle.laws.proofs.Tests.{le_or_lt}
use Rattle.bitset.specs.Inner.Members.{bit_at}

-- ---- x with 2 ^ k added, where bit k is not set
module _ (x k : ℕ) where
  abbrev up : (x + 2 ^ k) / 2 ^ k ≡ x / 2 ^ k + 1
  up = add-div_right x (pow_pos k)

  -- the digits above k
  above : (i : ℕ) → x / 2 ^ (k + suc i) ≡ x / 2 ^ k / 2 / 2 ^ i
  above i = sym (shr-shr x k (suc i)) ∙ ap (λ (z : ℕ). x / 2 ^ k / z) (pow-succ' 2 i) ∙ sym (div-div-eq-div-mul (x / 2 ^ k) 2 (2 ^ i))

  -- a digit below k
  below : (i j : ℕ) → k ≡ suc i + j → (x + 2 ^ k) / 2 ^ j % 2 ≡ x / 2 ^ j % 2
  below i j e =
      let p : 2 ^ k ≡ 2 ^ suc i * 2 ^ j = ap (λ (z : ℕ). 2 ^ z) e ∙ pow-add 2 (suc i) j in
      let d : (x + 2 ^ k) / 2 ^ j ≡ x / 2 ^ j + 2 ^ suc i = ap (λ (z : ℕ). (x + z) / 2 ^ j) p ∙ add-mul-div_right x (2 ^ suc i) (pow_pos j) in
      omega (arith, pow-succ' 2 i)

module _ (x k : ℕ) (off : x / 2 ^ k % 2 ≡ 0) where
  more_here : (x + 2 ^ k) / 2 ^ k % 2 ≡ 1
  more_here = omega (arith, up x k)

  more_other : (j : ℕ) → (j ≡ k → ⊥) → (x + 2 ^ k) / 2 ^ j % 2 ≡ x / 2 ^ j % 2
  more_other j n = elim (le_or_lt j k) [
    | inl h ↦ below x k (k - suc j) j (omega arith)
    | inr h ↦
        let half : (x + 2 ^ k) / 2 ^ k / 2 ≡ x / 2 ^ k / 2 = omega (arith, up x k) in
        let e : j ≡ k + suc (j - suc k) = omega arith in
        rw e (ap (λ (z : ℕ). z % 2) (above (x + 2 ^ k) k (j - suc k) ∙ ap (λ (z : ℕ). z / 2 ^ (j - suc k)) half ∙ sym (above x k (j - suc k))))
  ]

  -- there is no carry, so the sum has no more digits
  pub more_fits : (w : ℕ) → x < 2 ^ w → k < w → x + 2 ^ k < 2 ^ w
  more_fits w h l =
      let i = w - suc k in
      let e : w ≡ suc i + k = omega arith in
      let q : x / 2 ^ k < 2 ^ suc i = shr_lt (suc i) k (subst (λ (z : ℕ). x < 2 ^ z) e h) in
      let r : (x + 2 ^ k) / 2 ^ k < 2 ^ suc i = omega (arith, up x k, pow-succ' 2 i) in
      let p : 2 ^ w ≡ 2 ^ suc i * 2 ^ k = ap (λ (z : ℕ). 2 ^ z) e ∙ pow-add 2 (suc i) k in
      subst (λ (z : ℕ). x + 2 ^ k < z) (sym p) ((div-lt_iff_lt-mul (pow_pos k)).0 r)

-- ---- x with 2 ^ k subtracted, where bit k is set
module _ (x k : ℕ) (on : x / 2 ^ k % 2 ≡ 1) where
  pub power_le : 2 ^ k ≤ x
  power_le = let h : 1 * 2 ^ k ≤ x = (le-div_iff_mul-le (pow_pos k)).0 (omega arith) in omega arith

  abbrev back : (x - 2 ^ k) + 2 ^ k ≡ x
  back = omega (arith, power_le)

  less_here : (x - 2 ^ k) / 2 ^ k % 2 ≡ 0
  less_here = omega (arith, up (x - 2 ^ k) k, ap (λ (z : ℕ). z / 2 ^ k) back)

  less_other : (j : ℕ) → (j ≡ k → ⊥) → (x - 2 ^ k) / 2 ^ j % 2 ≡ x / 2 ^ j % 2
  less_other j n = sym (more_other (x - 2 ^ k) k less_here j n) ∙ ap (λ (z : ℕ). z / 2 ^ j % 2) back

-- ---- the digits below b are kept by % 2 ^ b
cut_keeps : (x b k : ℕ) → k < b → x % 2 ^ b / 2 ^ k % 2 ≡ x / 2 ^ k % 2
cut_keeps x b k h =
    let i = b - suc k in
    let e : b ≡ (i + 1) + k = omega arith in
    rw e (ap (λ (z : ℕ). z % 2) (field x (i + 1) k) ∙ mod-mod-pow (x / 2 ^ k) i 1)

-- ---- as tests
pub bit-on : (x k : ℕ) → x / 2 ^ k % 2 ≡ 1 → bit_at x k ≡ true
unfolding bit_at
bit-on x k e = eq-eqb (x / 2 ^ k % 2) 1 e

pub bit_off : (x k : ℕ) → x / 2 ^ k % 2 ≡ 0 → bit_at x k ≡ false
unfolding bit_at
bit_off x k e = ne_eqb (x / 2 ^ k % 2) 1 (λ f. omega arith)

on_bit : (x k : ℕ) → bit_at x k ≡ true → x / 2 ^ k % 2 ≡ 1
unfolding bit_at
on_bit x k e = eqb-true (x / 2 ^ k % 2) 1 e

off_bit : (x k : ℕ) → bit_at x k ≡ false → x / 2 ^ k % 2 ≡ 0
unfolding bit_at
off_bit x k e = let n = eqb-false (x / 2 ^ k % 2) 1 e in omega arith

bit-same : (x y k : ℕ) → x / 2 ^ k % 2 ≡ y / 2 ^ k % 2 → bit_at x k ≡ bit_at y k
unfolding bit_at
bit-same x y k e = ap (λ (z : ℕ). eqb z 1) e

module _ (x k : ℕ) (off : bit_at x k ≡ false) where
  pub bit-set : bit_at (x + 2 ^ k) k ≡ true
  bit-set = bit-on (x + 2 ^ k) k (more_here x k (off_bit x k off))

  pub bit-set-other : (j : ℕ) → (j ≡ k → ⊥) → bit_at (x + 2 ^ k) j ≡ bit_at x j
  bit-set-other j n = bit-same (x + 2 ^ k) x j (more_other x k (off_bit x k off) j n)

module _ (x k : ℕ) (on : bit_at x k ≡ true) where
  pub bit_clear : bit_at (x - 2 ^ k) k ≡ false
  bit_clear = bit_off (x - 2 ^ k) k (less_here x k (on_bit x k on))

  pub bit_clear_other : (j : ℕ) → (j ≡ k → ⊥) → bit_at (x - 2 ^ k) j ≡ bit_at x j
  bit_clear_other j n = bit-same (x - 2 ^ k) x j (less_other x k (on_bit x k on) j n)

-- the bits below b are kept by % 2 ^ b
pub bit_cut : (x b k : ℕ) → k < b → bit_at (x % 2 ^ b) k ≡ bit_at x k
bit_cut x b k h = bit-same (x % 2 ^ b) x k (cut_keeps x b k h)

-- no bit is set from a number's length on
pub bit_high : (x b k : ℕ) → x < 2 ^ b → b ≤ k → bit_at x k ≡ false
bit_high x b k h l =
    let g : x < 2 ^ k = omega (arith, pow_mono l) in
    bit_off x k (omega (arith, div-eq_of_lt g))

pub bit-zero : (k : ℕ) → bit_at 0 k ≡ false
bit-zero k = bit_high 0 0 k (omega arith) (omega arith)

-- ---- the greatest bit, t
module _ (x t : ℕ) (least : 2 ^ t ≤ x) (most : x < 2 ^ (t + 1)) where
  pub top_on : bit_at x t ≡ true
  top_on =
      let twice : 2 ^ (t + 1) ≡ 2 * 2 ^ t = ap (λ (z : ℕ). 2 ^ z) (add-one t) ∙ pow-succ' 2 t in
      let one : 1 ≤ x / 2 ^ t = (le-div_iff_mul-le (pow_pos t)).1 (omega arith) in
      let two : x / 2 ^ t < 2 = (div-lt_iff_lt-mul (pow_pos t)).1 (omega arith) in
      bit-on x t (omega arith)

  pub top_last : (k : ℕ) → t < k → bit_at x k ≡ false
  top_last k h = bit_high x (t + 1) k most (omega arith)

  pub top_below : (b : ℕ) → x < 2 ^ b → t < b
  top_below b h = elim (le_or_lt b t) [ inl l ↦ absurd (omega (arith, pow_mono l)) | inr l ↦ l ]

  -- the bits below it
  pub cut_top : x % 2 ^ t ≡ x - 2 ^ t
  cut_top =
      let twice : 2 ^ (t + 1) ≡ 2 * 2 ^ t = ap (λ (z : ℕ). 2 ^ z) (add-one t) ∙ pow-succ' 2 t in
      let less : x - 2 ^ t < 2 ^ t = omega arith in
      mod-eq-sub-mod {n = x} {m = 2 ^ t} least ∙ mod-eq_of_lt less

pub top_place : (x : ℕ) → 0 < x → x < 2 ^ 64 → (2 ^ (63 - count_leading_zeros 64 x) ≤ x) × (x < 2 ^ ((63 - count_leading_zeros 64 x) + 1))
top_place x p h =
    let g = leading_top 64 x p h in
    let e : 63 - count_leading_zeros 64 x ≡ g.0 = omega (arith, g.1) in
    rw (e, add-one g.0) (g.2, g.3)

pub top_room : (x : ℕ) → 0 < x → x < 2 ^ 64 → count_leading_zeros 64 x ≤ 63
top_room x p h = let g = leading_top 64 x p h in omega (arith, g.1)

-- ---- 1 << k
pub shift_one : (w k : ℕ) → k < w → 1 * 2 ^ k % 2 ^ w ≡ 2 ^ k
shift_one w k h = shl_exact {a = 1} 1 k w (omega arith) (omega arith) ∙ one-mul (2 ^ k)
