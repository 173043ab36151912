-- The product of a float with a power of two is exact, and so is a whole number as a float. Assumes nothing.
use Rattle.std.proofs.Common.{◌≡◌, ℕ, zero, suc, ◌+◌, ◌-◌, ◌*◌, ◌^◌, ◌<◌, ◌≤◌, Bool, true, false, T, pos, negsuc, sym, refl, ap, ◌∙◌, le_of_eq, lt_of_le_of_lt, zero-lt-suc, mul_assoc, mul-pos, one-mul, mul-one, mul_right_comm, arith, pow_pos, pow-add}
use native.Mathlib.Nat.{eq_of_mul-eq-mul_right}
use lib.Ieee.{Float, nan, inf, fin, Format, prec, low, up, down, unlike, round, mul, is_nan}
use lib.Ieee.Fits.{down_pos, round-fits}
use lib.Ieee.Digits.{back}
use lib.Ieee.Back.{round_whole}
use lib.Ieee.Scale.{round_same, finite, overflow}
use Rattle.floats.proofs.Rank.{mag, sgn, Num, Fin, mag_zero, fits_small, fits_down, pow_le_back, mag_exact}
use Rattle.floats.proofs.Rounding.{rnd, rnd_exact, round_shape, round_num, val→mag}

-- ---- the digits of a finite value
digits : (f : Format) (x : Float) → Fin f x → (q : ℕ) × (i : ℕ) × (q < 2 ^ prec f) × (mag f x ≡ q * 2 ^ i)
digits f nan p = absurd p.1
digits f (inf s) p = absurd p.1
digits f (fin s zero e) p = (0, 0, pow_pos (prec f), mag_zero f s e)
digits f (fin s (suc m) (pos k)) p = (suc m, k + low f, fits_small f s m (pos k) p.0, eq_of_mul-eq-mul_right 1 (zero-lt-suc 0) (mag f (fin s (suc m) (pos k))) (suc m * 2 ^ (k + low f)) (mag_exact f s (suc m) (pos k) p.0 ∙ mul_assoc (suc m) (2 ^ k) (2 ^ low f) ∙ ap (λ (z : ℕ). suc m * z) (sym (pow-add 2 k (low f))) ∙ sym (mul-one (suc m * 2 ^ (k + low f)))))
digits f (fin s (suc m) (negsuc k)) p =
    let i = low f - suc k in (
      suc m,
      i,
      fits_small f s m (negsuc k) p.0,
      eq_of_mul-eq-mul_right (2 ^ suc k) (pow_pos (suc k)) (mag f (fin s (suc m) (negsuc k))) (suc m * 2 ^ i)
          (mag_exact f s (suc m) (negsuc k) p.0 ∙ ap (λ (z : ℕ). z * 2 ^ low f) (mul-one (suc m)) ∙ ap (λ (z : ℕ). suc m * 2 ^ z) (sym (back (low f) (suc k) (pow_le_back (suc k) (low f) (fits_down f s m (negsuc k) p.0)))) ∙ ap (λ (z : ℕ). suc m * z) (pow-add 2 i (suc k)) ∙ sym (mul_assoc (suc m) (2 ^ i) (2 ^ suc k))),
    )

-- ---- `round` at a fraction that is n times the smallest positive value
round_at : (f : Format) (s : Bool) (a c n : ℕ) → 0 < c → a * 2 ^ low f ≡ n * c → (sgn (round f s a c) ≡ s) × (mag f (round f s a c) ≡ rnd f n)
unfolding rnd
round_at f s a c n C h =
    let l = 2 ^ low f in
    ((round_shape f s a c).0, ap (λ (z : Float). mag f z) (round_same f s a c n l C (pow_pos (low f)) h) ∙ (round_shape f s n l).1)

-- ---- times 2 ^ k
pub mul_pow : (f : Format) (x : Float) (k : ℕ) → Fin f x → mag f x * 2 ^ k < overflow f
    → (sgn (mul f x (fin false 1 (pos k))) ≡ sgn x) × (mag f (mul f x (fin false 1 (pos k))) ≡ mag f x * 2 ^ k)
unfolding mul sgn
mul_pow f nan k p h = absurd p.1
mul_pow f (inf s) k p h = absurd p.1
mul_pow f (fin s m e) k p h =
    let M = mag f (fin s m e) in
    let d = digits f (fin s m e) p in
    let q = d.0 in
    let i = d.1 in
    let l = 2 ^ low f in
    let w : M * 2 ^ k ≡ q * 2 ^ (i + k) = ap (λ (z : ℕ). z * 2 ^ k) d.3 ∙ mul_assoc q (2 ^ i) (2 ^ k) ∙ ap (λ (z : ℕ). q * z) (sym (pow-add 2 i k)) in
    let a : m * up e * (1 * 2 ^ k) * l ≡ M * 2 ^ k * (down e * 1) =
    mul_right_comm (m * up e) (1 * 2 ^ k) l ∙ ap (λ (z : ℕ). z * (1 * 2 ^ k)) (sym (mag_exact f s m e p.0)) ∙ ap (λ (z : ℕ). M * down e * z) (one-mul (2 ^ k)) ∙ mul_right_comm M (down e) (2 ^ k) ∙ ap (λ (z : ℕ). M * 2 ^ k * z) (sym (mul-one (down e))) in
    let r = round_at f (unlike s false) (m * up e * (1 * 2 ^ k)) (down e * 1) (M * 2 ^ k) (mul-pos (down_pos e) (zero-lt-suc 0)) a in
    (r.0 ∙ plain s, r.1 ∙ ap (λ (z : ℕ). rnd f z) w ∙ rnd_exact f q (i + k) d.2 (lt_of_le_of_lt (le_of_eq (sym w)) h) ∙ sym w)
  where
    plain : (s : Bool) → unlike s false ≡ s
    plain true = refl
    plain false = refl

-- ---- a number whose magnitude is below `overflow` is finite
pub finite_of_mag : (f : Format) (x : Float) → Num f x → mag f x < overflow f → T (finite x)
unfolding mag is_nan
finite_of_mag f nan p h = absurd p.1
finite_of_mag f (inf s) p h = absurd (omega arith)
finite_of_mag f (fin s m e) p h = tt

mul_num : (f : Format) (x : Float) (k : ℕ) → Fin f x → Num f (mul f x (fin false 1 (pos k)))
unfolding mul
mul_num f nan k p = absurd p.1
mul_num f (inf s) k p = absurd p.1
mul_num f (fin s m e) k p = round_num f (unlike s false) (m * up e * (1 * 2 ^ k)) (down e * 1)

pub mul_fin : (f : Format) (x : Float) (k : ℕ) → Fin f x → mag f x * 2 ^ k < overflow f → Fin f (mul f x (fin false 1 (pos k)))
mul_fin f x k p h = let n = mul_num f x k p in (n.0, finite_of_mag f (mul f x (fin false 1 (pos k))) n (lt_of_le_of_lt (le_of_eq (mul_pow f x k p h).1) h))

-- ---- a whole number n ≤ 2 ^ prec as a float has the magnitude n * 2 ^ low
pub int_mag : (f : Format) (s : Bool) (n : ℕ) → n ≤ 2 ^ prec f → (sgn (round f s n 1) ≡ s) × (mag f (round f s n 1) ≡ n * 2 ^ low f)
int_mag f s n h = ((round_shape f s n 1).0, sym (mul-one (mag f (round f s n 1))) ∙ val→mag f (round f s n 1) s n 1 (round-fits f s n 1) (round_whole f s n h))
