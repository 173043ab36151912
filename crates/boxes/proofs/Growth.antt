-- A rounded sum with a number above zero is not below its first summand. Assumes nothing.
use mathlib.Core.Path.{◌≡◌, refl, sym, ap, ◌∙◌}
use mathlib.Core.Bool.{Bool, true, false}
use Prim.Native.Nat.{ℕ, zero, suc, ◌+◌, ◌-◌, ◌*◌, ◌^◌, ◌≤◌, ◌<◌}
use native.Mathlib.Nat.{le_refl, le_trans, le_of_eq, lt_of_le_of_lt, mul_assoc, eq_of_mul-eq-mul_right}
use native.Mathlib.Omega.{arith}
use lib.IntN.{ℤ, pos, negsuc}
use lib.Dec.{T}
use lib.Pow.{pow-add, pow_pos}
use lib.Ieee.{Float, nan, inf, fin, Format, low, up, down, neg, add, sub, lt}
use lib.Ieee.Scale.{overflow}
use Rattle.floats.proofs.Rank.{mag, sgn, at, rank, rank_is, Fin, pow_le_back, fits_down, fits_small, fits_turned, mag_zero, mag_exact, fin_lt}
use Rattle.floats.proofs.Rounding.{rnd, rnd_exact, rnd_zero}
use Rattle.floats.proofs.Difference.{shift, shift_up, shift_down, shift_mono, sub_rank}

-- 2 ^ e as a fraction of two powers of two
powers : (e : ℤ) → (a : ℕ) × (b : ℕ) × (up e ≡ 2 ^ a) × (down e ≡ 2 ^ b)
powers (pos k) = (k, 0, refl, refl)
powers (negsuc k) = (0, suc k, refl, refl)

-- the magnitude of a finite float is a value of the format: rounding keeps it
rnd_own : (f : Format) (x : Float) → Fin f x → rnd f (mag f x) ≡ mag f x
rnd_own f nan p = absurd p.1
rnd_own f (inf s) p = absurd p.1
rnd_own f (fin s zero e) p = ap (rnd f) (mag_zero f s e) ∙ rnd_zero f ∙ sym (mag_zero f s e)
rnd_own f (fin s (suc m) e) p =
    let w = powers e in
    let a = w.0 in
    let b = w.1 in
    let h : b ≤ low f = pow_le_back b (low f) (le_trans (le_of_eq (sym w.3)) (fits_down f s m e p.0)) in
    let c = low f - b in
    let k : c + b ≡ low f = omega arith in
    let exact : mag f (fin s (suc m) e) * 2 ^ b ≡ suc m * 2 ^ a * 2 ^ low f = (λ i. mag f (fin s (suc m) e) * sym w.3 i) ∙ mag_exact f s (suc m) e p.0 ∙ (λ i. suc m * w.2 i * 2 ^ low f) in
    let split : suc m * 2 ^ a * 2 ^ low f ≡ suc m * 2 ^ (a + c) * 2 ^ b =
    ap (λ (z : ℕ). suc m * 2 ^ a * 2 ^ z) (sym k) ∙ ap (λ (z : ℕ). suc m * 2 ^ a * z) (pow-add 2 c b) ∙ sym (mul_assoc (suc m * 2 ^ a) (2 ^ c) (2 ^ b)) ∙ ap (λ (z : ℕ). z * 2 ^ b) (mul_assoc (suc m) (2 ^ a) (2 ^ c) ∙ ap (λ (z : ℕ). suc m * z) (sym (pow-add 2 a c))) in
    let is : mag f (fin s (suc m) e) ≡ suc m * 2 ^ (a + c) = eq_of_mul-eq-mul_right (2 ^ b) (pow_pos b) _ _ (exact ∙ split) in
    ap (rnd f) is ∙ rnd_exact f (suc m) (a + c) (fits_small f s m e p.0) (lt_of_le_of_lt (le_of_eq (sym is)) (fin_lt f (fin s (suc m) e) p)) ∙ sym is

-- a finite float minus zero
shift_none : (f : Format) (x : Float) → Fin f x → shift f (rank f x) (overflow f) ≡ rank f x
shift_none f x p = go (sgn x) (overflow f) (mag f x) (rank f x) (rank_is f x) (fin_lt f x p) (rnd_own f x p) (shift_up f (rank f x) (overflow f)) (shift_down f (rank f x) (overflow f))
  where
    go : (s : Bool) (B m r : ℕ) → r ≡ at B s m → m < B → rnd f m ≡ m → (B ≤ r → shift f r B ≡ B + rnd f (r - B)) → (r < B → shift f r B ≡ B - rnd f (B - r)) → shift f r B ≡ r
    go false B m r e h own above under = let d : r - B ≡ m = omega arith in above (omega arith) ∙ ap (λ (z : ℕ). B + rnd f z) d ∙ ap (λ (z : ℕ). B + z) own ∙ sym e
    go true B zero r e h own above under = let d : r - B ≡ 0 = omega arith in above (omega arith) ∙ ap (λ (z : ℕ). B + rnd f z) d ∙ ap (λ (z : ℕ). B + z) own ∙ omega arith
    go true B (suc m) r e h own above under = let d : B - r ≡ suc m = omega arith in under (omega arith) ∙ ap (λ (z : ℕ). B - rnd f z) d ∙ ap (λ (z : ℕ). B - z) own ∙ sym e

-- x + w is x - (-w), and -w is below zero
pub grows : (f : Format) (x w : Float) → Fin f x → Fin f w → T (lt (fin false 0 (pos 0)) w) → rank f x ≤ rank f (add f x w)
unfolding lt sub neg
grows f x nan p q h = absurd q.1
grows f x (inf s) p q h = absurd q.1
grows f x (fin true n d) p q h = absurd h
grows f x (fin false n d) p q h =
    let y = fin true n d in
    let t : Fin f y = (fits_turned f false true n d q.0, tt) in
    let under : (B m r : ℕ) → r ≡ B - m → r ≤ B = λ B m r e. omega arith in
    le_trans (le_of_eq (sym (shift_none f x p)))
    (le_trans (shift_mono f (rank f x) (overflow f) (rank f x) (rank f y) (le_refl (rank f x)) (under (overflow f) (mag f y) (rank f y) (unfold sgn in rank_is f y)))
    (le_of_eq (sym (sub_rank f x y p t))))
