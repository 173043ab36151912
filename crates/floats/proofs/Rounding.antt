-- Rounding: the sign and the magnitude of a rounded number. The rounded magnitude grows with the number, and is exact where the format holds it. Assumes nothing.
use Rattle.std.proofs.Common.{◌≡◌, ℕ, zero, suc, ◌+◌, ◌*◌, ◌^◌, ◌<◌, ◌≤◌, Bool, true, false, cond, not, T, ltb, sym, refl, ap, ◌∙◌, subst, le_trans, le_of_eq, lt_of_le_of_lt, mul-le-mul_right, zero-mul, mul-one, mul_right_comm, arith, pow_pos}
use native.Mathlib.Nat.{eq_of_mul-eq-mul_right}
use lib.Pow.{pow-lt}
use lib.Ieee.{Float, nan, inf, fin, Format, prec, emax, low, up, down, odd, units, round, fits, is_nan}
use lib.Ieee.Fits.{down_pos, round-fits, two, two-le_pos}
use lib.Ieee.Exact.{HasValue, round_exact}
use lib.Ieee.Order.{round_mono}
use lib.Ieee.Scale.{overflow}
use Rattle.floats.proofs.Rank.{mag, sgn, at, rank, Num, mag_exact, over_pos, le→}

-- ---- the sign and the magnitude of what `round` returns
abbrev Shape : Format → Bool → Float → Float → Type 0
Shape f s x y = (sgn x ≡ s) × (mag f x ≡ mag f y) × T (not (is_nan x))

odd_shape : (f : Format) (d : ℕ) (s : Bool) (q k l : ℕ) → Shape f s (odd d s q k l) (odd d false q k l)
unfolding odd mag sgn is_nan
odd_shape f d s zero k l = (refl, refl, tt)
odd_shape f d s (suc q) k l = (refl, refl, tt)

units_shape : (f : Format) (s : Bool) (q k : ℕ) → Shape f s (units f s q k) (units f false q k)
unfolding units
units_shape f s q k = go (ltb (q * 2 ^ k) (2 ^ (low f + suc (emax f))))
  where
    go : (b : Bool) → Shape f s (cond b (odd (suc (prec f)) s q k (low f)) (inf s)) (cond b (odd (suc (prec f)) false q k (low f)) (inf false))
    go true = odd_shape f (suc (prec f)) s q k (low f)
    go false = unfold mag sgn is_nan in (refl, refl, tt)

pub round_shape : (f : Format) (s : Bool) (a c : ℕ) → Shape f s (round f s a c) (round f false a c)
unfolding round
round_shape f s a c = units_shape f s _ _

-- n times the smallest positive value, rounded, as a multiple of it
unfoldable pub rnd : Format → ℕ → ℕ
rnd f n = mag f (round f false n (2 ^ low f))

pub round_num : (f : Format) (s : Bool) (a c : ℕ) → Num f (round f s a c)
round_num f s a c = (round-fits f s a c, (round_shape f s a c).2)

round_rank : (f : Format) (s : Bool) (n : ℕ) → rank f (round f s n (2 ^ low f)) ≡ at (overflow f) s (rnd f n)
unfolding rank rnd
round_rank f s n = let h = round_shape f s n (2 ^ low f) in ap (λ (z : Bool). at (overflow f) z (mag f (round f s n (2 ^ low f)))) h.0 ∙ ap (λ (z : ℕ). at (overflow f) s z) h.1

-- ---- rounding is monotone, and exact on what the format holds
pub rnd_mono : (f : Format) (m n : ℕ) → m ≤ n → rnd f m ≤ rnd f n
rnd_mono f m n h =
    let l = 2 ^ low f in
    let x = round f false m l in
    let y = round f false n l in
    let k : rank f x ≤ rank f y = le→ f x y (round_num f false m l) (round_num f false n l) (round_mono f m l n l (pow_pos (low f)) (pow_pos (low f)) (mul-le-mul_right l h)) in
    go (overflow f) (rank f x) (rank f y) (rnd f m) (rnd f n) (round_rank f false m) (round_rank f false n) k
  where
    go : (B x y a b : ℕ) → x ≡ B + a → y ≡ B + b → x ≤ y → a ≤ b
    go B x y a b p q h = omega arith

pub val→mag : (f : Format) (x : Float) (s : Bool) (a c : ℕ) → T (fits f x) → HasValue x s a c → mag f x * c ≡ a * 2 ^ low f
val→mag f nan s a c h v = absurd v
val→mag f (inf t) s a c h v = absurd v
val→mag f (fin t m e) s a c h v =
    let M = mag f (fin t m e) in
    let l = 2 ^ low f in
    eq_of_mul-eq-mul_right (down e) (down_pos e) (M * c) (a * l)
    (mul_right_comm M c (down e) ∙ ap (λ (z : ℕ). z * c) (mag_exact f t m e h) ∙ mul_right_comm (m * up e) l c ∙ ap (λ (z : ℕ). z * l) v.1 ∙ mul_right_comm a (down e) l)

pub rnd_exact : (f : Format) (q j : ℕ) → q < 2 ^ prec f → q * 2 ^ j < overflow f → rnd f (q * 2 ^ j) ≡ q * 2 ^ j
unfolding rnd
rnd_exact f q j s t =
    let l = 2 ^ low f in
    let n = q * 2 ^ j in
    let x = round f false n l in
    eq_of_mul-eq-mul_right l (pow_pos (low f)) (mag f x) n
    (val→mag f x false n l (round-fits f false n l) (round_exact f false n l q j (pow_pos (low f)) s t refl))

pub rnd_zero : (f : Format) → rnd f 0 ≡ 0
rnd_zero f = subst (λ (z : ℕ). rnd f z ≡ z) (zero-mul 1) (rnd_exact f 0 0 (pow_pos (prec f)) (lt_of_le_of_lt (le_of_eq (zero-mul 1)) (over_pos f)))

rnd_one : (f : Format) → rnd f 1 ≡ 1
rnd_one f = subst (λ (z : ℕ). rnd f z ≡ z) (mul-one 1) (rnd_exact f 1 0 (pow-lt (two-le_pos (prec f) (two f))) (lt_of_le_of_lt (le_of_eq (mul-one 1)) (pow-lt (go (low f) (emax f)))))
  where
    go : (a b : ℕ) → 0 < a + suc b
    go a b = omega arith

pub rnd_pos : (f : Format) (n : ℕ) → 0 < n → 0 < rnd f n
rnd_pos f n h = le_trans (le_of_eq (sym (rnd_one f))) (rnd_mono f 1 n h)
