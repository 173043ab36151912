-- `canonical_zero` and `abs_of`: what they keep, and what comparisons with 0.0 say about them. Assumes nothing.
use Rattle.std.proofs.Common.{◌≡◌, ℕ, zero, suc, ◌+◌, ◌*◌, ◌<◌, Bool, true, false, ◌||◌, T, eqb, ltb, ◌⊎◌, ℤ, pos, sym, refl, ap, ◌∙◌, inl, inr, zero-lt-suc, mul-pos, zero-mul, mul-one, arith, eqb→eq, ltb→lt, lt→ltb}
use mathlib.Core.Bool.{beq}
use lib.Ieee.{Float, nan, inf, fin, Format, up, down, neg, lt, eq, fits, is_nan}
use lib.Ieee.Fits.{and_l, and_i, eq→eqb, up_pos}
use Rattle.laws.proofs.Tests.{clash, is_true, is_false, of_true, or_right}
use Rattle.floats.specs.Values.{plus_zero, canonical_zero, abs_of}
use Rattle.floats.proofs.Rank.{sgn, rank, Num, Fin, mag_zero, fits_turned, zero_num, zero_rank}
use Rattle.floats.proofs.Bits.{Zero, zero_one, rank_one}

-- ---- a zero that fits is written in one way for each sign
zero-written : (f : Format) (s : Bool) (e : ℤ) → T (fits f (fin s 0 e)) → fin s 0 e ≡ fin s 0 (pos 0)
unfolding sgn is_nan
zero-written f s e h = zero_one f (fin s 0 e) (h, tt) (mag_zero f s e)

-- ---- comparison with +0, for every float
eq-zero : (s : Bool) (e : ℤ) → eq (fin s 0 e) plus_zero ≡ true
unfolding eq
eq-zero s e =
    let a : 0 * up e * 1 ≡ 0 = mul-one (0 * up e) ∙ zero-mul (up e) in
    let z : 0 * 1 * down e ≡ 0 = zero-mul (down e) in
    is_true (eq (fin s 0 e) plus_zero)
    (and_i (eqb (0 * up e * 1) (0 * 1 * down e)) (beq s false || eqb (0 * up e * 1) 0) (eq→eqb (a ∙ sym z)) (of_true (beq s false || eqb (0 * up e * 1) 0) (or_right (beq s false) (eqb (0 * up e * 1) 0) (is_true (eqb (0 * up e * 1) 0) (eq→eqb a)))))

above_zero : (m : ℕ) (e : ℤ) → 0 * 1 * down e < suc m * up e * 1
above_zero m e = omega (arith, zero-mul (down e), mul-one (suc m * up e), mul-pos (zero-lt-suc m) (up_pos e))

ne_zero : (s : Bool) (m : ℕ) (e : ℤ) → eq (fin s (suc m) e) plus_zero ≡ false
unfolding eq
ne_zero s m e = is_false (eq (fin s (suc m) e) plus_zero) (λ t. let h : suc m * up e * 1 ≡ 0 * 1 * down e = eqb→eq (suc m * up e * 1) (0 * 1 * down e) (and_l (eqb (suc m * up e * 1) (0 * 1 * down e)) (beq s false || eqb (suc m * up e * 1) 0) t) in omega (arith, above_zero m e))

not_below_zero : (m : ℕ) (e : ℤ) → lt (fin false m e) plus_zero ≡ false
unfolding lt
not_below_zero m e = is_false (ltb (m * up e * 1) (0 * 1 * down e)) (λ t. omega (arith, zero-mul (down e), ltb→lt (m * up e * 1) (0 * 1 * down e) t))

below-zero : (m : ℕ) (e : ℤ) → lt (fin true (suc m) e) plus_zero ≡ true
unfolding lt
below-zero m e = is_true (ltb 0 (suc m * up e * 1 + 0 * 1 * down e)) (lt→ltb 0 (suc m * up e * 1 + 0 * 1 * down e) (omega (arith, above_zero m e)))

-- ---- `canonical_zero` is what the test selects
pub canonical-zero : (x : Float) → eq x plus_zero ≡ true → plus_zero ≡ canonical_zero x
unfolding canonical_zero eq
canonical-zero nan h = clash false h refl
canonical-zero (inf s) h = clash false h refl
canonical-zero (fin s zero e) h = refl
canonical-zero (fin s (suc m) e) h = clash (eq (fin s (suc m) e) plus_zero) h (ne_zero s m e)

pub canonical_other : (x : Float) → eq x plus_zero ≡ false → x ≡ canonical_zero x
unfolding canonical_zero
canonical_other nan h = refl
canonical_other (inf s) h = refl
canonical_other (fin s zero e) h = clash (eq (fin s 0 e) plus_zero) (eq-zero s e) h
canonical_other (fin s (suc m) e) h = refl

-- ---- and so is `abs_of`
pub abs-below : (x : Float) → lt x plus_zero ≡ true → neg x ≡ abs_of x
unfolding abs_of neg lt
abs-below nan h = refl
abs-below (inf true) h = refl
abs-below (inf false) h = clash false h refl
abs-below (fin true m e) h = refl
abs-below (fin false m e) h = clash (lt (fin false m e) plus_zero) h (not_below_zero m e)

pub abs-other : (f : Format) (x : Float) → T (fits f x) → lt x plus_zero ≡ false → canonical_zero x ≡ abs_of x
unfolding abs_of canonical_zero lt
abs-other f nan p h = refl
abs-other f (inf true) p h = clash true refl h
abs-other f (inf false) p h = refl
abs-other f (fin s zero e) p h = sym (zero-written f false e (fits_turned f s false 0 e p))
abs-other f (fin true (suc m) e) p h = clash (lt (fin true (suc m) e) plus_zero) (below-zero m e) h
abs-other f (fin false (suc m) e) p h = refl

-- ---- what `canonical_zero` keeps
pub canonical_again : (x : Float) → canonical_zero (canonical_zero x) ≡ canonical_zero x
unfolding canonical_zero
canonical_again nan = refl
canonical_again (inf s) = refl
canonical_again (fin s zero e) = refl
canonical_again (fin s (suc m) e) = refl

pub canonical_rank : (f : Format) (x : Float) → T (fits f x) → rank f (canonical_zero x) ≡ rank f x
unfolding canonical_zero
canonical_rank f nan p = refl
canonical_rank f (inf s) p = refl
canonical_rank f (fin s zero e) p = zero_rank f false ∙ sym (ap (rank f) (zero-written f s e p) ∙ zero_rank f s)
canonical_rank f (fin s (suc m) e) p = refl

pub canonical_fin : (f : Format) (x : Float) → Fin f x → Fin f (canonical_zero x)
unfolding canonical_zero
canonical_fin f nan p = p
canonical_fin f (inf s) p = p
canonical_fin f (fin s zero e) p = zero_num f false
canonical_fin f (fin s (suc m) e) p = p

-- numbers of one rank become the same float
pub canonical_one : (f : Format) (x y : Float) → Num f x → Num f y → rank f x ≡ rank f y → canonical_zero x ≡ canonical_zero y
unfolding canonical_zero
canonical_one f x y p q h = go (rank_one f x y p q h)
  where
    go : (x ≡ y) ⊎ (Zero x × Zero y) → canonical_zero x ≡ canonical_zero y
    go (inl e) = ap canonical_zero e
    go (inr e) = ap canonical_zero e.0 ∙ sym (ap canonical_zero e.1)
