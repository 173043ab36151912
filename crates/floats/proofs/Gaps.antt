-- The gap of two finite floats is a number that is not negative, not -0 and no NaN; its magnitude is the rounded distance of the ranks. Assumes nothing.
use Rattle.std.proofs.Common.{◌≡◌, ℕ, ◌+◌, ◌^◌, ◌<◌, ◌≤◌, Bool, false, T, ltb, pos, sym, refl, ap, ◌∙◌, subst, inl, inr, arith}
use lib.Ieee.{Float, nan, inf, fin, binary64, round, sub, lt, eq, fits, is_nan}
use lib.Ieee.Scale.{overflow}
use Rattle.laws.proofs.Tests.{ltb_same, same_or_not}
use Rattle.floats.specs.Values.{plus_zero, abs_of, gap_of}
use Rattle.floats.proofs.Rank.{mag, sgn, at, rank, rank_is, Num, Fin, fits_turned, mag_zero, lt_rank, lt→, eq→, →eq, distance, fin_num, zero_num}
use Rattle.floats.proofs.Rounding.{round_shape, round_num, rnd, rnd_mono, rnd_zero, rnd_pos}
use Rattle.floats.proofs.Difference.{sign_of, sub_round, sub_plus, sub_num}
use Rattle.floats.proofs.Bits.{number-one}

-- ---- a number of binary64 whose sign is plus: so it is neither negative nor -0
pub record Good (x : Float) : Type 0 where
  pub num : Num binary64 x
  pub plus : sgn x ≡ false

pub zero_good : Good plus_zero
unfolding sgn
zero_good = record { num = fin_num binary64 plus_zero (zero_num binary64 false); plus = refl }

pub zero_mag : mag binary64 plus_zero ≡ 0
zero_mag = mag_zero binary64 false (pos 0)

-- two such numbers of one magnitude are equal, and their order is that of the magnitudes
pub good_one : (x y : Float) → Good x → Good y → mag binary64 x ≡ mag binary64 y → x ≡ y
good_one x y p q h = number-one binary64 x y p.num q.num (p.plus ∙ sym q.plus) h

pub good_rank : (x : Float) → Good x → rank binary64 x ≡ overflow binary64 + mag binary64 x
good_rank x p = rank_is binary64 x ∙ ap (λ (s : Bool). at (overflow binary64) s (mag binary64 x)) p.plus

pub good_lt : (x y : Float) → Good x → Good y → lt x y ≡ ltb (mag binary64 x) (mag binary64 y)
good_lt x y p q =
    lt_rank binary64 x y p.num q.num
    ∙ (λ i. ltb (good_rank x p i) (good_rank y q i))
    ∙ both_up (overflow binary64) (mag binary64 x) (mag binary64 y)
  where
    both_up : (B m n : ℕ) → ltb (B + m) (B + n) ≡ ltb m n
    both_up B m n = ltb_same (B + m) (B + n) m n (λ h. omega arith) (λ h. omega arith)

-- ---- the absolute value
pub abs_good : (x : Float) → Num binary64 x → Good (abs_of x)
unfolding abs_of sgn is_nan fits
abs_good nan p = absurd p.1
abs_good (inf s) p = record { num = (tt, tt); plus = refl }
abs_good (fin s m e) p = record { num = (fits_turned binary64 s false m e p.0, tt); plus = refl }

pub abs_mag : (x : Float) → mag binary64 (abs_of x) ≡ mag binary64 x
unfolding abs_of mag
abs_mag nan = refl
abs_mag (inf s) = refl
abs_mag (fin s m e) = refl

-- ---- a rounded number without its sign
pub round_good : (a c : ℕ) → Good (round binary64 false a c)
round_good a c = record { num = round_num binary64 false a c; plus = (round_shape binary64 false a c).0 }

pub abs_round : (s : Bool) (a c : ℕ) → abs_of (round binary64 s a c) ≡ round binary64 false a c
abs_round s a c = let r = round binary64 s a c in good_one (abs_of r) (round binary64 false a c) (abs_good r (round_num binary64 s a c)) (round_good a c) (abs_mag r ∙ (round_shape binary64 s a c).1)

-- ---- the gap of two finite floats
module _ (x y : Float) (p : Fin binary64 x) (q : Fin binary64 y) where
  gap_is : gap_of x y ≡ round binary64 false (distance (rank binary64 x) (rank binary64 y)) (2 ^ 1074)
  unfolding gap_of
  gap_is = ap abs_of (sub_round binary64 x y p q) ∙ abs_round (sign_of (sgn x) (sgn y) (mag binary64 x) (mag binary64 y)) (distance (rank binary64 x) (rank binary64 y)) (2 ^ 1074)

  pub gap_good : Good (gap_of x y)
  gap_good = subst Good (sym gap_is) (round_good (distance (rank binary64 x) (rank binary64 y)) (2 ^ 1074))

  pub gap_mag : mag binary64 (gap_of x y) ≡ rnd binary64 (distance (rank binary64 x) (rank binary64 y))
  unfolding rnd
  gap_mag = ap (mag binary64) gap_is

  -- a float less one that is below it is their gap
  pub sub_good : T (lt y x) → Good (sub binary64 x y)
  sub_good h = record { num = sub_num binary64 x y p q; plus = sub_plus binary64 x y p q (lt→ binary64 y x (fin_num binary64 y q) (fin_num binary64 x p) h) }

-- the gap is the same in either order
pub gap-swap : (x y : Float) → Fin binary64 x → Fin binary64 y → gap_of x y ≡ gap_of y x
gap-swap x y p q = gap_is x y p q ∙ ap (λ (n : ℕ). round binary64 false n (2 ^ 1074)) (turned (rank binary64 x) (rank binary64 y)) ∙ sym (gap_is y x q p)
  where
    turned : (m n : ℕ) → distance m n ≡ distance n m
    turned m n = omega arith

-- a larger distance has no smaller gap
pub gap_mono : (x y u v : Float) → Fin binary64 x → Fin binary64 y → Fin binary64 u → Fin binary64 v
    → distance (rank binary64 x) (rank binary64 y) ≤ distance (rank binary64 u) (rank binary64 v) → mag binary64 (gap_of x y) ≤ mag binary64 (gap_of u v)
gap_mono x y u v p q r s h = rw (gap_mag x y p q, gap_mag u v r s) (rnd_mono binary64 (distance (rank binary64 x) (rank binary64 y)) (distance (rank binary64 u) (rank binary64 v)) h)

-- it is +0 exactly where the two are equal
pub gap-of-equal : (x y : Float) → Fin binary64 x → Fin binary64 y → T (eq x y) → gap_of x y ≡ plus_zero
gap-of-equal x y p q h =
    good_one (gap_of x y) plus_zero (gap_good x y p q) zero_good
    (gap_mag x y p q ∙ ap (rnd binary64) (none (rank binary64 x) (rank binary64 y) (eq→ binary64 x y (fin_num binary64 x p) (fin_num binary64 y q) h)) ∙ rnd_zero binary64 ∙ sym zero_mag)
  where
    none : (m n : ℕ) → m ≡ n → distance m n ≡ 0
    none m n h = omega arith

pub equal-of-gap : (x y : Float) → Fin binary64 x → Fin binary64 y → gap_of x y ≡ plus_zero → T (eq x y)
equal-of-gap x y p q h =
    →eq binary64 x y (fin_num binary64 x p) (fin_num binary64 y q)
    (none (rank binary64 x) (rank binary64 y) (rnd binary64 (distance (rank binary64 x) (rank binary64 y))) (rnd_pos binary64 (distance (rank binary64 x) (rank binary64 y))) (sym (gap_mag x y p q) ∙ ap (mag binary64) h ∙ zero_mag))
  where
    none : (m n r : ℕ) → (0 < distance m n → 0 < r) → r ≡ 0 → m ≡ n
    none m n r h e = elim (same_or_not m n) [ inl k ↦ k | inr k ↦ absurd (omega (arith, h (omega (arith, k)))) ]
