-- On the grid floats are whole numbers of 1/64: sums, differences, products and comparisons are exact, and the results are the floats of the numbers, as data.
-- Assumes nothing.
use Rattle.std.proofs.Common.{◌≡◌, ℕ, zero, suc, ◌+◌, ◌-◌, ◌*◌, ◌/◌, ◌%◌, ◌^◌, ◌<◌, ◌≤◌, Bool, true, false, T, eqb, ltb, leb, ℤ, pos, sym, refl, ap, ◌∙◌, subst, zero-le, le_trans, le_of_eq, lt_of_lt_of_le, mul-le-mul_right, zero-lt-suc, mul_assoc, mul_comm, mul-lt-mul_of_pos_right, mul-pos, div-add-mod', zero-mul, mul-one, mul_right_comm, le_of_mul-le-mul_right, mul-div_cancel, arith, lit<, lit≤, le→leb, eqb→eq, leb→le, pow_pos}
use native.Mathlib.Nat.{mul-mul-mul_comm, zero-div, zero-mod}
use lib.Ieee.{Float, nan, inf, fin, binary64, up, down, unlike, below, round, sum, neg, add, sub, mul, lt, eq, of_int, fits, is_nan}
use lib.Ieee.Fits.{and_l, and_r, and_i, eq→eqb, down_pos, up_pos}
use lib.Ieee.Exact.{HasValue, round_exact}
use lib.Ieee.Back.{round_whole}
use lib.Ieee.Scale.{round_same}
use Rattle.laws.proofs.Tests.{clash, is_true}
use Rattle.floats.specs.Values.{canonical_zero, abs_of, gap_of}
use Rattle.floats.specs.Grid.{on_grid, steps, unit, of_units}
use Rattle.floats.proofs.Rank.{sgn, at, Num, at_zero, ltb_scaled, compare_at, eq→, distance}
use Rattle.floats.proofs.Difference.{sign_of, sum_round, plus_sign, minus_sign, sum_same}
use Rattle.floats.proofs.Zeros.{canonical_one}
use Rattle.floats.proofs.Gaps.{abs_round}

-- ---- n / 64 is held exactly, for n below 2 ^ 53
pub of_units-value : (s : Bool) (n : ℕ) → n < 2 ^ 53 → HasValue (round binary64 s n 64) s n 64
of_units-value s n h = round_exact binary64 s n 64 n 1068 (lit< tt) h (lt_of_lt_of_le (mul-lt-mul_of_pos_right h (pow_pos 1068)) (lit≤ tt)) (sym (mul_assoc n (2 ^ 1068) 64))

-- ---- a value on the grid is `steps` / 64, with its sign
pub grid-value : (x : Float) → T (on_grid x) → HasValue x (sgn x) (steps x) 64
unfolding on_grid steps sgn
grid-value nan h = absurd h
grid-value (inf s) h = absurd h
grid-value (fin s m e) h =
    let a = m * up e * 64 in
    (refl, sym (none (a / down e * down e) (a % down e) a (div-add-mod' a (down e)) (eqb→eq (a % down e) 0 (and_l (eqb (a % down e) 0) (leb (m * up e) (1048576 * down e)) h))))
  where
    none : (x r a : ℕ) → x + r ≡ a → r ≡ 0 → x ≡ a
    none x r a p q = omega arith

pub steps_bound : (x : Float) → T (on_grid x) → steps x ≤ 67108864
unfolding on_grid steps sgn
steps_bound nan h = absurd h
steps_bound (inf s) h = absurd h
steps_bound (fin s m e) h =
    le_of_mul-le-mul_right
    (le_trans (le_of_eq (sym (grid-value (fin s m e) h).1))
    (le_trans (mul-le-mul_right 64 (leb→le (m * up e) (1048576 * down e) (and_r (eqb (m * up e * 64 % down e) 0) (leb (m * up e) (1048576 * down e)) h))) (le_of_eq (mul_right_comm 1048576 (down e) 64))))
    (down_pos e)

-- ---- its unit is `steps` above or below 2 ^ 26
unit-is : (s : Bool) (m : ℕ) (e : ℤ) → unit (fin s m e) ≡ at 67108864 s (steps (fin s m e))
unfolding unit
unit-is true m e = refl
unit-is false m e = refl

pub unit_bound : (x : Float) → T (on_grid x) → unit x ≤ 134217728
unit_bound nan h = absurd (grid-value nan h)
unit_bound (inf s) h = absurd (grid-value (inf s) h)
unit_bound (fin s m e) h = subst (λ (n : ℕ). n ≤ 134217728) (sym (unit-is s m e)) (go s (steps (fin s m e)) (steps_bound (fin s m e) h))
  where
    go : (s : Bool) (n : ℕ) → n ≤ 67108864 → at 67108864 s n ≤ 134217728
    go true n h = omega arith
    go false n h = omega arith

-- ---- two values over one denominator
cross-l : (m u d n e : ℕ) → m * u * 64 ≡ n * d → m * u * e * 64 ≡ n * (d * e)
cross-l m u d n e h = mul_right_comm (m * u) e 64 ∙ ap (λ (z : ℕ). z * e) h ∙ mul_assoc n d e

cross_r : (m u d n e : ℕ) → m * u * 64 ≡ n * d → m * u * e * 64 ≡ n * (e * d)
cross_r m u d n e h = cross-l m u d n e h ∙ ap (λ (z : ℕ). n * z) (mul_comm d e)

-- what holds of two finite floats on the grid holds of any two on it
both : (P : Float → Float → Type 0) → ((s : Bool) (m : ℕ) (e : ℤ) (t : Bool) (n : ℕ) (d : ℤ) → T (on_grid (fin s m e)) → T (on_grid (fin t n d)) → P (fin s m e) (fin t n d)) → (x y : Float) → T (on_grid x) → T (on_grid y) → P x y
both P h nan y g k = absurd (grid-value nan g)
both P h (inf s) y g k = absurd (grid-value (inf s) g)
both P h (fin s m e) nan g k = absurd (grid-value nan k)
both P h (fin s m e) (inf t) g k = absurd (grid-value (inf t) k)
both P h (fin s m e) (fin t n d) g k = h s m e t n d g k

module _ (s : Bool) (m : ℕ) (e : ℤ) (t : Bool) (n : ℕ) (d : ℤ) (g : T (on_grid (fin s m e))) (k : T (on_grid (fin t n d))) where
  abbrev p : ℕ
  p = steps (fin s m e)

  abbrev q : ℕ
  q = steps (fin t n d)

  abbrev c : ℕ
  c = down e * down d

  c_pos : 0 < c
  c_pos = mul-pos (down_pos e) (down_pos d)

  left : m * up e * down d * 64 ≡ p * c
  left = cross-l m (up e) (down e) p (down d) (grid-value (fin s m e) g).1

  right : n * up d * down e * 64 ≡ q * c
  right = cross_r n (up d) (down d) q (down e) (grid-value (fin t n d) k).1

  fin_compare : (lt (fin s m e) (fin t n d) ≡ ltb (at 67108864 s p) (at 67108864 t q)) × (eq (fin s m e) (fin t n d) ≡ eqb (at 67108864 s p) (at 67108864 t q))
  unfolding lt eq
  fin_compare = compare_at 67108864 s t (m * up e * down d) (n * up d * down e) p q 64 c (lit< tt) c_pos left right (steps_bound (fin s m e) g) (steps_bound (fin t n d) k)

  fin_lt : lt (fin s m e) (fin t n d) ≡ ltb (unit (fin s m e)) (unit (fin t n d))
  fin_lt = fin_compare.0 ∙ sym (λ i. ltb (unit-is s m e i) (unit-is t n d i))

  fin_eq : eq (fin s m e) (fin t n d) ≡ eqb (unit (fin s m e)) (unit (fin t n d))
  fin_eq = fin_compare.1 ∙ sym (λ i. eqb (unit-is s m e i) (unit-is t n d i))

  fin_sub : sub binary64 (fin s m e) (fin t n d) ≡ round binary64 (sign_of s t p q) (distance (unit (fin s m e)) (unit (fin t n d))) 64
  unfolding sub add neg
  fin_sub =
      sum_round binary64 67108864 s t (m * up e * down d) (n * up d * down e) c p q 64 c_pos (lit< tt) left right (steps_bound (fin s m e) g) (steps_bound (fin t n d) k)
      ∙ sym (λ i. round binary64 (sign_of s t p q) (distance (unit-is s m e i) (unit-is t n d i)) 64)

-- ---- comparisons are those of the units
pub lt_units : (x y : Float) → T (on_grid x) → T (on_grid y) → lt x y ≡ ltb (unit x) (unit y)
lt_units = both (λ x y. lt x y ≡ ltb (unit x) (unit y)) fin_lt

pub eq_units : (x y : Float) → T (on_grid x) → T (on_grid y) → eq x y ≡ eqb (unit x) (unit y)
eq_units = both (λ x y. eq x y ≡ eqb (unit x) (unit y)) fin_eq

-- ---- a difference is the number of units between the two
sub-value : (x y : Float) → T (on_grid x) → T (on_grid y) → sub binary64 x y ≡ round binary64 (sign_of (sgn x) (sgn y) (steps x) (steps y)) (distance (unit x) (unit y)) 64
unfolding sgn
sub-value = both (λ x y. sub binary64 x y ≡ round binary64 (sign_of (sgn x) (sgn y) (steps x) (steps y)) (distance (unit x) (unit y)) 64) fin_sub

-- a negative value other than -0 is at least a step below zero
below-zero : (x : Float) → T (on_grid x) → canonical_zero x ≡ x → T (sgn x) → 0 < steps x
unfolding canonical_zero sgn
below-zero nan g h t = absurd t
below-zero (inf s) g h t = absurd (grid-value (inf s) g)
below-zero (fin false m e) g h t = absurd t
below-zero (fin true zero e) g h t = clash false (ap sgn h) refl
below-zero (fin true (suc m) e) g h t =
    go (steps (fin true (suc m) e)) (down e) (suc m * up e * 64) (grid-value (fin true (suc m) e) g).1 (mul-pos (mul-pos (zero-lt-suc m) (up_pos e)) (lit< tt))
  where
    go : (p d v : ℕ) → v ≡ p * d → 0 < v → 0 < p
    go zero d v e h = absurd (omega (arith, zero-mul d))
    go (suc p) d v e h = zero-lt-suc p

unit-at : (x : Float) → T (on_grid x) → unit x ≡ at 67108864 (sgn x) (steps x)
unfolding sgn
unit-at nan g = absurd (grid-value nan g)
unit-at (inf s) g = absurd (grid-value (inf s) g)
unit-at (fin s m e) g = unit-is s m e

-- x - y where y is no greater, and where it is greater
pub sub_units : (x y : Float) → T (on_grid x) → T (on_grid y) → canonical_zero x ≡ x → unit y ≤ unit x → sub binary64 x y ≡ of_units (unit x - unit y)
unfolding of_units
sub_units x y g k z h =
    sub-value x y g k
    ∙ ap (λ (s : Bool). round binary64 s (distance (unit x) (unit y)) 64) (plus_sign 67108864 (sgn x) (sgn y) (steps x) (steps y) (steps_bound x g) (steps_bound y k) (λ s t. above-none (steps x) (steps y) (below-zero x g z s)) (rw (← unit-at x g, ← unit-at y k) h))
    ∙ ap (λ (n : ℕ). round binary64 false n 64) (above (unit x) (unit y) h)
  where
    above-none : (m n : ℕ) → 0 < m → 0 < m + n
    above-none m n h = omega arith

    above : (m n : ℕ) → n ≤ m → distance m n ≡ m - n
    above m n h = omega arith

pub sub-below : (x y : Float) → T (on_grid x) → T (on_grid y) → unit x < unit y → sub binary64 x y ≡ round binary64 true (unit y - unit x) 64
sub-below x y g k h =
    sub-value x y g k
    ∙ ap (λ (s : Bool). round binary64 s (distance (unit x) (unit y)) 64) (minus_sign 67108864 (sgn x) (sgn y) (steps x) (steps y) (steps_bound x g) (steps_bound y k) (rw (← unit-at x g, ← unit-at y k) h))
    ∙ ap (λ (n : ℕ). round binary64 true n 64) (beneath (unit x) (unit y) h)
  where
    beneath : (m n : ℕ) → m < n → distance m n ≡ n - m
    beneath m n h = omega arith

-- ---- the gap of two coordinates, for every sign of a zero
pub gap_units : (x y : Float) → T (on_grid x) → T (on_grid y) → gap_of x y ≡ of_units (distance (unit x) (unit y))
unfolding gap_of of_units
gap_units x y g k = ap abs_of (sub-value x y g k) ∙ abs_round (sign_of (sgn x) (sgn y) (steps x) (steps y)) (distance (unit x) (unit y)) 64

-- ---- two lengths: their sum and their comparison; and a count times a length
lengths : (x y : Float) (a b : ℕ) → HasValue x false a 64 → HasValue y false b 64 → (add binary64 x y ≡ round binary64 false (a + b) 64) × (lt x y ≡ ltb a b)
unfolding add sum lt
lengths nan y a b v w = absurd v
lengths (inf s) y a b v w = absurd v
lengths (fin s m e) nan a b v w = absurd w
lengths (fin s m e) (inf t) a b v w = absurd w
lengths (fin s m e) (fin t n d) a b v w =
    let c = down e * down d in
    let C : 0 < c = mul-pos (down_pos e) (down_pos d) in
    let l : m * up e * down d * 64 ≡ a * c = cross-l m (up e) (down e) a (down d) v.1 in
    let r : n * up d * down e * 64 ≡ b * c = cross_r n (up d) (down d) b (down e) w.1 in (
      (λ i. sum binary64 (v.0 i) (m * up e * down d) (w.0 i) (n * up d * down e) c) ∙ sum_same binary64 false (m * up e * down d) false (n * up d * down e) c a b 64 C (lit< tt) l r,
      (λ i. below (v.0 i) (m * up e * down d) (w.0 i) (n * up d * down e)) ∙ ltb_scaled (m * up e * down d) (n * up d * down e) a b 64 c (lit< tt) C l r,
    )

pub add_units : (a b : ℕ) → a < 2 ^ 53 → b < 2 ^ 53 → add binary64 (of_units a) (of_units b) ≡ of_units (a + b)
unfolding of_units
add_units a b p q = (lengths (round binary64 false a 64) (round binary64 false b 64) a b (of_units-value false a p) (of_units-value false b q)).0

mul-of : (x y : Float) (n d : ℕ) → HasValue x false n 1 → HasValue y false d 64 → mul binary64 x y ≡ round binary64 false (n * d) 64
unfolding mul
mul-of nan y n d v w = absurd v
mul-of (inf s) y n d v w = absurd v
mul-of (fin s m e) nan n d v w = absurd w
mul-of (fin s m e) (inf t) n d v w = absurd w
mul-of (fin s m e) (fin t k g) n d v w =
    (λ i. round binary64 (unlike (v.0 i) (w.0 i)) (m * up e * (k * up g)) (down e * down g))
    ∙ round_same binary64 false (m * up e * (k * up g)) (down e * down g) (n * d) 64 (mul-pos (down_pos e) (down_pos g)) (lit< tt)
    (ap (λ (z : ℕ). z * (k * up g) * 64) (sym (mul-one (m * up e)) ∙ v.1) ∙ mul_assoc (n * down e) (k * up g) 64 ∙ ap (λ (z : ℕ). n * down e * z) w.1 ∙ mul-mul-mul_comm n (down e) d (down g))

pub mul_units : (n d : ℕ) → n ≤ 2 ^ 53 → d < 2 ^ 53 → mul binary64 (of_int binary64 (pos n)) (of_units d) ≡ of_units (n * d)
unfolding of_units of_int
mul_units n d p q = mul-of (round binary64 false n 1) (round binary64 false d 64) n d (round_whole binary64 false n p) (of_units-value false d q)

pub lt-lengths : (x y : Float) (a b : ℕ) → HasValue x false a 64 → HasValue y false b 64 → lt x y ≡ ltb a b
lt-lengths x y a b v w = (lengths x y a b v w).1

-- ---- one step of a sum of lengths: sum += count * (x - y)
small : (x y : Float) → T (on_grid x) → unit x - unit y < 2 ^ 53
small x y g = go (unit x) (unit y) (unit_bound x g)
  where
    go : (u v : ℕ) → u ≤ 134217728 → u - v < 2 ^ 53
    go u v h = omega arith

pub accumulate : (z n : ℕ) (x y : Float) → T (on_grid x) → T (on_grid y) → canonical_zero x ≡ x → unit y ≤ unit x → z < 2 ^ 53 → n ≤ 2 ^ 53 → n * (unit x - unit y) < 2 ^ 53
    → add binary64 (of_units z) (mul binary64 (of_int binary64 (pos n)) (sub binary64 x y)) ≡ of_units (z + n * (unit x - unit y))
accumulate z n x y g k c h a b d =
    ap (λ (w : Float). add binary64 (of_units z) (mul binary64 (of_int binary64 (pos n)) w)) (sub_units x y g k c h)
    ∙ ap (add binary64 (of_units z)) (mul_units n (unit x - unit y) b (small x y g))
    ∙ add_units z (n * (unit x - unit y)) a d

-- ---- from a number of units to a float and back, and from a float to its number
value-steps : (x : Float) (n : ℕ) → HasValue x false n 64 → unit x ≡ 67108864 + n
unfolding unit steps
value-steps nan n v = absurd v
value-steps (inf s) n v = absurd v
value-steps (fin true m e) n v = clash true refl v.0
value-steps (fin false m e) n v = ap (λ (z : ℕ). 67108864 + z / down e) v.1 ∙ ap (λ (z : ℕ). 67108864 + z) (mul-div_cancel n (down_pos e))

pub unit-of_units : (n : ℕ) → n < 2 ^ 53 → unit (of_units n) ≡ 67108864 + n
unfolding of_units
unit-of_units n h = value-steps (round binary64 false n 64) n (of_units-value false n h)

-- a float on the grid is a number
pub grid_num : (x : Float) → T (fits binary64 x) → T (on_grid x) → Num binary64 x
unfolding is_nan
grid_num nan p g = absurd (grid-value nan g)
grid_num (inf s) p g = absurd (grid-value (inf s) g)
grid_num (fin s m e) p g = (p, tt)

-- floats of one unit are equal as numbers, and the same float where neither is -0
pub unit-one : (x y : Float) → T (fits binary64 x) → T (fits binary64 y) → T (on_grid x) → T (on_grid y) → unit x ≡ unit y → canonical_zero x ≡ canonical_zero y
unit-one x y p q g k h = canonical_one binary64 x y (grid_num x p g) (grid_num y q k) (eq→ binary64 x y (grid_num x p g) (grid_num y q k) (subst T (sym (eq_units x y g k)) (eq→eqb h)))

-- ---- +0 in place of -0 changes neither
zero-steps : (s : Bool) (e : ℤ) → steps (fin s 0 e) ≡ 0
unfolding steps
zero-steps s e = ap (λ (z : ℕ). z * 64 / down e) (zero-mul (up e)) ∙ zero-div (down e)

pub canonical_unit : (x : Float) → unit (canonical_zero x) ≡ unit x
unfolding canonical_zero
canonical_unit nan = refl
canonical_unit (inf s) = refl
canonical_unit (fin s zero e) = zero-unit false (pos 0) ∙ sym (zero-unit s e)
  where
    zero-unit : (s : Bool) (e : ℤ) → unit (fin s 0 e) ≡ 67108864
    zero-unit s e = unit-is s 0 e ∙ ap (at 67108864 s) (zero-steps s e) ∙ at_zero 67108864 s
canonical_unit (fin s (suc m) e) = refl

pub canonical_grid : (x : Float) → on_grid (canonical_zero x) ≡ on_grid x
unfolding canonical_zero on_grid
canonical_grid nan = refl
canonical_grid (inf s) = refl
canonical_grid (fin s zero e) = sym (is_true (on_grid (fin s 0 e)) (and_i (eqb (0 * up e * 64 % down e) 0) (leb (0 * up e) (1048576 * down e)) (eq→eqb (ap (λ (z : ℕ). z * 64 % down e) (zero-mul (up e)) ∙ zero-mod (down e))) (le→leb (0 * up e) (1048576 * down e) (le_trans (le_of_eq (zero-mul (up e))) zero-le))))
canonical_grid (fin s (suc m) e) = refl
