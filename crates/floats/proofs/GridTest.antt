-- The test of `on_grid`: x is within ±2 ^ c, and x * 2 ^ k is equal to its whole part. Assumes nothing.
use Rattle.std.proofs.Common.{◌≡◌, ℕ, zero, suc, ◌+◌, ◌-◌, ◌*◌, ◌/◌, ◌%◌, ◌^◌, ◌<◌, ◌≤◌, min, Bool, true, false, cond, not, ◌&&◌, T, eqb, leb, ℤ, pos, negsuc, neg_ℤ, sym, refl, ap, ◌∙◌, subst, zero-le, le_trans, le_of_eq, lt_of_lt_of_le, lt_of_le_of_lt, le_of_lt, mul-le-mul_right, mul_comm, one-mul, div-add-mod', zero-mul, mul_right_comm, div-mul-le_self, le_of_mul-le-mul_right, div-one, arith, lit<, lit≤, le→leb, eqb→eq, lt→ltb, leb→le, pow_pos}
use native.Mathlib.Nat.{eq_of_mul-eq-mul_right, div-le_of_le-mul}
use lib.Ieee.{Float, nan, inf, fin, Format, binary64, prec, low, up, down, round, le, lt, eq, mul, to_signed, of_int, in_float, fits, is_nan}
use lib.Ieee.Fits.{and_r, eq→eqb, down_pos}
use lib.Ieee.Nearest.{div_same}
use lib.Ieee.Scale.{overflow}
use Rattle.laws.proofs.Tests.{same_test, of_true}
use Rattle.floats.specs.Grid.{on_grid}
use Rattle.floats.proofs.Rank.{mag, sgn, at, rank, rank_is, Num, Fin, mag_exact, mag_le, fin_lt, →lt, le→, →le, eq→, →eq, fin_num}
use Rattle.floats.proofs.Rounding.{round_num}
use Rattle.floats.proofs.Scaling.{finite_of_mag, mul_pow, mul_fin, int_mag}

-- a whole multiple of 1 / 2 ^ k with absolute value at most 2 ^ c
unfoldable multiple : ℕ → ℕ → Float → Bool
multiple c k nan = false
multiple c k (inf s) = false
multiple c k (fin s m e) = eqb (m * up e * 2 ^ k % down e) 0 && leb (m * up e) (2 ^ c * down e)

multiple_64 : (x : Float) → multiple 20 6 x ≡ on_grid x
unfolding multiple on_grid
multiple_64 nan = refl
multiple_64 (inf s) = refl
multiple_64 (fin s m e) = refl

-- ---- the powers of two
pow_mag : (f : Format) (s : Bool) (c : ℕ) → mag f (fin s 1 (pos c)) ≡ 2 ^ c * 2 ^ low f
unfolding mag
pow_mag f s c = div-one (1 * 2 ^ c * 2 ^ low f) ∙ ap (λ (z : ℕ). z * 2 ^ low f) (one-mul (2 ^ c))

pow_rank : (f : Format) (s : Bool) (c : ℕ) → rank f (fin s 1 (pos c)) ≡ at (overflow f) s (2 ^ c * 2 ^ low f)
unfolding sgn
pow_rank f s c = rank_is f (fin s 1 (pos c)) ∙ ap (λ (z : ℕ). at (overflow f) s z) (pow_mag f s c)

-- ---- within ±2 ^ c, by rank
num_of_le : (x y : Float) → T (le x y) → T (not (is_nan y))
unfolding le is_nan
num_of_le nan y h = absurd h
num_of_le (inf s) nan h = absurd h
num_of_le (inf s) (inf t) h = tt
num_of_le (inf s) (fin t n d) h = tt
num_of_le (fin s m e) nan h = absurd h
num_of_le (fin s m e) (inf t) h = tt
num_of_le (fin s m e) (fin t n d) h = tt

within : (B W M : ℕ) (s : Bool) → M ≤ B → W ≤ B → B - W ≤ at B s M → at B s M ≤ B + W → M ≤ W
within B W M true a w h k = omega arith
within B W M false a w h k = omega arith

within_lo : (B W M : ℕ) (s : Bool) → M ≤ W → B - W ≤ at B s M
within_lo B W M true h = omega arith
within_lo B W M false h = omega arith

within_hi : (B W M : ℕ) (s : Bool) → M ≤ W → at B s M ≤ B + W
within_hi B W M true h = omega arith
within_hi B W M false h = omega arith

-- the size test of `multiple` is the two comparisons
size_is : (f : Format) (c : ℕ) (s : Bool) (m : ℕ) (e : ℤ) → T (fits f (fin s m e)) → T (leb (m * up e) (2 ^ c * down e)) → mag f (fin s m e) ≤ 2 ^ c * 2 ^ low f
size_is f c s m e p h =
    le_of_mul-le-mul_right
    (le_trans (le_of_eq (mag_exact f s m e p)) (le_trans (mul-le-mul_right (2 ^ low f) (leb→le (m * up e) (2 ^ c * down e) h)) (le_of_eq (mul_right_comm (2 ^ c) (down e) (2 ^ low f)))))
    (down_pos e)

size_of : (f : Format) (c : ℕ) (s : Bool) (m : ℕ) (e : ℤ) → T (fits f (fin s m e)) → mag f (fin s m e) ≤ 2 ^ c * 2 ^ low f → T (leb (m * up e) (2 ^ c * down e))
size_of f c s m e p h =
    le→leb (m * up e) (2 ^ c * down e)
    (le_of_mul-le-mul_right
    (le_trans (le_of_eq (sym (mag_exact f s m e p))) (le_trans (mul-le-mul_right (down e) h) (le_of_eq (mul_right_comm (2 ^ c) (2 ^ low f) (down e)))))
    (pow_pos (low f)))

module _ (f : Format) (c : ℕ) (room : 2 ^ c * 2 ^ low f < overflow f) (lo-fits : T (fits f (fin true 1 (pos c)))) (hi-fits : T (fits f (fin false 1 (pos c)))) where
  lo_num : Num f (fin true 1 (pos c))
  lo_num = fin_num f (fin true 1 (pos c)) (lo-fits, tt)

  hi_num : Num f (fin false 1 (pos c))
  hi_num = fin_num f (fin false 1 (pos c)) (hi-fits, tt)

  in-range : (x : Float) → T (fits f x) → T (le (fin true 1 (pos c)) x) → T (le x (fin false 1 (pos c))) → Fin f x × (mag f x ≤ 2 ^ c * 2 ^ low f)
  in-range x p h k =
      let n : Num f x = (p, num_of_le (fin true 1 (pos c)) x h) in
      let w : mag f x ≤ 2 ^ c * 2 ^ low f =
      within (overflow f) (2 ^ c * 2 ^ low f) (mag f x) (sgn x) (mag_le f x p) (le_of_lt room)
      (le_trans (le_of_eq (sym (pow_rank f true c))) (le_trans (le→ f (fin true 1 (pos c)) x lo_num n h) (le_of_eq (rank_is f x))))
      (le_trans (le_of_eq (sym (rank_is f x))) (le_trans (le→ f x (fin false 1 (pos c)) n hi_num k) (le_of_eq (pow_rank f false c)))) in
      ((p, finite_of_mag f x n (lt_of_le_of_lt w room)), w)

  lo_le : (x : Float) → Fin f x → mag f x ≤ 2 ^ c * 2 ^ low f → T (le (fin true 1 (pos c)) x)
  lo_le x p w = →le f (fin true 1 (pos c)) x lo_num (fin_num f x p) (le_trans (le_of_eq (pow_rank f true c)) (le_trans (within_lo (overflow f) (2 ^ c * 2 ^ low f) (mag f x) (sgn x) w) (le_of_eq (sym (rank_is f x)))))

  le_hi : (x : Float) → Fin f x → mag f x ≤ 2 ^ c * 2 ^ low f → T (le x (fin false 1 (pos c)))
  le_hi x p w = →le f x (fin false 1 (pos c)) (fin_num f x p) hi_num (le_trans (le_of_eq (rank_is f x)) (le_trans (within_hi (overflow f) (2 ^ c * 2 ^ low f) (mag f x) (sgn x) w) (le_of_eq (sym (pow_rank f false c)))))

  lt_hi : (x : Float) → Fin f x → mag f x < 2 ^ c * 2 ^ low f → T (lt x (fin false 1 (pos c)))
  lt_hi x p w = →lt f x (fin false 1 (pos c)) (fin_num f x p) hi_num (lt_of_le_of_lt (le_of_eq (rank_is f x)) (lt_of_lt_of_le (under (overflow f) (2 ^ c * 2 ^ low f) (mag f x) (sgn x) w) (le_of_eq (sym (pow_rank f false c)))))
    where
      under : (B W M : ℕ) (s : Bool) → M < W → at B s M < B + W
      under B W M true h = omega arith
      under B W M false h = omega arith

  off_lo : (k : ℕ) (x : Float) → T (fits f x) → le (fin true 1 (pos c)) x ≡ false → false ≡ multiple c k x
  unfolding multiple
  off_lo k nan p h = refl
  off_lo k (inf s) p h = refl
  off_lo k (fin s m e) p h = same_test false (multiple c k (fin s m e)) (λ t. absurd t)
      (λ t. subst T h (lo_le (fin s m e) (p, tt) (size_is f c s m e p (and_r (eqb (m * up e * 2 ^ k % down e) 0) (leb (m * up e) (2 ^ c * down e)) t))))

  off_hi : (k : ℕ) (x : Float) → T (fits f x) → le x (fin false 1 (pos c)) ≡ false → false ≡ multiple c k x
  unfolding multiple
  off_hi k nan p h = refl
  off_hi k (inf s) p h = refl
  off_hi k (fin s m e) p h = same_test false (multiple c k (fin s m e)) (λ t. absurd t)
      (λ t. subst T h (le_hi (fin s m e) (p, tt) (size_is f c s m e p (and_r (eqb (m * up e * 2 ^ k % down e) 0) (leb (m * up e) (2 ^ c * down e)) t))))

-- ---- the whole part
abbrev signed : Bool → ℕ → ℤ
signed s n = cond s (neg_ℤ (pos n)) (pos n)

to_signed_mag : (f : Format) (h : ℕ) (y : Float) → Fin f y → mag f y / 2 ^ low f < 2 ^ h → to_signed h y ≡ signed (sgn y) (mag f y / 2 ^ low f)
unfolding to_signed sgn
to_signed_mag f h nan p l = absurd p.1
to_signed_mag f h (inf s) p l = absurd p.1
to_signed_mag f h (fin s m e) p l =
    let K = mag f (fin s m e) / 2 ^ low f in
    let q : m * up e / down e ≡ K = div_same (m * up e) (down e) (mag f (fin s m e)) (2 ^ low f) (down_pos e) (pow_pos (low f)) (sym (mag_exact f s m e p.0)) in
    ap (λ (z : ℕ). cond s (neg_ℤ (pos (min z (2 ^ h)))) (pos (min z (2 ^ h - 1)))) q
    ∙ ap (λ (z : ℕ). cond s (neg_ℤ (pos z)) (pos (min K (2 ^ h - 1)))) (cap K (2 ^ h) l)
    ∙ ap (λ (z : ℕ). cond s (neg_ℤ (pos K)) (pos z)) (cap' K (2 ^ h) l)
  where
    cap : (a c : ℕ) → a < c → min a c ≡ a
    cap a c h = omega arith

    cap' : (a c : ℕ) → a < c → min a (c - 1) ≡ a
    cap' a c h = omega arith

of_int_num : (f : Format) (z : ℤ) → Num f (of_int f z)
unfolding of_int
of_int_num f (pos n) = round_num f false n 1
of_int_num f (negsuc n) = round_num f true (suc n) 1

round_int_rank : (f : Format) (s : Bool) (n : ℕ) → n ≤ 2 ^ prec f → rank f (round f s n 1) ≡ at (overflow f) s (n * 2 ^ low f)
round_int_rank f s n h = let m = int_mag f s n h in rank_is f (round f s n 1) ∙ ap (λ (z : Bool). at (overflow f) z (mag f (round f s n 1))) m.0 ∙ ap (λ (z : ℕ). at (overflow f) s z) m.1

of_int_rank : (f : Format) (s : Bool) (n : ℕ) → n ≤ 2 ^ prec f → rank f (of_int f (signed s n)) ≡ at (overflow f) s (n * 2 ^ low f)
unfolding of_int
of_int_rank f false n h = round_int_rank f false n h
of_int_rank f true (suc n) h = round_int_rank f true (suc n) h
of_int_rank f true zero h = round_int_rank f false 0 h ∙ flat (overflow f) (0 * 2 ^ low f) (zero-mul (2 ^ low f))
  where
    flat : (B z : ℕ) → z ≡ 0 → B + z ≡ B - z
    flat B z e = omega arith

in_float_signed : (f : Format) (s : Bool) (n : ℕ) → n ≤ 2 ^ prec f → T (in_float f (signed s n))
unfolding in_float
in_float_signed f false n h = le→leb n (2 ^ prec f) h
in_float_signed f true zero h = le→leb 0 (2 ^ prec f) zero-le
in_float_signed f true (suc n) h = lt→ltb n (2 ^ prec f) h

-- ---- a whole number is its whole part
at_inj : (B a b : ℕ) (s : Bool) → a < B → b < B → at B s a ≡ at B s b → a ≡ b
at_inj B a b true x y h = omega arith
at_inj B a b false x y h = omega arith

whole_test : (f : Format) (y : Float) → Fin f y → mag f y / 2 ^ low f ≤ 2 ^ prec f → eq (of_int f (signed (sgn y) (mag f y / 2 ^ low f))) y ≡ eqb (mag f y / 2 ^ low f * 2 ^ low f) (mag f y)
whole_test f y p h =
    let K = mag f y / 2 ^ low f in
    let z = of_int f (signed (sgn y) K) in
    let n = of_int_num f (signed (sgn y) K) in
    let q = fin_num f y p in
    let r : rank f z ≡ at (overflow f) (sgn y) (K * 2 ^ low f) = of_int_rank f (sgn y) K h in
    same_test (eq z y) (eqb (K * 2 ^ low f) (mag f y))
    (λ t. eq→eqb (at_inj (overflow f) (K * 2 ^ low f) (mag f y) (sgn y) (lt_of_le_of_lt (div-mul-le_self (mag f y) (2 ^ low f)) (fin_lt f y p)) (fin_lt f y p) (sym r ∙ eq→ f z y n q t ∙ rank_is f y)))
    (λ t. →eq f z y n q (r ∙ ap (λ (w : ℕ). at (overflow f) (sgn y) w) (eqb→eq (K * 2 ^ low f) (mag f y) t) ∙ sym (rank_is f y)))

-- a / d is A / L in size: one is whole where the other is
whole_same : (a d A L : ℕ) → 0 < d → 0 < L → A * d ≡ a * L → eqb (A / L * L) A ≡ eqb (a % d) 0
whole_same a d A L D P h =
    same_test (eqb (A / L * L) A) (eqb (a % d) 0) (λ t. eq→eqb (rest (a / d * d) (a % d) a (div-add-mod' a d) (down' (eqb→eq (A / L * L) A t)))) (λ t. eq→eqb (up' (none (a / d * d) (a % d) a (div-add-mod' a d) (eqb→eq (a % d) 0 t))))
  where
    K : A / L ≡ a / d
    K = div_same A L a d P D h

    rest : (x r a : ℕ) → x + r ≡ a → x ≡ a → r ≡ 0
    rest x r a p q = omega arith

    none : (x r a : ℕ) → x + r ≡ a → r ≡ 0 → x ≡ a
    none x r a p q = omega arith

    down' : A / L * L ≡ A → a / d * d ≡ a
    down' e = eq_of_mul-eq-mul_right L P (a / d * d) a (mul_right_comm (a / d) d L ∙ ap (λ (z : ℕ). z * L * d) (sym K) ∙ ap (λ (z : ℕ). z * d) e ∙ h)

    up' : a / d * d ≡ a → A / L * L ≡ A
    up' e = eq_of_mul-eq-mul_right d D (A / L * L) A (mul_right_comm (A / L) L d ∙ ap (λ (z : ℕ). z * d * L) K ∙ ap (λ (z : ℕ). z * L) e ∙ sym h)

-- ---- x * 2 ^ k, for an x within ±2 ^ c
record Scaled (f : Format) (c k : ℕ) (x : Float) : Type 0 where
  is_fin : Fin f (mul f x (fin false 1 (pos k)))
  is_mag : mag f (mul f x (fin false 1 (pos k))) ≡ mag f x * 2 ^ k
  small : mag f (mul f x (fin false 1 (pos k))) ≤ 2 ^ c * 2 ^ k * 2 ^ low f
  cut : mag f (mul f x (fin false 1 (pos k))) / 2 ^ low f ≤ 2 ^ c * 2 ^ k

scaled : (f : Format) (c k : ℕ) (x : Float) → Fin f x → mag f x ≤ 2 ^ c * 2 ^ low f → 2 ^ c * 2 ^ k * 2 ^ low f < overflow f → Scaled f c k x
scaled f c k x p w o =
    let L = 2 ^ low f in
    let b : mag f x * 2 ^ k ≤ 2 ^ c * 2 ^ k * L = le_trans (mul-le-mul_right (2 ^ k) w) (le_of_eq (mul_right_comm (2 ^ c) L (2 ^ k))) in
    let lt = lt_of_le_of_lt b o in
    let m = (mul_pow f x k p lt).1 in
    let s = le_trans (le_of_eq m) b in
    record { is_fin = mul_fin f x k p lt; is_mag = m; small = s; cut = div-le_of_le-mul L (le_trans s (le_of_eq (mul_comm (2 ^ c * 2 ^ k) L))) }

-- ---- the last test
grid_test : (f : Format) (c k h : ℕ) (x : Float) → Fin f x → mag f x ≤ 2 ^ c * 2 ^ low f → 2 ^ c * 2 ^ k ≤ 2 ^ prec f → 2 ^ c * 2 ^ k < 2 ^ h → 2 ^ c * 2 ^ k * 2 ^ low f < overflow f
    → eq (of_int f (to_signed h (mul f x (fin false 1 (pos k))))) (mul f x (fin false 1 (pos k))) ≡ multiple c k x
grid_test f c k h nan p w a b o = absurd p.1
grid_test f c k h (inf s) p w a b o = absurd p.1
grid_test f c k h (fin s m e) p w a b o = unfold multiple in
    let x = fin s m e in
    let y = mul f x (fin false 1 (pos k)) in
    let L = 2 ^ low f in
    let g = scaled f c k x p w o in
    let n = m * up e * 2 ^ k in
    let t : mag f y * down e ≡ n * L = ap (λ (z : ℕ). z * down e) g.is_mag ∙ mul_right_comm (mag f x) (2 ^ k) (down e) ∙ ap (λ (z : ℕ). z * 2 ^ k) (mag_exact f s m e p.0) ∙ mul_right_comm (m * up e) L (2 ^ k) in
    ap (λ (z : ℤ). eq (of_int f z) y) (to_signed_mag f h y g.is_fin (lt_of_le_of_lt g.cut b))
    ∙ whole_test f y g.is_fin (le_trans g.cut a)
    ∙ whole_same n (down e) (mag f y) L (down_pos e) (pow_pos (low f)) t
    ∙ keep (eqb (n % down e) 0) (leb (m * up e) (2 ^ c * down e)) (size_of f c s m e p.0 w)
  where
    keep : (u v : Bool) → T v → u ≡ (u && v)
    keep true true t = refl
    keep false v t = refl
    keep true false t = absurd t

-- ---- at binary64, 2 ^ 20 and 1 / 64
power_fits : (s : Bool) → T (fits binary64 (fin s 1 (pos 20)))
unfolding fits
power_fits s = tt

range_fits : (s : Bool) → T (fits binary64 (fin s 1 (pos 63)))
unfolding fits
range_fits s = tt

abbrev pub times64 : Float → Float
times64 x = mul binary64 x (fin false 1 (pos 6))

module _ (x : Float) (p : T (fits binary64 x)) where
  pub off_low : le (fin true 1 (pos 20)) x ≡ false → false ≡ on_grid x
  off_low h = off_lo binary64 20 (lit< tt) (power_fits true) (power_fits false) 6 x p h ∙ multiple_64 x

  pub off_high : le x (fin false 1 (pos 20)) ≡ false → false ≡ on_grid x
  off_high h = off_hi binary64 20 (lit< tt) (power_fits true) (power_fits false) 6 x p h ∙ multiple_64 x

  module _ (u : le (fin true 1 (pos 20)) x ≡ true) (v : le x (fin false 1 (pos 20)) ≡ true) where
    tested : Fin binary64 x × (mag binary64 x ≤ 2 ^ 20 * 2 ^ 1074)
    tested = in-range binary64 20 (lit< tt) (power_fits true) (power_fits false) x p (of_true (le (fin true 1 (pos 20)) x) u) (of_true (le x (fin false 1 (pos 20))) v)

    times : Scaled binary64 20 6 x
    times = scaled binary64 20 6 x tested.0 tested.1 (lit< tt)

    -- the product is within the range of i64, and its whole part is a whole number that f64 holds
    pub in_i64 : T (le (fin true 1 (pos 63)) (times64 x)) × T (lt (times64 x) (fin false 1 (pos 63)))
    in_i64 = (
      lo_le binary64 63 (lit< tt) (range_fits true) (range_fits false) (times64 x) times.is_fin (le_trans times.small (lit≤ tt)),
      lt_hi binary64 63 (lit< tt) (range_fits true) (range_fits false) (times64 x) times.is_fin (lt_of_le_of_lt times.small (lit< tt)),
    )

    pub in_f64 : T (in_float binary64 (to_signed 63 (times64 x)))
    in_f64 = subst (λ (z : ℤ). T (in_float binary64 z)) (sym (to_signed_mag binary64 63 (times64 x) times.is_fin (lt_of_le_of_lt times.cut (lit< tt)))) (in_float_signed binary64 (sgn (times64 x)) (mag binary64 (times64 x) / 2 ^ 1074) (le_trans times.cut (lit≤ tt)))

    pub whole_is : eq (of_int binary64 (to_signed 63 (times64 x))) (times64 x) ≡ on_grid x
    whole_is = grid_test binary64 20 6 63 x tested.0 tested.1 (lit≤ tt) (lit< tt) (lit< tt) ∙ multiple_64 x
