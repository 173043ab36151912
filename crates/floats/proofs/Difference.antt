-- A rounded difference of two finite floats is the distance of their ranks, rounded, with a sign. So its rank is a function of the two ranks, monotone in each.
-- Assumes nothing.
use Rattle.std.proofs.Common.{◌≡◌, ℕ, ◌+◌, ◌-◌, ◌*◌, ◌^◌, ◌<◌, ◌≤◌, Bool, true, false, cond, not, ◌&&◌, T, ltb, ◌⊎◌, pos, sym, refl, ap, ◌∙◌, subst, inl, inr, le_trans, le_of_eq, le_refl, add-zero, le_of_lt, mul_comm, add-mul, eq-or-lt_of_le, mul-pos, arith, ltb→lt, lt→ltb, nltb→le, pow_pos}
use mathlib.Core.Bool.{beq}
use native.Mathlib.Nat.{mul-sub, sub_self}
use lib.Ieee.{Float, nan, inf, fin, Format, low, up, down, round, sum, neg, add, sub, eq, le, fits}
use lib.Ieee.Fits.{down_pos}
use lib.Ieee.Scale.{round_same, finite, overflow}
use Rattle.laws.proofs.Tests.{is_true, is_false, cond_true, cond_false, le_or_lt}
use Rattle.floats.proofs.Rank.{mag, sgn, at, distance, rank, rank_is, Num, Fin, ltb_scaled, mag_lt, mag_le, cross-l, cross_r, fin_num, at_zero, zero_num, zero_rank, le→, →le, →eq}
use Rattle.floats.proofs.Rounding.{round_shape, round_num, rnd, rnd_mono, rnd_zero}

-- ---- a sum depends only on the values of its two fractions
sub-mul : (a b k : ℕ) → (a - b) * k ≡ a * k - b * k
sub-mul a b k = mul_comm (a - b) k ∙ mul-sub k a b ∙ ap (λ (z : ℕ). z - k * b) (mul_comm k a) ∙ ap (λ (z : ℕ). a * k - z) (mul_comm k b)

pub sum_same : (f : Format) (s : Bool) (a : ℕ) (t : Bool) (b c M N l : ℕ) → 0 < c → 0 < l → a * l ≡ M * c → b * l ≡ N * c → sum f s a t b c ≡ sum f s M t N l
unfolding sum
sum_same f s a t b c M N l C L p q =
    (λ i. cond (beq s t) (e1 i) (cond (l1 i) (e2 i) (round f (s && l2 i) (a - b) c)))
    ∙ ap (λ (z : Float). cond (beq s t) (round f s (M + N) l) (cond (ltb M N) (round f t (N - M) l) z)) (e3 (s && ltb N M))
  where
    e1 : round f s (a + b) c ≡ round f s (M + N) l
    e1 = round_same f s (a + b) c (M + N) l C L (add-mul a b l ∙ ap (λ (z : ℕ). z + b * l) p ∙ ap (λ (z : ℕ). M * c + z) q ∙ sym (add-mul M N c))

    e2 : round f t (b - a) c ≡ round f t (N - M) l
    e2 = round_same f t (b - a) c (N - M) l C L (sub-mul b a l ∙ ap (λ (z : ℕ). z - a * l) q ∙ ap (λ (z : ℕ). N * c - z) p ∙ sym (sub-mul N M c))

    e3 : (r : Bool) → round f r (a - b) c ≡ round f r (M - N) l
    e3 r = round_same f r (a - b) c (M - N) l C L (sub-mul a b l ∙ ap (λ (z : ℕ). z - b * l) p ∙ ap (λ (z : ℕ). M * c - z) q ∙ sym (sub-mul M N c))

    l1 : ltb a b ≡ ltb M N
    l1 = ltb_scaled a b M N l c L C p q

    l2 : ltb b a ≡ ltb N M
    l2 = ltb_scaled b a N M l c L C q p

-- ---- ±p - ±q is the distance of the two, with the sign that IEEE 754 gives it
unfoldable pub sign_of : Bool → Bool → ℕ → ℕ → Bool
sign_of s t p q = cond (beq s (not t)) s (cond (ltb p q) (not t) (s && ltb q p))

sum-value : (f : Format) (B l : ℕ) (s t : Bool) (p q : ℕ) → p ≤ B → q ≤ B → sum f s p (not t) q l ≡ round f (sign_of s t p q) (distance (at B s p) (at B t q)) l
unfolding sum sign_of
sum-value f B l s t p q h k = go s t
  where
    pick : (b u v : Bool) (m n d : ℕ) → (T b → m ≡ d) → (T (not b) → n ≡ d) → cond b (round f u m l) (round f v n l) ≡ round f (cond b u v) d l
    pick true u v m n d x y = ap (λ (z : ℕ). round f u z l) (x tt)
    pick false u v m n d x y = ap (λ (z : ℕ). round f v z l) (y tt)

    go : (s t : Bool) → sum f s p (not t) q l ≡ round f (sign_of s t p q) (distance (at B s p) (at B t q)) l
    go false true = let z : p + q ≡ distance (B + p) (B - q) = omega arith in ap (λ (n : ℕ). round f false n l) z
    go true false = let z : p + q ≡ distance (B - p) (B + q) = omega arith in ap (λ (n : ℕ). round f true n l) z
    go false false = pick (ltb p q) true false (q - p) (p - q) (distance (B + p) (B + q)) (λ t. omega (arith, ltb→lt p q t)) (λ t. omega (arith, nltb→le p q t))
    go true true = pick (ltb p q) false (ltb q p) (q - p) (p - q) (distance (B - p) (B - q)) (λ t. omega (arith, ltb→lt p q t)) (λ t. omega (arith, nltb→le p q t))

-- p / l equals a / c, and q / l equals b / c
pub sum_round : (f : Format) (B : ℕ) (s t : Bool) (a b c p q l : ℕ) → 0 < c → 0 < l → a * l ≡ p * c → b * l ≡ q * c → p ≤ B → q ≤ B
    → sum f s a (not t) b c ≡ round f (sign_of s t p q) (distance (at B s p) (at B t q)) l
sum_round f B s t a b c p q l C L u v h k = sum_same f s a (not t) b c p q l C L u v ∙ sum-value f B l s t p q h k

-- the sign is minus where the first is less, and plus otherwise, except for -0 - +0
pub minus_sign : (B : ℕ) (s t : Bool) (p q : ℕ) → p ≤ B → q ≤ B → at B s p < at B t q → sign_of s t p q ≡ true
unfolding sign_of
minus_sign B false true p q h k l = absurd (omega arith)
minus_sign B true false p q h k l = refl
minus_sign B false false p q h k l = cond_true (ltb p q) true false (is_true (ltb p q) (lt→ltb p q (omega arith)))
minus_sign B true true p q h k l = cond_false (ltb p q) false (ltb q p) (is_false (ltb p q) (λ t. omega (arith, ltb→lt p q t))) ∙ is_true (ltb q p) (lt→ltb q p (omega arith))

pub plus_sign : (B : ℕ) (s t : Bool) (p q : ℕ) → p ≤ B → q ≤ B → (T s → T (not t) → 0 < p + q) → at B t q ≤ at B s p → sign_of s t p q ≡ false
unfolding sign_of
plus_sign B false true p q h k z l = refl
plus_sign B true false p q h k z l = absurd (omega (arith, z tt tt))
plus_sign B false false p q h k z l = cond_false (ltb p q) true false (is_false (ltb p q) (λ t. omega (arith, ltb→lt p q t)))
plus_sign B true true p q h k z l = go (ltb p q) (ltb q p) (is_false (ltb q p) (λ t. omega (arith, ltb→lt q p t)))
  where
    go : (b c : Bool) → c ≡ false → cond b false c ≡ false
    go true c e = refl
    go false c e = e

more_sign : (B : ℕ) (s t : Bool) (p q : ℕ) → p ≤ B → q ≤ B → at B t q < at B s p → sign_of s t p q ≡ false
more_sign B s t p q h k l = plus_sign B s t p q h k (apart s t l) (le_of_lt l)
  where
    apart : (s t : Bool) → at B t q < at B s p → T s → T (not t) → 0 < p + q
    apart true false l u v = omega arith
    apart true true l u v = absurd v
    apart false t l u v = absurd u

-- ---- the difference of two finite floats
pub sub_round : (f : Format) (x y : Float) → Fin f x → Fin f y → sub f x y ≡ round f (sign_of (sgn x) (sgn y) (mag f x) (mag f y)) (distance (rank f x) (rank f y)) (2 ^ low f)
unfolding sub add neg rank sgn
sub_round f nan y p q = absurd p.1
sub_round f (inf s) y p q = absurd p.1
sub_round f (fin s m e) nan p q = absurd q.1
sub_round f (fin s m e) (inf t) p q = absurd q.1
sub_round f (fin s m e) (fin t n d) p q =
    sum_round f (overflow f) s t (m * up e * down d) (n * up d * down e) (down e * down d) (mag f (fin s m e)) (mag f (fin t n d)) (2 ^ low f)
    (mul-pos (down_pos e) (down_pos d)) (pow_pos (low f)) (cross-l f s m e d p.0) (cross_r f t n d e q.0) (le_of_lt (mag_lt f s m e p.0)) (le_of_lt (mag_lt f t n d q.0))

-- ---- the difference of two ranks, rounded
unfoldable pub shift : Format → ℕ → ℕ → ℕ
shift f p q = at (overflow f) (ltb p q) (rnd f (distance p q))

pub shift_up : (f : Format) (p q : ℕ) → q ≤ p → shift f p q ≡ overflow f + rnd f (p - q)
unfolding shift
shift_up f p q h = let d : distance p q ≡ p - q = omega arith in (λ i. at (overflow f) (is_false (ltb p q) (λ t. omega (arith, ltb→lt p q t)) i) (rnd f (d i)))

pub shift_down : (f : Format) (p q : ℕ) → p < q → shift f p q ≡ overflow f - rnd f (q - p)
unfolding shift
shift_down f p q h = let d : distance p q ≡ q - p = omega arith in (λ i. at (overflow f) (is_true (ltb p q) (lt→ltb p q h) i) (rnd f (d i)))

pub shift_mono : (f : Format) (p q p' q' : ℕ) → p ≤ p' → q' ≤ q → shift f p q ≤ shift f p' q'
shift_mono f p q p' q' h k = elim (le_or_lt q p) [
  | inl g ↦
      let a : q' ≤ p' = omega arith in
      let c : rnd f (p - q) ≤ rnd f (p' - q') = rnd_mono f (p - q) (p' - q') (omega arith) in
      omega (arith, shift_up f p q g, shift_up f p' q' a)
  | inr g ↦ elim (le_or_lt q' p') [
    | inl a ↦ omega (arith, shift_down f p q g, shift_up f p' q' a)
    | inr a ↦
        let c : rnd f (q' - p') ≤ rnd f (q - p) = rnd_mono f (q' - p') (q - p) (omega arith) in
        omega (arith, shift_down f p q g, shift_down f p' q' a)
  ]
]

-- ---- number, magnitude, sign and rank of a difference
module _ (f : Format) (x y : Float) (p : Fin f x) (q : Fin f y) where
  pub sub_num : Num f (sub f x y)
  sub_num = subst (Num f) (sym (sub_round f x y p q)) (round_num f (sign_of (sgn x) (sgn y) (mag f x) (mag f y)) (distance (rank f x) (rank f y)) (2 ^ low f))

  pub sub_mag : mag f (sub f x y) ≡ rnd f (distance (rank f x) (rank f y))
  unfolding rnd
  sub_mag = ap (mag f) (sub_round f x y p q) ∙ (round_shape f (sign_of (sgn x) (sgn y) (mag f x) (mag f y)) (distance (rank f x) (rank f y)) (2 ^ low f)).1

  sub_sgn : sgn (sub f x y) ≡ sign_of (sgn x) (sgn y) (mag f x) (mag f y)
  sub_sgn = ap sgn (sub_round f x y p q) ∙ (round_shape f (sign_of (sgn x) (sgn y) (mag f x) (mag f y)) (distance (rank f x) (rank f y)) (2 ^ low f)).0

  pub sub_minus : rank f x < rank f y → sgn (sub f x y) ≡ true
  sub_minus h = sub_sgn ∙ minus_sign (overflow f) (sgn x) (sgn y) (mag f x) (mag f y) (mag_le f x p.0) (mag_le f y q.0) (rw (← rank_is f x, ← rank_is f y) h)

  pub sub_plus : rank f y < rank f x → sgn (sub f x y) ≡ false
  sub_plus h = sub_sgn ∙ more_sign (overflow f) (sgn x) (sgn y) (mag f x) (mag f y) (mag_le f x p.0) (mag_le f y q.0) (rw (← rank_is f x, ← rank_is f y) h)

  pub sub_rank : rank f (sub f x y) ≡ shift f (rank f x) (rank f y)
  unfolding shift
  sub_rank = rank_is f (sub f x y) ∙ ap (at (overflow f) (sgn (sub f x y))) sub_mag ∙ go (le_or_lt (rank f x) (rank f y))
    where
      go : (rank f x ≤ rank f y) ⊎ (rank f y < rank f x) → at (overflow f) (sgn (sub f x y)) (rnd f (distance (rank f x) (rank f y))) ≡ at (overflow f) (ltb (rank f x) (rank f y)) (rnd f (distance (rank f x) (rank f y)))
      go (inr h) = ap (λ (s : Bool). at (overflow f) s (rnd f (distance (rank f x) (rank f y)))) (sub_plus h ∙ sym (is_false (ltb (rank f x) (rank f y)) (λ t. omega (arith, ltb→lt (rank f x) (rank f y) t))))
      go (inl h) = elim (eq-or-lt_of_le h) [
        | inr k ↦ ap (λ (s : Bool). at (overflow f) s (rnd f (distance (rank f x) (rank f y)))) (sub_minus k ∙ sym (is_true (ltb (rank f x) (rank f y)) (lt→ltb (rank f x) (rank f y) k)))
        | inl e ↦
            let d : distance (rank f x) (rank f y) ≡ 0 = omega arith in
            let z : rnd f (distance (rank f x) (rank f y)) ≡ 0 = ap (rnd f) d ∙ rnd_zero f in
            ap (at (overflow f) (sgn (sub f x y))) z ∙ at_zero (overflow f) (sgn (sub f x y)) ∙ sym (ap (at (overflow f) (ltb (rank f x) (rank f y))) z ∙ at_zero (overflow f) (ltb (rank f x) (rank f y)))
      ]

-- ---- the difference is monotone: x ≤ x' and y' ≤ y give x - y ≤ x' - y'
pub sub_mono : (f : Format) (x y x' y' : Float) → Fin f x → Fin f y → Fin f x' → Fin f y' → T (le x x') → T (le y' y) → T (le (sub f x y) (sub f x' y'))
sub_mono f x y x' y' p q p' q' h k =
    →le f (sub f x y) (sub f x' y') (sub_num f x y p q) (sub_num f x' y' p' q')
    (le_trans (le_of_eq (sub_rank f x y p q))
    (le_trans (shift_mono f (rank f x) (rank f y) (rank f x') (rank f y') (le→ f x x' (fin_num f x p) (fin_num f x' p') h) (le→ f y' y (fin_num f y' q') (fin_num f y q) k))
    (le_of_eq (sym (sub_rank f x' y' p' q')))))

-- ---- x - x == 0.0 exactly where x is finite
pub finite_test : (f : Format) (x : Float) → T (fits f x) → eq (sub f x x) (fin false 0 (pos 0)) ≡ finite x
unfolding sub eq
finite_test f nan h = refl
finite_test f (inf true) h = refl
finite_test f (inf false) h = refl
finite_test f (fin s m e) h = go (fin s m e) (h, tt)
  where
    go : (x : Float) → Fin f x → eq (sub f x x) (fin false 0 (pos 0)) ≡ true
    go x p = is_true (eq (sub f x x) (fin false 0 (pos 0))) (→eq f (sub f x x) (fin false 0 (pos 0)) (sub_num f x x p p) (fin_num f (fin false 0 (pos 0)) (zero_num f false))
        (sub_rank f x x p p ∙ shift_up f (rank f x) (rank f x) (le_refl (rank f x)) ∙ ap (λ (z : ℕ). overflow f + rnd f z) (sub_self (rank f x)) ∙ ap (λ (z : ℕ). overflow f + z) (rnd_zero f) ∙ add-zero (overflow f) ∙ sym (zero_rank f false)))
