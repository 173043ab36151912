-- The keys of numbers are in the order of the values; only the two zeros are equal with different keys. Assumes nothing.
use Rattle.std.proofs.Common.{◌≡◌, ℕ, suc, ◌+◌, ◌-◌, ◌*◌, ◌/◌, ◌^◌, ◌<◌, ◌≤◌, Bool, true, false, cond, not, T, ltb, sym, refl, ap, ◌∙◌, subst, inl, inr, zero-le, le_trans, le_of_eq, lt_of_le_of_lt, le_of_lt, lt_irrefl, mul-le-mul_right, lt-suc_self, suc-mul, mul_comm, eq-or-lt_of_le, le-div_iff_mul-le, arith, ltb→lt, lt→ltb, T_not, pow_pos, pow-add, ltb-false, ltb-true}
use native.Mathlib.Nat.{pow-succ', mul-lt-mul_of_pos_left}
use lib.Arith.{lt_of_le-ne}
use lib.Pow.{shr_mono}
use lib.Ieee.{Float, Format, binary64, prec, size, lt, eq, fits, hid, ones, top, of_bits, to_bits}
use lib.Ieee.Digits.{size-lt, size-le, size_reaches}
use lib.Ieee.Fits.{kept-lt, two, two-le_pos}
use lib.Ieee.Bits.{to_bits-lt, of_bits-to_bits}
use lib.Ieee.Scale.{overflow}
use Rattle.laws.proofs.Tests.{same_test, le_or_lt}
use Rattle.floats.specs.Values.{canonical_zero}
use Rattle.floats.specs.TotalOrder.{key, key_of, float_at}
use Rattle.floats.proofs.Rank.{mag, sgn, at, rank, rank_is, Num, mag_le, lt→, →lt, →eq}
use Rattle.floats.proofs.Bits.{mbits, over_bits, to_bits_num, bits_one}
use Rattle.floats.proofs.Zeros.{canonical_one}
use Rattle.floats.proofs.Keys.{key-low, key-high, key-small, pattern_of_key}
use Rattle.floats.proofs.Gaps.{Good, good_one, good_rank}

-- ---- the bits of a magnitude grow with it
twice_hid : (p : ℕ) → 0 < p → 2 ^ p ≡ 2 * 2 ^ (p - 1)
twice_hid p h = ap (λ (x : ℕ). 2 ^ x) (suc_pred p h) ∙ pow-succ' 2 (p - 1)
  where
    suc_pred : (p : ℕ) → 0 < p → p ≡ suc (p - 1)
    suc_pred p h = omega arith

kept_ge : (p n : ℕ) → 0 < p → 0 < size n - p → 2 ^ (p - 1) ≤ n / 2 ^ (size n - p)
kept_ge p n P h = (le-div_iff_mul-le (pow_pos (size n - p))).1 (le_trans (le_of_eq (sym (pow-add 2 (p - 1) (size n - p)))) (size_reaches n (p - 1 + (size n - p)) (room (size n) p P h)))
  where
    room : (z p : ℕ) → 0 < p → 0 < z - p → p - 1 + (z - p) < z
    room z p P h = omega arith

mbits_mono : (f : Format) (m n : ℕ) → m ≤ n → mbits f m ≤ mbits f n
unfolding mbits
mbits_mono f m n h = elim (eq-or-lt_of_le (fewer (size m) (size n) (prec f) (size-le m (size n) (lt_of_le_of_lt h (size-lt n))))) [
  | inl e ↦ subst (λ (k : ℕ). k * hid f + m / 2 ^ k ≤ (size n - prec f) * hid f + n / 2 ^ (size n - prec f)) (sym e) (plus ((size n - prec f) * hid f) (m / 2 ^ (size n - prec f)) (n / 2 ^ (size n - prec f)) (shr_mono (size n - prec f) h))
  | inr l ↦
      let P : 0 < prec f = two-le_pos (prec f) (two f) in
      let j = size m - prec f in
      let k = size n - prec f in
      step (j * hid f) (k * hid f) (hid f) (m / 2 ^ j) (n / 2 ^ k) (2 ^ prec f) (twice_hid (prec f) P) (kept-lt (prec f) m) (le_trans (le_of_eq (sym (suc-mul j (hid f)))) (mul-le-mul_right (hid f) l)) (kept_ge (prec f) n P (lt_of_le_of_lt zero-le l))
]
  where
    fewer : (a b p : ℕ) → a ≤ b → a - p ≤ b - p
    fewer a b p h = omega arith

    plus : (a b c : ℕ) → b ≤ c → a + b ≤ a + c
    plus a b c h = omega arith

    step : (a b h q r t : ℕ) → t ≡ 2 * h → q < t → a + h ≤ b → h ≤ r → a + q ≤ b + r
    step a b h q r t e x y z = omega arith

mbits_lt : (f : Format) (n : ℕ) → n ≤ overflow f → mbits f n < top f
mbits_lt f n h = lt_of_le_of_lt (le_trans (mbits_mono f n (overflow f) h) (le_of_eq (over_bits f ∙ mul_comm (ones f) (hid f)))) (mul-lt-mul_of_pos_left (lt-suc_self (ones f)) (pow_pos (prec f - 1)))

mbits_strict : (f : Format) (x y : Float) → Num f x → Num f y → sgn x ≡ sgn y → mag f x < mag f y → mbits f (mag f x) < mbits f (mag f y)
mbits_strict f x y p q g h =
    lt_of_le-ne (mbits_mono f (mag f x) (mag f y) (le_of_lt h))
    (λ (k : mbits f (mag f x) ≡ mbits f (mag f y)).
    let w : x ≡ y = bits_one f x y p q (to_bits_num f x p ∙ (λ i. cond (g i) (top f) 0 + k i) ∙ sym (to_bits_num f y q)) in
    lt_irrefl (mag f y) (subst (λ (z : Float). mag f z < mag f y) w h))

-- ---- the key of a number by its sign and the bits of its magnitude
abbrev side : Bool → ℕ → ℕ
side true b = 2 ^ 63 - 1 - b
side false b = b + 2 ^ 63

key-is : (x : Float) → Num binary64 x → key_of x ≡ side (sgn x) (mbits binary64 (mag binary64 x))
unfolding key_of
key-is x p = ap key (to_bits_num binary64 x p) ∙ go (sgn x) (mbits binary64 (mag binary64 x)) (mbits_lt binary64 (mag binary64 x) (mag_le binary64 x p.0))
  where
    go : (s : Bool) (b : ℕ) → b < 2 ^ 63 → key (cond s (2 ^ 63) 0 + b) ≡ side s b
    go true b h = key-high (2 ^ 63 + b) (omega arith) ∙ omega arith
    go false b h = key-low (0 + b) (omega arith) ∙ omega arith

-- ---- the keys of numbers are in the order of the values
pub key-lt : (x y : Float) → Num binary64 x → Num binary64 y → T (lt x y) → key_of x < key_of y
key-lt x y p q h =
    subst (λ (z : ℕ). z < key_of y) (sym (key-is x p))
    (subst (λ (z : ℕ). side (sgn x) (mbits binary64 (mag binary64 x)) < z) (sym (key-is y q))
    (go (overflow binary64) (sgn x) (sgn y) (mag binary64 x) (mag binary64 y) (mbits binary64 (mag binary64 x)) (mbits binary64 (mag binary64 y)) (mag_le binary64 x p.0) (mag_le binary64 y q.0) (mbits_lt binary64 (mag binary64 x) (mag_le binary64 x p.0)) (mbits_strict binary64 x y p q) (λ e. mbits_strict binary64 y x q p (sym e)) (subst (λ (z : ℕ). z < at (overflow binary64) (sgn y) (mag binary64 y)) (rank_is binary64 x) (subst (λ (z : ℕ). rank binary64 x < z) (rank_is binary64 y) (lt→ binary64 x y p q h)))))
  where
    go : (B : ℕ) (s r : Bool) (m n b c : ℕ) → m ≤ B → n ≤ B → b < 2 ^ 63 → (s ≡ r → m < n → b < c) → (s ≡ r → n < m → c < b) → at B s m < at B r n → side s b < side r c
    go B false false m n b c a d t u v k = omega (arith, u refl (omega arith))
    go B true true m n b c a d t u v k = omega (arith, v refl (omega arith))
    go B true false m n b c a d t u v k = omega arith
    go B false true m n b c a d t u v k = absurd (omega arith)

-- ---- the float of a float's key is the float itself, so floats with one key are equal
pub float_back : (x : Float) → T (fits binary64 x) → float_at (key_of x) ≡ x
unfolding key_of float_at
float_back x p = ap (of_bits binary64) (pattern_of_key (to_bits binary64 x) (to_bits-lt binary64 x p)) ∙ of_bits-to_bits binary64 x p

pub key-of-small : (x : Float) → T (fits binary64 x) → key_of x < 2 ^ 64
unfolding key_of
key-of-small x p = key-small (to_bits binary64 x) (to_bits-lt binary64 x p)

pub key-of-one : (x y : Float) → T (fits binary64 x) → T (fits binary64 y) → key_of x ≡ key_of y → x ≡ y
key-of-one x y p q h = sym (float_back x p) ∙ ap float_at h ∙ float_back y q

-- ---- the order of the keys is that of the values, wherever equal values have one key
module _ (x y : Float) (p : Num binary64 x) (q : Num binary64 y) where
  same-order : (rank binary64 x ≡ rank binary64 y → key_of x ≡ key_of y) → lt x y ≡ ltb (key_of x) (key_of y)
  same-order h = same_test (lt x y) (ltb (key_of x) (key_of y)) (λ t. lt→ltb (key_of x) (key_of y) (key-lt x y p q t)) (λ t. →lt binary64 x y p q (up (ltb→lt (key_of x) (key_of y) t)))
    where
      up : key_of x < key_of y → rank binary64 x < rank binary64 y
      up k = elim (le_or_lt (rank binary64 y) (rank binary64 x)) [
        | inr l ↦ l
        | inl l ↦ elim (eq-or-lt_of_le l) [ inl e ↦ absurd (omega (arith, h (sym e))) | inr g ↦ absurd (omega (arith, key-lt y x q p (→lt binary64 y x q p g))) ]
      ]

  -- this holds for values that are not equal, and for values that are not -0
  pub unequal_key : T (not (eq x y)) → lt x y ≡ ltb (key_of x) (key_of y)
  unequal_key n = same-order (λ e. absurd (T_not (eq x y) n (→eq binary64 x y p q e)))

  pub canonical_key : canonical_zero x ≡ x → canonical_zero y ≡ y → lt x y ≡ ltb (key_of x) (key_of y)
  canonical_key c d = same-order (λ e. ap key_of (sym c ∙ canonical_one binary64 x y p q e ∙ d))

-- and for two numbers that are not negative and not -0
module _ (x y : Float) (p : Good x) (q : Good y) where
  good_key : lt y x ≡ ltb (key_of y) (key_of x)
  good_key = same-order y x q.num p.num (λ e. ap key_of (good_one y x q p (less (overflow binary64) (mag binary64 y) (mag binary64 x) (sym (good_rank y q) ∙ e ∙ good_rank x p))))
    where
      less : (B m n : ℕ) → B + m ≡ B + n → m ≡ n
      less B m n h = omega arith

  pub nearer-key : lt y x ≡ true → key_of y < key_of x
  nearer-key h = ltb-true (key_of y) (key_of x) (sym good_key ∙ h)

  pub no_nearer_key : lt y x ≡ false → key_of x ≤ key_of y
  no_nearer_key h = ltb-false (key_of y) (key_of x) (sym good_key ∙ h)
