-- The order of the keys is totalOrder, and the comparison by keys is the comparison by totalOrder. Assumes nothing.
use Rattle.std.proofs.Common.{◌≡◌, ℕ, ◌+◌, ◌-◌, ◌%◌, ◌^◌, ◌<◌, ◌≤◌, Bool, true, false, cond, not, ◌&&◌, T, eqb, leb, ◌⊎◌, pos, sym, refl, ap, ◌∙◌, subst, inl, inr, le_of_eq, eq-or-lt_of_le, arith, le→leb, eqb→eq, ltb→lt, leb→le, nltb→le}
use lib.Dec.{nleb→lt, not_T}
use lib.Ieee.{Float, fin, binary64, size, lt, is_nan, nan_bits, of_bits, to_bits}
use lib.Ieee.Fits.{and_l, and_r}
use lib.Ieee.Bits.{of_bits-fits, to_bits-of_bits, nan_bits_is}
use Rattle.laws.proofs.Tests.{same_test, is_true, is_false, cond_true, cond_false, le_or_lt}
use Rattle.floats.specs.TotalOrder.{sign_set, quiet, payload, numbers_in_order, positive_nans_in_order, nans_in_order, total_order, key, key_of}
use Rattle.floats.specs.Inner.TotalOrder.{total_cmp}
use Rattle.std.specs.Cmp.{ranks}
use Rattle.std.specs.Ordering.{nat_cmp, MatchOrdering}
use Rattle.std.specs.declared.cmp.Ordering.{Ordering}
use Rattle.std.specs.declared.cmp.Ordering.TheVariants.{Less, Equal, Greater}
use Rattle.floats.proofs.Rank.{sgn, rank, Num, lt→, →lt}
use Rattle.floats.proofs.Bits.{rank_one, Zero, nan-bits}
use Rattle.floats.proofs.Keys.{key-low, key-high}
use Rattle.floats.proofs.NumberKeys.{key-lt}

-- ---- two numbers
number : (a : ℕ) → T (not (nan_bits binary64 a)) → T (not (is_nan (of_bits binary64 a)))
number a h = subst (λ (b : Bool). T (not b)) (nan_bits_is binary64 a) h

zero_bits : (s : Bool) → to_bits binary64 (fin s 0 (pos 0)) ≡ cond s (2 ^ 63) 0
unfolding to_bits size
zero_bits true = refl
zero_bits false = refl

zeros-in_order : (s t : Bool) → leb (key (cond s (2 ^ 63) 0)) (key (cond t (2 ^ 63) 0)) ≡ not (eqb (cond s (2 ^ 63) 0) 0 && eqb (cond t (2 ^ 63) 0) (2 ^ 63))
unfolding key
zeros-in_order true true = refl
zeros-in_order true false = refl
zeros-in_order false true = refl
zeros-in_order false false = refl

module _ (a b : ℕ) (p : a < 2 ^ 64) (q : b < 2 ^ 64) (m : T (not (nan_bits binary64 a))) (n : T (not (nan_bits binary64 b))) where
  abbrev x : Float
  x = of_bits binary64 a

  abbrev y : Float
  y = of_bits binary64 b

  num_x : Num binary64 x
  num_x = (of_bits-fits binary64 a, number a m)

  num_y : Num binary64 y
  num_y = (of_bits-fits binary64 b, number b n)

  bits_x : to_bits binary64 x ≡ a
  bits_x = to_bits-of_bits binary64 a p num_x.1

  bits_y : to_bits binary64 y ≡ b
  bits_y = to_bits-of_bits binary64 b q num_y.1

  not_lt : (z w : Float) → Num binary64 z → Num binary64 w → rank binary64 w ≤ rank binary64 z → lt z w ≡ false
  not_lt z w g h k = is_false (lt z w) (λ t. omega (arith, lt→ binary64 z w g h t))

  abbrev tie : Bool
  tie = not (eqb a 0 && eqb b (2 ^ 63))

  equal : rank binary64 x ≡ rank binary64 y → leb (key a) (key b) ≡ tie
  equal h = go (rank_one binary64 x y num_x num_y h)
    where
      bits_of_zero : (z : Float) (c : ℕ) → to_bits binary64 z ≡ c → Zero z → c ≡ cond (sgn z) (2 ^ 63) 0
      bits_of_zero z c e h = sym e ∙ ap (to_bits binary64) h ∙ zero_bits (sgn z)

      go : (x ≡ y) ⊎ (Zero x × Zero y) → leb (key a) (key b) ≡ tie
      go (inl e) =
          let s : a ≡ b = sym bits_x ∙ ap (to_bits binary64) e ∙ bits_y in
          is_true (leb (key a) (key b)) (le→leb (key a) (key b) (le_of_eq (ap key s)))
          ∙ sym (is_true tie (not_T (eqb a 0 && eqb b (2 ^ 63)) (λ t. omega (arith, eqb→eq a 0 (and_l (eqb a 0) (eqb b (2 ^ 63)) t), eqb→eq b (2 ^ 63) (and_r (eqb a 0) (eqb b (2 ^ 63)) t)))))
      go (inr e) =
          let u = bits_of_zero x a bits_x e.0 in
          let v = bits_of_zero y b bits_y e.1 in
          (λ i. leb (key (u i)) (key (v i))) ∙ zeros-in_order (sgn x) (sgn y) ∙ sym (λ i. not (eqb (u i) 0 && eqb (v i) (2 ^ 63)))

  ordered : (z w : Float) (c d : ℕ) → Num binary64 z → Num binary64 w → to_bits binary64 z ≡ c → to_bits binary64 w ≡ d → T (lt z w) → key c < key d
  unfolding key_of
  ordered z w c d g h e f t = subst (λ (k : ℕ). key k < key d) e (subst (λ (k : ℕ). key (to_bits binary64 z) < key k) f (key-lt z w g h t))

  numbers : leb (key a) (key b) ≡ numbers_in_order a b
  unfolding numbers_in_order
  numbers = elim (le_or_lt (rank binary64 x) (rank binary64 y)) [
    | inr l ↦
        let t : T (lt y x) = →lt binary64 y x num_y num_x l in
        is_false (leb (key a) (key b)) (λ k. omega (arith, leb→le (key a) (key b) k, ordered y x b a num_y num_x bits_y bits_x t))
        ∙ sym (cond_false (lt x y) true (cond (lt y x) false tie) (not_lt x y num_x num_y (omega arith)) ∙ cond_true (lt y x) false tie (is_true (lt y x) t))
    | inl l ↦ elim (eq-or-lt_of_le l) [
      | inl e ↦ equal e ∙ sym (cond_false (lt x y) true (cond (lt y x) false tie) (not_lt x y num_x num_y (omega arith)) ∙ cond_false (lt y x) false tie (not_lt y x num_y num_x (omega arith)))
      | inr k ↦
          let t : T (lt x y) = →lt binary64 x y num_x num_y k in
          is_true (leb (key a) (key b)) (le→leb (key a) (key b) (omega (arith, ordered x y a b num_x num_y bits_x bits_y t)))
          ∙ sym (cond_true (lt x y) true (cond (lt y x) false tie) (is_true (lt x y) t))
    ]
  ]

-- ---- NaNs: a pattern is one where the digits after the sign are above those of an infinity
abbrev infinity : ℕ
infinity = 0x7ff0_0000_0000_0000

nan-above : (a : ℕ) → T (nan_bits binary64 a) → infinity < a % 2 ^ 63
nan-above a t = ltb→lt infinity (a % 2 ^ 63) (subst T (nan-bits a) t)

number-below : (a : ℕ) → T (not (nan_bits binary64 a)) → a % 2 ^ 63 ≤ infinity
number-below a t = nltb→le infinity (a % 2 ^ 63) (subst (λ (b : Bool). T (not b)) (nan-bits a) t)

-- a key by the sign and the digits after it
abbrev Key : ℕ → Type 0
Key a = ((sign_set a ≡ true) × (key a ≡ 2 ^ 63 - 1 - a % 2 ^ 63)) ⊎ ((sign_set a ≡ false) × (key a ≡ a % 2 ^ 63 + 2 ^ 63))

key-by_sign : (a : ℕ) → a < 2 ^ 64 → Key a
unfolding sign_set
key-by_sign a p = elim (le_or_lt (2 ^ 63) a) [
  | inl h ↦ inl (is_true (leb (2 ^ 63) a) (le→leb (2 ^ 63) a h), key-high a h ∙ omega arith)
  | inr h ↦ inr (is_false (leb (2 ^ 63) a) (λ t. omega (arith, leb→le (2 ^ 63) a t)), key-low a h ∙ omega arith)
]

in_order : (a b : ℕ) → key a ≤ key b → leb (key a) (key b) ≡ true
in_order a b h = is_true (leb (key a) (key b)) (le→leb (key a) (key b) h)

out_of_order : (a b : ℕ) → key b < key a → leb (key a) (key b) ≡ false
out_of_order a b h = is_false (leb (key a) (key b)) (λ t. omega (arith, leb→le (key a) (key b) t))

-- a NaN and a number, and a number and a NaN
nan-first : (a b : ℕ) → Key a → Key b → infinity < a % 2 ^ 63 → b % 2 ^ 63 ≤ infinity → leb (key a) (key b) ≡ sign_set a
nan-first a b (inl s) (inl t) h k = in_order a b (omega (arith, s.1, t.1)) ∙ sym s.0
nan-first a b (inl s) (inr t) h k = in_order a b (omega (arith, s.1, t.1)) ∙ sym s.0
nan-first a b (inr s) (inl t) h k = out_of_order a b (omega (arith, s.1, t.1)) ∙ sym s.0
nan-first a b (inr s) (inr t) h k = out_of_order a b (omega (arith, s.1, t.1)) ∙ sym s.0

nan_last : (a b : ℕ) → Key a → Key b → a % 2 ^ 63 ≤ infinity → infinity < b % 2 ^ 63 → leb (key a) (key b) ≡ not (sign_set b)
nan_last a b (inl s) (inl t) h k = out_of_order a b (omega (arith, s.1, t.1)) ∙ sym (ap not t.0)
nan_last a b (inr s) (inl t) h k = out_of_order a b (omega (arith, s.1, t.1)) ∙ sym (ap not t.0)
nan_last a b (inl s) (inr t) h k = in_order a b (omega (arith, s.1, t.1)) ∙ sym (ap not t.0)
nan_last a b (inr s) (inr t) h k = in_order a b (omega (arith, s.1, t.1)) ∙ sym (ap not t.0)

-- two NaNs
leb_same : (a b c d : ℕ) → (a ≤ b → c ≤ d) → (c ≤ d → a ≤ b) → leb a b ≡ leb c d
leb_same a b c d p q = same_test (leb a b) (leb c d) (λ t. le→leb c d (p (leb→le a b t))) (λ t. le→leb a b (q (leb→le c d t)))

nans_by_digits : (a b : ℕ) → infinity < a % 2 ^ 63 → infinity < b % 2 ^ 63 → leb (a % 2 ^ 63) (b % 2 ^ 63) ≡ positive_nans_in_order a b
unfolding positive_nans_in_order quiet payload
nans_by_digits a b h k =
    go (leb (2 ^ 51) (a % 2 ^ 52)) (leb (2 ^ 51) (b % 2 ^ 52)) (leb→le (2 ^ 51) (a % 2 ^ 52)) (nleb→lt (2 ^ 51) (a % 2 ^ 52)) (leb→le (2 ^ 51) (b % 2 ^ 52)) (nleb→lt (2 ^ 51) (b % 2 ^ 52))
  where
    go : (c d : Bool) → (T c → 2 ^ 51 ≤ a % 2 ^ 52) → (T (not c) → a % 2 ^ 52 < 2 ^ 51) → (T d → 2 ^ 51 ≤ b % 2 ^ 52) → (T (not d) → b % 2 ^ 52 < 2 ^ 51)
        → leb (a % 2 ^ 63) (b % 2 ^ 63) ≡ cond c (cond d (leb (a % 2 ^ 51) (b % 2 ^ 51)) false) (cond d true (leb (a % 2 ^ 51) (b % 2 ^ 51)))
    go true true u v w z = leb_same (a % 2 ^ 63) (b % 2 ^ 63) (a % 2 ^ 51) (b % 2 ^ 51) (λ l. omega (arith, u tt, w tt)) (λ l. omega (arith, u tt, w tt))
    go true false u v w z = is_false (leb (a % 2 ^ 63) (b % 2 ^ 63)) (λ t. omega (arith, u tt, z tt, leb→le (a % 2 ^ 63) (b % 2 ^ 63) t))
    go false true u v w z = is_true (leb (a % 2 ^ 63) (b % 2 ^ 63)) (le→leb (a % 2 ^ 63) (b % 2 ^ 63) (omega (arith, v tt, w tt)))
    go false false u v w z = leb_same (a % 2 ^ 63) (b % 2 ^ 63) (a % 2 ^ 51) (b % 2 ^ 51) (λ l. omega (arith, v tt, z tt)) (λ l. omega (arith, v tt, z tt))

nans : (a b : ℕ) → Key a → Key b → infinity < a % 2 ^ 63 → infinity < b % 2 ^ 63 → leb (key a) (key b) ≡ nans_in_order a b
unfolding nans_in_order
nans a b (inl s) (inl t) h k = leb_same (key a) (key b) (b % 2 ^ 63) (a % 2 ^ 63) (λ l. omega (arith, s.1, t.1)) (λ l. omega (arith, s.1, t.1)) ∙ nans_by_digits b a k h ∙ sym (cond_true (sign_set a) _ _ s.0 ∙ cond_true (sign_set b) _ _ t.0)
nans a b (inl s) (inr t) h k = in_order a b (omega (arith, s.1, t.1)) ∙ sym (cond_true (sign_set a) _ _ s.0 ∙ cond_false (sign_set b) _ _ t.0)
nans a b (inr s) (inl t) h k = out_of_order a b (omega (arith, s.1, t.1)) ∙ sym (cond_false (sign_set a) _ _ s.0 ∙ cond_true (sign_set b) _ _ t.0)
nans a b (inr s) (inr t) h k = leb_same (key a) (key b) (a % 2 ^ 63) (b % 2 ^ 63) (λ l. omega (arith, s.1, t.1)) (λ l. omega (arith, s.1, t.1)) ∙ nans_by_digits a b h k ∙ sym (cond_false (sign_set a) _ _ s.0 ∙ cond_false (sign_set b) _ _ t.0)

-- ---- the order of the keys is totalOrder
pub key-order : (a b : ℕ) → a < 2 ^ 64 → b < 2 ^ 64 → leb (key a) (key b) ≡ total_order a b
unfolding total_order
key-order a b p q = go (nan_bits binary64 a) (nan_bits binary64 b) (nan-above a) (number-below a) (nan-above b) (number-below b) (numbers a b p q)
  where
    go : (c d : Bool) → (T c → infinity < a % 2 ^ 63) → (T (not c) → a % 2 ^ 63 ≤ infinity) → (T d → infinity < b % 2 ^ 63) → (T (not d) → b % 2 ^ 63 ≤ infinity)
        → (T (not c) → T (not d) → leb (key a) (key b) ≡ numbers_in_order a b)
        → leb (key a) (key b) ≡ cond c (cond d (nans_in_order a b) (sign_set a)) (cond d (not (sign_set b)) (numbers_in_order a b))
    go true true u v w z n = nans a b (key-by_sign a p) (key-by_sign b q) (u tt) (w tt)
    go true false u v w z n = nan-first a b (key-by_sign a p) (key-by_sign b q) (u tt) (z tt)
    go false true u v w z n = nan_last a b (key-by_sign a p) (key-by_sign b q) (v tt) (w tt)
    go false false u v w z n = n tt tt

-- ---- so keys in order are patterns in order
module _ (a b : ℕ) (p : a < 2 ^ 64) (q : b < 2 ^ 64) where
  pub order-of_keys : key a ≤ key b → total_order a b ≡ true
  order-of_keys h = sym (key-order a b p q) ∙ in_order a b h

  pub disorder_of_keys : key b < key a → total_order a b ≡ false
  disorder_of_keys h = sym (key-order a b p q) ∙ out_of_order a b h

-- ---- and a comparison of keys is one by totalOrder
module _ (a b : ℕ) (p : a < 2 ^ 64) (q : b < 2 ^ 64) where
  pub less_of_keys : key a < key b → total_cmp a b ≡ Less
  unfolding total_cmp
  less_of_keys h = cond_false (total_order b a) (cond (total_order a b) Equal Greater) Less (disorder_of_keys b a q p h)

  pub greater_of_keys : key b < key a → total_cmp a b ≡ Greater
  unfolding total_cmp
  greater_of_keys h = cond_true (total_order b a) (cond (total_order a b) Equal Greater) Less (order-of_keys b a q p (omega arith)) ∙ cond_false (total_order a b) Equal Greater (disorder_of_keys a b p q h)

  pub equal-of_keys : key a ≡ key b → total_cmp a b ≡ Equal
  unfolding total_cmp
  equal-of_keys h = cond_true (total_order b a) (cond (total_order a b) Equal Greater) Less (order-of_keys b a q p (omega arith)) ∙ cond_true (total_order a b) Equal Greater (order-of_keys a b p q (omega arith))

  pub compared-by_keys : nat_cmp (key a) (key b) ≡ total_cmp a b
  compared-by_keys = go (nat_cmp (key a) (key b)) (ranks (key a) (key b))
    where
      go : (r : Ordering) → MatchOrdering r (key a < key b) (key a ≡ key b) (key b < key a) → r ≡ total_cmp a b
      go Less h = sym (less_of_keys h)
      go Equal h = sym (equal-of_keys h)
      go Greater h = sym (greater_of_keys h)
