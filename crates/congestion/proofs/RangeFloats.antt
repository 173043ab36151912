-- A coordinate on the grid minus the cutoff, and plus the cutoff: both are exact, neither is -0, and their keys and those of coordinates are in the order of the 64ths. Assumes nothing.
use mathlib.Core.Path.{◌≡◌, refl, sym, ap, ap₂, ◌∙◌, subst}
use mathlib.Core.Logic.{inl, inr}
use mathlib.Core.Bool.{Bool, true, false, not}
use Prim.Native.Nat.{ℕ, zero, suc, ◌+◌, ◌-◌, ◌^◌, ◌≤◌, ◌<◌}
use native.Mathlib.Nat.{mul-pos, zero-mul}
use native.Mathlib.Omega.{arith}
use lib.Dec.{T, ltb, lit<}
use lib.Pow.{pow_pos}
use lib.Ieee.{Float, nan, inf, fin, binary64, up, round, neg, add, sub, lt, fits, is_nan}
use lib.Ieee.Fits.{down_pos}
use lib.Ieee.Exact.{HasValue}
use lib.Ieee.Bits.{of_bits-fits, to_bits-of_bits}
use lib.Ieee.Scale.{overflow}
use Rattle.laws.proofs.Tests.{le_or_lt, ltb_same}
use Rattle.floats.specs.Values.{canonical_zero}
use Rattle.floats.specs.TotalOrder.{key, pattern_at, key_of, float_at}
use Rattle.floats.specs.Grid.{on_grid, steps, unit, of_units}
use Rattle.floats.proofs.Rank.{mag, sgn, at, rank, rank_is, Num, mag_le, lt_rank, compare_at}
use Rattle.floats.proofs.Rounding.{round_num, val→mag}
use Rattle.floats.proofs.Keys.{key-low, key-high, pattern_low, pattern_high}
use Rattle.floats.proofs.NumberKeys.{canonical_key}
use Rattle.floats.proofs.Units.{of_units-value, grid-value, steps_bound, unit_bound, sub_units, sub-below}
use Rattle.congestion.specs.Wires.{cutoff_of}
use Rattle.congestion.specs.Inner.Keys.{Key}

-- ---- the key of the float at a word is that word
key-of_pattern : (k : ℕ) → k < 2 ^ 64 → (key (pattern_at k) ≡ k) × (pattern_at k < 2 ^ 64)
key-of_pattern k h = elim (le_or_lt (2 ^ 63) k) [
  | inl p ↦ let e = pattern_high k p in (ap key e ∙ key-low (k - 2 ^ 63) (omega arith) ∙ omega arith, omega arith)
  | inr p ↦ let e = pattern_low k p in (ap key e ∙ key-high (2 ^ 64 - 1 - k) (omega arith) ∙ omega arith, omega arith)
]

grid_num : (x : Float) → T (on_grid x) → T (not (is_nan x))
unfolding is_nan
grid_num nan g = absurd (grid-value nan g)
grid_num (inf s) g = tt
grid_num (fin s m e) g = tt

key_back : (w : ℕ) → w < 2 ^ 64 → T (on_grid (float_at w)) → key_of (float_at w) ≡ w
unfolding key_of float_at
key_back w h g = let p = key-of_pattern w h in ap key (to_bits-of_bits binary64 (pattern_at w) p.1 (grid_num (float_at w) g)) ∙ p.0

float_fits : (w : ℕ) → T (fits binary64 (float_at w))
unfolding float_at
float_fits w = of_bits-fits binary64 (pattern_at w)

-- ---- a float that is p - 2 ^ 28 64ths, which may be below 0
record Spot (x : Float) (p : ℕ) : Type 0 where
  num : Num binary64 x
  plain : canonical_zero x ≡ x
  sign : Bool
  size : ℕ
  small : size ≤ 268435456
  value : HasValue x sign size 64
  is : at 268435456 sign size ≡ p

value_sign : (x : Float) (s : Bool) (n : ℕ) → HasValue x s n 64 → sgn x ≡ s
unfolding sgn
value_sign nan s n v = absurd v
value_sign (inf t) s n v = absurd v
value_sign (fin t m e) s n v = v.0

spot_rank : (x : Float) (p : ℕ) (a : Spot x p) → rank binary64 x ≡ at (overflow binary64) a.sign (mag binary64 x)
spot_rank x p a = rank_is binary64 x ∙ ap (λ (s : Bool). at (overflow binary64) s (mag binary64 x)) (value_sign x a.sign a.size a.value)

-- such floats, and so their keys, are in the order of the 64ths
module _ (x y : Float) (p q : ℕ) (a : Spot x p) (b : Spot y q) where
  spot_lt : lt x y ≡ ltb p q
  spot_lt =
      lt_rank binary64 x y a.num b.num
      ∙ ap₂ ltb (spot_rank x p a) (spot_rank y q b)
      ∙ sym (compare_at (overflow binary64) a.sign b.sign a.size b.size (mag binary64 x) (mag binary64 y) (2 ^ 1074) 64 (pow_pos 1074) (lit< tt) (sym (val→mag binary64 x a.sign a.size 64 a.num.0 a.value)) (sym (val→mag binary64 y b.sign b.size 64 b.num.0 b.value)) (mag_le binary64 x a.num.0) (mag_le binary64 y b.num.0)).0
      ∙ (compare_at 268435456 a.sign b.sign a.size b.size a.size b.size 1 1 (lit< tt) (lit< tt) refl refl a.small b.small).0
      ∙ ap₂ ltb a.is b.is

  spot_key : ltb (key_of x) (key_of y) ≡ ltb p q
  spot_key = sym (canonical_key x y a.num b.num a.plain b.plain) ∙ spot_lt

-- ---- a coordinate: its unit, moved up by 2 ^ 28 - 2 ^ 26
grid-at : (x : Float) → T (on_grid x) → at 268435456 (sgn x) (steps x) ≡ 201326592 + unit x
unfolding unit sgn
grid-at nan g = absurd (grid-value nan g)
grid-at (inf s) g = absurd (grid-value (inf s) g)
grid-at (fin true m e) g = omega (arith, steps_bound (fin true m e) g)
grid-at (fin false m e) g = omega arith

grid_spot : (x : Float) → T (fits binary64 x) → T (on_grid x) → canonical_zero x ≡ x → Spot x (201326592 + unit x)
grid_spot x p g z = let b = steps_bound x g in record { num = (p, grid_num x g); plain = z; sign = sgn x; size = steps x; small = omega arith; value = grid-value x g; is = grid-at x g }

word_spot : (w u : ℕ) → Key w u → Spot (float_at w) (201326592 + u)
word_spot w u k = subst (λ (n : ℕ). Spot (float_at w) (201326592 + n)) k.is (grid_spot (float_at w) (float_fits w) k.grid k.plain)

-- ---- a rounded number of 64ths; it is not -0
not_zero : (x : Float) (s : Bool) (n : ℕ) → HasValue x s n 64 → 0 < n → canonical_zero x ≡ x
unfolding canonical_zero
not_zero nan s n v h = absurd v
not_zero (inf t) s n v h = absurd v
not_zero (fin t zero e) s n v h = absurd (omega (arith, v.1, zero-mul (up e), mul-pos h (down_pos e)))
not_zero (fin t (suc m) e) s n v h = refl

round_plain : (s : Bool) (n : ℕ) → n < 2 ^ 53 → (T s → 0 < n) → canonical_zero (round binary64 s n 64) ≡ round binary64 s n 64
unfolding canonical_zero round
round_plain false zero h k = refl
round_plain true zero h k = absurd (omega (arith, k tt))
round_plain s (suc n) h k = not_zero (round binary64 s (suc n) 64) s (suc n) (of_units-value s (suc n) h) (omega arith)

round_spot : (x : Float) (s : Bool) (n p : ℕ) → x ≡ round binary64 s n 64 → n ≤ 268435456 → (T s → 0 < n) → at 268435456 s n ≡ p → Spot x p
round_spot x s n p e h k is = subst (λ (z : Float). Spot z p) (sym e) (record { num = round_num binary64 s n 64; plain = round_plain s n (omega arith) k; sign = s; size = n; small = h; value = of_units-value s n (omega arith); is = is })

-- ---- a coordinate minus another
sub_spot : (x y : Float) (p : ℕ) → T (on_grid x) → T (on_grid y) → canonical_zero x ≡ x → p + unit y ≡ 268435456 + unit x → Spot (sub binary64 x y) p
unfolding of_units
sub_spot x y p g k z e =
    let a = unit_bound x g in
    let b = unit_bound y k in
    elim (le_or_lt (unit y) (unit x)) [
      | inl h ↦ round_spot (sub binary64 x y) false (unit x - unit y) p (sub_units x y g k z h) (omega arith) (λ t. absurd t) (omega arith)
      | inr h ↦ round_spot (sub binary64 x y) true (unit y - unit x) p (sub-below x y g k h) (omega arith) (λ t. omega arith) (omega arith)
    ]

-- a sum is the difference from the second number negated
add-sub : (x y : Float) → add binary64 x y ≡ sub binary64 x (neg y)
unfolding sub neg
add-sub x nan = refl
add-sub x (inf true) = refl
add-sub x (inf false) = refl
add-sub x (fin true m e) = refl
add-sub x (fin false m e) = refl

neg_grid : (y : Float) → T (on_grid y) → T (on_grid (neg y)) × (unit (neg y) + unit y ≡ 134217728)
unfolding neg on_grid unit steps
neg_grid nan g = absurd g
neg_grid (inf s) g = absurd g
neg_grid (fin true m e) g = (g, omega (arith, steps_bound (fin true m e) g))
neg_grid (fin false m e) g = (g, omega (arith, steps_bound (fin false m e) g))

-- ---- the keys of two coordinates of u and v 64ths, and a cutoff of c
module _ (w z u v c : ℕ) (cutoff : Float) (small : z < 2 ^ 64) (a : Key w u) (b : Key z v) (e : c ≡ cutoff_of cutoff) (h : 0 < c) (g : T (on_grid cutoff)) where
  cutoff-unit : (unit cutoff ≡ 67108864 + c) × (c ≤ 67108864)
  unfolding cutoff_of
  cutoff-unit = let b = unit_bound cutoff g in (omega (arith, e), omega (arith, e))

  pub above_low : ltb (key_of (sub binary64 (float_at w) cutoff)) z ≡ ltb u (v + c)
  above_low =
      let x = sub binary64 (float_at w) cutoff in
      let p = 201326592 + u - c in
      let k = cutoff-unit in
      ap (ltb (key_of x)) (sym (key_back z small b.grid))
      ∙ spot_key x (float_at z) p (201326592 + v) (sub_spot (float_at w) cutoff p a.grid g a.plain (omega (arith, a.is, k.0, k.1))) (word_spot z v b)
      ∙ ltb_same p (201326592 + v) u (v + c) (λ t. omega (arith, k.1)) (λ t. omega (arith, k.1))

  pub below-high : ltb z (key_of (add binary64 (float_at w) cutoff)) ≡ ltb v (u + c)
  below-high =
      let x = sub binary64 (float_at w) (neg cutoff) in
      let p = 201326592 + u + c in
      let n = neg_grid cutoff g in
      ap₂ ltb (sym (key_back z small b.grid)) (ap key_of (add-sub (float_at w) cutoff))
      ∙ spot_key (float_at z) x (201326592 + v) p (word_spot z v b) (sub_spot (float_at w) (neg cutoff) p a.grid n.0 a.plain (omega (arith, n.1, a.is, cutoff-unit.0)))
      ∙ ltb_same (201326592 + v) p v (u + c) (λ t. omega arith) (λ t. omega arith)
