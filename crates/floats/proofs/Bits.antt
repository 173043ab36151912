-- The bits of a number are those of its sign and of its magnitude, so these two determine the number, and the rank determines it except for the sign of a zero.
-- Assumes nothing.
use Rattle.std.proofs.Common.{◌≡◌, ℕ, ◌+◌, ◌-◌, ◌*◌, ◌/◌, ◌%◌, ◌^◌, ◌<◌, ◌≤◌, Bool, true, false, cond, not, T, ltb, ◌⊎◌, pos, sym, refl, ap, ◌∙◌, subst, inl, inr, add_assoc, zero-mul, arith, ltb→lt}
use lib.Dec.{not_T}
use lib.Ieee.{Float, nan, inf, fin, Format, binary32, binary64, prec, low, up, down, size, hid, ones, top, eq, ne, is_nan, nan_bits, of_bits, to_bits}
use lib.Ieee.Bits.{of_bits-to_bits, nan_bits_is, nan_bits_above}
use lib.Ieee.Compare.{differs_from_itself}
use lib.Ieee.Scale.{overflow}
use Rattle.laws.proofs.Tests.{clash}
use Rattle.floats.proofs.Rank.{mag, sgn, at, rank, rank_is, Num, mag_le, over_pos, fin_num, zero_num}

-- ---- the bits of a magnitude n: the exponent's field and the digits below the leading one
unfoldable pub mbits : Format → ℕ → ℕ
mbits f n = (size n - prec f) * hid f + n / 2 ^ (size n - prec f)

-- an infinity's bits are those of the magnitude `overflow`
pub over_bits : (f : Format) → mbits f (overflow f) ≡ ones f * hid f
unfolding mbits size
over_bits binary32 = refl
over_bits binary64 = refl

pub to_bits_num : (f : Format) (x : Float) → Num f x → to_bits f x ≡ cond (sgn x) (top f) 0 + mbits f (mag f x)
unfolding to_bits mag sgn is_nan mbits
to_bits_num f nan p = absurd p.1
to_bits_num f (inf s) p = ap (λ (z : ℕ). cond s (top f) 0 + z) (sym (over_bits f))
to_bits_num f (fin s m e) p = let n = m * up e * 2 ^ low f / down e in add_assoc (cond s (top f) 0) ((size n - prec f) * hid f) (n / 2 ^ (size n - prec f))

-- ---- a number is determined by its bits, and by its sign and its magnitude
pub bits_one : (f : Format) (x y : Float) → Num f x → Num f y → to_bits f x ≡ to_bits f y → x ≡ y
bits_one f x y p q h = sym (of_bits-to_bits f x p.0) ∙ ap (of_bits f) h ∙ of_bits-to_bits f y q.0

pub number-one : (f : Format) (x y : Float) → Num f x → Num f y → sgn x ≡ sgn y → mag f x ≡ mag f y → x ≡ y
number-one f x y p q g h = bits_one f x y p q (to_bits_num f x p ∙ (λ i. cond (g i) (top f) 0 + mbits f (h i)) ∙ sym (to_bits_num f y q))

pub zero_one : (f : Format) (x : Float) → Num f x → mag f x ≡ 0 → x ≡ fin (sgn x) 0 (pos 0)
unfolding sgn mag
zero_one f x p h = number-one f x (fin (sgn x) 0 (pos 0)) p (fin_num f (fin (sgn x) 0 (pos 0)) (zero_num f (sgn x))) refl (h ∙ sym (ap (λ (z : ℕ). z / 1) (zero-mul (2 ^ low f))))

-- ---- numbers of one rank are equal, or two zeros
abbrev pub Zero : Float → Type 0
Zero x = x ≡ fin (sgn x) 0 (pos 0)

pub rank_one : (f : Format) (x y : Float) → Num f x → Num f y → rank f x ≡ rank f y → (x ≡ y) ⊎ (Zero x × Zero y)
rank_one f x y p q h = go (sgn x) (sgn y) refl refl (sym (rank_is f x) ∙ h ∙ rank_is f y)
  where
    same : (B a b : ℕ) (s : Bool) → a ≤ B → b ≤ B → at B s a ≡ at B s b → a ≡ b
    same B a b true x y h = omega arith
    same B a b false x y h = omega arith

    zeros : (B a b : ℕ) → 0 < B → b ≤ B → B + a ≡ B - b → (a ≡ 0) × (b ≡ 0)
    zeros B a b o h e = (omega arith, omega arith)

    alike : (s : Bool) → sgn x ≡ s → sgn y ≡ s → at (overflow f) s (mag f x) ≡ at (overflow f) s (mag f y) → (x ≡ y) ⊎ (Zero x × Zero y)
    alike s a b e = inl (number-one f x y p q (a ∙ sym b) (same (overflow f) (mag f x) (mag f y) s (mag_le f x p.0) (mag_le f y q.0) e))

    both : (mag f x ≡ 0) × (mag f y ≡ 0) → (x ≡ y) ⊎ (Zero x × Zero y)
    both z = inr (zero_one f x p z.0, zero_one f y q z.1)

    go : (s t : Bool) → sgn x ≡ s → sgn y ≡ t → at (overflow f) s (mag f x) ≡ at (overflow f) t (mag f y) → (x ≡ y) ⊎ (Zero x × Zero y)
    go true true a b e = alike true a b e
    go false false a b e = alike false a b e
    go true false a b e = let z = zeros (overflow f) (mag f y) (mag f x) (over_pos f) (mag_le f x p.0) (sym e) in both (z.1, z.0)
    go false true a b e = both (zeros (overflow f) (mag f x) (mag f y) (over_pos f) (mag_le f y q.0) e)

-- ---- a NaN differs from itself, and nothing else does
pub number-of-eq : (x : Float) → eq x x ≡ true → T (not (is_nan x))
unfolding eq is_nan
number-of-eq nan h = clash false h refl
number-of-eq (inf s) h = tt
number-of-eq (fin s m e) h = tt

pub nan-of-eq : (x : Float) → eq x x ≡ false → x ≡ nan
unfolding ne
nan-of-eq x h = differs_from_itself x (subst (λ (b : Bool). T (not b)) (sym h) tt)

-- ---- which patterns of binary64 are NaNs
pub nan-bits : (b : ℕ) → nan_bits binary64 b ≡ ltb 0x7ff0_0000_0000_0000 (b % 0x8000_0000_0000_0000)
nan-bits b = nan_bits_above binary64 b

pub number_bits : (b : ℕ) → b % 0x8000_0000_0000_0000 ≤ 0x7ff0_0000_0000_0000 → T (not (nan_bits binary64 b))
number_bits b h = not_T (nan_bits binary64 b) (λ t. omega (arith, ltb→lt 0x7ff0_0000_0000_0000 (b % 0x8000_0000_0000_0000) (subst T (nan-bits b) t)))

the_nan : (x : Float) → T (is_nan x) → x ≡ nan
unfolding is_nan
the_nan nan t = refl
the_nan (inf s) t = absurd t
the_nan (fin s m e) t = absurd t

pub nan-of_bits : (b : ℕ) → T (nan_bits binary64 b) → of_bits binary64 b ≡ nan
nan-of_bits b h = the_nan (of_bits binary64 b) (subst T (nan_bits_is binary64 b) h)
