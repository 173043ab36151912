-- totalOrder of IEEE 754-2019 (SCOPE 1.3), section 5.10, on the 64-bit patterns of binary64, and the key of a pattern: a number, its position in this order.
use Rattle.std.specs.Prelude.{ℕ, ◌+◌, ◌-◌, ◌%◌, Bool, true, false, cond, not, ◌&&◌, ◌==◌, from_bits, nat_le, nat_lt, to_bits, Float}
use Rattle.std.specs.Float.{binary64}
use Rattle.std.specs.Float.Ieee.{nan_bits, lt}

-- the sign bit is set
unfoldable pub sign_set : ℕ → Bool
sign_set b = nat_le 0x8000_0000_0000_0000 b

-- of a NaN (section 6.2.1): in a quiet one the first bit of the trailing significand is set
unfoldable pub quiet : ℕ → Bool
quiet b = nat_le 0x8_0000_0000_0000 (b % 0x10_0000_0000_0000)

-- of a NaN: the bits after that one, as an integer
unfoldable pub payload : ℕ → ℕ
payload b = b % 0x8_0000_0000_0000

-- for two numbers: a) x < y is true, b) x > y is false, c) of equal ones only the pair +0, -0 is false
unfoldable pub numbers_in_order : ℕ → ℕ → Bool
numbers_in_order a b =
    let x = from_bits binary64 a in
    let y = from_bits binary64 b in
    cond (lt x y) true (cond (lt y x) false (not (a == 0 && b == 0x8000_0000_0000_0000)))

-- for two NaNs with the sign clear, d) 3): signaling before quiet, then by the payload, the lesser one first
unfoldable pub positive_nans_in_order : ℕ → ℕ → Bool
positive_nans_in_order a b = cond (quiet a) (cond (quiet b) (nat_le (payload a) (payload b)) false) (cond (quiet b) true (nat_le (payload a) (payload b)))

-- for any two NaNs, d) 3): the sign set before the sign clear, and the reverse of that order where both signs are set
unfoldable pub nans_in_order : ℕ → ℕ → Bool
nans_in_order a b = cond (sign_set a) (cond (sign_set b) (positive_nans_in_order b a) true) (cond (sign_set b) false (positive_nans_in_order a b))

-- totalOrder(x, y): d) 1) a NaN with the sign set is before every number, and d) 2) every number before a NaN with the sign clear
unfoldable pub total_order : ℕ → ℕ → Bool
total_order a b = cond (nan_bits binary64 a) (cond (nan_bits binary64 b) (nans_in_order a b) (sign_set a)) (cond (nan_bits binary64 b) (not (sign_set b)) (numbers_in_order a b))

-- the position of a pattern, a number: the order of these numbers is totalOrder (`key-order` in proofs/TotalOrder.antt)
unfoldable pub key : ℕ → ℕ
key b = cond (nat_lt b 0x8000_0000_0000_0000) (b + 0x8000_0000_0000_0000) (0xffff_ffff_ffff_ffff - b)

-- the pattern at a position
unfoldable pub pattern_at : ℕ → ℕ
pattern_at k = cond (nat_lt k 0x8000_0000_0000_0000) (0xffff_ffff_ffff_ffff - k) (k - 0x8000_0000_0000_0000)

-- the position of a float; `nan` has that of the one pattern that `to_bits` writes for it
unfoldable pub key_of : Float → ℕ
key_of x = key (to_bits binary64 x)

-- the float at a position; every NaN pattern is `nan`
unfoldable pub float_at : ℕ → Float
float_at k = from_bits binary64 (pattern_at k)
