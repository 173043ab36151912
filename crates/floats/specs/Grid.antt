-- The grid of the congestion measure, and its values as whole numbers of 1/64. SCOPE 9.1.
use Rattle.std.specs.Prelude.{ℕ, ◌+◌, ◌-◌, ◌*◌, ◌/◌, ◌%◌, Bool, true, false, ◌&&◌, ◌==◌, nat_le, Float}
use Rattle.std.specs.Float.{nan, inf, fin, binary64}
use Rattle.std.specs.Float.Ieee.{up, down, round}

-- SCOPE 9.1: "on the grid": a whole multiple of 1/64 with absolute value at most 1,048,576
unfoldable pub on_grid : Float → Bool
on_grid nan = false
on_grid (inf s) = false
on_grid (fin s m e) = m * up e * 64 % down e == 0 && nat_le (m * up e) (1048576 * down e)

-- the absolute value of a number, in whole 64ths
unfoldable pub steps : Float → ℕ
steps nan = 0
steps (inf s) = 0
steps (fin s m e) = m * up e * 64 / down e

-- 2 ^ 26, which is 1,048,576 in 64ths
abbrev pub zero_unit : ℕ
zero_unit = 67108864

-- a coordinate on the grid as a natural number, 64 x + 2 ^ 26: both zeros are `zero_unit` (an infinity or a NaN is no coordinate, and has 0)
unfoldable pub unit : Float → ℕ
unit nan = 0
unit (inf s) = 0
unit (fin true m e) = zero_unit - steps (fin true m e)
unit (fin false m e) = zero_unit + steps (fin false m e)

-- the float of n / 64
unfoldable pub of_units : ℕ → Float
of_units n = round binary64 false n 64
