-- The congested part of the total length (SCOPE 3.17).
use Rattle.std.specs.Prelude.{false, cond, pos, Float}
use Rattle.std.specs.Float.{fin, binary64, float_clamp}
use Rattle.std.specs.Float.Ieee.{div, lt}
use Rattle.floats.specs.Values.{plus_zero}

-- SCOPE 3.17: "`ratio` is 0 unless total is above 0; else congested over total, rounded once, then `clamp` to 0 and 1 (a NaN stays)": `float_clamp` compares
unfoldable pub ratio : Float → Float → Float
ratio total congested = cond (lt plus_zero total) (float_clamp (div binary64 congested total) plus_zero (fin false 1 (pos 0))) plus_zero
