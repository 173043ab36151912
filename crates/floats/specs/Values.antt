-- Zeros, lesser and greater, absolute value and gap of floats.
use Rattle.std.specs.Prelude.{zero, suc, false, cond, pos, Float}
use Rattle.std.specs.Float.{nan, inf, fin, binary64}
use Rattle.std.specs.Float.Ieee.{sub, lt}

-- +0
abbrev pub plus_zero : Float
plus_zero = fin false 0 (pos 0)

-- SCOPE 3.7, 9.2: "Zeros become +0": every other float is unchanged
unfoldable pub canonical_zero : Float → Float
canonical_zero nan = nan
canonical_zero (inf s) = inf s
canonical_zero (fin s zero e) = plus_zero
canonical_zero (fin s (suc m) e) = fin s (suc m) e

-- SCOPE 15.8: the lesser of two by comparison: the second where it is below the first, else the first
unfoldable pub lesser_of : Float → Float → Float
lesser_of a b = cond (lt b a) b a

-- the greater of two by comparison: the second where the first is below it, else the first
unfoldable pub greater_of : Float → Float → Float
greater_of a b = cond (lt a b) b a

-- IEEE 754's abs: the sign becomes plus
unfoldable pub abs_of : Float → Float
abs_of nan = nan
abs_of (inf s) = inf false
abs_of (fin s m e) = fin false m e

-- SCOPE 3.8: the gap of two coordinates, |x - y| with one rounded subtraction
unfoldable pub gap_of : Float → Float → Float
gap_of x y = abs_of (sub binary64 x y)
