-- What only contracts of inner functions cite: the least gap so far, as a walk keeps it: a float, and a NaN where there is none yet.
use Rattle.std.specs.Prelude.{not, cond, T, Float, Option, Some, None}
use Rattle.std.specs.Float.{nan, inf, fin}
use Rattle.std.specs.Float.Ieee.{is_nan, le}

-- a float that is not a NaN, as every gap is
abbrev pub Number : Float → Type 0
Number x = T (not (is_nan x))

-- the gap that such a float encodes
unfoldable pub gap_of_float : Float → Option Float
gap_of_float nan = None
gap_of_float (inf s) = Some (inf s)
gap_of_float (fin s m e) = Some (fin s m e)

-- the least gap so far with one more: the new one, unless the old one is present and at most as large
unfoldable pub least_with : Float → Float → Float
least_with least gap = cond (le least gap) least gap
