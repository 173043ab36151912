-- The 64ths of a coordinate can be read from its key. Assumes nothing.
use mathlib.Core.Path.{◌≡◌, ap, ◌∙◌}
use Prim.Native.Nat.{zero, suc}
use lib.Dec.{T}
use lib.Ieee.{Float, nan, inf, fin, binary64, fits}
use Rattle.floats.specs.Values.{canonical_zero}
use Rattle.floats.specs.TotalOrder.{key_of, float_at}
use Rattle.floats.specs.Grid.{unit}
use Rattle.floats.proofs.NumberKeys.{float_back}
use Rattle.floats.proofs.Units.{canonical_unit}

pub canonical_fits : (x : Float) → T (fits binary64 x) → T (fits binary64 (canonical_zero x))
unfolding canonical_zero fits
canonical_fits nan h = h
canonical_fits (inf s) h = h
canonical_fits (fin s zero e) h = tt
canonical_fits (fin s (suc m) e) h = h

-- the float of a coordinate's key has the coordinate's 64ths
pub key-unit : (x : Float) → T (fits binary64 x) → unit (float_at (key_of (canonical_zero x))) ≡ unit x
key-unit x h = ap unit (float_back (canonical_zero x) (canonical_fits x h)) ∙ canonical_unit x
