-- `floats::values::is_finite` meets its contract. Assumes nothing.
use Rattle.std.proofs.Common.{T, sym, subst}
use lib.Ieee.{of_bits, binary64}
use Rattle.floats.proofs.Difference.{finite_test}
use Rattle.floats.proofs.values.is_finite.Goals as goal

pub returns : goal.returns
unfolding of_bits
returns c = finite_test binary64 c.args.x (subst T (sym c.well_formed.0.1) tt)
