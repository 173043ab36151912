-- `floats::values::absolute` meets its contract. Assumes nothing.
use Rattle.std.proofs.Common.{T, sym, ◌∙◌, subst}
use lib.Ieee.{binary64, of_bits}
use Rattle.floats.proofs.Zeros.{abs-below, abs-other}
use Rattle.floats.proofs.values.absolute.Goals as goal

pub returns-then-x : goal.returns-then-x
unfolding of_bits
returns-then-x c = abs-below c.args.x c.if-x.true

pub returns-else-x : goal.returns-else-x
unfolding of_bits
returns-else-x c = c.canonical_zero.ensures ∙ abs-other binary64 c.args.x (subst T (sym c.well_formed.0.1) tt) c.if-x.false
