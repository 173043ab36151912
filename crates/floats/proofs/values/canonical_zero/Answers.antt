-- `floats::values::canonical_zero` meets its contract. Assumes nothing.
use lib.Ieee.{of_bits}
use Rattle.floats.proofs.Zeros.{canonical-zero, canonical_other}
use Rattle.floats.proofs.values.canonical_zero.Goals as goal

pub returns-then-x : goal.returns-then-x
unfolding of_bits
returns-then-x c = canonical-zero c.args.x c.if-x.true

pub returns-else-x : goal.returns-else-x
unfolding of_bits
returns-else-x c = canonical_other c.args.x c.if-x.false
