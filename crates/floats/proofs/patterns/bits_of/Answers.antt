-- `floats::patterns::bits_of` meets its contract: a float that equals itself is no NaN. Assumes nothing.
use Rattle.std.proofs.Common.{sym, refl, ap}
use lib.Ieee.{binary64, to_bits}
use Rattle.floats.proofs.Bits.{number-of-eq, nan-of-eq}
use Rattle.floats.proofs.patterns.bits_of.Goals as goal

pub float_to_bits-result : goal.float_to_bits-result
float_to_bits-result c = number-of-eq c.args.x c.if-x.true

pub returns-then-x : goal.returns-then-x
returns-then-x c = refl

pub returns-else-x : goal.returns-else-x
unfolding to_bits
returns-else-x c = sym (ap (to_bits binary64) (nan-of-eq c.args.x c.if-x.false))
