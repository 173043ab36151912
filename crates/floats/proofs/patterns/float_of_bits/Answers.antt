-- `floats::patterns::float_of_bits` meets its contract: a pattern that is above infinity's without its sign is a NaN's. Assumes nothing.
use Rattle.std.proofs.Common.{T, sym, refl, subst, lt→ltb}
use lib.Ieee.{of_bits, div}
use Rattle.floats.proofs.Bits.{number_bits, nan-bits, nan-of_bits}
use Rattle.floats.proofs.patterns.float_of_bits.Goals as goal

pub float_from_bits-result : goal.float_from_bits-result
float_from_bits-result c = number_bits c.args.bits c.if-bits-le9218868437227405312.true

pub returns-then-bits-le9218868437227405312 : goal.returns-then-bits-le9218868437227405312
returns-then-bits-le9218868437227405312 c = refl

pub returns-else-bits-le9218868437227405312 : goal.returns-else-bits-le9218868437227405312
unfolding div of_bits
returns-else-bits-le9218868437227405312 c = let b = c.args.bits in sym (nan-of_bits b (subst T (sym (nan-bits b)) (lt→ltb _ _ c.if-bits-le9218868437227405312.false)))
