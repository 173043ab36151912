-- `floats::total_order::total_order_key` meets its contract. Assumes nothing.
use Rattle.std.proofs.Common.{sym}
use Rattle.floats.proofs.Keys.{key-low, key-high}
use Rattle.floats.proofs.total_order.total_order_key.Goals as goal

pub returns-then-bits-lt9223372036854775808 : goal.returns-then-bits-lt9223372036854775808
returns-then-bits-lt9223372036854775808 c = sym (key-low c.args.bits c.if-bits-lt9223372036854775808.true)

pub returns-else-bits-lt9223372036854775808 : goal.returns-else-bits-lt9223372036854775808
returns-else-bits-lt9223372036854775808 c = sym (key-high c.args.bits c.if-bits-lt9223372036854775808.false)
