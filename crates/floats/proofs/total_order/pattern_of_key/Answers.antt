-- `floats::total_order::pattern_of_key` meets its contract. Assumes nothing.
use Rattle.std.proofs.Common.{sym}
use Rattle.floats.proofs.Keys.{pattern_low, pattern_high}
use Rattle.floats.proofs.total_order.pattern_of_key.Goals as goal

pub returns-then-key-lt9223372036854775808 : goal.returns-then-key-lt9223372036854775808
returns-then-key-lt9223372036854775808 c = sym (pattern_low c.args.key c.if-key-lt9223372036854775808.true)

pub returns-else-key-lt9223372036854775808 : goal.returns-else-key-lt9223372036854775808
returns-else-key-lt9223372036854775808 c = sym (pattern_high c.args.key c.if-key-lt9223372036854775808.false)
