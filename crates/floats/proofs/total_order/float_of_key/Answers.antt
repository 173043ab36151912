-- `floats::total_order::float_of_key` meets its contract: the float of the key's pattern. Assumes nothing.
use Rattle.std.proofs.Common.{ap, ◌∙◌}
use lib.Ieee.{binary64, of_bits}
use Rattle.floats.specs.TotalOrder.{float_at}
use Rattle.floats.proofs.total_order.float_of_key.Goals as goal

pub returns : goal.returns
unfolding float_at
returns c = c.float_of_bits.ensures ∙ ap (of_bits binary64) c.pattern_of_key.ensures
