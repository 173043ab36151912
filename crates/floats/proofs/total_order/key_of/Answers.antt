-- `floats::total_order::key_of` meets its contract: the key of its pattern. Assumes nothing.
use Rattle.std.proofs.Common.{ap, ◌∙◌}
use Rattle.floats.specs.TotalOrder.{key, key_of}
use Rattle.floats.proofs.total_order.key_of.Goals as goal

pub returns : goal.returns
unfolding key_of
returns c = c.total_order_key.ensures ∙ ap key c.bits_of.ensures
