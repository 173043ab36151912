-- `floats::total_order::total_cmp` meets its contract: the order of the keys is totalOrder. Assumes nothing.
use Rattle.std.proofs.Common.{ap₂, ◌∙◌, arith}
use Rattle.std.specs.Ordering.{nat_cmp}
use Rattle.floats.proofs.TotalOrder.{compared-by_keys}
use Rattle.floats.proofs.total_order.total_cmp.Goals as goal

pub returns : goal.returns
returns c = c.cmp.ensures ∙ ap₂ nat_cmp c.total_order_key.ensures c.total_order_key-2.ensures ∙ compared-by_keys c.args.a c.args.b (omega arith) (omega arith)
