use mathlib.Core.Path.{sym, ◌∙◌}
use Rattle.clearance_call.proofs.order.table_along.Goals as goal

pub returns-then-horizontal_wider : goal.returns-then-horizontal_wider
returns-then-horizontal_wider c = rw (sym c.horizontal_wider.ensures ∙ c.if-horizontal_wider.true)

pub returns-else-horizontal_wider : goal.returns-else-horizontal_wider
returns-else-horizontal_wider c = rw (sym c.horizontal_wider.ensures ∙ c.if-horizontal_wider.false)
