use Rattle.std.proofs.Common.{sym, ◌∙◌}
use Rattle.clearance.specs.Inner.State.{edges_below}
use Rattle.clearance.proofs.pruning.edges_below.Goals as goal

pub returns-then-axis_below : goal.returns-then-axis_below
unfolding edges_below
returns-then-axis_below c = rw (sym c.axis_below.ensures ∙ c.if-axis_below.true) c.axis_below-then-axis_below.ensures

pub returns-else-axis_below : goal.returns-else-axis_below
unfolding edges_below
returns-else-axis_below c = c.if-axis_below.false ∙ rw (sym c.axis_below.ensures ∙ c.if-axis_below.false)
