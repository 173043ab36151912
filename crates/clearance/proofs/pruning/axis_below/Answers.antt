use Rattle.clearance.specs.Inner.State.{axis_below}
use Rattle.clearance.proofs.pruning.axis_below.Goals as goal

pub returns-then-d-b : goal.returns-then-d-b
unfolding axis_below
returns-then-d-b c = rw c.if-d-b.true

pub returns-else-d-b : goal.returns-else-d-b
unfolding axis_below
returns-else-d-b c = rw c.if-d-b.false
