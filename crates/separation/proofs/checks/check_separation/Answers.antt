-- `separation::checks::check_separation` meets its contract: it has the conditions of segments and scratch alone. Assumes nothing.
use Rattle.separation.specs.Conditions.{separation_conditions}
use Rattle.separation.proofs.checks.check_separation.Goals as goal

pub returns : goal.returns
unfolding separation_conditions
returns c = c.check_segments.ensures
