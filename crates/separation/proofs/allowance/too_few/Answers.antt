-- `separation::allowance::too_few` meets its contract: a fifth of the allowance in place of five times the segments. Assumes nothing.
use Rattle.separation.proofs.States.{fifth}
use Rattle.separation.proofs.allowance.too_few.Goals as goal

pub returns : goal.returns
returns c = fifth _ _
