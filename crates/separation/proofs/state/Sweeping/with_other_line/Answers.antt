-- `separation::state::Sweeping::with_other_line` meets its contract: the gap joins both figures. Assumes nothing.
use Rattle.separation.proofs.States.{gap_meets}
use Rattle.separation.proofs.state.Sweeping.with_other_line.Goals as goal

pub returns : goal.returns
returns c = gap_meets c.args.self _ _ _ _ _ _ c.absolute-gap.ensures c.least_with-minimum.ensures c.least_with-minimum_positive.ensures
