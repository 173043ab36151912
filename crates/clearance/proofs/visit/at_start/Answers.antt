-- `clearance::visit::at_start` meets its contract: field by field. Assumes nothing.
use Rattle.clearance.proofs.visit.at_start.Goals as goal

pub returns : goal.returns
returns c = λ i. record { violations = 0; least = c.no_gap.ensures i; remaining = c.args.allowance }
