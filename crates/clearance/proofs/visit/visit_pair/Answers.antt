-- `clearance::visit::visit_pair` meets its contract, case by case: no visit remains, the pair is exempt, its distance is below the threshold, or it is not. Assumes nothing.
use Rattle.std.proofs.Common.{refl}
use Rattle.clearance.proofs.StateLaws.{visit_stopped, visit_passed, visit-below, visit_clear}
use Rattle.clearance.proofs.visit.visit_pair.Goals as goal

pub returns-then-state-eq0-clause-outcome : goal.returns-then-state-eq0-clause-outcome
returns-then-state-eq0-clause-outcome c num room = visit_stopped _ _ c.if-state-eq0.true

pub returns-then-exempt-clause-outcome : goal.returns-then-exempt-clause-outcome
returns-then-exempt-clause-outcome c num room = visit_passed _ _ _ _ c.if-state-eq0.false c.if-exempt.true

pub returns-then-distance-threshold-clause-outcome : goal.returns-then-distance-threshold-clause-outcome
returns-then-distance-threshold-clause-outcome c num room = visit-below _ _ _ _ c.if-state-eq0.false c.if-exempt.false c.if-distance-threshold.true room _ refl _ c.least_with-least.ensures num

pub returns-else-distance-threshold-clause-outcome : goal.returns-else-distance-threshold-clause-outcome
returns-else-distance-threshold-clause-outcome c num room = visit_clear _ _ _ _ c.if-state-eq0.false c.if-exempt.false c.if-distance-threshold.false _ c.least_with-least.ensures num
