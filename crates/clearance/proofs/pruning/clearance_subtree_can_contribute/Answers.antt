use Rattle.std.proofs.Common.{◌∙◌}
use Rattle.clearance.proofs.Contributing.{below-contributes, above-contributes}
use Rattle.clearance.proofs.pruning.clearance_subtree_can_contribute.Goals as goal

pub returns-then-lower-threshold : goal.returns-then-lower-threshold
returns-then-lower-threshold c num = c.if-lower-threshold.true ∙ below-contributes _ _ _ num c.if-lower-threshold.true

pub returns-else-lower-threshold : goal.returns-else-lower-threshold
returns-else-lower-threshold c num = above-contributes _ _ _ num c.if-lower-threshold.false
