use Rattle.clearance.proofs.StateLaws.{right-nearer, left-first}
use Rattle.clearance.proofs.halves.nearer_first.Goals as goal

pub returns-then-right_lower-left_lower : goal.returns-then-right_lower-left_lower
returns-then-right_lower-left_lower c = right-nearer _ _ c.if-right_lower-left_lower.true

pub returns-else-right_lower-left_lower : goal.returns-else-right_lower-left_lower
returns-else-right_lower-left_lower c = left-first _ _ c.if-right_lower-left_lower.false
