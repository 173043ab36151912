-- `separation_call::nets::line_summary` meets its contract. Assumes nothing.
use Rattle.separation_call.proofs.ActiveNets.{told_none, told_one, told_two}
use Rattle.separation_call.proofs.nets.line_summary.Goals as goal

pub returns-then-many-eq0 : goal.returns-then-many-eq0
returns-then-many-eq0 c = told_none _ _ c.if-many-eq0.true

pub returns-then-many-eq1 : goal.returns-then-many-eq1
returns-then-many-eq1 c = told_one _ _ c.if-many-eq1.true

pub returns : goal.returns
returns c = told_two _ _ c.if-many-eq0.false c.if-many-eq1.false
