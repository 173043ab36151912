use mathlib.Core.Path.{sym, ◌∙◌}
use Rattle.clearance.proofs.StateLaws.{visit_stopped}
use Rattle.clearance_call.proofs.walk.visit_leaf.Goals as goal

pub returns-then-state-eq0-clause-outcome : goal.returns-then-state-eq0-clause-outcome
returns-then-state-eq0-clause-outcome c = visit_stopped _ _ c.if-state-eq0.true

pub returns-then-is_marked-clause-outcome : goal.returns-then-is_marked-clause-outcome
returns-then-is_marked-clause-outcome c = let pre = c.requires in rw (sym c.is_marked.ensures ∙ c.if-is_marked.true) (c.visit_pair.ensures.outcome pre.number pre.remaining_bound)

pub returns-clause-outcome : goal.returns-clause-outcome
returns-clause-outcome c = let pre = c.requires in rw (sym c.is_marked.ensures ∙ c.if-is_marked.false) (c.visit_pair-2.ensures.outcome pre.number pre.remaining_bound)
