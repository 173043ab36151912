use Rattle.std.proofs.lemmas.Result.{err_from_is_err_and}
use Rattle.clearance.proofs.StateLaws.{answers-refused, answers-went}
use Rattle.clearance.proofs.answer.answer_of.Goals as goal

pub returns-in_err-state : goal.returns-in_err-state
returns-in_err-state c = let p = err_from_is_err_and c.from_residual.result c.from_residual.ensures.1 in rw (p.1, p.2) (answers-refused _ _ _ (c.in_err-state.was))

pub returns : goal.returns
returns c = answers-went _ _ _ c.in_ok-state.was _ c.gap_of_float-least.ensures _ c.visits_used-visits.ensures
