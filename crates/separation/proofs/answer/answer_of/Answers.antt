-- `separation::answer::answer_of` meets its contract: by whether the walk was paid. Assumes nothing.
use Rattle.std.proofs.lemmas.Result.{err_from_is_err_and}
use Rattle.separation.proofs.States.{answers-spent, answers-went}
use Rattle.separation.proofs.answer.answer_of.Goals as goal

pub returns-in_err-found : goal.returns-in_err-found
returns-in_err-found c = let p = err_from_is_err_and c.from_residual.result c.from_residual.ensures.1 in rw (p.1, p.2) (answers-spent _ _ _ c.in_err-found.was)

pub returns : goal.returns
returns c = answers-went _ _ _ _ c.in_ok-found.was c.visits_used-visits.ensures
