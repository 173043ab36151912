-- `separation_call::sweep::with_search` meets its contract: by cases of the search's answer. Assumes nothing.
use Rattle.separation_call.proofs.SweepSteps.{joined-spent, joined-empty, joined-found}
use Rattle.separation_call.proofs.sweep.with_search.Goals as goal

pub returns-in_default-clause-outcome : goal.returns-in_default-clause-outcome
returns-in_default-clause-outcome c = λ ls o e f w gaps. joined-spent ls _ c.args.state o _ e _ c.in_default.is

pub returns-in_default-line-clause-outcome : goal.returns-in_default-line-clause-outcome
returns-in_default-line-clause-outcome c = λ ls o e f w gaps. joined-empty ls _ c.args.state o _ e _ c.in-Ok.is c.in_default-line.is

pub returns-clause-outcome : goal.returns-clause-outcome
returns-clause-outcome c = λ ls o e f w gaps. joined-found ls _ c.args.state o _ e _ c.in-Ok.is c.args.fixed.now _ _ _ _ c.in-Some.is f w gaps c.float_of_key-there.ensures c.float_of_key-here.ensures c.with_other_line.ensures
