-- `separation::state::Sweeping::with_own_line` meets its contract: by whether there is another net. Assumes nothing.
use mathlib.Core.Path.{refl}
use Rattle.separation.specs.Inner.States.{met_by}
use Rattle.separation.proofs.States.{own-found}
use Rattle.separation.proofs.state.Sweeping.with_own_line.Goals as goal

pub returns-then-own : goal.returns-then-own
returns-then-own c = record { figures = own-found _ (met_by c.args.self) c.if-own.true; remaining = refl }
