-- `tight_pair::is_nearer` meets its contract, case by case. Assumes nothing.
use Rattle.tight_pair.specs.Inner.Looking.{nearer}
use Rattle.tight_pair.proofs.is_nearer.Goals as goal

pub returns-in-None : goal.returns-in-None
unfolding nearer
returns-in-None c = rw c.in-None.is

pub returns-in-Some : goal.returns-in-Some
unfolding nearer
returns-in-Some c = rw c.in-Some.is
