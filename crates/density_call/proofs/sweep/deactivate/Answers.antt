-- `density_call::sweep::deactivate` meets its contract: the count is cleared, and the wire is taken out of the set. Assumes nothing.
use Rattle.density_call.proofs.Marking.{deactivates}
use Rattle.density_call.proofs.sweep.deactivate.Goals as goal

pub returns : goal.returns
returns c = let a = c.args in deactivates a.n a.j a.s.now c.requires.j_lt_n c.requires.columns_fit _ c.remove.ensures
