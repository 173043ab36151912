-- `density_call::sweep::activate` meets its contract: the count is written, and the wire is put into the set. Assumes nothing.
use Rattle.density_call.proofs.Marking.{activates}
use Rattle.density_call.proofs.sweep.activate.Goals as goal

pub returns : goal.returns
returns c = let a = c.args in activates a.n a.j a.neighbors a.s.now c.requires.j_lt_n c.requires.columns_fit _ c.insert.ensures
