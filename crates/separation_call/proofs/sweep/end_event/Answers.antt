-- `separation_call::sweep::end_event` meets its contract: the segment is taken out. Assumes nothing.
use Rattle.separation_call.proofs.SweepRun.{start-net-small, end_leavable, finishes}
use Rattle.separation_call.proofs.sweep.end_event.Goals as goal

pub overflow_cast-net : goal.overflow_cast-net
overflow_cast-net c = record { fits = start-net-small _ _ _ _ c.requires.at }

pub leave-requires : goal.leave-requires
leave-requires c = let p = c.requires in end_leavable _ _ _ _ p.at p.there

pub returns : goal.returns
returns c = let a = c.args in finishes a.s.now _ _ a.state a.n _ c.leave.new.work c.requires.at.inside c.leave.ensures.pays c.leave.ensures.taken_out c.leave.auto.work
