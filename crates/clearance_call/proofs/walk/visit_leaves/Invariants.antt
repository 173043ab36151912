-- `clearance_call::walk::visit_leaves` meets its contract: at leaf j the leaves before it are visited. Assumes nothing.
use Rattle.clearance_call.proofs.LeafRuns.{Visiting}
use Rattle.clearance_call.proofs.walk.visit_leaves.Given as goal

abbrev pub invariant-loop-j : goal.invariant-loop-j
invariant-loop-j l = Visiting l.threshold l.words l.i l.n l.bounds l.marks l.groups l.initial.state l.state l.j
