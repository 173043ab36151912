use Rattle.drawing.specs.Entries.{lent_nodes}
use Rattle.clearance_call.proofs.StoredLeaves.{Leaving}
use Rattle.clearance_call.proofs.stored.put_leaves.Given as goal

abbrev pub invariant-loop-k : goal.invariant-loop-k
invariant-loop-k l = Leaving l.initial.words l.words l.r l.k (lent_nodes l.nodes)
