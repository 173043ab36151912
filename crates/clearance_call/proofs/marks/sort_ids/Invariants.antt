-- `clearance_call::marks::sort_ids` meets its contract: at leaf j the ids of the leaves before it are written. Assumes nothing.
use Rattle.clearance_call.proofs.LeafGroups.{Copying}
use Rattle.clearance_call.proofs.marks.sort_ids.Given as goal

abbrev pub invariant-loop-j : goal.invariant-loop-j
invariant-loop-j l = Copying l.initial.s l.m l.s l.j
