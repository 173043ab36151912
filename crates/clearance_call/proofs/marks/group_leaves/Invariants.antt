-- `clearance_call::marks::group_leaves` meets its contract: at leaf j the groups of the leaves before it are written. Assumes nothing.
use Rattle.clearance_call.proofs.LeafGroups.{Grouping}
use Rattle.clearance_call.proofs.marks.group_leaves.Given as goal

abbrev pub invariant-loop-j : goal.invariant-loop-j
invariant-loop-j l = Grouping l.initial.s l.m l.s l.j
