-- `separation_call::tree::set` meets its contract. The loop's invariant: the nodes from the cursor up to the root are still to be merged anew, and the visits so far are paid. The measure is the cursor. Assumes nothing.
use Rattle.separation_call.proofs.StoredSets.{Setting}
use Rattle.separation_call.proofs.tree.set.Given as goal

abbrev pub invariant-loop-cursor : goal.invariant-loop-cursor
invariant-loop-cursor l = Setting l.leaves l.remaining l.initial.tree l.initial.cursor l.tree l.rest l.cursor

abbrev pub decreases-loop-cursor : goal.decreases-loop-cursor
decreases-loop-cursor l = l.cursor
