-- `clearance_call::marks::mark_net` meets its contract: at index i the groups are marked whose ids the net's exemptions before it name. Assumes nothing.
use lib.ListN.{length}
use Rattle.clearance_call.proofs.MarkLaws.{NetMarking}
use Rattle.clearance_call.proofs.marks.mark_net.Given as goal

abbrev pub invariant-loop-i : goal.invariant-loop-i
invariant-loop-i l = NetMarking l.packed l.ids (length l.ids) l.from l.to l.marks l.i
