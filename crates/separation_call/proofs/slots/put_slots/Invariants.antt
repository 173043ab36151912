-- `separation_call::slots::put_slots` meets its contract: after k iterations the segments of the first k words have their slots. Assumes nothing.
use Rattle.separation_call.proofs.SlotLaws.{Handing}
use Rattle.separation_call.proofs.slots.put_slots.Given as goal

abbrev pub invariant-loop-k : goal.invariant-loop-k
invariant-loop-k l = Handing l.n l.initial.s l.s l.slot l.last l.k
