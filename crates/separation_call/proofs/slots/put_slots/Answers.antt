-- `separation_call::slots::put_slots` meets its contract: after k iterations the segments of the first k words have their slots. Assumes nothing.
use borrow.Author.Rules.{rules}
use Rattle.separation_call.proofs.SlotLaws.{place_inside, handing_next, handing_end}
use Rattle.separation_call.proofs.slots.put_slots.Goals as goal

pub bounds-s-at : goal.bounds-s-at
bounds-s-at c = let p = place_inside _ _ _ _ _ _ c.loop-k.invariant c.loop-k-test.true in search rules

pub loop-k-preserved : goal.loop-k-preserved
loop-k-preserved c = handing_next _ _ _ _ _ _ c.loop-k.invariant c.loop-k-test.true _ c.slot_of-slot.ensures

pub returns : goal.returns
returns c = handing_end _ _ _ _ _ _ c.loop-k.invariant c.loop-k-test.false
