-- `separation_call::slots::slot_of` meets its contract: each return is one case of the definition. Assumes nothing.
use mathlib.Core.Path.{sym}
use Rattle.separation_call.proofs.SlotLaws.{slot_same, slot_other}
use Rattle.separation_call.proofs.slots.slot_of.Goals as goal

pub returns-then-group-last : goal.returns-then-group-last
returns-then-group-last c = sym (slot_same _ _ _ _ c.if-group-last.true)

pub returns-else-group-last : goal.returns-else-group-last
returns-else-group-last c = sym (slot_other _ _ _ _ c.if-group-last.false)
