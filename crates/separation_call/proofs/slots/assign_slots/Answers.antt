-- `separation_call::slots::assign_slots` meets its contract: the sort keeps the words and makes those of one line and net adjacent. Assumes nothing.
use Rattle.separation_call.proofs.SlotLaws.{words-in_order, slots_assigned}
use Rattle.separation_call.proofs.slots.assign_slots.Goals as goal

pub put_slots-requires : goal.put_slots-requires
put_slots-requires c = words-in_order _ _ _ _ c.requires c.fill_words.auto.s c.fill_words.ensures c.sort_indices.ensures

pub returns : goal.returns
returns c = let fill-words = c.fill_words in slots_assigned _ _ _ _ c.requires fill-words.auto.s fill-words.ensures c.sort_indices.ensures _ c.put_slots.ensures
