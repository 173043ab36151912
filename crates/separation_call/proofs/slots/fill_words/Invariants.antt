-- `separation_call::slots::fill_words` meets its contract: after j iterations the first j words are written; a line, a net and an index fit into 64 bits. Assumes nothing.
use Rattle.separation_call.proofs.SlotLaws.{Filling}
use Rattle.separation_call.proofs.slots.fill_words.Given as goal

abbrev pub invariant-loop-j : goal.invariant-loop-j
invariant-loop-j l = Filling l.n l.initial.s l.s l.j
