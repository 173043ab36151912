-- `exemptions::gather` meets its contract: after i iterations the first i words are packed exemptions, and the sort puts them in order. Assumes nothing.
use Rattle.drawing.specs.Entries.{lent_exemptions}
use Rattle.exemptions.proofs.ExemptLaws.{Packing}
use Rattle.exemptions.proofs.gather.Given as goal

abbrev pub invariant-loop-i : goal.invariant-loop-i
invariant-loop-i l = Packing (lent_exemptions l.exemptions) l.initial.words l.words l.i
