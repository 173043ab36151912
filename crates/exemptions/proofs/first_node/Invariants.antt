-- `exemptions::first_node` meets its contract: as for words, with the step as a quotient. Assumes nothing.
use Rattle.exemptions.specs.Inner.Exempting.{node_of}
use Rattle.exemptions.proofs.ExemptLaws.{Halving}
use Rattle.exemptions.proofs.first_node.Given as goal

abbrev pub invariant-loop-n : goal.invariant-loop-n
invariant-loop-n l = Halving (node_of l.words) l.a l.b l.id l.at l.n

abbrev pub decreases-loop-n : goal.decreases-loop-n
decreases-loop-n l = l.n
