-- `tight_pair::look_at_nodes` meets its contract: after j iterations the first j nodes have been compared. Assumes nothing.
use Rattle.drawing.specs.Entries.{lent_nodes}
use Rattle.tight_pair.proofs.PairLaws.{NodesLooked}
use Rattle.tight_pair.proofs.look_at_nodes.Given as goal

abbrev pub invariant-loop-node : goal.invariant-loop-node
invariant-loop-node l = NodesLooked l.words l.range l.bounds l.segment (lent_nodes l.nodes) l.initial.best l.node l.best
