-- `tight_pair::look_at_segments` meets its contract: after i iterations the first i segments have been compared. Assumes nothing.
use Rattle.drawing.specs.Entries.{lent_segments, lent_nodes, nodes}
use Rattle.tight_pair.proofs.PairLaws.{SegmentsLooked}
use Rattle.tight_pair.proofs.look_at_segments.Given as goal

abbrev pub invariant-loop-position : goal.invariant-loop-position
invariant-loop-position l = SegmentsLooked l.words l.k (lent_segments l.segments) (nodes (lent_nodes l.nodes)) l.position l.best
