-- `join_call::table::gather` meets its contract: after i turns the first i segments are in the table. Assumes nothing.
use Rattle.drawing.specs.Entries.{lent_segments}
use Rattle.join_call.specs.Inner.Table.{Gathered}
use Rattle.join_call.proofs.table.gather.Given as goal

abbrev pub invariant-loop-i : goal.invariant-loop-i
invariant-loop-i l = Gathered (lent_segments l.segments) l.i l.initial.a l.a
