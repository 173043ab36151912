-- `clearance_call::tables::fill_segment_table` meets its contract: after i iterations the first i rows are filled. Assumes nothing.
use Prim.Native.Nat.{◌≤◌}
use lib.ListN.{length}
use Rattle.drawing.specs.Entries.{lent_segments}
use Rattle.clearance_call.specs.Inner.Tables.{segment_row_at, Filled}
use Rattle.clearance_call.proofs.tables.fill_segment_table.Given as goal

abbrev pub invariant-loop-i : goal.invariant-loop-i
invariant-loop-i l = (l.i ≤ length l.segments.net.now) × Filled (segment_row_at (lent_segments l.segments)) l.at l.i l.initial.s l.s
