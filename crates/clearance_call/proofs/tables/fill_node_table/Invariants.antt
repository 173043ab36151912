-- `clearance_call::tables::fill_node_table` meets its contract: after i iterations the first i rows are filled. Assumes nothing.
use Prim.Native.Nat.{◌≤◌}
use lib.ListN.{length}
use Rattle.drawing.specs.Entries.{lent_nodes}
use Rattle.clearance_call.specs.Inner.Tables.{node_row_at, Filled}
use Rattle.clearance_call.proofs.tables.fill_node_table.Given as goal

abbrev pub invariant-loop-i : goal.invariant-loop-i
invariant-loop-i l = (l.i ≤ length l.nodes.id.now) × Filled (node_row_at l.horizontal (lent_nodes l.nodes)) l.at l.i l.initial.s l.s
