-- `join_call::table::Table::count_pieces` meets its contract: what is counted and what is left make up the whole. Assumes nothing.
use Rattle.join_call.proofs.Runs.{Counting}
use Rattle.join_call.proofs.table.Table.count_pieces.Given as goal

abbrev pub invariant-loop-k : goal.invariant-loop-k
invariant-loop-k l = Counting l.self l.c l.count l.k
