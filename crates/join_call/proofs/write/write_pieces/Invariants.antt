-- `join_call::write::write_pieces` meets its contract: what is written and what is left make up the whole, and the columns are the caller's. Assumes nothing.
use Rattle.join_call.specs.Inner.Output.{held, SameColumns}
use Rattle.join_call.proofs.Writes.{Writing}
use Rattle.join_call.proofs.write.write_pieces.Given as goal

abbrev pub invariant-loop-k : goal.invariant-loop-k
invariant-loop-k l = record { columns : SameColumns l.initial.output l.output; writing : Writing l.table (held l.initial.output) (held l.output) l.c l.at l.k }
