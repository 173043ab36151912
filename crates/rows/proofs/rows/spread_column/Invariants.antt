-- `rows::rows::spread_column` meets its contract: after j turns the first j words of the column are written. Assumes nothing.
use Rattle.rows.proofs.SpreadTables.{Spreading}
use Rattle.rows.proofs.rows.spread_column.Given as goal

abbrev pub invariant-loop-j : goal.invariant-loop-j
invariant-loop-j l = Spreading l.n l.from l.table l.word l.to l.initial.s l.s l.j
