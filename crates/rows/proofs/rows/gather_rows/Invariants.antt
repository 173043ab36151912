-- `rows::rows::gather_rows` meets its contract: after i turns the rows of the first i segments are gathered. Assumes nothing.
use Rattle.drawing.specs.Entries.{lent_segments}
use Rattle.rows.proofs.RowTables.{Gathering}
use Rattle.rows.proofs.rows.gather_rows.Given as goal

abbrev pub invariant-loop-i : goal.invariant-loop-i
invariant-loop-i l = Gathering l.t l.wanted (lent_segments l.segments) l.initial.p l.p l.n l.i
