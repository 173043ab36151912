-- After i turns the first i values of the column are written.
use lib.ListN.{take, drop}
use Rattle.file.specs.Inner.Places.{entry_starts}
use Rattle.file.proofs.ColumnsFilled.{Filled}
use Rattle.file.proofs.entries.Entries.fill.Given as goal

abbrev pub invariant-loop-i : goal.invariant-loop-i
invariant-loop-i g l = Filled (λ entry. g.T.Field.value (take g.T.Field.width (drop l.offset entry))) l.initial.column (entry_starts l.self) l.column l.i
