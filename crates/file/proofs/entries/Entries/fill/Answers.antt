-- `file::entries::Entries::fill` meets its contract: after i turns the first i values of the column are written. Assumes nothing.
use native.Mathlib.Omega.{arith}
use Rattle.file.proofs.ColumnsFilled.{filled_none, filled_next, filled_all}
use Rattle.file.proofs.FixedPlaces.{length-places}
use Rattle.file.proofs.entries.Entries.fill.Goals as goal

pub loop-i-init : goal.loop-i-init
loop-i-init g c = filled_none _ _ _ (omega (arith, c.requires.0, length-places))

pub loop-i-preserved : goal.loop-i-preserved
loop-i-preserved g c = filled_next _ _ _ _ _ _ c.loop-i.invariant (omega (arith, c.loop-i-test.true, length-places)) c.field.ensures

pub returns : goal.returns
returns g c = filled_all _ _ _ _ _ _ c.loop-i.invariant (length-places _ _ _) c.loop-i-test.false
