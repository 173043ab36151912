-- `rows::rows::gather_rows` meets its contract: after i turns the rows of the first i segments are gathered. Assumes nothing.
use mathlib.Core.Path.{subst}
use native.Mathlib.Omega.{arith}
use Rattle.drawing.specs.Entries.{Segment, lent_segments, as_taken}
use Rattle.rows.specs.Inner.Tables.{RowAdded}
use lib.ListN.{length}
use Rattle.rows.proofs.RowTables.{gather_none, gather_next, gather_all}
use Rattle.rows.proofs.rows.gather_rows.Goals as goal

pub loop-i-init : goal.loop-i-init
loop-i-init c = gather_none _ _ _ _

pub loop-i-preserved : goal.loop-i-preserved
loop-i-preserved c =
    gather_next _ _ (lent_segments c.args.segments.now) _ _ _ _ _ _ c.requires.agree (omega (arith, c.requires.room)) c.loop-i.invariant c.loop-i-test.true (subst (λ (s : Segment). RowAdded (length c.args.segments.now.net.now) c.loop-i.n c.args.wanted (as_taken s) c.loop-i.p c.add_row-n.new.p c.add_row-n.result) c.at.ensures c.add_row-n.ensures)

pub returns : goal.returns
returns c =
    gather_all _ _ _ _ _ _ _ c.requires.agree c.loop-i.invariant c.loop-i-test.false
