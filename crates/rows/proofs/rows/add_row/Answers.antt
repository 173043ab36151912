-- `rows::rows::add_row` meets its contract: a segment of another orientation adds no row. Assumes nothing.
use Rattle.drawing.specs.Entries.{as_taken}
use Rattle.rows.proofs.RowTables.{row_passed, row_added}
use Rattle.rows.proofs.rows.add_row.Goals as goal

pub returns-then-segment-wanted : goal.returns-then-segment-wanted
returns-then-segment-wanted c =
    let a = c.args in
    row_passed a.t a.n a.wanted (as_taken a.segment) a.p.now c.if-segment-wanted.true

pub returns : goal.returns
returns c =
    let a = c.args in
    row_added a.t a.n a.wanted (as_taken a.segment) a.p.now _ c.if-segment-wanted.false c.requires c.put_row.ensures
