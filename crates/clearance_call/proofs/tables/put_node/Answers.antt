-- `clearance_call::tables::put_node` meets its contract: the words are in the order of the axis. Assumes nothing.
use Rattle.clearance_call.proofs.TableLaws.{across-row, down-row}
use Rattle.clearance_call.proofs.tables.put_node.Goals as goal

pub returns-then-horizontal : goal.returns-then-horizontal
returns-then-horizontal c =
    let a = c.args in
    across-row a.s.now _ a.at a.id a.bounds _ _ _ _ c.key_of-left.ensures c.key_of-right.ensures c.key_of-top.ensures c.key_of-bottom.ensures _ c.if-horizontal.true c.put_row.ensures

pub returns-else-horizontal : goal.returns-else-horizontal
returns-else-horizontal c =
    let a = c.args in
    down-row a.s.now _ a.at a.id a.bounds _ _ _ _ c.key_of-left.ensures c.key_of-right.ensures c.key_of-top.ensures c.key_of-bottom.ensures _ c.if-horizontal.false c.put_row-else-horizontal.ensures
