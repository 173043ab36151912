-- `clearance_call::tables::fill_node_table` meets its contract: after i iterations the first i rows are filled. Assumes nothing.
use borrow.Author.Rules.{rules}
use Rattle.drawing.specs.Entries.{lent_nodes}
use Rattle.clearance_call.proofs.TableLaws.{filled_none, filled_all, node_next}
use Rattle.clearance_call.proofs.tables.fill_node_table.Goals as goal

pub loop-i-init : goal.loop-i-init
loop-i-init c = (search rules, filled_none _ _ _)

pub loop-i-preserved : goal.loop-i-preserved
loop-i-preserved c =
    let a = c.args in
    (search rules, node_next _ (lent_nodes a.nodes.now) _ _ _ _ _ _ c.loop-i.invariant.1 c.requires.1 c.loop-i-test.true c.box_at.ensures c.put_node.ensures)

pub returns : goal.returns
returns c = filled_all _ _ _ _ _ _ c.loop-i.invariant.0 c.loop-i-test.false c.loop-i.invariant.1
