-- `clearance_call::tables::fill_node_tables` meets its contract: the second table leaves the first unchanged. Assumes nothing.
use Rattle.drawing.specs.Entries.{lent_nodes}
use Rattle.clearance_call.proofs.TableLaws.{both_tables}
use Rattle.clearance_call.proofs.tables.fill_node_tables.Goals as goal

pub returns : goal.returns
returns c =
    let a = c.args in
    both_tables (lent_nodes a.nodes.now) _ _ _ _ c.fill_node_table.ensures c.fill_node_table-2.ensures
