-- `records::edge_node::measure_edge_node_clearance_bounded_by_records` meets its contract: that of the call by columns, of the columns that the records were copied into, which decide as the whole list does. Assumes nothing.
use Rattle.std.proofs.Common.{length, map, ◌∙◌}
use Rattle.drawing.specs.Refusals.{first_of}
use Rattle.drawing.specs.Entries.{lent_nodes, lent_exemptions}
use Rattle.drawing.specs.Held.{Binary64, SegmentsHeld, NodesHeld}
use Rattle.clearance.specs.Conditions.{clearance_conditions}
use Rattle.clearance.specs.Answer.{clearance_answer}
use Rattle.records.specs.Records.{of_edge_node}
use Rattle.records.proofs.Deciding.{stops, clearance-many, clearance-refused, decided}
use Rattle.records.proofs.edge_node.measure_edge_node_clearance_bounded_by_records.Goals as goal

pub returns : goal.returns
returns c =
    let given = c.args in
    let scratch = given.scratch.now in
    let nodes = lent_nodes given.nodes.now in
    let exemptions = lent_exemptions given.exemptions.now in
    decided (λ t. clearance_answer t nodes exemptions given.threshold given.allowance (length scratch)) (λ t. first_of (clearance_conditions t nodes exemptions given.threshold (length scratch))) (λ t. SegmentsHeld t × NodesHeld nodes × Binary64 given.threshold) scratch (stops nodes exemptions) (clearance-many nodes exemptions given.threshold (length scratch)) (clearance-refused nodes exemptions given.threshold given.allowance (length scratch)) (map of_edge_node given.records.now) (c.segments.ensures ∙ c.copy_from.ensures) c.measure_edge_node_clearance_bounded.ensures
