use mathlib.Core.Path.{ap, ◌∙◌}
use Rattle.boxes.specs.Boxes.{node_box}
use Rattle.clearance.specs.Tree.{indexed}
use Rattle.clearance_call.proofs.order.box_at.Goals as goal

pub returns : goal.returns
unfolding indexed
returns c = c.from_node.ensures ∙ ap node_box c.at.ensures
