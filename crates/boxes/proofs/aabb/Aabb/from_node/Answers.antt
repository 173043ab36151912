-- `boxes::aabb::Aabb::from_node` meets its contract: the code is the definition. Assumes nothing.
use mathlib.Core.Path.{refl}
use Rattle.boxes.specs.Boxes.{from_node, node_box}
use Rattle.boxes.proofs.aabb.Aabb.from_node.Goals as goal

pub returns : goal.returns
unfolding node_box from_node
returns c = refl
