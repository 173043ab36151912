-- `boxes::aabb::Aabb::distance` meets its contract: the greater of the two axis gaps. Assumes nothing.
use mathlib.Core.Path.{◌∙◌}
use Rattle.floats.specs.Values.{greater_of}
use Rattle.boxes.specs.Boxes.{distance}
use Rattle.boxes.proofs.aabb.Aabb.distance.Goals as goal

pub returns : goal.returns
unfolding distance
returns c = c.greater.ensures ∙ (λ i. greater_of (c.axis_gap-dx.ensures i) (c.axis_gap-dy.ensures i))
