-- `boxes::aabb::Aabb::union` meets its contract, edge by edge. Assumes nothing.
use Rattle.boxes.specs.Boxes.{union}
use Rattle.boxes.proofs.aabb.Aabb.union.Goals as goal

pub returns : goal.returns
unfolding union
returns c = λ i. record {
  left = c.lesser.ensures i;
  top = c.lesser-2.ensures i;
  right = c.greater.ensures i;
  bottom = c.greater-2.ensures i;
}
