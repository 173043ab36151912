-- `boxes::aabb::axis_gap` meets its contract: the arm that returns is the one that the definition's tests pick. Assumes nothing.
use lib.Ieee.{of_bits}
use Rattle.boxes.specs.Boxes.{axis_gap}
use Rattle.boxes.proofs.aabb.axis_gap.Goals as goal

pub returns-then-b-c : goal.returns-then-b-c
unfolding axis_gap
returns-then-b-c c = rw c.if-b-c.true

pub returns-then-d-a : goal.returns-then-d-a
unfolding axis_gap
returns-then-d-a c = rw (c.if-b-c.false, c.if-d-a.true)

pub returns-else-d-a : goal.returns-else-d-a
unfolding axis_gap of_bits
returns-else-d-a c = rw (c.if-b-c.false, c.if-d-a.false)
