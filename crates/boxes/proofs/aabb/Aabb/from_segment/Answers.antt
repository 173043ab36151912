-- `boxes::aabb::Aabb::from_segment` meets its contract, orientation by orientation. Assumes nothing.
use borrow.Author.Tests.{ne_eqb}
use Rattle.boxes.specs.Boxes.{from_segment, segment_box}
use Rattle.boxes.proofs.aabb.Aabb.from_segment.Goals as goal

pub returns-then-segment-eq1 : goal.returns-then-segment-eq1
unfolding segment_box from_segment
returns-then-segment-eq1 c =
    let ends = c.ends_in_order-ends.ensures in
    let fixed = c.args.segment.fixed in
    rw c.if-segment-eq1.true (λ i. record { left = (ends i).start; top = fixed; right = (ends i).end; bottom = fixed })

pub returns-else-segment-eq1 : goal.returns-else-segment-eq1
unfolding segment_box from_segment
returns-else-segment-eq1 c =
    let ends = c.ends_in_order-ends.ensures in
    let fixed = c.args.segment.fixed in
    rw (ne_eqb c.args.segment.orientation 1 c.if-segment-eq1.false) (λ i. record { left = fixed; top = (ends i).start; right = fixed; bottom = (ends i).end })
