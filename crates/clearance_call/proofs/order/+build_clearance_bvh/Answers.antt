-- `clearance_call::order::build_clearance_bvh` meets its contract. The measure is the length of the part. Assumes nothing.
use native.Mathlib.Omega.{arith}
use Rattle.clearance_call.proofs.LeafOrders.{ordered-short, sorted_part, first_buildable, second_buildable, built}
use Rattle.clearance_call.proofs.order.+build_clearance_bvh.Goals as goal

pub returns-then-n-lt2 : goal.returns-then-n-lt2
returns-then-n-lt2 t c = λ k h. ordered-short k _ _ _ _ c.requires c.if-n-lt2.true

pub hull_of-bounds-requires : goal.hull_of-bounds-requires
hull_of-bounds-requires t c = let p = c.requires in (omega arith, p.places)

pub table_along-table-requires : goal.table_along-table-requires
table_along-table-requires t c = omega (arith, c.requires.room)

pub build_clearance_bvh-requires : goal.build_clearance_bvh-requires
build_clearance_bvh-requires t c =
    let b = c.requires in
    let two = c.if-n-lt2.false in
    let e = sorted_part _ _ _ _ b two _ _ _ c.hull_of-bounds.ensures c.table_along-table.ensures c.sort_indices.ensures in
    (omega (arith, two), first_buildable _ _ _ _ b two _ c.sort_indices.auto.s e)

pub overflow_sub-t : goal.overflow_sub-t
overflow_sub-t t c = omega (arith, c.requires.apart)

pub build_clearance_bvh-requires-2 : goal.build_clearance_bvh-requires-2
build_clearance_bvh-requires-2 t c =
    let b = c.requires in
    let two = c.if-n-lt2.false in
    let e = sorted_part _ _ _ _ b two _ _ _ c.hull_of-bounds.ensures c.table_along-table.ensures c.sort_indices.ensures in
    (omega (arith, two), second_buildable _ _ _ _ b two _ c.sort_indices.auto.s e _ c.build_clearance_bvh.auto.s c.build_clearance_bvh.ensures)

pub returns : goal.returns
returns t c =
    let b = c.requires in
    let two = c.if-n-lt2.false in
    let e = sorted_part _ _ _ _ b two _ _ _ c.hull_of-bounds.ensures c.table_along-table.ensures c.sort_indices.ensures in
    built _ _ _ _ b two _ c.sort_indices.auto.s e _ c.build_clearance_bvh.auto.s c.build_clearance_bvh.ensures _ c.build_clearance_bvh-2.ensures
