-- `clearance_call::marks::group_leaves` meets its contract: at leaf j the groups of the leaves before it are written. Assumes nothing.
use mathlib.Core.Path.{refl}
use native.Mathlib.Omega.{arith}
use Rattle.clearance_call.proofs.LeafGroups.{grouping_start, grouping_next, grouping_end, not_grouped}
use Rattle.clearance_call.proofs.marks.group_leaves.Goals as goal

pub returns-then-exemptions-eq0 : goal.returns-then-exemptions-eq0
returns-then-exemptions-eq0 c = not_grouped _ _ _ c.if-exemptions-eq0.true

pub loop-j-init : goal.loop-j-init
loop-j-init c = grouping_start _ _ _ c.requires c.sort_ids.ensures c.sort_ids.auto.s

pub overflow_mul-m : goal.overflow_mul-m
overflow_mul-m c = let u = c.loop-j.invariant in omega (arith, u.whole, u.few, c.loop-j-test.true)

pub overflow_mul-j : goal.overflow_mul-j
overflow_mul-j c = let u = c.loop-j.invariant in omega (arith, u.whole, u.few, c.loop-j-test.true)

pub overflow_add-m : goal.overflow_add-m
overflow_add-m c = let u = c.loop-j.invariant in omega (arith, u.whole, u.few, c.loop-j-test.true)

pub overflow_add-m-in-loop-j : goal.overflow_add-m-in-loop-j
overflow_add-m-in-loop-j c = let u = c.loop-j.invariant in omega (arith, u.whole, u.few, c.loop-j-test.true)

pub offset_bounds-s-m : goal.offset_bounds-s-m
offset_bounds-s-m c = let u = c.loop-j.invariant in omega (arith, u.whole, u.few, c.loop-j-test.true)

pub slice_reshared_read-first_at_least : goal.slice_reshared_read-first_at_least
slice_reshared_read-first_at_least c = let u = c.loop-j.invariant in omega (arith, u.whole, u.few, c.loop-j-test.true)

pub overflow_add-s : goal.overflow_add-s
overflow_add-s c = let u = c.loop-j.invariant in omega (arith, u.whole, u.few, c.loop-j-test.true)

pub offset_bounds-s-m-in-loop-j : goal.offset_bounds-s-m-in-loop-j
offset_bounds-s-m-in-loop-j c = let u = c.loop-j.invariant in omega (arith, u.whole, u.few, c.loop-j-test.true)

pub bounds-s-m : goal.bounds-s-m
bounds-s-m c = let u = c.loop-j.invariant in omega (arith, u.whole, u.few, c.loop-j-test.true)

pub loop-j-preserved : goal.loop-j-preserved
loop-j-preserved c =
    let u = c.loop-j.invariant in
    grouping_next _ _ _ _ u c.loop-j-test.true _ refl _ (c.first_at_least-group.ensures (omega arith) u.rising.room u.rising.order)

pub returns : goal.returns
returns c = grouping_end _ _ _ _ c.loop-j.invariant c.loop-j-test.false _ c.sort_ids.ensures _
