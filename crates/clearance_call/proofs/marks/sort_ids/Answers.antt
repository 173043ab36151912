-- `clearance_call::marks::sort_ids` meets its contract: at leaf j the ids of the leaves before it are written. Assumes nothing.
use mathlib.Core.Path.{refl}
use native.Mathlib.Omega.{arith}
use Rattle.clearance_call.proofs.LeafGroups.{copying_start, copying_next, copying_end}
use Rattle.clearance_call.proofs.marks.sort_ids.Goals as goal

pub loop-j-init : goal.loop-j-init
loop-j-init c = copying_start _ _ c.requires

pub overflow_mul-s : goal.overflow_mul-s
overflow_mul-s c = omega (arith, c.loop-j.invariant.lists.few, c.loop-j-test.true)

pub overflow_mul-s-in-loop-j : goal.overflow_mul-s-in-loop-j
overflow_mul-s-in-loop-j c = omega (arith, c.loop-j.invariant.lists.few, c.loop-j-test.true)

pub overflow_add-s : goal.overflow_add-s
overflow_add-s c = omega (arith, c.loop-j.invariant.lists.few, c.loop-j-test.true)

pub overflow_add-s-in-loop-j : goal.overflow_add-s-in-loop-j
overflow_add-s-in-loop-j c = omega (arith, c.loop-j.invariant.lists.few, c.loop-j-test.true)

pub offset_bounds-s-m : goal.offset_bounds-s-m
offset_bounds-s-m c = omega (arith, c.loop-j.invariant.lists.few, c.loop-j-test.true)

pub bounds-s-m : goal.bounds-s-m
bounds-s-m c = let u = c.loop-j.invariant in omega (arith, u.same, u.lists.whole, c.loop-j-test.true)

pub bounds-s-j : goal.bounds-s-j
bounds-s-j c = let u = c.loop-j.invariant in omega (arith, u.same, u.lists.whole, c.loop-j-test.true)

pub loop-j-preserved : goal.loop-j-preserved
loop-j-preserved c = copying_next _ _ _ _ c.loop-j.invariant c.loop-j-test.true _ refl

pub returns : goal.returns
returns c = copying_end _ _ _ _ c.loop-j.invariant c.loop-j-test.false _ c.sort_indices.ensures
