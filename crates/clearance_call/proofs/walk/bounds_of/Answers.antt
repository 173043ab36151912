use native.Mathlib.Omega.{arith}
use Rattle.clearance_call.proofs.NestedTrees.{nested-leaf, nested_split}
use Rattle.clearance_call.proofs.StoredWalk.{leaf-bounds, branch-bounds}
use borrow.Author.Rules.{rules}
use Rattle.clearance_call.proofs.walk.bounds_of.Goals as goal

pub fit_box_from-requires : goal.fit_box_from-requires
fit_box_from-requires c = record { p_in_bounds = search rules; fit_box = nested-leaf _ _ _ c.if-n-eq1.true c.requires.nested }

pub fit_box_from-requires-else-n-eq1 : goal.fit_box_from-requires-else-n-eq1
fit_box_from-requires-else-n-eq1 c = record { p_in_bounds = search rules; fit_box = nested_split _ _ _ (omega (arith, c.requires.part.some, c.if-n-eq1.false)) c.requires.nested }

pub returns-then-n-eq1 : goal.returns-then-n-eq1
returns-then-n-eq1 c = leaf-bounds _ _ _ c.if-n-eq1.true _ c.fit_box_from.ensures

pub returns-else-n-eq1 : goal.returns-else-n-eq1
returns-else-n-eq1 c = branch-bounds _ _ _ c.requires.part.some c.if-n-eq1.false _ c.fit_box_from-else-n-eq1.ensures
