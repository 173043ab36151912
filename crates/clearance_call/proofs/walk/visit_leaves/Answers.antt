-- `clearance_call::walk::visit_leaves` meets its contract: at leaf j the leaves before it are visited. Assumes nothing.
use Rattle.std.proofs.lemmas.Result.{err_from_is_err_and}
use Rattle.clearance_call.proofs.LeafRuns.{visiting_none, visiting_stopped, visiting_next, visiting_all, distance-number}
use Rattle.clearance_call.proofs.NestedTrees.{nested-at}
use native.Mathlib.Omega.{arith}
use Rattle.clearance_call.proofs.walk.visit_leaves.Goals as goal

pub loop-j-init : goal.loop-j-init
loop-j-init c = visiting_none _ _ _ _ _ _ _ _ c.requires.part c.requires.remaining_bound

pub fit_box_from-requires : goal.fit_box_from-requires
fit_box_from-requires c =
    let u = c.loop-j.invariant in
    record { p_in_bounds = omega (arith, u.part.inside, c.loop-j-test.true); fit_box = nested-at _ _ _ _ (omega arith) c.requires.nested _ u.begun c.loop-j-test.true }

pub visit_leaf-requires : goal.visit_leaf-requires
visit_leaf-requires c =
    let u = c.loop-j.invariant in
    record { i_in_bounds = omega (arith, u.part.inside, c.loop-j-test.true, c.requires.net_marks.room); number = distance-number _ _ _ c.distance-distance.ensures; remaining_bound = u.room }

pub returns-in_err-state-clause-outcome : goal.returns-in_err-state-clause-outcome
returns-in_err-state-clause-outcome c ex net l = let p = err_from_is_err_and c.from_residual.result c.from_residual.ensures.1 in rw (p.1, p.2) (visiting_stopped _ _ _ _ _ _ _ _ _ _ c.loop-j.invariant c.loop-j-test.true _ c.fit_box_from.ensures _ c.distance-distance.ensures _ c.visit_leaf.ensures.outcome _ c.in_err-state.was ex net l)

pub loop-j-preserved : goal.loop-j-preserved
loop-j-preserved c = visiting_next _ _ _ _ _ _ _ _ _ _ c.loop-j.invariant c.loop-j-test.true _ c.fit_box_from.ensures _ c.distance-distance.ensures _ c.visit_leaf.ensures.outcome c.requires.net_marks _ c.in_ok-state.was

pub returns-clause-outcome : goal.returns-clause-outcome
returns-clause-outcome c ex net l = visiting_all _ _ _ _ _ _ _ _ _ _ c.loop-j.invariant c.loop-j-test.false ex net l
