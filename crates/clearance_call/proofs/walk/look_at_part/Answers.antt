-- `clearance_call::walk::look_at_part` meets its contract, case by case: pruned, a leaf, leaves below the threshold, and two halves. Assumes nothing.
use mathlib.Core.Path.{sym, ◌∙◌}
use native.Mathlib.Omega.{arith}
use borrow.Author.Rules.{rules}
use Rattle.std.proofs.lemmas.Result.{err_from_is_err_and}
use Rattle.clearance_call.proofs.StoredWalk.{near_good, walks_pruned, walks_leaf}
use Rattle.clearance_call.proofs.LeafRuns.{by_mark, walks_unpruned}
use Rattle.clearance_call.proofs.walk.look_at_part.Goals as goal

pub returns-then-not-clearance_subtree_can_contribute-clause-outcome : goal.returns-then-not-clearance_subtree_can_contribute-clause-outcome
returns-then-not-clearance_subtree_can_contribute-clause-outcome c ex net l = walks_pruned _ _ c.requires.walkable (sym (c.clearance_subtree_can_contribute.ensures (near_good _ _ _ _ _ c.requires.walkable.near).num.1) ∙ c.if-not-clearance_subtree_can_contribute.true) net

pub visit_leaf-requires : goal.visit_leaf-requires
visit_leaf-requires c = let pre = c.requires in let ready = pre.walkable in record { i_in_bounds = omega (arith, ready.part.inside, c.if-n-eq1.true, pre.net_marks.room); number = (near_good _ _ _ _ _ ready.near).num.1; remaining_bound = ready.room }

pub returns-then-n-eq1-clause-outcome : goal.returns-then-n-eq1-clause-outcome
returns-then-n-eq1-clause-outcome c ex net l = walks_leaf _ _ c.requires.walkable (sym (c.clearance_subtree_can_contribute.ensures (near_good _ _ _ _ _ c.requires.walkable.near).num.1) ∙ c.if-not-clearance_subtree_can_contribute.false) c.if-n-eq1.true net _ (by_mark _ _ _ ex net l _ (omega (arith, c.requires.walkable.part.inside, c.if-n-eq1.true)) _ _ _ _ _ c.in_ok-visited.ensures.outcome)

pub returns-in_err-visited-clause-outcome : goal.returns-in_err-visited-clause-outcome
returns-in_err-visited-clause-outcome c ex net l = let p = err_from_is_err_and c.from_residual.result c.from_residual.ensures.1 in rw (p.1, p.2) (walks_leaf _ _ c.requires.walkable (sym (c.clearance_subtree_can_contribute.ensures (near_good _ _ _ _ _ c.requires.walkable.near).num.1) ∙ c.if-not-clearance_subtree_can_contribute.false) c.if-n-eq1.true net _ (by_mark _ _ _ ex net l _ (omega (arith, c.requires.walkable.part.inside, c.if-n-eq1.true)) _ _ _ _ _ c.in_err-visited.ensures.outcome))

pub part_below-requires : goal.part_below-requires
part_below-requires c = let ready = c.requires.walkable in record { part = ready.part; near = ready.near; fit_and_nested = (ready.fit, ready.nested) }

pub visit_leaves-requires : goal.visit_leaves-requires
visit_leaves-requires c = let a = c.requires in record { part = a.walkable.part; net_marks = a.net_marks; remaining_bound = a.walkable.room; nested = a.walkable.nested }

pub returns-then-part_below-clause-outcome : goal.returns-then-part_below-clause-outcome
returns-then-part_below-clause-outcome c ex net l = walks_unpruned ex _ _ _ _ _ net _ _ (search rules) (c.part_below.ensures c.if-part_below.true) (c.in_ok-visited-2.ensures.outcome ex net l)

pub returns-in_err-visited-2-clause-outcome : goal.returns-in_err-visited-2-clause-outcome
returns-in_err-visited-2-clause-outcome c ex net l = let p = err_from_is_err_and c.from_residual-in_err-visited-2.result c.from_residual-in_err-visited-2.ensures.1 in rw (p.1, p.2) (walks_unpruned ex _ _ _ _ _ net _ _ (search rules) (c.part_below.ensures c.if-part_below.true) (c.in_err-visited-2.ensures.outcome ex net l))

pub halve-requires : goal.halve-requires
halve-requires c = let ready = c.requires.walkable in record { part = ready.part; two_or_more = omega (arith, ready.part.some, c.if-n-eq1.false); nested = ready.nested }

pub returns-clause-outcome : goal.returns-clause-outcome
returns-clause-outcome c ex net l = (c.halve.ensures, sym (c.clearance_subtree_can_contribute.ensures (near_good _ _ _ _ _ c.requires.walkable.near).num.1) ∙ c.if-not-clearance_subtree_can_contribute.false, omega (arith, c.requires.walkable.part.some, c.if-n-eq1.false))
