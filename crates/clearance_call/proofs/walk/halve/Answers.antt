use native.Mathlib.Omega.{arith}
use Rattle.clearance_call.proofs.NestedTrees.{nested-left, nested-right}
use Rattle.clearance_call.proofs.StoredWalk.{near-box, halved_in_order}
use borrow.Author.Rules.{rules}
use Rattle.clearance_call.proofs.walk.halve.Goals as goal

pub bounds_of-requires : goal.bounds_of-requires
bounds_of-requires c = record { part = search rules; nested = nested-left _ _ _ (omega (arith, c.requires.two_or_more)) c.requires.nested }

pub bounds_of-requires-2 : goal.bounds_of-requires-2
bounds_of-requires-2 c = record { part = search rules; nested = nested-right _ _ _ (omega (arith, c.requires.two_or_more)) c.requires.nested }

pub returns : goal.returns
returns c =
    let pre = c.requires in
    halved_in_order pre.part pre.two_or_more pre.nested (near-box _ _ _ _ _ _ c.distance-left.ensures c.bounds_of.ensures) (near-box _ _ _ _ _ _ c.distance-right.ensures c.bounds_of-2.ensures) _ c.nearer_first.ensures
