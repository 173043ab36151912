use mathlib.Core.Path.{refl}
use native.Mathlib.Omega.{arith}
use borrow.Author.Rules.{rules}
use Rattle.clearance.specs.Tree.{indexed}
use Rattle.clearance_call.proofs.StoredLeaves.{leaving_first, leaving_place, leaving_room, leaving_next, leaving_last}
use Rattle.clearance_call.proofs.stored.put_leaves.Goals as goal

pub loop-k-init : goal.loop-k-init
loop-k-init c = leaving_first _ _ _ c.requires.0 c.requires.1 c.requires.2

pub bounds-words-k : goal.bounds-words-k
bounds-words-k c = let h = leaving_room _ _ _ _ _ c.loop-k.invariant c.loop-k-test.true in omega (arith, h)

pub offset_bounds-nodes-i : goal.offset_bounds-nodes-i
offset_bounds-nodes-i c = let h = leaving_place _ _ _ _ _ c.loop-k.invariant c.loop-k-test.true in search (rules, h)

pub bounds-nodes-i : goal.bounds-nodes-i
bounds-nodes-i c = leaving_place _ _ _ _ _ c.loop-k.invariant c.loop-k-test.true

pub box_at-requires : goal.box_at-requires
box_at-requires c = (leaving_place _ _ _ _ _ c.loop-k.invariant c.loop-k-test.true, c.loop-k.invariant.places.agree)

pub put_leaf-requires : goal.put_leaf-requires
put_leaf-requires c = leaving_room _ _ _ _ _ c.loop-k.invariant c.loop-k-test.true

pub loop-k-preserved : goal.loop-k-preserved
unfolding indexed
loop-k-preserved c = leaving_next _ _ _ _ _ _ _ _ c.loop-k.invariant c.loop-k-test.true refl c.box_at.ensures c.put_leaf.ensures

pub shape_of-words : goal.shape_of-words
shape_of-words c = c.loop-k.invariant.put.len

pub returns : goal.returns
returns c = leaving_last _ _ _ _ _ c.loop-k.invariant c.loop-k-test.false
