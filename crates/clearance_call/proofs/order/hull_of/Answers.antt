use mathlib.Core.Path.{ap, ◌∙◌}
use native.Mathlib.Omega.{arith}
use Rattle.boxes.specs.Boxes.{union}
use Rattle.clearance_call.proofs.LeafOrders.{place-small, hulled_first, hulled_next, hulled_all}
use borrow.Author.Rules.{rules}
use Rattle.clearance_call.proofs.order.hull_of.Goals as goal

pub bounds-s-0 : goal.bounds-s-0
bounds-s-0 c = let p = c.requires in omega (arith, p.0, p.1.inside)

pub box_at-bounds-requires : goal.box_at-bounds-requires
box_at-bounds-requires c = (place-small _ _ _ c.requires.1 0 c.requires.0, c.requires.1.agree)

pub loop-k-init : goal.loop-k-init
loop-k-init c = (search rules, hulled_first _ _ _ _ c.requires.0 c.requires.1 c.box_at-bounds.ensures)

pub box_at-requires : goal.box_at-requires
box_at-requires c = (place-small _ _ _ c.loop-k.invariant.1.places _ c.loop-k-test.true, c.loop-k.invariant.1.places.agree)

pub loop-k-preserved : goal.loop-k-preserved
loop-k-preserved c = (search rules, hulled_next _ _ _ _ _ _ c.loop-k.invariant.1 c.loop-k-test.true (c.union-bounds.ensures ∙ ap (union c.loop-k.bounds) c.box_at.ensures))

pub returns : goal.returns
returns c = hulled_all _ _ _ _ _ c.loop-k.invariant.1 c.loop-k-test.false
