-- `clearance_call::marks::mark_net` meets its contract: at index i the groups are marked whose ids the net's exemptions before it name. Assumes nothing.
use native.Mathlib.Omega.{arith}
use borrow.Author.Rules.{rules}
use Rattle.clearance_call.proofs.MarkLaws.{net_marking_start, net_marking_next, net-marked, none-marked}
use Rattle.clearance_call.proofs.marks.mark_net.Goals as goal

pub returns-then-from-to : goal.returns-then-from-to
returns-then-from-to c = (omega arith, λ ex groups w holds count b. none-marked _ _ _ _ (c.net_range-range.ensures c.requires.1) c.if-from-to.true groups w ex holds count)

pub loop-i-init : goal.loop-i-init
loop-i-init c = net_marking_start _ _ _ _ _ _ _ c.requires.0 c.clear.ensures (c.net_range-range.ensures c.requires.1).ordered

pub offset_bounds-packed-i : goal.offset_bounds-packed-i
offset_bounds-packed-i c = search (rules, c.net_range-range.ensures c.requires.1)

pub bounds-packed-i : goal.bounds-packed-i
bounds-packed-i c = search (rules, c.net_range-range.ensures c.requires.1)

pub mark_id-requires : goal.mark_id-requires
mark_id-requires c = c.requires.2 (omega (arith, c.loop-i-test.true, (c.net_range-range.ensures c.requires.1).inside))

pub loop-i-preserved : goal.loop-i-preserved
loop-i-preserved c = net_marking_next _ _ _ _ _ _ _ c.loop-i.invariant c.loop-i-test.true _ c.mark_id.ensures

pub returns : goal.returns
returns c =
    let own = c.net_range-range.ensures c.requires.1 in
    (omega arith, λ ex groups w holds count b. net-marked _ _ _ _ _ _ c.loop-i.invariant _ _ c.loop-i-test.false own ex groups w holds count (b (omega (arith, c.if-from-to.false, own.ordered, own.inside))))
