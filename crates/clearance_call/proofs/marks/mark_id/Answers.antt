-- `clearance_call::marks::mark_id` meets its contract: the index that is found is the id's group, or no leaf has the id. Assumes nothing.
use native.Mathlib.Omega.{arith}
use Rattle.clearance_call.proofs.MarkLaws.{added_none, added_group}
use Rattle.clearance_call.proofs.marks.mark_id.Goals as goal

pub returns-then-ids-group : goal.returns-then-ids-group
returns-then-ids-group c = let r = c.requires in added_none _ _ _ _ (c.first_at_least-group.ensures (omega arith) r.room r.order) _ (λ h. absurd (omega (arith, c.if-ids-group.true)))

pub bounds-ids-group : goal.bounds-ids-group
bounds-ids-group c = omega (arith, c.requires.room, c.if-ids-group.false)

pub returns-then-ids-group-2 : goal.returns-then-ids-group-2
returns-then-ids-group-2 c = let r = c.requires in added_none _ _ _ _ (c.first_at_least-group.ensures (omega arith) r.room r.order) _ (λ h. c.if-ids-group-2.true)

pub returns : goal.returns
returns c = let r = c.requires in added_group _ _ _ _ (c.first_at_least-group.ensures (omega arith) r.room r.order) _ c.if-ids-group-2.false _ c.insert.ensures
