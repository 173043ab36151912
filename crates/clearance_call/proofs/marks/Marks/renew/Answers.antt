-- `clearance_call::marks::Marks::renew` meets its contract: the net is the same, or its marks are made. Assumes nothing.
use mathlib.Core.Path.{refl, sym, ◌∙◌}
use Rattle.clearance_call.proofs.MarkLaws.{same_net, still_marked}
use Rattle.clearance_call.proofs.marks.Marks.renew.Goals as goal

pub returns-then-eq : goal.returns-then-eq
returns-then-eq c =
    let same = same_net _ _ (sym c.eq.ensures ∙ c.if-eq.true) in
    (c.requires.marks_and_order.0, c.requires.used_at_most, same, λ ex groups w holds count b stand. still_marked _ groups w ex _ _ stand same)

pub returns : goal.returns
returns c =
    let made = c.mark_net-self.ensures in
    (c.mark_net-self.auto.marks ∙ c.requires.marks_and_order.0, made.0, refl, λ ex groups w holds count b stand. made.1 ex groups w holds count b)
