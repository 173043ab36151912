-- `clearance::checks::check_clearance` meets its contract: the conditions of the lists, the scratch, the entries and the threshold, in this order. Assumes nothing.
use Rattle.std.proofs.Common.{sym, refl, ◌∙◌}
use Rattle.std.proofs.lemmas.Result.{err_from_is_err_and}
use Rattle.clearance.specs.Conditions.{clearance_conditions}
use Rattle.drawing.proofs.FirstRefusal.{first_yes, first_no, first-none, first_stop, first_go_on, entries_compared}
use Rattle.clearance.proofs.checks.check_clearance.Goals as goal

pub returns-in_err-check_lists : goal.returns-in_err-check_lists
unfolding clearance_conditions
returns-in_err-check_lists c = let p = err_from_is_err_and c.from_residual.result c.from_residual.ensures.1 in rw (p.1, p.2) (first_stop _ _ _ _ (c.in_err-check_lists.ensures) refl)

pub returns-in_err-check_entries : goal.returns-in_err-check_entries
unfolding clearance_conditions
returns-in_err-check_entries c = let p = err_from_is_err_and c.from_residual-in_err-check_entries.result c.from_residual-in_err-check_entries.ensures.1 in rw (p.1, p.2) (first_stop _ _ _ _ (c.in_err-check_entries.ensures ∙ entries_compared _ _ _ (sym c.check_lists.ensures ∙ c.in_ok-check_lists.was)) refl ∙ sym (first_go_on _ _ _ c.check_lists.ensures c.in_ok-check_lists.was ∙ first_no _ _ _ (sym c.short_scratch.ensures ∙ c.if-short_scratch.false)))

pub returns-then-short_scratch : goal.returns-then-short_scratch
unfolding clearance_conditions
returns-then-short_scratch c = sym (first_go_on _ _ _ c.check_lists.ensures c.in_ok-check_lists.was ∙ first_yes _ _ _ (sym c.short_scratch.ensures ∙ c.if-short_scratch.true))

pub returns-then-threshold_unfit : goal.returns-then-threshold_unfit
unfolding clearance_conditions
returns-then-threshold_unfit c = sym (first_go_on _ _ _ c.check_lists.ensures c.in_ok-check_lists.was ∙ first_no _ _ _ (sym c.short_scratch.ensures ∙ c.if-short_scratch.false) ∙ first_go_on _ _ _ (c.check_entries.ensures ∙ entries_compared _ _ _ (sym c.check_lists.ensures ∙ c.in_ok-check_lists.was)) c.in_ok-check_entries.was ∙ first_yes _ _ _ (sym c.threshold_unfit.ensures ∙ c.if-threshold_unfit.true))

pub returns : goal.returns
unfolding clearance_conditions
returns c = sym (first_go_on _ _ _ c.check_lists.ensures c.in_ok-check_lists.was ∙ first_no _ _ _ (sym c.short_scratch.ensures ∙ c.if-short_scratch.false) ∙ first_go_on _ _ _ (c.check_entries.ensures ∙ entries_compared _ _ _ (sym c.check_lists.ensures ∙ c.in_ok-check_lists.was)) c.in_ok-check_entries.was ∙ first_no _ _ _ (sym c.threshold_unfit.ensures ∙ c.if-threshold_unfit.false) ∙ first-none)
