-- `list_checks::check_segment_list` meets its contract: each return is the first condition of the list that holds. Assumes nothing.
use mathlib.Core.Path.{sym, ◌∙◌}
use Rattle.drawing.specs.Checks.{segment_list_conditions}
use Rattle.drawing.proofs.FirstRefusal.{first_yes, first_no, first-none, segments-agree}
use Rattle.list_checks.proofs.check_segment_list.Goals as goal

pub returns-then-segments_differ : goal.returns-then-segments_differ
unfolding segment_list_conditions
returns-then-segments_differ c = sym (first_yes _ _ _ (sym c.segments_differ.ensures ∙ c.if-segments_differ.true))

pub returns-then-too_many : goal.returns-then-too_many
unfolding segment_list_conditions
returns-then-too_many c = sym (first_no _ _ _ (sym c.segments_differ.ensures ∙ c.if-segments_differ.false) ∙ first_yes _ _ _ (sym c.too_many.ensures ∙ c.if-too_many.true))

pub segments_unfit-requires : goal.segments_unfit-requires
segments_unfit-requires c = segments-agree _ (sym c.segments_differ.ensures ∙ c.if-segments_differ.false)

pub returns-then-segments_unfit : goal.returns-then-segments_unfit
unfolding segment_list_conditions
returns-then-segments_unfit c = sym (first_no _ _ _ (sym c.segments_differ.ensures ∙ c.if-segments_differ.false) ∙ first_no _ _ _ (sym c.too_many.ensures ∙ c.if-too_many.false) ∙ first_yes _ _ _ (sym c.segments_unfit.ensures ∙ c.if-segments_unfit.true))

pub returns : goal.returns
unfolding segment_list_conditions
returns c = sym (first_no _ _ _ (sym c.segments_differ.ensures ∙ c.if-segments_differ.false) ∙ first_no _ _ _ (sym c.too_many.ensures ∙ c.if-too_many.false) ∙ first_no _ _ _ (sym c.segments_unfit.ensures ∙ c.if-segments_unfit.false) ∙ first-none)
