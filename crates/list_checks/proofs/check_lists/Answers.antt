-- `list_checks::check_lists` meets its contract: each return is the first condition of the list that holds. Assumes nothing.
use mathlib.Core.Path.{sym, ◌∙◌}
use Rattle.drawing.specs.Checks.{list_conditions}
use Rattle.drawing.proofs.FirstRefusal.{first_yes, first_no, first-none}
use Rattle.list_checks.proofs.check_lists.Goals as goal

pub returns-then-segments_differ : goal.returns-then-segments_differ
unfolding list_conditions
returns-then-segments_differ c = sym (first_yes _ _ _ (sym c.segments_differ.ensures ∙ c.if-segments_differ.true))

pub returns-then-nodes_differ : goal.returns-then-nodes_differ
unfolding list_conditions
returns-then-nodes_differ c = sym (first_no _ _ _ (sym c.segments_differ.ensures ∙ c.if-segments_differ.false) ∙ first_yes _ _ _ (sym c.nodes_differ.ensures ∙ c.if-nodes_differ.true))

pub returns-then-exemptions_differ : goal.returns-then-exemptions_differ
unfolding list_conditions
returns-then-exemptions_differ c = sym (first_no _ _ _ (sym c.segments_differ.ensures ∙ c.if-segments_differ.false) ∙ first_no _ _ _ (sym c.nodes_differ.ensures ∙ c.if-nodes_differ.false) ∙ first_yes _ _ _ (sym c.exemptions_differ.ensures ∙ c.if-exemptions_differ.true))

pub returns-then-too_many : goal.returns-then-too_many
unfolding list_conditions
returns-then-too_many c = sym (first_no _ _ _ (sym c.segments_differ.ensures ∙ c.if-segments_differ.false) ∙ first_no _ _ _ (sym c.nodes_differ.ensures ∙ c.if-nodes_differ.false) ∙ first_no _ _ _ (sym c.exemptions_differ.ensures ∙ c.if-exemptions_differ.false) ∙ first_yes _ _ _ (sym c.too_many.ensures ∙ c.if-too_many.true))

pub returns-then-too_many-2 : goal.returns-then-too_many-2
unfolding list_conditions
returns-then-too_many-2 c = sym (first_no _ _ _ (sym c.segments_differ.ensures ∙ c.if-segments_differ.false) ∙ first_no _ _ _ (sym c.nodes_differ.ensures ∙ c.if-nodes_differ.false) ∙ first_no _ _ _ (sym c.exemptions_differ.ensures ∙ c.if-exemptions_differ.false) ∙ first_no _ _ _ (sym c.too_many.ensures ∙ c.if-too_many.false) ∙ first_yes _ _ _ (sym c.too_many-2.ensures ∙ c.if-too_many-2.true))

pub returns-then-too_many-3 : goal.returns-then-too_many-3
unfolding list_conditions
returns-then-too_many-3 c = sym (first_no _ _ _ (sym c.segments_differ.ensures ∙ c.if-segments_differ.false) ∙ first_no _ _ _ (sym c.nodes_differ.ensures ∙ c.if-nodes_differ.false) ∙ first_no _ _ _ (sym c.exemptions_differ.ensures ∙ c.if-exemptions_differ.false) ∙ first_no _ _ _ (sym c.too_many.ensures ∙ c.if-too_many.false) ∙ first_no _ _ _ (sym c.too_many-2.ensures ∙ c.if-too_many-2.false) ∙ first_yes _ _ _ (sym c.too_many-3.ensures ∙ c.if-too_many-3.true))

pub returns : goal.returns
unfolding list_conditions
returns c = sym (first_no _ _ _ (sym c.segments_differ.ensures ∙ c.if-segments_differ.false) ∙ first_no _ _ _ (sym c.nodes_differ.ensures ∙ c.if-nodes_differ.false) ∙ first_no _ _ _ (sym c.exemptions_differ.ensures ∙ c.if-exemptions_differ.false) ∙ first_no _ _ _ (sym c.too_many.ensures ∙ c.if-too_many.false) ∙ first_no _ _ _ (sym c.too_many-2.ensures ∙ c.if-too_many-2.false) ∙ first_no _ _ _ (sym c.too_many-3.ensures ∙ c.if-too_many-3.false) ∙ first-none)
