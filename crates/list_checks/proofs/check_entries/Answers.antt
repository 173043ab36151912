-- `list_checks::check_entries` meets its contract: each return is the first condition of the list that holds. Assumes nothing.
use mathlib.Core.Path.{sym, ◌∙◌}
use Rattle.drawing.specs.Checks.{entry_conditions}
use Rattle.drawing.specs.Inner.Lengths.{compared_entry_conditions}
use Rattle.drawing.proofs.FirstRefusal.{first_yes, first_no, first-none, segments-agree, nodes-agree}
use Rattle.list_checks.proofs.check_entries.Goals as goal

pub returns-then-segments_differ : goal.returns-then-segments_differ
unfolding compared_entry_conditions
returns-then-segments_differ c = sym (first_yes _ _ _ (sym c.segments_differ.ensures ∙ c.if-segments_differ.true))

pub returns-then-nodes_differ : goal.returns-then-nodes_differ
unfolding compared_entry_conditions
returns-then-nodes_differ c = sym (first_no _ _ _ (sym c.segments_differ.ensures ∙ c.if-segments_differ.false) ∙ first_yes _ _ _ (sym c.nodes_differ.ensures ∙ c.if-nodes_differ.true))

pub segments_unfit-requires : goal.segments_unfit-requires
segments_unfit-requires c = segments-agree _ (sym c.segments_differ.ensures ∙ c.if-segments_differ.false)

pub returns-then-segments_unfit : goal.returns-then-segments_unfit
unfolding compared_entry_conditions entry_conditions
returns-then-segments_unfit c = sym (first_no _ _ _ (sym c.segments_differ.ensures ∙ c.if-segments_differ.false) ∙ first_no _ _ _ (sym c.nodes_differ.ensures ∙ c.if-nodes_differ.false) ∙ first_yes _ _ _ (sym c.segments_unfit.ensures ∙ c.if-segments_unfit.true))

pub nodes_unfit-requires : goal.nodes_unfit-requires
nodes_unfit-requires c = nodes-agree _ (sym c.nodes_differ.ensures ∙ c.if-nodes_differ.false)

pub returns-then-nodes_unfit : goal.returns-then-nodes_unfit
unfolding compared_entry_conditions entry_conditions
returns-then-nodes_unfit c = sym (first_no _ _ _ (sym c.segments_differ.ensures ∙ c.if-segments_differ.false) ∙ first_no _ _ _ (sym c.nodes_differ.ensures ∙ c.if-nodes_differ.false) ∙ first_no _ _ _ (sym c.segments_unfit.ensures ∙ c.if-segments_unfit.false) ∙ first_yes _ _ _ (sym c.nodes_unfit.ensures ∙ c.if-nodes_unfit.true))

pub returns : goal.returns
unfolding compared_entry_conditions entry_conditions
returns c = sym (first_no _ _ _ (sym c.segments_differ.ensures ∙ c.if-segments_differ.false) ∙ first_no _ _ _ (sym c.nodes_differ.ensures ∙ c.if-nodes_differ.false) ∙ first_no _ _ _ (sym c.segments_unfit.ensures ∙ c.if-segments_unfit.false) ∙ first_no _ _ _ (sym c.nodes_unfit.ensures ∙ c.if-nodes_unfit.false) ∙ first-none)
