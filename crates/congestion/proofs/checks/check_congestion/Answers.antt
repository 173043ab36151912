-- `congestion::checks::check_congestion` meets its contract: the conditions of segments and scratch come first, then those of the cutoff and the grid. Assumes nothing.
use Rattle.std.specs.Prelude.{Err}
use Rattle.std.proofs.lemmas.Result.{err_from_is_err_and}
use mathlib.Core.Path.{sym, ap, ◌∙◌}
use mathlib.Core.Bool.{not}
use Rattle.drawing.specs.Conditions.{unfit_cutoff, off_grid_cutoff}
use Rattle.congestion.specs.Conditions.{congestion_conditions}
use Rattle.drawing.proofs.FirstRefusal.{first_yes, first_no, first-none, first_stop, first_go_on, segments_pass}
use Rattle.congestion.proofs.checks.check_congestion.Goals as goal

pub returns-in_err-check_segments : goal.returns-in_err-check_segments
unfolding congestion_conditions
returns-in_err-check_segments c =
    let exit = err_from_is_err_and c.from_residual.result c.from_residual.ensures.1 in
    exit.1 ∙ ap Err exit.2 ∙ sym c.in_err-check_segments.was ∙ first_stop _ _ _ _ c.check_segments.ensures c.in_err-check_segments.was

pub returns-then-not-is_finite : goal.returns-then-not-is_finite
unfolding congestion_conditions unfit_cutoff
returns-then-not-is_finite c = sym (first_go_on _ _ _ c.check_segments.ensures c.in_ok-check_segments.was ∙ first_yes _ _ _ (ap not (sym c.is_finite.ensures) ∙ (ap not c.if-not-is_finite.true)))

pub segments_off_grid-requires : goal.segments_off_grid-requires
segments_off_grid-requires c = (segments_pass _ _ (sym c.check_segments.ensures ∙ c.in_ok-check_segments.was)).agree

pub returns-then-segments_off_grid : goal.returns-then-segments_off_grid
unfolding congestion_conditions unfit_cutoff
returns-then-segments_off_grid c = sym (first_go_on _ _ _ c.check_segments.ensures c.in_ok-check_segments.was ∙ first_no _ _ _ (ap not (sym c.is_finite.ensures) ∙ (ap not c.if-not-is_finite.false)) ∙ first_yes _ _ _ (sym c.segments_off_grid.ensures ∙ c.if-segments_off_grid.true))

pub returns-then-not-on_grid : goal.returns-then-not-on_grid
unfolding congestion_conditions unfit_cutoff off_grid_cutoff
returns-then-not-on_grid c = sym (first_go_on _ _ _ c.check_segments.ensures c.in_ok-check_segments.was ∙ first_no _ _ _ (ap not (sym c.is_finite.ensures) ∙ (ap not c.if-not-is_finite.false)) ∙ first_no _ _ _ (sym c.segments_off_grid.ensures ∙ c.if-segments_off_grid.false) ∙ first_yes _ _ _ (ap not (sym c.on_grid.ensures) ∙ (ap not c.if-not-on_grid.true)))

pub returns : goal.returns
unfolding congestion_conditions unfit_cutoff off_grid_cutoff
returns c = sym (first_go_on _ _ _ c.check_segments.ensures c.in_ok-check_segments.was ∙ first_no _ _ _ (ap not (sym c.is_finite.ensures) ∙ (ap not c.if-not-is_finite.false)) ∙ first_no _ _ _ (sym c.segments_off_grid.ensures ∙ c.if-segments_off_grid.false) ∙ first_no _ _ _ (ap not (sym c.on_grid.ensures) ∙ (ap not c.if-not-on_grid.false)) ∙ first-none)
