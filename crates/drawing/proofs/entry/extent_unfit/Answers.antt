-- `drawing::entry::extent_unfit` meets its contract: each return is the first part of the definition that holds. Assumes nothing.
use mathlib.Core.Path.{sym, ap, ◌∙◌}
use mathlib.Core.Bool.{not}
use lib.Ieee.{of_bits}
use Rattle.drawing.specs.Conditions.{unfit_extent}
use Rattle.drawing.proofs.entry.extent_unfit.Goals as goal

pub returns-then-not-is_finite : goal.returns-then-not-is_finite
unfolding unfit_extent
returns-then-not-is_finite c = rw (ap not (sym c.is_finite.ensures) ∙ (ap not c.if-not-is_finite.true))

pub returns-then-not-is_finite-2 : goal.returns-then-not-is_finite-2
unfolding unfit_extent
returns-then-not-is_finite-2 c = rw (ap not (sym c.is_finite.ensures) ∙ (ap not c.if-not-is_finite.false), ap not (sym c.is_finite-2.ensures) ∙ (ap not c.if-not-is_finite-2.true))

pub returns-then-not-extent : goal.returns-then-not-extent
unfolding unfit_extent of_bits
returns-then-not-extent c = rw (ap not (sym c.is_finite.ensures) ∙ (ap not c.if-not-is_finite.false), ap not (sym c.is_finite-2.ensures) ∙ (ap not c.if-not-is_finite-2.false), (ap not c.if-not-extent.true))

pub returns : goal.returns
unfolding unfit_extent of_bits
returns c = rw (ap not (sym c.is_finite.ensures) ∙ (ap not c.if-not-is_finite.false), ap not (sym c.is_finite-2.ensures) ∙ (ap not c.if-not-is_finite-2.false), (ap not c.if-not-extent.false)) (ap not c.is_finite-3.ensures)
