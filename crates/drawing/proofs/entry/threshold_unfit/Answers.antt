-- `drawing::entry::threshold_unfit` meets its contract: each return is the first part of the definition that holds. Assumes nothing.
use mathlib.Core.Bool.{not}
use mathlib.Core.Path.{sym, ap, ◌∙◌}
use lib.Ieee.{of_bits}
use Rattle.drawing.specs.Conditions.{unfit_threshold}
use Rattle.drawing.proofs.entry.threshold_unfit.Goals as goal

pub returns-then-not-is_finite : goal.returns-then-not-is_finite
unfolding unfit_threshold
returns-then-not-is_finite c = rw (ap not (sym c.is_finite.ensures) ∙ (ap not c.if-not-is_finite.true))

pub returns : goal.returns
unfolding unfit_threshold of_bits
returns c = rw (ap not (sym c.is_finite.ensures) ∙ (ap not c.if-not-is_finite.false))
