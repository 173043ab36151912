-- `list_checks::too_many` meets its contract: the comparison is the definition. Assumes nothing.
use mathlib.Core.Path.{refl}
use Rattle.drawing.specs.Conditions.{too_many}
use Rattle.list_checks.proofs.too_many.Goals as goal

pub returns : goal.returns
unfolding too_many
returns c = refl
