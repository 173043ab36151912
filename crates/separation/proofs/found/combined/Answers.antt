-- `separation::found::combined` meets its contract: the lesser of each figure. Assumes nothing.
use Rattle.separation.proofs.States.{lesser-of}
use mathlib.Core.Path.{refl}
use Rattle.separation.proofs.found.combined.Goals as goal

pub returns : goal.returns
returns c = record { figures = lesser-of c.args.across c.args.down _ _ c.minimum_option-minimum.ensures c.minimum_option-minimum_positive.ensures; remaining = refl }
