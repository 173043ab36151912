-- `version::number` meets its contract, by computing the number. Assumes nothing.
use mathlib.Core.Path.{refl}
use Rattle.version.specs.Version.{version}
use Rattle.version.proofs.number.Goals as goal

pub returns : goal.returns
unfolding version
returns c = refl
