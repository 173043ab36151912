-- `drawing::gap::no_gap` meets its contract. Assumes nothing.
use mathlib.Core.Path.{refl}
use lib.Ieee.{of_bits, div}
use Rattle.drawing.proofs.gap.no_gap.Goals as goal

pub returns : goal.returns
unfolding div of_bits
returns c = refl
