-- `drawing::gap::minimum_option` meets its contract: case by case. Assumes nothing.
use Rattle.std.specs.Prelude.{Some}
use mathlib.Core.Path.{ap}
use Rattle.drawing.specs.Gaps.{lesser_gap}
use Rattle.drawing.proofs.gap.minimum_option.Goals as goal

pub returns-in-Some-Some : goal.returns-in-Some-Some
unfolding lesser_gap
returns-in-Some-Some c = rw (c.in-Some-Some.is-0, c.in-Some-Some.is-1) (ap Some c.lesser.ensures)

pub returns-in-None-default : goal.returns-in-None-default
unfolding lesser_gap
returns-in-None-default c = rw c.in-None-default.is-0

pub returns-in_default-None : goal.returns-in_default-None
unfolding lesser_gap
returns-in_default-None c = rw (c.in_default-None.is-0, c.in_default-None.is-1)
