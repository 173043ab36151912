-- `drawing::gap::least_with` meets its contract. Assumes nothing.
use mathlib.Core.Path.{sym}
use lib.Ieee.{le}
use Rattle.laws.proofs.Tests.{cond_true, cond_false}
use Rattle.drawing.specs.Inner.LeastFloats.{least_with}
use Rattle.drawing.proofs.gap.least_with.Goals as goal

pub returns-then-least-gap : goal.returns-then-least-gap
unfolding least_with
returns-then-least-gap c = let s = c.args in sym (cond_true (le s.least s.gap) s.least s.gap c.if-least-gap.true)

pub returns-else-least-gap : goal.returns-else-least-gap
unfolding least_with
returns-else-least-gap c = let s = c.args in sym (cond_false (le s.least s.gap) s.least s.gap c.if-least-gap.false)
