-- `floats::values::lesser` meets its contract. Assumes nothing.
use Rattle.std.proofs.Common.{sym}
use lib.Ieee.{lt}
use Rattle.laws.proofs.Tests.{cond_true, cond_false}
use Rattle.floats.specs.Values.{lesser_of}
use Rattle.floats.proofs.values.lesser.Goals as goal

pub returns-then-b-a : goal.returns-then-b-a
unfolding lesser_of
returns-then-b-a c = let s = c.args in sym (cond_true (lt s.b s.a) s.b s.a c.if-b-a.true)

pub returns-else-b-a : goal.returns-else-b-a
unfolding lesser_of
returns-else-b-a c = let s = c.args in sym (cond_false (lt s.b s.a) s.b s.a c.if-b-a.false)
