-- `floats::values::greater` meets its contract. Assumes nothing.
use Rattle.std.proofs.Common.{sym}
use lib.Ieee.{lt}
use Rattle.laws.proofs.Tests.{cond_true, cond_false}
use Rattle.floats.specs.Values.{greater_of}
use Rattle.floats.proofs.values.greater.Goals as goal

pub returns-then-a-b : goal.returns-then-a-b
unfolding greater_of
returns-then-a-b c = let s = c.args in sym (cond_true (lt s.a s.b) s.b s.a c.if-a-b.true)

pub returns-else-a-b : goal.returns-else-a-b
unfolding greater_of
returns-else-a-b c = let s = c.args in sym (cond_false (lt s.a s.b) s.b s.a c.if-a-b.false)
