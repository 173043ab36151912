-- The conversion of a word to `separation::summary::NetSummary` meets its contract. Assumes nothing.
use native.Mathlib.Omega.{arith}
use Rattle.separation.proofs.Summaries.{word_nothing, word-one, word_two}
use Rattle.separation.proofs.summary.NetSummaryFromU64.from.Goals as goal

pub returns-then-word-eq0 : goal.returns-then-word-eq0
returns-then-word-eq0 c = word_nothing _ c.if-word-eq0.true

pub returns-in-Ok : goal.returns-in-Ok
returns-in-Ok c = rw c.in-Ok.ensures.1 (word-one _ c.if-word-eq0.false (omega (arith, c.in-Ok.ensures.0)))

pub returns-in-Err : goal.returns-in-Err
returns-in-Err c = word_two _ c.if-word-eq0.false (omega (arith, c.in-Err.ensures, c.if-word-eq0.false))
