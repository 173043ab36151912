-- `separation_call::line_numbers::line_of` meets its contract: each return is one case of the definition. Assumes nothing.
use mathlib.Core.Path.{sym}
use Rattle.separation_call.proofs.LineNumbering.{line-none, line_same, line_other}
use Rattle.separation_call.proofs.line_numbers.line_of.Goals as goal

pub returns-then-m-eq0 : goal.returns-then-m-eq0
returns-then-m-eq0 c = sym (line-none _ _ _ c.if-m-eq0.true)

pub returns-then-key-last : goal.returns-then-key-last
returns-then-key-last c = sym (line_same _ _ _ c.if-m-eq0.false c.if-key-last.true)

pub returns-else-key-last : goal.returns-else-key-last
returns-else-key-last c = sym (line_other _ _ _ c.if-m-eq0.false c.if-key-last.false)
