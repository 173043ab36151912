-- `separation_call::line_numbers::number_lines` meets its contract: after j iterations the first j keys have their numbers. Assumes nothing.
use Rattle.separation_call.proofs.LineNumbering.{Numbering}
use Rattle.separation_call.proofs.line_numbers.number_lines.Given as goal

abbrev pub invariant-loop-j : goal.invariant-loop-j
invariant-loop-j l = Numbering l.n l.initial.s l.s l.m l.last l.j
