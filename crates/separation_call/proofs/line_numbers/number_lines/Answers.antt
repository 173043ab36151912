-- `separation_call::line_numbers::number_lines` meets its contract: after j iterations the first j keys have their numbers. Assumes nothing.
use borrow.Author.Rules.{rules}
use Rattle.separation_call.proofs.LineNumbering.{numbering_start, line_low, numbering_next, numbering_end}
use Rattle.separation_call.proofs.line_numbers.number_lines.Goals as goal

pub loop-j-init : goal.loop-j-init
loop-j-init c = numbering_start _ _ c.requires

pub overflow_add-to : goal.overflow_add-to
overflow_add-to c = let low = line_low _ _ _ _ _ _ _ c.loop-j.invariant c.loop-j-test.true c.line_of-line.ensures in search rules

pub offset_bounds-s-to : goal.offset_bounds-s-to
offset_bounds-s-to c = let low = line_low _ _ _ _ _ _ _ c.loop-j.invariant c.loop-j-test.true c.line_of-line.ensures in search rules

pub bounds-s-to : goal.bounds-s-to
bounds-s-to c = let low = line_low _ _ _ _ _ _ _ c.loop-j.invariant c.loop-j-test.true c.line_of-line.ensures in search rules

pub overflow_add-m : goal.overflow_add-m
overflow_add-m c = let low = line_low _ _ _ _ _ _ _ c.loop-j.invariant c.loop-j-test.true c.line_of-line.ensures in search rules

pub loop-j-preserved : goal.loop-j-preserved
loop-j-preserved c = numbering_next _ _ _ _ _ _ _ c.loop-j.invariant c.loop-j-test.true c.line_of-line.ensures

pub returns : goal.returns
returns c = numbering_end _ _ _ _ _ _ c.loop-j.invariant c.loop-j-test.false
