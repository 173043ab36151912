-- `rows::rows::spread_column` meets its contract: after j turns the first j words of the column are written. Assumes nothing.
use native.Mathlib.Omega.{arith}
use Rattle.rows.proofs.SpreadTables.{spread_start, spread_next, spread_end}
use Rattle.rows.proofs.rows.spread_column.Goals as goal

pub loop-j-init : goal.loop-j-init
loop-j-init c = spread_start _ _ _ _ _ _ c.requires.0 c.requires.2

pub overflow_add-value : goal.overflow_add-value
overflow_add-value c = omega (arith, c.loop-j.invariant.inside c.loop-j-test.true)

pub overflow_mul-value : goal.overflow_mul-value
overflow_mul-value c = omega (arith, c.loop-j.invariant.inside c.loop-j-test.true)

pub overflow_add-value-in-loop-j : goal.overflow_add-value-in-loop-j
overflow_add-value-in-loop-j c = omega (arith, c.loop-j.invariant.inside c.loop-j-test.true)

pub overflow_add-value-in-loop-j-2 : goal.overflow_add-value-in-loop-j-2
overflow_add-value-in-loop-j-2 c = omega (arith, c.loop-j.invariant.inside c.loop-j-test.true)

pub offset_bounds-s-from-in-loop-j : goal.offset_bounds-s-from-in-loop-j
offset_bounds-s-from-in-loop-j c = omega (arith, c.loop-j.invariant.inside c.loop-j-test.true)

pub bounds-s-from-in-loop-j : goal.bounds-s-from-in-loop-j
bounds-s-from-in-loop-j c = omega (arith, c.loop-j.invariant.inside c.loop-j-test.true)

pub loop-j-preserved : goal.loop-j-preserved
loop-j-preserved c =
    spread_next _ _ _ _ _ _ c.requires.0 c.requires.2 _ _ c.loop-j.invariant c.loop-j-test.true

pub returns : goal.returns
returns c =
    spread_end _ _ _ _ _ _ c.requires.0 c.requires.2 _ _ c.loop-j.invariant c.loop-j-test.false
