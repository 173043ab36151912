-- `density_call::ranges::fill_ranges` meets its contract: after j iterations the first j ranges are written, and the last of them is where the next search begins. Assumes nothing.
use borrow.Author.Rules.{rules}
use Rattle.density_call.proofs.RangeSearch.{askable, filling_next, filled}
use Rattle.density_call.proofs.ranges.fill_ranges.Goals as goal

pub loop-j-preserved : goal.loop-j-preserved
loop-j-preserved c = filling_next _ _ _ _ _ _ c.loop-j.invariant c.loop-j-test.true _ (c.cutoff_range-range.ensures (askable _ _ _ _ _ _ c.loop-j.invariant c.loop-j-test.true))

pub returns-clause-ranges : goal.returns-clause-ranges
returns-clause-ranges c = filled _ _ _ _ _ _ c.loop-j.invariant c.loop-j-test.false (λ i. search rules)
