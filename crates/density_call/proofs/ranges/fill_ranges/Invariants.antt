-- `density_call::ranges::fill_ranges` meets its contract: after j iterations the first j ranges are written, and the last of them is where the next search begins. Assumes nothing.
use Rattle.density_call.proofs.RangeSearch.{Filling}
use Rattle.density_call.proofs.ranges.fill_ranges.Given as goal

abbrev pub invariant-loop-j : goal.invariant-loop-j
invariant-loop-j l = Filling l.n l.cutoff l.initial.s l.s l.j l.range
