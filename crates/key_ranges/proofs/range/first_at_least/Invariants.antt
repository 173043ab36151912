-- `key_ranges::range::first_at_least` meets its contract: the keys before `at` are less than v. Assumes nothing.
use Rattle.key_ranges.specs.Inner.Reach.{Ascending, Passed}
use Rattle.key_ranges.proofs.range.first_at_least.Given as goal

abbrev pub invariant-loop-at : goal.invariant-loop-at
invariant-loop-at l = Ascending l.keys → Passed l.keys l.v l.at
