-- `key_ranges::range::cutoff_range` meets its contract: the word after the lower key is a word too. Assumes nothing.
use Rattle.key_ranges.proofs.NextKey.{next_fits}
use Rattle.key_ranges.proofs.range.cutoff_range.Goals as goal

pub overflow_add-first : goal.overflow_add-first
overflow_add-first c = record { fits = next_fits _ _ _ c.key_of-below.ensures }
