-- `bitset::top_bit` meets its contract. Assumes nothing.
use Rattle.bitset.proofs.Digits.{top_place, top_room}
use Rattle.bitset.proofs.top_bit.Goals as goal

pub overflow_sub-last : goal.overflow_sub-last
overflow_sub-last c = top_room _ c.requires c.ranges.word.fits

pub returns : goal.returns
returns c = top_place _ c.requires c.ranges.word.fits
