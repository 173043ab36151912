-- `bitset::rest_below` meets its contract. Assumes nothing.
use Rattle.bitset.proofs.Rests.{cut_beyond, cut_word, cut_some}
use Rattle.bitset.proofs.rest_below.Goals as goal

pub returns-then-words-at : goal.returns-then-words-at
returns-then-words-at c = cut_beyond c.args.words.now c.args.to c.if-words-at.true

pub nonzero_rem-result-2 : goal.nonzero_rem-result-2
nonzero_rem-result-2 c = cut_some _

pub returns : goal.returns
returns c = cut_word _ _
