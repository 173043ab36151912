-- `bitset::remove` meets its contract. Assumes nothing.
use mathlib.Core.Path.{sym}
use Rattle.bitset.proofs.Sets.{removed_beyond}
use Rattle.bitset.proofs.Stores.{keeps-none, stores_less, less_room}
use Rattle.bitset.proofs.remove.Goals as goal

pub returns-then-words-at : goal.returns-then-words-at
returns-then-words-at c = sym (removed_beyond _ _ c.if-words-at.true)

pub returns-then-word-bit-eq0 : goal.returns-then-word-bit-eq0
returns-then-word-bit-eq0 c = keeps-none _ _ c.if-word-bit-eq0.true

pub overflow_sub-less : goal.overflow_sub-less
overflow_sub-less c = less_room c.args.words.now c.args.place c.if-word-bit-eq0.false

pub returns : goal.returns
returns c = stores_less _ _ c.if-word-bit-eq0.false
