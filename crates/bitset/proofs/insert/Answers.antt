-- `bitset::insert` meets its contract. Assumes nothing.
use mathlib.Core.Path.{sym}
use Prim.Native.Nat.{◌/◌}
use Rattle.bitset.proofs.Sets.{inserted_beyond}
use Rattle.bitset.proofs.Stores.{keeps-member, stores_more, more_room}
use Rattle.bitset.proofs.insert.Goals as goal

pub returns-then-words-at : goal.returns-then-words-at
returns-then-words-at c = sym (inserted_beyond _ _ c.if-words-at.true)

pub returns-then-word-bit-eq1 : goal.returns-then-word-bit-eq1
returns-then-word-bit-eq1 c = keeps-member _ _ c.if-word-bit-eq1.true

pub overflow_add-more : goal.overflow_add-more
overflow_add-more c = record { fits = more_room c.args.words.now c.args.place c.if-word-bit-eq1.false (c.slice_known-1.given (c.args.place / 64)).fits }

pub returns : goal.returns
returns c = stores_more _ _ c.if-word-bit-eq1.false
