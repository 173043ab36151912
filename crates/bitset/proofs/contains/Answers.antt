-- `bitset::contains` meets its contract. Assumes nothing.
use mathlib.Core.Path.{sym}
use borrow.Author.Rules.{rules}
use Rattle.bitset.specs.Inner.Members.{bit_at, member}
use Rattle.bitset.proofs.Sets.{member_beyond}
use Rattle.bitset.proofs.contains.Goals as goal

pub returns-then-words-at : goal.returns-then-words-at
returns-then-words-at c = sym (member_beyond _ _ c.if-words-at.true)

pub returns : goal.returns
unfolding member bit_at
returns c = search rules
