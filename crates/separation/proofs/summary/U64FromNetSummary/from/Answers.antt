-- The conversion of a `separation::summary::NetSummary` to a word meets its contract. Assumes nothing.
use mathlib.Core.Path.{sym, ◌∙◌}
use native.Mathlib.Omega.{arith}
use borrow.Author.Rules.{rules}
use Rattle.separation.proofs.Summaries.{word_nothing, word_two, one_word}
use Rattle.separation.proofs.summary.U64FromNetSummary.from.Goals as goal

pub returns-in-Nothing : goal.returns-in-Nothing
returns-in-Nothing c = sym (c.in-Nothing.is ∙ word_nothing 0 (search rules))

pub returns-in-One : goal.returns-in-One
returns-in-One c = rw c.from.ensures (one_word _ (search rules) ∙ sym c.in-One.is)

pub returns-in-Two : goal.returns-in-Two
returns-in-Two c = rw c.from-in-Two.ensures (sym (c.in-Two.is ∙ word_two 4294967297 (λ e. omega arith) (search rules)))
