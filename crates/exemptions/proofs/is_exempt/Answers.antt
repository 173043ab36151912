-- `exemptions::is_exempt` meets its contract: an empty range holds nothing, and in any other the node is where the search ends or nowhere. Assumes nothing.
use mathlib.Core.Path.{◌∙◌}
use borrow.Author.Tests.{le-ltb}
use Rattle.exemptions.proofs.ExemptLaws.{none-there, never_beyond, found, not_found}
use Rattle.exemptions.proofs.is_exempt.Goals as goal

pub returns-then-to-from : goal.returns-then-to-from
returns-then-to-from c = λ ex net l. none-there _ ex net _ l _ c.if-to-from.true

pub returns-then-words-to : goal.returns-then-words-to
returns-then-words-to c = λ ex net l. never_beyond _ ex net _ l _ c.if-words-to.true

pub returns-then-at-to : goal.returns-then-at-to
returns-then-at-to c = λ ex net l. found _ ex net _ l _ _ c.first_node-at.ensures c.if-at-to.true

pub returns-else-at-to : goal.returns-else-at-to
returns-else-at-to c = λ ex net l. le-ltb _ _ c.if-at-to.false ∙ not_found _ ex net _ l _ _ c.first_node-at.ensures c.if-at-to.false
