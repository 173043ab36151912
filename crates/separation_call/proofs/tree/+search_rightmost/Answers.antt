-- `separation_call::tree::search_rightmost` meets its contract. The measure is the number of leaves below the node. Assumes nothing.
use mathlib.Core.Path.{sym, ◌∙◌}
use mathlib.Core.Logic.{inl, inr}
use native.Mathlib.Omega.{arith}
use borrow.Author.Tests.{lt-ltb, le-ltb}
use Rattle.std.proofs.lemmas.Result.{err_from_is_err_and}
use Rattle.separation_call.proofs.StoredTree.{below-some, below-low, below-high}
use Rattle.separation_call.proofs.StoredSearches.{down, Opened, search_spent, search_shut, search-leaf, hands_spent, hands_found, goes_on}
use Rattle.separation_call.proofs.tree.+search_rightmost.Goals as goal

pub returns-then-remaining-eq0 : goal.returns-then-remaining-eq0
returns-then-remaining-eq0 t c = let a = c.args in search_spent down a.tree.now a.excluded a.query_end a.node a.start a.end a.remaining c.if-remaining-eq0.true

pub returns-then-start-query_end : goal.returns-then-start-query_end
returns-then-start-query_end t c = let a = c.args in search_shut down a.tree.now a.excluded a.query_end a.node a.start a.end a.remaining c.if-remaining-eq0.false (inl (le-ltb _ _ c.if-start-query_end.true))

pub returns-then-not-other_below : goal.returns-then-not-other_below
returns-then-not-other_below t c = let a = c.args in search_shut down a.tree.now a.excluded a.query_end a.node a.start a.end a.remaining c.if-remaining-eq0.false (inr (sym c.other_below.ensures ∙ c.if-not-other_below.true))

pub returns-then-end-start-eq1 : goal.returns-then-end-start-eq1
returns-then-end-start-eq1 t c = let a = c.args in search-leaf down a.tree.now a.excluded a.query_end a.node a.start a.end a.remaining c.if-remaining-eq0.false (lt-ltb _ _ c.if-start-query_end.false) (sym c.other_below.ensures ∙ c.if-not-other_below.false) c.if-end-start-eq1.true

pub search_rightmost-requires : goal.search_rightmost-requires
search_rightmost-requires t c = (omega (arith, below-some c.requires, c.if-end-start-eq1.false), below-high c.requires c.if-end-start-eq1.false)

pub search_rightmost-requires-2 : goal.search_rightmost-requires-2
search_rightmost-requires-2 t c = (omega (arith, below-some c.requires, c.if-end-start-eq1.false), below-low c.requires c.if-end-start-eq1.false)

pub returns-in_err-first : goal.returns-in_err-first
returns-in_err-first t c = let a = c.args in let o : Opened down a.tree.now a.excluded a.query_end a.node a.start a.end a.remaining = record { some = c.if-remaining-eq0.false; reached = lt-ltb _ _ c.if-start-query_end.false; active = sym c.other_below.ensures ∙ c.if-not-other_below.false; wide = c.if-end-start-eq1.false } in let p = err_from_is_err_and c.from_residual.result c.from_residual.ensures.1 in rw (p.1, p.2) (hands_spent o c.search_rightmost.ensures c.in_err-first.was)

pub returns-then-is_some : goal.returns-then-is_some
returns-then-is_some t c = let a = c.args in let o : Opened down a.tree.now a.excluded a.query_end a.node a.start a.end a.remaining = record { some = c.if-remaining-eq0.false; reached = lt-ltb _ _ c.if-start-query_end.false; active = sym c.other_below.ensures ∙ c.if-not-other_below.false; wide = c.if-end-start-eq1.false } in hands_found o c.search_rightmost.ensures c.in_ok-first.was (sym c.is_some.ensures ∙ c.if-is_some.true)

pub returns : goal.returns
returns t c = let a = c.args in let o : Opened down a.tree.now a.excluded a.query_end a.node a.start a.end a.remaining = record { some = c.if-remaining-eq0.false; reached = lt-ltb _ _ c.if-start-query_end.false; active = sym c.other_below.ensures ∙ c.if-not-other_below.false; wide = c.if-end-start-eq1.false } in goes_on o c.search_rightmost.ensures c.in_ok-first.was (sym c.is_some.ensures ∙ c.if-is_some.false) c.search_rightmost-2.ensures
