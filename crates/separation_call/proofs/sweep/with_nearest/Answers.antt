-- `separation_call::sweep::with_nearest` meets its contract: the own line, the search below and the search above, each within the visits that the one before it left. Assumes nothing.
use Rattle.std.proofs.lemmas.Result.{err_from_is_err_and}
use Rattle.separation_call.proofs.SweepSteps.{right-within, left-within, look_none, look_stops, look_on}
use Rattle.separation_call.proofs.sweep.with_nearest.Goals as goal

pub returns-in_err-own : goal.returns-in_err-own
returns-in_err-own c =
    let a = c.args in
    let p = err_from_is_err_and c.from_residual.result c.from_residual.ensures.1 in
    rw (p.1, p.2) (λ ls H active x k v f l. look_none a.tree.now a.fixed.now _ _ _ a.state ls H active x k v f l _ c.has_other_at.ensures _ c.in_err-own.was)

pub with_search-requires : goal.with_search-requires
with_search-requires c = let p = c.requires in right-within _ _ _ _ _ _ _ _ p.tree.count p.inside p.values (c.rightmost_other-below.ensures _ p.tree.count)

pub returns-in_err-half : goal.returns-in_err-half
returns-in_err-half c =
    let a = c.args in
    let p = err_from_is_err_and c.from_residual-in_err-half.result c.from_residual-in_err-half.ensures.1 in
    rw (p.1, p.2) (λ ls H active x k v f l. look_stops a.tree.now a.fixed.now _ _ _ a.state ls H active x k v f l _ c.has_other_at.ensures _ _ _ c.in_ok-own.was _ _ c.with_own_line-begun.ensures.figures c.with_own_line-begun.ensures.remaining c.rightmost_other-below.ensures c.with_search.ensures.outcome _ c.in_err-half.was)

pub with_search-requires-2 : goal.with_search-requires-2
with_search-requires-2 c = let p = c.requires in left-within _ _ _ _ _ _ _ _ p.tree.count p.inside p.values (c.leftmost_other-above.ensures _ p.tree.count)

pub returns : goal.returns
returns c =
    let a = c.args in
    λ ls H active x k v f l. look_on a.tree.now a.fixed.now _ _ _ a.state ls H active x k v f l _ c.has_other_at.ensures _ _ _ c.in_ok-own.was _ _ c.with_own_line-begun.ensures.figures c.with_own_line-begun.ensures.remaining c.rightmost_other-below.ensures c.with_search.ensures.outcome _ _ _ c.in_ok-half.was c.leftmost_other-above.ensures c.with_search-2.ensures.outcome
