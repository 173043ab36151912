-- `separation_call::tree::has_other_at` meets its contract: by whether a visit is left. Assumes nothing.
use Rattle.separation_call.proofs.StoredSearches.{other_unpaid, other_known}
use Rattle.separation_call.proofs.tree.has_other_at.Goals as goal

pub returns-then-remaining-eq0 : goal.returns-then-remaining-eq0
returns-then-remaining-eq0 c = other_unpaid _ _ c.if-remaining-eq0.true

pub returns : goal.returns
returns c = other_known _ _ c.if-remaining-eq0.false _ c.other_below-other.ensures
