-- `separation::summary::NetSummary::merged` meets its contract, by cases of the two summaries. Assumes nothing.
use Rattle.separation.proofs.Summaries.{merged_nothing, merged-left, merged-apart, merged-right, merged-two}
use Rattle.separation.proofs.summary.NetSummary.merged.Goals as goal

pub returns-in-Nothing : goal.returns-in-Nothing
returns-in-Nothing c n = merged_nothing _ _ n c.in-Nothing.is

pub returns-in-Nothing-right : goal.returns-in-Nothing-right
returns-in-Nothing-right c n = merged-left _ _ n _ c.in-One.is c.in-Nothing-right.is

pub returns-else-second-first : goal.returns-else-second-first
returns-else-second-first c n = merged-apart _ _ n _ _ c.in-One.is c.in-One-right.is c.if-second-first.false

pub returns-in-Two-right : goal.returns-in-Two-right
returns-in-Two-right c n = merged-right _ _ n _ c.in-One.is c.in-Two-right.is

pub returns-in-Two : goal.returns-in-Two
returns-in-Two c n = merged-two _ _ n c.in-Two.is
