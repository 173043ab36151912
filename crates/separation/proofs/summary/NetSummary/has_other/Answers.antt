-- `separation::summary::NetSummary::has_other` meets its contract, by cases of the summary. Assumes nothing.
use Rattle.separation.proofs.Summaries.{other_nothing, other-one, other-two}
use Rattle.separation.proofs.summary.NetSummary.has_other.Goals as goal

pub returns-in-Nothing : goal.returns-in-Nothing
returns-in-Nothing c = other_nothing _ _ c.in-Nothing.is

pub returns-in-One : goal.returns-in-One
returns-in-One c = other-one _ _ _ c.in-One.is

pub returns-in-Two : goal.returns-in-Two
returns-in-Two c = other-two _ _ c.in-Two.is
