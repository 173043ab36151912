-- `list_checks::exemptions_differ` meets its contract: there is one length to compare. Assumes nothing.
use Rattle.laws.specs.Lists.{some_of}
use Rattle.laws.proofs.Tests.{or_false}
use Rattle.drawing.specs.Conditions.{differ}
use Rattle.drawing.specs.Checks.{exemptions_differ}
use Rattle.list_checks.proofs.exemptions_differ.Goals as goal

pub returns : goal.returns
unfolding exemptions_differ differ some_of
returns c = or_false _
