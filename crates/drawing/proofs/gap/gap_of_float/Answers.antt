-- `drawing::gap::gap_of_float` meets its contract. Assumes nothing.
use Rattle.drawing.proofs.LeastFloatLaws.{gap_absent, gap-present}
use Rattle.drawing.proofs.gap.gap_of_float.Goals as goal

pub returns-then-least : goal.returns-then-least
returns-then-least c = gap_absent c.args.least c.if-least.true

pub returns : goal.returns
returns c = gap-present c.args.least c.if-least.false
