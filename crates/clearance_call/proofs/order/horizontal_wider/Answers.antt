use lib.Dec.{leb}
use Rattle.clearance.specs.Tree.{horizontal_wider}
use Rattle.clearance_call.proofs.order.horizontal_wider.Goals as goal

pub returns : goal.returns
unfolding horizontal_wider
returns c = λ i. leb (c.key_of.ensures i) (c.key_of-2.ensures i)
