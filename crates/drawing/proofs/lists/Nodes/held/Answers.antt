use Rattle.drawing.proofs.ListOrders.{nodes-held}
use Rattle.drawing.proofs.lists.Nodes.held.Goals as goal

pub returns : goal.returns
returns c agree = nodes-held _ agree c.floats_held.ensures c.floats_held-2.ensures c.floats_held-3.ensures c.floats_held-4.ensures
