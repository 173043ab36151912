-- `drawing::lists::Segments::held` meets its contract: column by column. Assumes nothing.
use Rattle.drawing.proofs.ListOrders.{segments-held}
use Rattle.drawing.proofs.lists.Segments.held.Goals as goal

pub returns : goal.returns
returns c = record {
  floats = λ agree. segments-held _ agree c.floats_held.ensures c.floats_held-2.ensures c.floats_held-3.ensures;
  nets = c.nets_held.ensures;
}
