-- `join_call::table::order_pieces` meets its contract: the rows are gathered, and their places are put in order. Assumes nothing.
use Rattle.std.proofs.Common.{arith}
use Rattle.drawing.specs.Entries.{lent_segments}
use Rattle.sorting.proofs.Entries.{front_filled}
use Rattle.join_call.proofs.Tables.{ordered}
use Rattle.join_call.proofs.table.order_pieces.Goals as goal

pub returns : goal.returns
returns c =
    let l = c.requires in
    let rows = c.gather.ensures in
    ordered (lent_segments c.args.segments.now) c.args.a.now _ _ _ l rows (front_filled _ _ _ (omega (arith, rows.same, l.few, l.room)) c.fill_places.ensures) c.sort_indices.ensures
