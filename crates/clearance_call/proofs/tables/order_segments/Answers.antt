-- `clearance_call::tables::order_segments` meets its contract: the rows decide the order of the segments, since the floats of the columns are values of binary64. Assumes nothing.
use Rattle.drawing.specs.Entries.{lent_segments}
use Rattle.clearance_call.proofs.TableLaws.{segments-ordered}
use Rattle.clearance_call.proofs.tables.order_segments.Goals as goal

pub returns : goal.returns
returns c =
    let columns = lent_segments c.args.segments.now in
    let held = c.held.ensures.floats c.requires.0 in
    segments-ordered columns c.args.s.now _ _ _ c.requires.0 c.requires.1 held c.places_in_front.ensures c.fill_segment_table.ensures c.sort_indices.ensures
