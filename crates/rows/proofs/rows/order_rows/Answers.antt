-- `rows::rows::order_rows` meets its contract: the rows are gathered, and their indices are sorted by them. Assumes nothing.
use mathlib.Core.Path.{sym, ◌∙◌}
use native.Mathlib.Omega.{arith}
use Rattle.sorting.proofs.Entries.{front_filled}
use Rattle.drawing.specs.Entries.{lent_segments}
use Rattle.rows.proofs.RowTables.{to-order, unequal, short, rows_done}
use Rattle.rows.proofs.rows.order_rows.Goals as goal

pub returns-then-segments_differ : goal.returns-then-segments_differ
returns-then-segments_differ c =
    let r = unequal c.args.wanted (lent_segments c.args.segments.now) c.args.p.now (sym c.segments_differ.ensures ∙ c.if-segments_differ.true) in
    record { value = r.0; p_after = r.1 }

pub returns-then-p-segments : goal.returns-then-p-segments
returns-then-p-segments c =
    let r = short c.args.wanted (lent_segments c.args.segments.now) c.args.p.now c.if-p-segments.true in
    record { value = r.0; p_after = r.1 }

pub gather_rows-n-requires : goal.gather_rows-n-requires
gather_rows-n-requires c =
    to-order _ _ (sym c.segments_differ.ensures ∙ c.if-segments_differ.false) c.if-p-segments.false

pub returns : goal.returns
returns c =
    let g = c.gather_rows-n.ensures in
    let a = c.args in
    let columns = lent_segments a.segments.now in
    let o = to-order columns _ (sym c.segments_differ.ensures ∙ c.if-segments_differ.false) c.if-p-segments.false in
    let r = rows_done a.wanted columns a.p.now o _ _ _ _ g (front_filled _ _ _ (omega (arith, g.few, g.same, o.room)) c.fill_places.ensures) c.sort_indices.ensures in
    record { value = r.0; p_after = r.1 }
