-- `separation_call::along::sweep_along` meets its contract: the rows in order, their tables, the sweep. Assumes nothing.
use Rattle.separation_call.proofs.AlongColumns.{few_swept, at_rows, at_tables, more_swept}
use Rattle.drawing.specs.Entries.{lent_segments}
use Rattle.separation_call.proofs.along.sweep_along.Goals as goal

pub returns-then-n-lt2 : goal.returns-then-n-lt2
returns-then-n-lt2 c =
    let a = c.args in
    let columns = lent_segments a.segments.now in
    few_swept a.s.now c.order_rows-n.new.p _ _ columns c.requires (c.order_rows-n.ensures.value, c.order_rows-n.ensures.p_after) _ c.if-n-lt2.true

pub make_tables-many-requires : goal.make_tables-many-requires
make_tables-many-requires c =
    let a = c.args in
    let columns = lent_segments a.segments.now in
    at_rows a.s.now c.order_rows-n.new.p _ _ columns c.requires (c.order_rows-n.ensures.value, c.order_rows-n.ensures.p_after) c.order_rows-n.auto.p

pub sweep_tables-requires : goal.sweep_tables-requires
sweep_tables-requires c =
    let a = c.args in
    let columns = lent_segments a.segments.now in
    at_tables a.s.now c.order_rows-n.new.p _ _ columns c.requires (c.order_rows-n.ensures.value, c.order_rows-n.ensures.p_after) c.order_rows-n.auto.p _ c.make_tables-many.auto.s _ c.make_tables-many.ensures c.if-n-lt2.false

pub returns : goal.returns
returns c =
    let a = c.args in
    let columns = lent_segments a.segments.now in
    more_swept a.s.now c.order_rows-n.new.p _ _ columns c.requires (c.order_rows-n.ensures.value, c.order_rows-n.ensures.p_after) c.order_rows-n.auto.p _ c.make_tables-many.auto.s _ c.make_tables-many.ensures _ _ c.if-n-lt2.false c.sweep_tables.ensures
