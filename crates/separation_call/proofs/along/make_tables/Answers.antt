-- `separation_call::along::make_tables` meets its contract: the rows spread, the events in order, the lines numbered, the slots assigned. Assumes nothing.
use Rattle.separation_call.proofs.TablesMade.{at-rows_slottable, tables_made}
use mathlib.Core.Path.{◌∙◌}
use Rattle.separation_call.proofs.along.make_tables.Goals as goal

pub assign_slots-requires : goal.assign_slots-requires
assign_slots-requires c =
    at-rows_slottable _ _ _ c.args.s.now _ _ _ _ c.requires c.spread_rows.auto.s c.spread_rows.ensures c.order_events.ensures c.number_lines-many.ensures (c.number_lines-many.auto.s ∙ c.order_events.auto.s)

pub returns : goal.returns
returns c =
    tables_made _ c.args.from c.args.table c.args.s.now _ _ _ _ c.requires c.spread_rows.auto.s c.spread_rows.ensures c.order_events.ensures c.number_lines-many.ensures _ c.assign_slots.ensures
