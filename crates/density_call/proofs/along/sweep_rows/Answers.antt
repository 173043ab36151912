-- `density_call::along::sweep_rows` meets its contract: the rows spread, the events in order, the ranges, the words after them cleared, the sweep. Assumes nothing.
use Rattle.density_call.proofs.AlongWires.{rows_rangeable, rows-first}
use Rattle.density_call.specs.Inner.Sweeping.{swept_of}
use Rattle.laws.specs.Inner.Allowance.{within}
use mathlib.Core.Path.{ap, ◌∙◌}
use Rattle.density_call.proofs.along.sweep_rows.Goals as goal

pub fill_ranges-requires : goal.fill_ranges-requires
fill_ranges-requires c = let a = c.args in let spread-rows = c.spread_rows in rows_rangeable a.s.now _ _ a.n a.from a.table spread-rows.ensures spread-rows.auto.s c.order_events.ensures (c.order_events.auto.s ∙ spread-rows.auto.s) c.requires.at_rows

pub run_events-requires : goal.run_events-requires
run_events-requires c = let a = c.args in let fill-ranges = c.fill_ranges in let order-events = c.order_events in let spread-rows = c.spread_rows in (rows-first a.s.now _ _ a.n a.from a.table spread-rows.ensures spread-rows.auto.s order-events.ensures (order-events.auto.s ∙ spread-rows.auto.s) _ fill-ranges.auto.s _ c.requires.cutoff fill-ranges.ensures.frame fill-ranges.ensures.ranges _ c.clear.ensures c.requires.at_rows).0

pub returns : goal.returns
returns c = let a = c.args in let order-events = c.order_events in let fill-ranges = c.fill_ranges in let spread-rows = c.spread_rows in λ r. let k = rows-first a.s.now _ _ a.n a.from a.table spread-rows.ensures spread-rows.auto.s order-events.ensures (order-events.auto.s ∙ spread-rows.auto.s) _ fill-ranges.auto.s _ c.requires.cutoff fill-ranges.ensures.frame fill-ranges.ensures.ranges _ c.clear.ensures r in c.run_events.ensures k.0 ∙ ap (λ z. swept_of (within a.allowance z)) k.1
