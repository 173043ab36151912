-- `separation_call::measure::walk_segments` meets its contract: too few visits for the segments; else horizontal segments, then vertical ones with the remaining visits. Assumes nothing.
use mathlib.Core.Path.{sym, subst}
use Prim.Native.Nat.{ℕ, ◌<◌, ◌^◌}
use lib.ListN.{length}
use Rattle.std.proofs.lemmas.Result.{err_from_is_err_and}
use Rattle.drawing.specs.Entries.{Segment, lent_segments}
use Rattle.drawing.proofs.ListOrders.{segments-all}
use Rattle.separation.proofs.Checked.{separation-passes}
use Rattle.separation_call.specs.Inner.Sweeping.{AtColumns}
use Rattle.separation_call.proofs.WholeCall.{at_columns, too_few_visits, walk_stops, walk_stops_later, walk_both}
use Rattle.separation_call.proofs.measure.walk_segments.Goals as goal

pub returns-then-too_few : goal.returns-then-too_few
returns-then-too_few c =
    let a = c.args in
    let columns = lent_segments a.segments.now in
    let agree = (separation-passes columns (length a.scratch.now) c.requires.passed).agree in
    too_few_visits columns agree _ _ _ c.segments_to_sweep.ensures c.too_few.ensures c.if-too_few.true

pub sweep_along-requires : goal.sweep_along-requires
sweep_along-requires c =
    let a = c.args in
    let columns = lent_segments a.segments.now in
    let agree = (separation-passes columns (length a.scratch.now) c.requires.passed).agree in
    let nets = segments-all (λ (x : Segment). x.net < 2 ^ 32) columns agree c.requires.nets in
    at_columns columns (length a.scratch.now) c.requires.passed c.requires.held nets 1

pub returns-in_err-across : goal.returns-in_err-across
returns-in_err-across c = let p = err_from_is_err_and c.from_residual.result c.from_residual.ensures.1 in rw (p.1, p.2) (walk_stops _ _ _ c.sweep_along.ensures _ c.in_err-across.was)

pub sweep_along-requires-2 : goal.sweep_along-requires-2
sweep_along-requires-2 c =
    let a = c.args in
    let columns = lent_segments a.segments.now in
    let agree = (separation-passes columns (length a.scratch.now) c.requires.passed).agree in
    let nets = segments-all (λ (x : Segment). x.net < 2 ^ 32) columns agree c.requires.nets in
    subst (λ (n : ℕ). AtColumns n 0 columns) (sym c.sweep_along.auto.s) (at_columns columns (length a.scratch.now) c.requires.passed c.requires.held nets 0)

pub returns-in_err-down : goal.returns-in_err-down
returns-in_err-down c = let p = err_from_is_err_and c.from_residual-in_err-down.result c.from_residual-in_err-down.ensures.1 in rw (p.1, p.2) (walk_stops_later _ _ _ c.sweep_along.ensures _ c.in_ok-across.was _ c.sweep_along-2.ensures _ c.in_err-down.was)

pub returns : goal.returns
returns c = walk_both _ _ _ c.sweep_along.ensures _ c.in_ok-across.was _ c.sweep_along-2.ensures _ _ c.in_ok-down.was c.combined.ensures.figures c.combined.ensures.remaining
