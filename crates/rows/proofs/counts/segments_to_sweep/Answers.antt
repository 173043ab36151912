-- `rows::counts::segments_to_sweep` meets its contract: a byte is counted for at most one orientation, so that the sum fits. Assumes nothing.
use native.Mathlib.Omega.{arith}
use Rattle.rows.proofs.ToSweep.{sum-few, sum_is}
use Rattle.rows.proofs.counts.segments_to_sweep.Goals as goal

pub overflow_add-result : goal.overflow_add-result
overflow_add-result c =
    let few = sum-few c.args.orientation.now _ _ _ _ c.count_oriented-across.ensures c.count_oriented-down.ensures c.at_least_two.ensures c.at_least_two-2.ensures in
    record { fits = omega (arith, few) }

pub returns : goal.returns
returns c = sum_is c.args.orientation.now _ _ _ _ c.count_oriented-across.ensures c.count_oriented-down.ensures c.at_least_two.ensures c.at_least_two-2.ensures
