-- `congestion_call::measure::measure_parallel_congestion` meets its contract: the density profile, within an allowance that always reaches. Assumes nothing.
use mathlib.Core.Path.{◌∙◌}
use native.Mathlib.Omega.{arith}
use Rattle.congestion_call.proofs.FromDensity.{great_allowance}
use Rattle.congestion_call.proofs.measure.measure_parallel_congestion.Goals as goal

pub returns : goal.returns
returns c =
    let called = c.measure_parallel_density_profile_bounded in
    (called.ensures.0 ∙ great_allowance _ _ _ _ (omega arith), called.ensures.1, called.ensures.2)
