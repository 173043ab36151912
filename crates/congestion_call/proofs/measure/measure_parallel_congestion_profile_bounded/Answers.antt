-- `congestion_call::measure::measure_parallel_congestion_profile_bounded` meets its contract: the density profile, without its density. Assumes nothing.
use mathlib.Core.Path.{ap, ◌∙◌}
use Rattle.congestion.specs.Inner.Answering.{answer_without_density}
use Rattle.congestion_call.proofs.FromDensity.{plain-answer}
use Rattle.congestion_call.proofs.measure.measure_parallel_congestion_profile_bounded.Goals as goal

pub returns : goal.returns
returns c =
    let called = c.measure_parallel_density_profile_bounded-answer in
    (c.without_density.ensures ∙ ap answer_without_density called.ensures.0 ∙ plain-answer _ _ _ _, called.ensures.1, called.ensures.2)
