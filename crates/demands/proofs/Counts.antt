-- The visit counts. Assumes nothing.
use mathlib.Core.Path.{refl}
use Rattle.drawing.specs.Entries.{segments, nodes, exemptions}
use Rattle.clearance.proofs.Visits.{visits_at_most}
use Rattle.separation.proofs.Costs.{visit_bound}
use Rattle.demands.specs.Demand3.{Counts}

pub counts : Counts
counts = record {
  clearance-at_most = λ d threshold. visits_at_most (exemptions d.exemptions) (λ net. threshold) (segments d.segments) (nodes d.nodes);
  separation-at_most = λ d. visit_bound (segments d);
  density_exactly = λ d cutoff. refl;
  profile_exactly = λ d cutoff. refl;
  congestion_exactly = λ d cutoff. refl;
}
