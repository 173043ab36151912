-- The facts of each of the five measures. Assumes nothing.
use Rattle.demands.specs.Measures.{Call, edge_node_clearance, parallel_separation, parallel_density_profile, parallel_congestion_profile, parallel_congestion, measure_of}
use Rattle.demands.proofs.Facts.{Facts}
use Rattle.demands.proofs.ClearanceFacts.{clearance_facts}
use Rattle.demands.proofs.SeparationFacts.{separation_facts}
use Rattle.demands.proofs.CongestionFacts.{density_facts, profile_facts, congestion_facts}

pub all_facts : (call : Call) → Facts (measure_of call)
all_facts edge_node_clearance = clearance_facts
all_facts parallel_separation = separation_facts
all_facts parallel_density_profile = density_facts
all_facts parallel_congestion_profile = profile_facts
all_facts parallel_congestion = congestion_facts
