-- Demand 3. Assumes nothing.
use Rattle.demands.specs.Measures.{measure_of}
use Rattle.demands.specs.Demand3.{Demand3}
use Rattle.demands.proofs.OneCall.{depends}
use Rattle.demands.proofs.AllFacts.{all_facts}
use Rattle.demands.proofs.Counts.{counts}

pub demand_3 : Demand3
demand_3 = record { of_each = λ call. depends (measure_of call) (all_facts call); counts = counts }
