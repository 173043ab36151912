-- The whole promise. Assumes nothing.
use Rattle.demands.proofs.Demand1.{demand_1}
use Rattle.demands.proofs.Demand2.{demand_2}
use Rattle.demands.proofs.Demand3.{demand_3}
use Rattle.demands.proofs.TightPair.{tight-pairs}
use Rattle.demands.proofs.Marked.{marked}
use Rattle.demands.proofs.ShutOut.{shut_out}
use Rattle.demands.proofs.Directions.{directions}
use Rattle.demands.proofs.Joining.{joining}
use Rattle.readability.specs.Promise.{Promise}
use Rattle.readability.proofs.Calls.{calls}

pub promise : Promise
promise = record { calls = calls; demand_1 = demand_1; demand_2 = demand_2; demand_3 = demand_3; tight-pairs = tight-pairs; marked = marked; shut_out = shut_out; directions = directions; joining = joining }
