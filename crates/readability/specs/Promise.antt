-- The whole promise: of the functions themselves, and of every run of them. `proofs/Promise.antt` proves `Promise`.
use Rattle.demands.specs.Demand1.{Demand1}
use Rattle.demands.specs.Demand2.{Demand2}
use Rattle.demands.specs.Demand3.{Demand3}
use Rattle.demands.specs.TightPair.{TightPairs}
use Rattle.demands.specs.Marked.{Marked}
use Rattle.demands.specs.ShutOut.{ShutOut}
use Rattle.demands.specs.Directions.{Directions}
use Rattle.demands.specs.Joining.{Joining}
use Rattle.readability.specs.Calls.{Calls}

pub record Promise : Type 2 where
  -- SCOPE 8.1, demand 1: "every call ends, for all inputs, with no condition laid on its caller": of the functions themselves, the seven by columns and the five by records, with the equations that make a call a run of its measure
  pub calls : Calls
  -- SCOPE 8.1, 8.2, 8.3: the demands, of every run of the five measures
  pub demand_1 : Demand1
  pub demand_2 : Demand2
  pub demand_3 : Demand3
  -- SCOPE 12: the tight pair, of every answer that its contract allows
  pub tight-pairs : TightPairs
  -- SCOPE 13: "The marked cases below form one proved statement over the definitions."
  pub marked : Marked
  -- SCOPE 14: "These are shut out"
  pub shut_out : ShutOut
  -- SCOPE 2.8, request 1: "A segment with start above end is now taken as if its two ends had been given in rising order, by every measure and the tight pair"
  pub directions : Directions
  -- SCOPE 16, request 2: "the fewest pieces of each net, orientation and fixed coordinate that cover the same points of the real line"
  pub joining : Joining
