-- `separation_call::run::run_events` meets its contract: event by event. Assumes nothing.
use mathlib.Core.Path.{◌≡◌}
use lib.ListN.{length}
use Rattle.separation_call.proofs.SweepLoop.{Runs}
use Rattle.separation_call.proofs.run.run_events.Given as goal

abbrev pub invariant-loop-q : goal.invariant-loop-q
invariant-loop-q l = (length l.s ≡ length l.initial.s) × Runs l.n l.leaves l.allowance l.initial.s l.state l.s l.q
