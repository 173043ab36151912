-- `density_call::run::run_events` meets its contract: event by event. Assumes nothing.
use mathlib.Core.Path.{◌≡◌}
use lib.ListN.{length}
use Rattle.density_call.proofs.EventLoop.{Runs}
use Rattle.density_call.proofs.run.run_events.Given as goal

abbrev pub invariant-loop-q : goal.invariant-loop-q
invariant-loop-q l = (length l.s ≡ length l.initial.s) × Runs l.initial.s l.n l.allowance l.state l.s l.q
