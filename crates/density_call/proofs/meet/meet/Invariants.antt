-- `density_call::meet::meet` meets its contract: visit by visit, from the greatest index down. Assumes nothing.
use Rattle.density_call.proofs.MeetingLoop.{Turn}
use Rattle.density_call.proofs.meet.meet.Given as goal

abbrev pub invariant-loop-i : goal.invariant-loop-i
invariant-loop-i l = Turn l.starts l.n l.j l.initial.s l.least l.remaining l.meeting l.s l.to l.rest

abbrev pub decreases-loop-i : goal.decreases-loop-i
decreases-loop-i l = l.to
