-- `clearance_call::walk::visit_segment_candidates` meets its contract: the part that is next and those that wait are the rest of the walk. The measure counts the steps that these can still take. Assumes nothing.
use Prim.Native.Nat.{◌+◌, ◌-◌, ◌*◌}
use Rattle.clearance_call.proofs.PartWalk.{steps_left, Underway}
use Rattle.clearance_call.proofs.walk.visit_segment_candidates.Given as goal

abbrev pub invariant-loop-step : goal.invariant-loop-step
invariant-loop-step l = Underway l.threshold l.words l.bounds l.initial.part l.marks l.groups l.initial.state l.part l.state l.waiting l.top

abbrev pub decreases-loop-step : goal.decreases-loop-step
decreases-loop-step l = 2 * l.part.count - 1 + steps_left l.waiting l.top
