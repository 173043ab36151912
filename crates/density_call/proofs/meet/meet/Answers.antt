-- `density_call::meet::meet` meets its contract: visit by visit, from the greatest index down. Assumes nothing.
use borrow.Author.Rules.{rules}
use mathlib.Core.Path.{refl}
use Rattle.density_call.proofs.MeetingLoop.{first-turn, turn-only, turn-ends, turn_falls, turn_stops, turn_visitable, next_turn}
use Rattle.density_call.proofs.meet.meet.Goals as goal

pub loop-i-init : goal.loop-i-init
loop-i-init c = first-turn c.requires refl c.rest_below-rest.ensures

pub returns : goal.returns
returns c = let a = c.loop-i.invariant in record { meets = turn-ends a c.last_below.ensures c.in_default.is; counts_only = turn-only a }

pub returns-then-meeting-eq0 : goal.returns-then-meeting-eq0
returns-then-meeting-eq0 c = let a = c.loop-i.invariant in record { meets = turn_stops a c.last_below.ensures c.in-Some.is c.if-meeting-eq0.true; counts_only = turn-only a }

pub visit-meeting-requires : goal.visit-meeting-requires
visit-meeting-requires c = turn_visitable c.loop-i.invariant c.last_below.ensures c.in-Some.is c.if-meeting-eq0.false refl

pub loop-i-smaller : goal.loop-i-smaller
loop-i-smaller c = turn_falls c.loop-i.invariant c.last_below.ensures c.in-Some.is

pub loop-i-preserved : goal.loop-i-preserved
loop-i-preserved c = next_turn c.loop-i.invariant c.last_below.ensures c.in-Some.is c.if-meeting-eq0.false refl c.float_of_key-here.ensures (search rules) c.visit-meeting.ensures
