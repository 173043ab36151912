-- `density_call::sweep::start_event` meets its contract: the lengths up to the event, the wires that its wire meets, and the wire itself. Assumes nothing.
use Rattle.std.proofs.lemmas.Result.{err_from_is_err_and}
use Rattle.density_call.proofs.EventSteps.{start_meetable, start_stops, start_fits, start_goes}
use Rattle.density_call.proofs.sweep.start_event.Goals as goal

pub meet-requires : goal.meet-requires
meet-requires c =
    start_meetable c.args.s.now c.args.n c.args.j c.args.state c.requires

pub returns-in_err-meeting : goal.returns-in_err-meeting
returns-in_err-meeting c =
    let exit = err_from_is_err_and c.from_residual.result c.from_residual.ensures.1 in
    rw (exit.1, exit.2) (start_stops c.args.s.now c.args.n c.args.j c.args.state _ _ _ _ c.float_of_key-coordinate.ensures c.pass_to-passed.ensures c.meet.ensures.meets _ c.in_err-meeting.was)

pub with_start-requires : goal.with_start-requires
with_start-requires c =
    let r = start_fits c.args.s.now c.args.n c.args.j c.args.state _ _ _ _ c.float_of_key-coordinate.ensures c.pass_to-passed.ensures c.meet.ensures.meets _ c.in_ok-meeting.was c.requires in
    record { active_fits = r.0; pairs_fit = r.1 }

pub returns : goal.returns
returns c =
    start_goes c.args.s.now c.args.n c.args.j c.args.state _ _ _ _ c.float_of_key-coordinate.ensures c.pass_to-passed.ensures c.meet.ensures.meets _ c.in_ok-meeting.was _ _ c.meet.ensures.counts_only c.meet.auto.s c.activate.ensures c.with_start.ensures
