-- `density_call::sweep::end_event` meets its contract: the lengths up to the event, the wires that its wire meets, and the wire itself. Assumes nothing.
use mathlib.Core.Path.{refl}
use Rattle.std.proofs.lemmas.Result.{err_from_is_err_and}
use Rattle.density_call.proofs.EventSteps.{end_meetable, end_stops, end_fits, end_goes}
use Rattle.density_call.proofs.sweep.end_event.Goals as goal

pub meet-requires : goal.meet-requires
meet-requires c =
    end_meetable c.args.s.now c.args.n c.args.j c.args.state c.requires.j_lt_n c.requires.at_event

pub returns-in_err-meeting : goal.returns-in_err-meeting
returns-in_err-meeting c =
    let exit = err_from_is_err_and c.from_residual.result c.from_residual.ensures.1 in
    rw (exit.1, exit.2) (end_stops c.args.s.now c.args.n c.args.j c.args.state c.requires.j_lt_n _ _ _ _ _ c.float_of_key-coordinate.ensures refl c.pass_to-passed.ensures c.meet.ensures.meets _ c.in_err-meeting.was)

pub with_end-requires : goal.with_end-requires
with_end-requires c =
    let r = end_fits c.args.s.now c.args.n c.args.j c.args.state c.requires.j_lt_n _ _ _ _ _ c.float_of_key-coordinate.ensures refl c.pass_to-passed.ensures c.meet.ensures.meets _ c.in_ok-meeting.was c.requires.at_event in
    record { active_suffices = r.0; pairs_suffice = r.1 }

pub returns : goal.returns
returns c =
    end_goes c.args.s.now c.args.n c.args.j c.args.state c.requires.j_lt_n _ _ _ _ _ c.float_of_key-coordinate.ensures refl c.pass_to-passed.ensures c.meet.ensures.meets _ c.in_ok-meeting.was _ _ c.meet.ensures.counts_only c.meet.auto.s c.deactivate.ensures c.with_end.ensures
