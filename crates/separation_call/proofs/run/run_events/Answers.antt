-- `separation_call::run::run_events` meets its contract: event by event. Assumes nothing.
use borrow.Author.Rules.{rules}
use mathlib.Core.Path.{refl}
use Rattle.std.proofs.lemmas.Result.{err_from_is_err_and}
use Rattle.separation_call.proofs.SweepLoop.{going_none, run_event, run_next, run_stops, run_all}
use Rattle.separation_call.proofs.run.run_events.Goals as goal

pub loop-q-init : goal.loop-q-init
loop-q-init c = (refl, λ l F H size count ready proper. going_none l F H _ _ _ ready proper c.at_start-state.ensures)

pub handle_event-requires : goal.handle_event-requires
handle_event-requires c = run_event _ _ _ _ c.requires _ _ _ c.loop-q.invariant.1 c.loop-q-test.true _ refl

pub returns-in_err-state : goal.returns-in_err-state
returns-in_err-state c =
    let p = err_from_is_err_and c.from_residual.result c.from_residual.ensures.1 in
    rw (p.1, p.2) (run_stops _ _ _ c.args.s.now _ _ _ c.loop-q.invariant.1 c.loop-q-test.true _ refl _ _ c.handle_event.ensures _ c.in_err-state.was)

pub loop-q-preserved : goal.loop-q-preserved
loop-q-preserved c = (search rules, run_next _ _ _ c.args.s.now _ _ _ c.loop-q.invariant.1 c.loop-q-test.true _ refl _ _ c.handle_event.ensures _ c.in_ok-state.was)

pub returns : goal.returns
returns c = run_all _ _ _ c.args.s.now _ _ _ c.loop-q.invariant.1 c.loop-q-test.false _ c.from.ensures
