-- `separation_call::run::handle_event` meets its contract: by the event's number. Assumes nothing.
use Rattle.separation_call.proofs.SweepLoop.{event_ends, handles_end, handles_start}
use Rattle.separation_call.proofs.run.handle_event.Goals as goal

pub end_event-requires : goal.end_event-requires
end_event-requires c = event_ends _ _ _ _ c.requires c.if-e-n.true

pub returns-then-e-n : goal.returns-then-e-n
returns-then-e-n c = handles_end c.args.s.now _ _ _ _ c.args.state _ c.if-e-n.true c.end_event.ensures

pub returns : goal.returns
returns c = handles_start c.args.s.now _ _ _ _ c.args.state _ c.if-e-n.false c.start_event.ensures
