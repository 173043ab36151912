-- `join_call::columns::lacks_room` meets its contract: there are no more pieces than segments. Assumes nothing.
use Rattle.std.proofs.Common.{◌∙◌, sym, ap}
use Rattle.drawing.specs.Conditions.{short_output}
use Rattle.join_call.proofs.Answers.{room-enough}
use Rattle.join_call.proofs.columns.lacks_room.Goals as goal

pub returns-else-short_output : goal.returns-else-short_output
returns-else-short_output c =
    c.if-short_output.false ∙ sym (room-enough _ _ (ap (λ n. short_output n c.args.lengths.now) (sym c.len.ensures) ∙ sym c.short_output.ensures ∙ c.if-short_output.false))
