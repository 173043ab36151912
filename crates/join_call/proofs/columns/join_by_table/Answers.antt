-- `join_call::columns::join_by_table` meets its contract: the pieces are put in order, and written where there is room. Assumes nothing.
use Rattle.std.proofs.Common.{◌∙◌, sym, ap}
use Rattle.drawing.specs.Conditions.{short_output}
use Rattle.drawing.specs.Entries.{lent_segments}
use Rattle.joining.specs.Conditions.{output_lengths}
use Rattle.join_call.specs.Inner.Output.{held}
use Rattle.join_call.proofs.Answers.{joined-count, fewer, has_room, no_room, finished}
use Rattle.join_call.proofs.columns.join_by_table.Goals as goal

pub returns-then-lacks_room-clause-value : goal.returns-then-lacks_room-clause-value
returns-then-lacks_room-clause-value c =
    let columns = lent_segments c.args.segments.now in
    let out = held c.args.output.now in
    (no_room columns out (ap (λ z. short_output z (output_lengths out)) (sym (joined-count columns _ c.new-table.ensures)) ∙ ap (short_output _) (sym c.lengths.ensures) ∙ sym c.lacks_room.ensures ∙ c.if-lacks_room.true)).0

pub returns-then-lacks_room-clause-columns_after : goal.returns-then-lacks_room-clause-columns_after
returns-then-lacks_room-clause-columns_after c =
    let columns = lent_segments c.args.segments.now in
    let out = held c.args.output.now in
    (no_room columns out (ap (λ z. short_output z (output_lengths out)) (sym (joined-count columns _ c.new-table.ensures)) ∙ ap (short_output _) (sym c.lengths.ensures) ∙ sym c.lacks_room.ensures ∙ c.if-lacks_room.true)).1

pub write_pieces-pieces-requires : goal.write_pieces-pieces-requires
write_pieces-pieces-requires c =
    has_room _ (held c.args.output.now) (ap (short_output _) (sym c.lengths.ensures) ∙ sym c.lacks_room.ensures ∙ c.if-lacks_room.false)

pub overflow_sub-result : goal.overflow_sub-result
overflow_sub-result c = fewer (lent_segments c.args.segments.now) _ _ c.requires.agree c.new-table.ensures c.write_pieces-pieces.ensures.count

pub returns-clause-value : goal.returns-clause-value
returns-clause-value c =
    let w = c.write_pieces-pieces.ensures in
    (finished (lent_segments c.args.segments.now) (held c.args.output.now) _ _ _ _ c.requires c.new-table.ensures w.count (ap (short_output _) (sym c.lengths.ensures) ∙ sym c.lacks_room.ensures ∙ c.if-lacks_room.false) w.columns_after).0

pub returns-clause-columns_after : goal.returns-clause-columns_after
returns-clause-columns_after c =
    let w = c.write_pieces-pieces.ensures in
    (finished (lent_segments c.args.segments.now) (held c.args.output.now) _ _ _ _ c.requires c.new-table.ensures w.count (ap (short_output _) (sym c.lengths.ensures) ∙ sym c.lacks_room.ensures ∙ c.if-lacks_room.false) w.columns_after).1
