-- `join_call::columns::join` meets its contract: what the checks returned decides, and the table is long enough. Assumes nothing.
use Rattle.std.proofs.Common.{rules, ◌∙◌, sym, arith}
use Rattle.std.proofs.lemmas.Result.{err_from_is_err_and}
use Rattle.drawing.specs.Entries.{lent_segments, segment_columns}
use Rattle.join_call.proofs.Answers.{refused, passed, held_of, lists_of, passes-few, left_in}
use Rattle.join_call.proofs.columns.join.Goals as goal

pub returns-in_err-check_segment_list : goal.returns-in_err-check_segment_list
returns-in_err-check_segment_list c =
    let a = c.args in
    let p = err_from_is_err_and c.from_residual.result c.from_residual.ensures.1 in
    rw (p.1, p.2) (refused (lent_segments a.segments.now) (segment_columns a.to_net.now a.to_orientation.now a.to_fixed.now a.to_start.now a.to_end.now) _ _ c.check_segment_list.ensures c.in_err-check_segment_list.was)

pub join_by_table-requires : goal.join_by_table-requires
join_by_table-requires c =
    lists_of (lent_segments c.args.segments.now) _ (sym c.check_segment_list.ensures ∙ c.in_ok-check_segment_list.was) c.held.ensures.floats c.held.ensures.nets (omega arith)

pub returns-then-segments-le128 : goal.returns-then-segments-le128
returns-then-segments-le128 c =
    let a = c.args in
    let p = sym c.check_segment_list.ensures ∙ c.in_ok-check_segment_list.was in
    let w = c.join_by_table.ensures in
    passed (lent_segments a.segments.now) (segment_columns a.to_net.now a.to_orientation.now a.to_fixed.now a.to_start.now a.to_end.now) _ _ p (held_of (lent_segments a.segments.now) p c.held.ensures.floats) (w.value, left_in _ c.join_by_table.new.output _ _ _ _ _ w.columns_after (search rules) (search rules) (search rules) (search rules) (search rules))

pub join_by_table-requires-2 : goal.join_by_table-requires-2
join_by_table-requires-2 c =
    let p = sym c.check_segment_list.ensures ∙ c.in_ok-check_segment_list.was in
    lists_of (lent_segments c.args.segments.now) _ p c.held.ensures.floats c.held.ensures.nets (omega (arith, passes-few (lent_segments c.args.segments.now) p))

pub returns : goal.returns
returns c =
    let a = c.args in
    let p = sym c.check_segment_list.ensures ∙ c.in_ok-check_segment_list.was in
    let w = c.join_by_table-2.ensures in
    passed (lent_segments a.segments.now) (segment_columns a.to_net.now a.to_orientation.now a.to_fixed.now a.to_start.now a.to_end.now) _ _ p (held_of (lent_segments a.segments.now) p c.held.ensures.floats) (w.value, left_in _ c.join_by_table-2.new.output _ _ _ _ _ w.columns_after (search rules) (search rules) (search rules) (search rules) (search rules))
