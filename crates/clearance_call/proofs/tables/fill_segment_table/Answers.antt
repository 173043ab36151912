-- `clearance_call::tables::fill_segment_table` meets its contract: after i iterations the first i rows are filled. Assumes nothing.
use borrow.Author.Rules.{rules}
use mathlib.Core.Path.{ap, ◌∙◌}
use Rattle.floats.specs.TotalOrder.{key_of}
use Rattle.drawing.specs.declared.ends.Ends.{Ends}
use Rattle.drawing.specs.Entries.{Segment, ends_in_order, lent_segments}
use Rattle.clearance_call.proofs.TableLaws.{filled_none, filled_all, segment_next}
use Rattle.clearance_call.proofs.tables.fill_segment_table.Goals as goal

pub loop-i-init : goal.loop-i-init
loop-i-init c = (search rules, filled_none _ _ _)

pub loop-i-preserved : goal.loop-i-preserved
loop-i-preserved c =
    let segment = c.at-segment.ensures in
    let ends = c.ends_in_order-ends.ensures ∙ ap (λ (z : Segment). ends_in_order z.start z.end) segment in (
      search rules,
      segment_next (lent_segments c.args.segments.now) _ _ _ _ _ _ _ _ _ _ c.loop-i.invariant.1 c.requires.1 c.loop-i-test.true
          (c.from.ensures ∙ ap (λ (z : Segment). z.net) segment)
          (c.from-in-loop-i.ensures ∙ ap (λ (z : Segment). z.orientation) segment)
          (c.key_of-fixed.ensures ∙ ap (λ (z : Segment). key_of z.fixed) segment)
          (c.key_of-start.ensures ∙ ap (λ (z : Ends). key_of z.start) ends)
          (c.key_of-end.ensures ∙ ap (λ (z : Ends). key_of z.end) ends)
          c.put_row.ensures,
    )

pub returns : goal.returns
returns c = filled_all _ _ _ _ _ _ c.loop-i.invariant.0 c.loop-i-test.false c.loop-i.invariant.1
