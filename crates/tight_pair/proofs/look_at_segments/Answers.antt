-- `tight_pair::look_at_segments` meets its contract: after i iterations the first i segments have been compared. Assumes nothing.
use mathlib.Core.Path.{sym, ap, subst, ◌∙◌}
use Rattle.drawing.specs.Entries.{Segment, as_taken}
use Rattle.exemptions.specs.Inner.Exempting.{Rising, Own}
use lib.Ieee.{of_bits}
use Rattle.boxes.specs.Boxes.{segment_box}
use Rattle.tight_pair.proofs.PairLaws.{segments-start, segments_next, segments_stop, segments-end}
use Rattle.tight_pair.proofs.look_at_segments.Goals as goal

pub loop-position-init : goal.loop-position-init
loop-position-init c = segments-start _ _ _ _ c.requires.0

pub look_at_nodes-best-requires : goal.look_at_nodes-best-requires
look_at_nodes-best-requires c = c.requires.1

pub loop-position-preserved : goal.loop-position-preserved
loop-position-preserved c =
    segments_next _ _ _ _ _ _ c.loop-position.invariant c.loop-position-test.true _ (subst (λ (z : Segment). Rising c.args.words.now c.args.k → Own c.args.words.now c.args.k z.net c.net_range-range.result) c.at-segment.ensures c.net_range-range.ensures) _ (c.from_segment-bounds.ensures ∙ ap (λ (z : Segment). segment_box (as_taken z)) c.at-segment.ensures) _ c.look_at_nodes-best.ensures

pub returns-then-not-is_nearer : goal.returns-then-not-is_nearer
unfolding of_bits
returns-then-not-is_nearer c = segments_stop _ _ _ _ _ _ c.loop-position.invariant (sym c.is_nearer.ensures ∙ c.if-not-is_nearer.true)

pub returns : goal.returns
returns c = segments-end _ _ _ _ _ _ c.loop-position.invariant c.loop-position-test.false
