use mathlib.Core.Path.{refl, sym}
use native.Mathlib.Omega.{arith}
use Rattle.drawing.specs.Entries.{Segment, as_taken}
use Rattle.clearance_call.proofs.WalkRuns.{walkable_whole}
use Rattle.clearance_call.proofs.walk_all.walk_segment.Goals as goal

pub visit_segment_candidates-requires : goal.visit_segment_candidates-requires
visit_segment_candidates-requires c =
    let a = c.args in
    let s : Segment = as_taken a.segment in
    record { walkable = (walkable_whole s _ _ _ _ _ _ c.requires.part.0 c.from_segment-bounds.ensures c.bounds_of.ensures c.distance.ensures c.requires.remaining_bound c.requires.fit_and_nested.0 c.requires.fit_and_nested.1, c.requires.part.1); net_marks = c.requires.net_marks }

pub returns-clause-outcome : goal.returns-clause-outcome
returns-clause-outcome c ex l =
    let a = c.args in
    let s : Segment = as_taken a.segment in
    c.visit_segment_candidates.ensures.outcome ex _ l s (sym c.from_segment-bounds.ensures) refl _ (omega arith)
