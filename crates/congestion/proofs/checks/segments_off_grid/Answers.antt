-- `congestion::checks::segments_off_grid` meets its contract: whether a segment is off the grid does not depend on the order of its ends. Assumes nothing.
use mathlib.Core.Path.{◌≡◌, refl, sym, ◌∙◌}
use Prim.Native.Nat.{ℕ}
use native.Mathlib.Omega.{arith}
use lib.ListN.{length}
use Rattle.std.specs.List.{list_any, range_with_len}
use Rattle.std.proofs.Common.{rules, tests}
use Rattle.std.proofs.lemmas.Iterator.{YieldsList-from_range}
use Rattle.std.proofs.lemmas.Iterator.Search.{any_from_yields_List}
use Rattle.drawing.specs.Entries.{SegmentColumns, lent_segments}
use Rattle.drawing.specs.Inner.Entries.{lent_at, segment_at}
use Rattle.drawing.specs.Conditions.{off_grid_segment}
use Rattle.drawing.proofs.Directions.{grid_either_way}
use Rattle.drawing.proofs.Scans.{segments_scanned}
use Rattle.congestion.proofs.checks.segments_off_grid.Goals as goal

either_way : (c : SegmentColumns) (i : ℕ) → off_grid_segment (lent_at c i) ≡ off_grid_segment (segment_at c i)
unfolding off_grid_segment
either_way c i = sym (grid_either_way _ _ _)

pub returns : goal.returns
returns c =
    let columns = lent_segments c.args.segments.now in
    any_from_yields_List (λ (i : ℕ). off_grid_segment (lent_at columns i)) _ _ _ c.any.ensures.ran (YieldsList-from_range 0 _ _ refl (omega arith)) (λ x b q k. search (rules, tests))
    ∙ (λ j. list_any (λ (i : ℕ). either_way columns i j) (range_with_len 0 (length columns.net)))
    ∙ segments_scanned off_grid_segment _ c.requires
