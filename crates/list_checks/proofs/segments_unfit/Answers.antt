-- `list_checks::segments_unfit` meets its contract. Assumes nothing.
use mathlib.Core.Path.{refl, ◌∙◌}
use Prim.Native.Nat.{ℕ}
use native.Mathlib.Omega.{arith}
use Rattle.std.proofs.Common.{rules, tests}
use Rattle.std.proofs.lemmas.Iterator.{YieldsList-from_range}
use Rattle.std.proofs.lemmas.Iterator.Search.{any_from_yields_List}
use Rattle.drawing.specs.Entries.{lent_segments}
use Rattle.drawing.specs.Inner.Entries.{segment_at}
use Rattle.drawing.specs.Conditions.{unfit_segment}
use Rattle.drawing.proofs.Scans.{segments_scanned}
use Rattle.list_checks.proofs.segments_unfit.Goals as goal

pub returns : goal.returns
returns c =
    any_from_yields_List (λ (i : ℕ). unfit_segment (segment_at (lent_segments c.args.segments.now) i)) _ _ _ c.any.ensures.ran (YieldsList-from_range 0 _ _ refl (omega arith)) (λ x b q k. search (rules, tests))
    ∙ segments_scanned unfit_segment _ c.requires
