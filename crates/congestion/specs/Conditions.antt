-- The conditions of refusals 2 to 6 of the congestion calls, in checking order (SCOPE 7.2, 7.3, 7.4, 7.5, 7.6).
use Rattle.std.specs.Prelude.{Bool, List, [], ◌∷◌, ◌++◌, ℕ, Float}
use Rattle.laws.specs.Lists.{some_of}
use Rattle.drawing.specs.declared.refusal.Refusal.{Refusal}
use Rattle.drawing.specs.declared.refusal.Refusal.TheVariants.{InvalidInput, OffGrid}
use Rattle.drawing.specs.Entries.{SegmentColumns, segments}
use Rattle.drawing.specs.Conditions.{unfit_cutoff, off_grid_segment, off_grid_cutoff}
use Rattle.drawing.specs.Checks.{segment_conditions}

-- congestion takes segments, a cutoff and a scratch whose length is `words`; it alone has refusal 6
unfoldable pub congestion_conditions : SegmentColumns → Float → ℕ → List (Bool × Refusal)
congestion_conditions s cutoff words =
    segment_conditions s words
    ++ ((unfit_cutoff cutoff, InvalidInput)
    ∷ (some_of off_grid_segment (segments s), OffGrid)
    ∷ (off_grid_cutoff cutoff, OffGrid)
    ∷ [])
