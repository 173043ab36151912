-- The conditions of refusals 2 to 5 of the call, in checking order (SCOPE 7.2, 7.3, 7.4, 7.5).
use Rattle.std.specs.Prelude.{Bool, List, ℕ}
use Rattle.drawing.specs.declared.refusal.Refusal.{Refusal}
use Rattle.drawing.specs.Entries.{SegmentColumns}
use Rattle.drawing.specs.Checks.{segment_conditions}

-- separation takes segments, and a scratch whose length is `words`
unfoldable pub separation_conditions : SegmentColumns → ℕ → List (Bool × Refusal)
separation_conditions s words = segment_conditions s words
