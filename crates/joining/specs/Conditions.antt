-- The conditions of refusals 2, 3, 5 and 8 of the call, in checking order (SCOPE 7.2, 7.3, 7.5, 7.8).
use Rattle.std.specs.Prelude.{Bool, List, [], ◌∷◌, ◌++◌, ℕ, length}
use Rattle.drawing.specs.declared.refusal.Refusal.{Refusal}
use Rattle.drawing.specs.declared.refusal.Refusal.TheVariants.{ShortOutput}
use Rattle.drawing.specs.Entries.{SegmentColumns, segments}
use Rattle.drawing.specs.Conditions.{short_output}
use Rattle.drawing.specs.Checks.{segment_list_conditions}
use Rattle.joining.specs.Joined.{joined}

-- SCOPE 16.7: the output columns may differ in length; "the shortest" counts
abbrev pub output_lengths : SegmentColumns → List ℕ
output_lengths out = length out.net ∷ length out.orientation ∷ length out.fixed ∷ length out.start ∷ length out.end ∷ []

-- SCOPE 16.8: "8 where the shortest lent output column holds fewer entries than the answer needs, after 2, 3 and 5"
unfoldable pub join_conditions : SegmentColumns → SegmentColumns → List (Bool × Refusal)
join_conditions c out = segment_list_conditions c ++ ((short_output (length (joined (segments c))) (output_lengths out), ShortOutput) ∷ [])
