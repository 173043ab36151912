-- The conditions of refusals 2 to 5 of the call (SCOPE 7.2 to 7.5), in checking order.
use Rattle.std.specs.Prelude.{ℕ, Bool, List, [], ◌∷◌, ◌++◌, length, Float}
use Rattle.drawing.specs.declared.refusal.Refusal.{Refusal}
use Rattle.drawing.specs.declared.refusal.Refusal.TheVariants.{ShortScratch, InvalidInput}
use Rattle.drawing.specs.Entries.{SegmentColumns, NodeColumns, ExemptionColumns}
use Rattle.drawing.specs.Conditions.{short_scratch, unfit_threshold}
use Rattle.drawing.specs.Checks.{list_conditions, entry_conditions}

-- clearance takes segments, nodes, exemptions, a threshold and a scratch of the given number of words
unfoldable pub clearance_conditions : SegmentColumns → NodeColumns → ExemptionColumns → Float → ℕ → List (Bool × Refusal)
clearance_conditions s n e threshold words =
    list_conditions s n e
    ++ ((short_scratch words (length s.net) (length n.id), ShortScratch)
    ∷ (entry_conditions s n ++ ((unfit_threshold threshold, InvalidInput) ∷ [])))
