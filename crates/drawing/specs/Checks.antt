-- Conditions of refusals 2 to 5 that the calls share, in checking order (SCOPE 7.0). The list of each call is in its measure's crate, specs/Conditions; `first_of` of it is what its checks return. SCOPE 7: "Each call checks only what it is given, a list it does not take counting as 0 entries."
use Rattle.std.specs.Prelude.{Bool, List, [], ◌∷◌, ℕ, length}
use Rattle.laws.specs.Lists.{some_of}
use Rattle.drawing.specs.declared.refusal.Refusal.TheVariants.{ColumnsDiffer, TooManyEntries, ShortScratch, InvalidInput}
use Rattle.drawing.specs.declared.refusal.Refusal.{Refusal}
use Rattle.drawing.specs.Entries.{SegmentColumns, NodeColumns, ExemptionColumns, segments, nodes}
use Rattle.drawing.specs.Conditions.{differ, too_many, short_scratch, unfit_segment, unfit_node}

unfoldable pub segments_differ : SegmentColumns → Bool
segments_differ c = differ (length c.net) (length c.orientation ∷ length c.fixed ∷ length c.start ∷ length c.end ∷ [])

unfoldable pub nodes_differ : NodeColumns → Bool
nodes_differ c = differ (length c.id) (length c.x ∷ length c.y ∷ length c.width ∷ length c.height ∷ [])

unfoldable pub exemptions_differ : ExemptionColumns → Bool
exemptions_differ c = differ (length c.net) (length c.node ∷ [])

-- of segments and the number of words of the scratch: refusals 2, 3, 4 and 5 (SCOPE 7.2 to 7.5)
unfoldable pub segment_conditions : SegmentColumns → ℕ → List (Bool × Refusal)
segment_conditions s words =
    (segments_differ s, ColumnsDiffer)
    ∷ (too_many (length s.net), TooManyEntries)
    ∷ (short_scratch words (length s.net) 0, ShortScratch)
    ∷ (some_of unfit_segment (segments s), InvalidInput)
    ∷ []

-- of segments alone, which a call without scratch takes: refusals 2, 3 and 5 (SCOPE 7.2, 7.3, 7.5)
unfoldable pub segment_list_conditions : SegmentColumns → List (Bool × Refusal)
segment_list_conditions s =
    (segments_differ s, ColumnsDiffer)
    ∷ (too_many (length s.net), TooManyEntries)
    ∷ (some_of unfit_segment (segments s), InvalidInput)
    ∷ []

-- of segments, nodes and exemptions, which clearance and the tight pair take: refusals 2 and 3 (SCOPE 7.2, 7.3)
unfoldable pub list_conditions : SegmentColumns → NodeColumns → ExemptionColumns → List (Bool × Refusal)
list_conditions s n e =
    (segments_differ s, ColumnsDiffer)
    ∷ (nodes_differ n, ColumnsDiffer)
    ∷ (exemptions_differ e, ColumnsDiffer)
    ∷ (too_many (length s.net), TooManyEntries)
    ∷ (too_many (length n.id), TooManyEntries)
    ∷ (too_many (length e.net), TooManyEntries)
    ∷ []

-- and refusal 5, of their entries (SCOPE 7.5)
unfoldable pub entry_conditions : SegmentColumns → NodeColumns → List (Bool × Refusal)
entry_conditions s n =
    (some_of unfit_segment (segments s), InvalidInput)
    ∷ (some_of unfit_node (nodes n), InvalidInput)
    ∷ []
