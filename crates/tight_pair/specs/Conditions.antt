-- The conditions of refusals 2, 3 and 5 of the call (SCOPE 7.2, 7.3, 7.5), in checking order.
use Rattle.std.specs.Prelude.{Bool, List, ◌++◌}
use Rattle.drawing.specs.declared.refusal.Refusal.{Refusal}
use Rattle.drawing.specs.Entries.{SegmentColumns, NodeColumns, ExemptionColumns}
use Rattle.drawing.specs.Checks.{list_conditions, entry_conditions}

-- SCOPE 12.1, the tight pair: "checks 2, 3 and 5 of clearance", with no threshold and no scratch
unfoldable pub tight_pair_conditions : SegmentColumns → NodeColumns → ExemptionColumns → List (Bool × Refusal)
tight_pair_conditions s n e = list_conditions s n e ++ entry_conditions s n
