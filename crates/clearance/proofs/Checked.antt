-- The order of a drawing's lists decides none of clearance's refusals. Assumes nothing.
use Rattle.std.proofs.Common.{◌≡◌, ℕ}
use lib.Ieee.{Float}
use Rattle.drawing.specs.Entries.{SegmentColumns, NodeColumns, ExemptionColumns}
use Rattle.drawing.proofs.AnyOrder.{SameSegments, SameNodes, SameExemptions, segment-count, node-count, lists-order, entries-order}
use Rattle.clearance.specs.Conditions.{clearance_conditions}

pub clearance-order : (s t : SegmentColumns) → SameSegments s t → (m n : NodeColumns) → SameNodes m n → (e f : ExemptionColumns) → SameExemptions e f → (threshold : Float) (words : ℕ) → clearance_conditions s m e threshold words ≡ clearance_conditions t n f threshold words
unfolding clearance_conditions
clearance-order s t o m n p e f q threshold words = rw (lists-order s t o m n p e f q, entries-order s t o m n p, segment-count s t o, node-count s t o m n p)
