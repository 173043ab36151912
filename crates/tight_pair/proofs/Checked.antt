-- The order of a drawing's lists decides none of the tight pair's refusals. Assumes nothing.
use mathlib.Core.Path.{◌≡◌}
use Rattle.drawing.specs.Entries.{SegmentColumns, NodeColumns, ExemptionColumns}
use Rattle.drawing.proofs.AnyOrder.{SameSegments, SameNodes, SameExemptions, lists-order, entries-order}
use Rattle.tight_pair.specs.Conditions.{tight_pair_conditions}

pub tight-pair-order : (s t : SegmentColumns) → SameSegments s t → (m n : NodeColumns) → SameNodes m n → (e f : ExemptionColumns) → SameExemptions e f → tight_pair_conditions s m e ≡ tight_pair_conditions t n f
unfolding tight_pair_conditions
tight-pair-order s t o m n p e f q = rw (lists-order s t o m n p e f q, entries-order s t o m n p)
