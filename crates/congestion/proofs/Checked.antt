-- The order of a drawing's list decides none of congestion's refusals. Assumes nothing.
use mathlib.Core.Path.{◌≡◌}
use Prim.Native.Nat.{ℕ}
use lib.Ieee.{Float}
use Rattle.laws.proofs.Perms.{perm-some}
use Rattle.drawing.specs.Entries.{SegmentColumns}
use Rattle.drawing.specs.Conditions.{off_grid_segment}
use Rattle.drawing.proofs.AnyOrder.{SameSegments, segments-order}
use Rattle.congestion.specs.Conditions.{congestion_conditions}

pub congestion-order : (s t : SegmentColumns) → SameSegments s t → (cutoff : Float) (words : ℕ) → congestion_conditions s cutoff words ≡ congestion_conditions t cutoff words
unfolding congestion_conditions
congestion-order s t o cutoff words = rw (segments-order s t o words, perm-some off_grid_segment o.perm)
