-- A drawing that passes the checks of separation, and that the order of its list decides none of them. Assumes nothing.
use Rattle.std.specs.Prelude.{Ok}
use mathlib.Core.Path.{◌≡◌}
use Prim.Native.Nat.{ℕ}
use Rattle.drawing.specs.Entries.{SegmentColumns}
use Rattle.drawing.specs.Refusals.{first_of}
use Rattle.drawing.proofs.FirstRefusal.{SegmentsPass, segments_pass}
use Rattle.drawing.proofs.AnyOrder.{SameSegments, segments-order}
use Rattle.separation.specs.Conditions.{separation_conditions}

pub separation-passes : (s : SegmentColumns) (words : ℕ) → first_of (separation_conditions s words) ≡ Ok tt → SegmentsPass s words
unfolding separation_conditions
separation-passes s words e = segments_pass s words e

pub separation-order : (s t : SegmentColumns) → SameSegments s t → (words : ℕ) → separation_conditions s words ≡ separation_conditions t words
unfolding separation_conditions
separation-order s t o words = segments-order s t o words
