-- The columns of a list of segments: none differs in length, and their entries are the list. Assumes nothing.
use mathlib.Core.Path.{◌≡◌, refl, ap}
use mathlib.Core.Bool.{false}
use mathlib.Core.List.{List, [], ◌∷◌}
use lib.ListN.{length, length-map}
use Rattle.drawing.specs.Entries.{Segment, as_lent, segments_of, columns_of}
use Rattle.drawing.specs.Inner.Lengths.{SegmentsAgree}
use Rattle.drawing.specs.Checks.{segments_differ}
use Rattle.drawing.proofs.AnyOrder.{same-segments}

columns_agree : (l : List Segment) → SegmentsAgree (columns_of l)
unfolding columns_of
columns_agree l = record { orientation = simp length-map; fixed = simp length-map; start = simp length-map; end = simp length-map }

-- refusal 2 cannot arise for a list of entries
pub columns_same : (l : List Segment) → segments_differ (columns_of l) ≡ false
columns_same l = same-segments (columns_of l) (columns_agree l)

pub columns_count : (l : List Segment) → length (columns_of l).net ≡ length l
unfolding columns_of
columns_count l = length-map l (λ (s : Segment). s.net)

-- the columns hold the list
pub columns_entries : (l : List Segment) → as_lent (columns_of l) ≡ l
unfolding columns_of segments_of
columns_entries [] = refl
columns_entries (s ∷ l) = ap (λ (r : List Segment). s ∷ r) (columns_entries l)
