-- The clearance figures over all pairs of a segment and a node (SCOPE 3.1 to 3.6).
use Rattle.std.specs.Prelude.{ℕ, Bool, not, ◌&&◌, List, ◌==◌, Float, Option}
use Rattle.std.specs.Float.Ieee.{lt}
use Rattle.laws.specs.Lists.{some_of, chosen, count, cross}
use Rattle.drawing.specs.Entries.{Segment, Node, Exemption}
use Rattle.drawing.specs.Gaps.{least_gap}
use Rattle.boxes.specs.Boxes.{node_box, segment_box, distance}

-- a segment of the net and a node of the id are exempt. SCOPE 2.3: "An exemption covers every node of that id."
unfoldable pub exempt : List Exemption → ℕ → ℕ → Bool
exempt ex net id = some_of (λ e. (e.net == net) && e.node == id) ex

-- SCOPE 3.4: one of the "segment and node pairs not exempt"
abbrev pub not_exempt : List Exemption → Segment × Node → Bool
not_exempt ex p = not (exempt ex p.0.net p.1.id)

abbrev pub pair_distance : Segment × Node → Float
pair_distance p = distance (segment_box p.0) (node_box p.1)

-- the distances (SCOPE 3.3) of the pairs of SCOPE 3.4
unfoldable pub distances : List Exemption → List Segment → List Node → List Float
distances ex ss ns = chosen (not_exempt ex) pair_distance (cross ss ns)

-- SCOPE 3.6: "violations are those pairs whose distance is strictly below the threshold": that of the segment's net. A call with one threshold has it for every net.
unfoldable pub violates : List Exemption → (ℕ → Float) → Segment × Node → Bool
violates ex threshold p = not_exempt ex p && lt (pair_distance p) (threshold p.0.net)

pub record Figures : Type 0 where
  pub least : Option Float
  pub violations : ℕ

-- SCOPE 3.5, 3.6: "least distance .., absent if there is none", and the number of violations
unfoldable pub figures : List Exemption → (ℕ → Float) → List Segment → List Node → Figures
figures ex threshold ss ns = record { least = least_gap (distances ex ss ns); violations = count (violates ex threshold) (cross ss ns) }
