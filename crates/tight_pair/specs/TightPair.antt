-- What the tight pair's call answers (SCOPE 12), and the number and values of each case of the answer.
use Rattle.std.specs.Prelude.{◌≡◌, false, List, ℕ, Float, Option, Some, None, Result, Ok, Err}
use Rattle.std.specs.List.{slice_get}
use Rattle.drawing.specs.Entries.{Segment, Node, Exemption, SegmentColumns, NodeColumns, ExemptionColumns, segments, nodes, exemptions}
use Rattle.drawing.specs.Gaps.{least_gap}
use Rattle.drawing.specs.Refusals.{number_of, first_of, checked}
use Rattle.tight_pair.specs.declared.TightPair.{TightPair}
use Rattle.drawing.specs.declared.refusal.Refusal.{Refusal}
use Rattle.tight_pair.specs.Conditions.{tight_pair_conditions}
use Rattle.boxes.specs.Boxes.{node_box, segment_box, distance}
use Rattle.clearance.specs.Figures.{exempt, distances}

-- SCOPE 12.2: segment i and node j are a "pair, by segment and node position, that is not exempt and whose distance is the least clearance"
pub record Tight (ex : List Exemption) (ss : List Segment) (ns : List Node) (i j : ℕ) : Type 0 where
  pub segment : Segment
  pub node : Node
  pub segment_at : slice_get ss i ≡ Some segment
  pub node_at : slice_get ns j ≡ Some node
  pub free : exempt ex segment.net node.id ≡ false
  pub least : Some (distance (segment_box segment) (node_box node)) ≡ least_gap (distances ex ss ns)

-- SCOPE 12.2: the pair where there is a least clearance, "or absent if there is none"
unfoldable pub pair_if_any : Option Float → TightPair → Option TightPair
pair_if_any None pair = None
pair_if_any (Some d) pair = Some pair

-- SCOPE 12.1, 12.2: "checks 2, 3 and 5 of clearance, then answers any pair ..": which pair is left to the program, so it is an argument
unfoldable pub tight_pair_answer : SegmentColumns → NodeColumns → ExemptionColumns → TightPair → Result (Option TightPair) Refusal
tight_pair_answer s n e pair = checked Err (first_of (tight_pair_conditions s n e)) (Ok (pair_if_any (least_gap (distances (exemptions e) (segments s) (nodes n))) pair))

-- SCOPE 8.5, 12.2: what the call promises of r: it is the answer for some `choice` of a pair, which is left to the program, and a pair that is answered is tight
pub record Answered (s : SegmentColumns) (n : NodeColumns) (e : ExemptionColumns) (r : Result (Option TightPair) Refusal) : Type 0 where
  pub choice : TightPair
  pub is : r ≡ tight_pair_answer s n e choice
  pub tight : (pair : TightPair) → r ≡ Ok (Some pair) → Tight (exemptions e) (segments s) (nodes n) pair.segment pair.node

-- SCOPE 6.3, 12.1, 12.2: "A refusal returns its number and ..; for the tight pair, an absent pair.": each case by its number, 0 where nothing was refused, and its pair
unfoldable pub result_of : Result (Option TightPair) Refusal → ℕ × Option TightPair
result_of (Ok pair) = (0, pair)
result_of (Err w) = (number_of w, None)
