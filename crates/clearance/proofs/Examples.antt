-- The marked cases of clearance (SCOPE 13.g to 13.i) and drawing D (SCOPE 11.5), by computing the definitions. Assumes nothing.
use Rattle.std.specs.Prelude.{Option, Some, None}
use Rattle.std.proofs.Common.{◌≡◌, ℕ, [], ◌∷◌, refl}
use lib.Ieee.{Float, binary64, of_bits, to_bits, add, sub, lt}
use Rattle.laws.specs.Lists.{some_of, chosen, fold, cross}
use Rattle.laws.specs.Rows.{row_le}
use Rattle.laws.specs.Sort.{insert_by, sort_by}
use Rattle.laws.specs.Least.{lesser, least}
use Rattle.laws.specs.Charged.{runs, settle}
use Rattle.floats.specs.TotalOrder.{key, key_of}
use Rattle.floats.specs.Values.{lesser_of, greater_of}
use Rattle.drawing.specs.Entries.{SegmentColumns, NodeColumns, ExemptionColumns, segment_columns, node_columns, exemption_columns, segments_of, segments, nodes_of, exemptions_of}
use Rattle.drawing.specs.Gaps.{least_gap, lesser_gap}
use Rattle.drawing.specs.Orders.{segment_row, node_row, segments_in_order, nodes_in_order}
use Rattle.drawing.specs.Refusals.{number_of, first_of}
use Rattle.drawing.specs.Conditions.{differ, too_many, short_scratch, unfit_fields, unfit_segment, unfit_extent, unfit_box, unfit_node, unfit_threshold}
use Rattle.drawing.specs.Checks.{segments_differ, nodes_differ, exemptions_differ, list_conditions, entry_conditions}
use Rattle.boxes.specs.Boxes.{from_node, from_segment, node_box, segment_box, union, axis_gap, distance}
use Rattle.clearance.specs.Conditions.{clearance_conditions}
use Rattle.clearance.specs.Figures.{exempt, distances, violates, figures}
use Rattle.clearance.specs.Tree.{indexed, indexed_row, indexed_in_order, horizontal_wider, hull, bounds_of, build, tree_of}
use Rattle.clearance.specs.Walk.{contributes, with_pair, walk, walk_all, visit_count}
use Rattle.clearance.specs.declared.report.EdgeNodeClearance.{EdgeNodeClearance}
use Rattle.clearance.specs.Answer.{report_of, accepted, all_pairs, clearance_answer, zeros, result_of}

abbrev zero : Float
zero = of_bits binary64 0

abbrev one : Float
one = of_bits binary64 0x3ff0_0000_0000_0000

abbrev two : Float
two = of_bits binary64 0x4000_0000_0000_0000

abbrev three : Float
three = of_bits binary64 0x4008_0000_0000_0000

abbrev four : Float
four = of_bits binary64 0x4010_0000_0000_0000

abbrev five : Float
five = of_bits binary64 0x4014_0000_0000_0000

abbrev ten : Float
ten = of_bits binary64 0x4024_0000_0000_0000

abbrev fifteen : Float
fifteen = of_bits binary64 0x402e_0000_0000_0000

abbrev twenty : Float
twenty = of_bits binary64 0x4034_0000_0000_0000

abbrev minus_one : Float
minus_one = of_bits binary64 0xbff0_0000_0000_0000

-- SCOPE 11.5: "Drawing D: net 1 horizontal at 0 from 0 to 10; net 2 horizontal at 4 from 5 to 15; node 7 with x 2, y 1, width 3, height 2; exemption net 2, node 7; threshold 2"
abbrev d-segments : SegmentColumns
d-segments = segment_columns (1 ∷ 2 ∷ []) (1 ∷ 1 ∷ []) (zero ∷ four ∷ []) (zero ∷ five ∷ []) (ten ∷ fifteen ∷ [])

abbrev d-nodes : NodeColumns
d-nodes = node_columns (7 ∷ []) (two ∷ []) (one ∷ []) (three ∷ []) (two ∷ [])

abbrev d-exemptions : ExemptionColumns
d-exemptions = exemption_columns (2 ∷ []) (7 ∷ [])

-- the number and values of the answer; the scratch has 32 (2 + 1) + 64 words
abbrev measured : SegmentColumns → NodeColumns → ExemptionColumns → Float → ℕ → ℕ × EdgeNodeClearance
measured s n e threshold allowance = result_of (clearance_answer s n e threshold allowance 160)

abbrev report : Option Float → ℕ → ℕ → ℕ × EdgeNodeClearance
report g v n = (0, report_of (record { least = g; violations = v }) n)

-- D's wires along an orientation, each by its ends as they are given (SCOPE 2.8), and D's node upright
abbrev drawn : ℕ → (Float × Float) → (Float × Float) → SegmentColumns
drawn o a b = segment_columns (1 ∷ 2 ∷ []) (o ∷ o ∷ []) (zero ∷ four ∷ []) (a.0 ∷ b.0 ∷ []) (a.1 ∷ b.1 ∷ [])

abbrev d-nodes-upright : NodeColumns
d-nodes-upright = node_columns (7 ∷ []) (one ∷ []) (two ∷ []) (two ∷ []) (three ∷ [])

-- D's figures with 2 visits, and 7 with 1
abbrev AsD : SegmentColumns → NodeColumns → Type 0
AsD s n = (measured s n d-exemptions two 2 ≡ report (Some one) 1 2) × (measured s n d-exemptions two 1 ≡ (7, zeros))

-- SCOPE 11.5: "clearance 3ff0000000000000 1 2", and the spent allowance below 2
pub record Marked : Type 0 where
  pub d : measured d-segments d-nodes d-exemptions two 1000 ≡ report (Some one) 1 2
  -- D as the program `sheet` measures it
  pub d-sheet : clearance_answer d-segments d-nodes d-exemptions two 1000 7744 ≡ accepted (record { least = Some one; violations = 1 }) 2
  pub d-at_2 : measured d-segments d-nodes d-exemptions two 2 ≡ report (Some one) 1 2
  pub d-at_1 : measured d-segments d-nodes d-exemptions two 1 ≡ (7, zeros)
  -- SCOPE 2.8: D with net 2 given from 15 to 5, with both wires so, and upright with both so
  pub net_2_reversed : AsD (drawn 1 (zero, ten) (fifteen, five)) d-nodes
  pub reversed : AsD (drawn 1 (ten, zero) (fifteen, five)) d-nodes
  pub upright_reversed : AsD (drawn 0 (ten, zero) (fifteen, five)) d-nodes-upright
  -- D's first segment, D's node and another one below it, which is pruned: one visit for one segment and two nodes
  pub pruned : measured (segment_columns (1 ∷ []) (1 ∷ []) (zero ∷ []) (zero ∷ []) (ten ∷ [])) (node_columns (7 ∷ 8 ∷ []) (two ∷ two ∷ []) (one ∷ twenty ∷ []) (three ∷ three ∷ []) (two ∷ two ∷ [])) d-exemptions zero 1000 ≡ report (Some one) 0 1
  -- SCOPE 13.g: "distance 2, threshold 2: no violation": D's first segment, and D's node one further away
  pub g : measured (segment_columns (1 ∷ []) (1 ∷ []) (zero ∷ []) (zero ∷ []) (ten ∷ [])) (node_columns (7 ∷ []) (two ∷ []) (two ∷ []) (three ∷ []) (two ∷ [])) d-exemptions two 1000 ≡ report (Some two) 0 1
  -- SCOPE 13.h: "no nodes, threshold -1: 5"
  pub h : measured d-segments (node_columns [] [] [] [] []) d-exemptions minus_one 1000 ≡ (5, zeros)
  -- SCOPE 13.i: "no segments, threshold 0: absent, 0, 0"
  pub i : measured (segment_columns [] [] [] [] []) d-nodes d-exemptions zero 0 ≡ report None 0 0

pub marked : Marked
unfolding of_bits to_bits add sub lt some_of chosen fold cross row_le insert_by sort_by lesser least runs settle key key_of lesser_of greater_of segments segments_of nodes_of exemptions_of least_gap lesser_gap segment_row node_row segments_in_order nodes_in_order number_of first_of differ too_many short_scratch unfit_fields unfit_segment unfit_extent unfit_box unfit_node unfit_threshold segments_differ nodes_differ exemptions_differ list_conditions entry_conditions clearance_conditions from_node from_segment node_box segment_box union axis_gap distance exempt distances violates figures indexed indexed_row indexed_in_order horizontal_wider hull bounds_of build tree_of contributes with_pair walk walk_all visit_count accepted all_pairs clearance_answer result_of
marked = record { d = refl; d-sheet = refl; d-at_2 = refl; d-at_1 = refl; net_2_reversed = (refl, refl); reversed = (refl, refl); upright_reversed = (refl, refl); pruned = refl; g = refl; h = refl; i = refl }
