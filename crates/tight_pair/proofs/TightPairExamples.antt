-- Examples of the tight pair, by computing the definitions. Assumes nothing.
use Rattle.std.specs.Prelude.{Option, None, Some, Result, Ok}
use mathlib.Core.Path.{◌≡◌, refl, sym, ap, ◌∙◌}
use mathlib.Core.List.{[], ◌∷◌}
use Prim.Native.Nat.{ℕ, zero, suc}
use native.Mathlib.Omega.{arith}
use lib.Ieee.{Float, binary64, of_bits, to_bits, add, sub, lt}
use Rattle.laws.specs.Lists.{some_of, chosen, cross}
use Rattle.laws.specs.Least.{lesser, least}
use Rattle.laws.proofs.Tests.{clash}
use Rattle.floats.specs.Values.{lesser_of, greater_of}
use Rattle.drawing.specs.Entries.{Segment, Node, SegmentColumns, NodeColumns, ExemptionColumns, segment_columns, node_columns, exemption_columns, segments_of, nodes_of, exemptions_of, segments, nodes, exemptions}
use Rattle.drawing.specs.Gaps.{least_gap}
use Rattle.drawing.specs.Refusals.{number_of, first_of}
use Rattle.drawing.specs.Conditions.{differ, too_many, unfit_fields, unfit_segment, unfit_extent, unfit_box, unfit_node}
use Rattle.drawing.specs.Checks.{segments_differ, nodes_differ, exemptions_differ, list_conditions, entry_conditions}
use Rattle.tight_pair.specs.declared.TightPair.{TightPair}
use Rattle.drawing.specs.declared.refusal.Refusal.{Refusal}
use Rattle.boxes.specs.Boxes.{from_node, from_segment, node_box, segment_box, axis_gap, distance}
use Rattle.clearance.specs.Figures.{exempt, distances}
use Rattle.tight_pair.specs.Conditions.{tight_pair_conditions}
use Rattle.tight_pair.specs.TightPair.{Tight, pair_if_any, tight_pair_answer, Answered, result_of}

abbrev float : ℕ → Float
float bits = of_bits binary64 bits

-- SCOPE 11.5: "Drawing D: net 1 horizontal at 0 from 0 to 10; net 2 horizontal at 4 from 5 to 15; node 7 with x 2, y 1, width 3, height 2; exemption net 2, node 7"
abbrev d-segments : SegmentColumns
d-segments =
    segment_columns (1 ∷ 2 ∷ []) (1 ∷ 1 ∷ []) (float 0 ∷ float 0x4010_0000_0000_0000 ∷ []) (float 0 ∷ float 0x4014_0000_0000_0000 ∷ [])
    (float 0x4024_0000_0000_0000 ∷ float 0x402e_0000_0000_0000 ∷ [])

abbrev d_reversed_segments : SegmentColumns
d_reversed_segments = segment_columns d-segments.net d-segments.orientation d-segments.fixed d-segments.end d-segments.start

abbrev d-nodes : NodeColumns
d-nodes = node_columns (7 ∷ []) (float 0x4000_0000_0000_0000 ∷ []) (float 0x3ff0_0000_0000_0000 ∷ []) (float 0x4008_0000_0000_0000 ∷ []) (float 0x4000_0000_0000_0000 ∷ [])

abbrev d-exemptions : ExemptionColumns
d-exemptions = exemption_columns (2 ∷ []) (7 ∷ [])

abbrev no_nodes : NodeColumns
no_nodes = node_columns [] [] [] [] []

abbrev refusal : ℕ → ℕ × Option TightPair
refusal n = (n, None)

abbrev pair_at : ℕ → ℕ → TightPair
pair_at i j = record { segment = i; node = j }

pub record PairExamples : Type 0 where
  -- in D there is a pair, whichever is chosen
  pub d : (i j : ℕ) → tight_pair_answer d-segments d-nodes d-exemptions (pair_at i j) ≡ Ok (Some (pair_at i j))
  -- segment 0 and node 0 are tight
  pub d-tight : Tight (exemptions d-exemptions) (segments d-segments) (nodes d-nodes) 0 0
  -- SCOPE 2.8: the same with both wires given from their greater ends
  pub d_reversed : (i j : ℕ) → tight_pair_answer d_reversed_segments d-nodes d-exemptions (pair_at i j) ≡ Ok (Some (pair_at i j))
  pub d_reversed_tight : Tight (exemptions d-exemptions) (segments d_reversed_segments) (nodes d-nodes) 0 0
  -- without nodes, and where every pair is exempt, there is none
  pub no_nodes_absent : (pair : TightPair) → tight_pair_answer d-segments no_nodes d-exemptions pair ≡ Ok None
  pub all-exempt_absent : (pair : TightPair) → tight_pair_answer d-segments d-nodes (exemption_columns (1 ∷ 2 ∷ []) (7 ∷ 7 ∷ [])) pair ≡ Ok None
  -- columns of different lengths are refused by 2, and a segment of no length by 5, with an absent pair
  pub columns_differ : (pair : TightPair) → result_of (tight_pair_answer d-segments d-nodes (exemption_columns (2 ∷ []) []) pair) ≡ refusal 2
  pub no_length : (pair : TightPair) → result_of (tight_pair_answer (segment_columns (1 ∷ []) (1 ∷ []) (float 0 ∷ []) (float 0 ∷ []) (float 0 ∷ [])) d-nodes d-exemptions pair) ≡ refusal 5

pub pair_examples : PairExamples
unfolding of_bits to_bits add sub lt some_of chosen cross lesser least greater_of lesser_of segments segments_of nodes_of exemptions_of least_gap number_of first_of differ too_many unfit_fields unfit_segment unfit_extent unfit_box unfit_node segments_differ nodes_differ exemptions_differ list_conditions entry_conditions tight_pair_conditions from_node from_segment node_box segment_box axis_gap distance exempt distances pair_if_any tight_pair_answer result_of
pair_examples = record {
  d = λ i j. refl;
  d-tight = record { segment = _; node = _; segment_at = refl; node_at = refl; free = refl; least = refl };
  d_reversed = λ i j. refl;
  d_reversed_tight = record { segment = _; node = _; segment_at = refl; node_at = refl; free = refl; least = refl };
  no_nodes_absent = λ pair. refl;
  all-exempt_absent = λ pair. refl;
  columns_differ = λ pair. refl;
  no_length = λ pair. refl;
}

abbrev net-of : Option Segment → ℕ
net-of None = 0
net-of (Some s) = s.net

abbrev id-of : Option Node → ℕ
id-of None = 0
id-of (Some n) = n.id

-- no other pair of D is tight: segment 1 and node 0 are exempt
only-tight : (i j : ℕ) → Tight (exemptions d-exemptions) (segments d-segments) (nodes d-nodes) i j → pair_at i j ≡ pair_at 0 0
unfolding greater_of lesser_of segments segments_of nodes_of exemptions_of exempt some_of
only-tight zero zero t = refl
only-tight zero (suc j) t = let z : ◌≡◌ {A = ℕ} 0 1 = cc t.node_at in absurd (omega arith)
only-tight (suc zero) zero t = clash _ (sym (λ i. exempt (exemptions d-exemptions) (ap net-of t.segment_at i) (ap id-of t.node_at i))) t.free
only-tight (suc zero) (suc j) t = let z : ◌≡◌ {A = ℕ} 0 1 = cc t.node_at in absurd (omega arith)
only-tight (suc (suc i)) j t = let z : ◌≡◌ {A = ℕ} 0 1 = cc t.segment_at in absurd (omega arith)

-- so a call for D answers segment 0 and node 0
pub d-answers : (r : Result (Option TightPair) Refusal) → Answered d-segments d-nodes d-exemptions r → r ≡ Ok (Some (pair_at 0 0))
d-answers r a =
    let i = a.choice.segment in
    let j = a.choice.node in
    let e = a.is ∙ pair_examples.d i j in
    e ∙ ap (λ (p : TightPair). Ok (Some p)) (only-tight i j (a.tight (pair_at i j) e))
