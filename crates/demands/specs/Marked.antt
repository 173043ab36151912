-- The marked cases of SCOPE 13, (a) to (l), each as the result of a measure's definition on a drawing. `proofs/Marked.antt` proves `Marked`.
-- Where SCOPE 13 gives no visits the equation states those that the definition counts.
use Rattle.std.specs.Prelude.{◌≡◌, [], ◌∷◌, ℕ, Float, Option, Some, None}
use Rattle.std.specs.Float.{binary64}
use Rattle.std.specs.Float.Ieee.{of_bits}
use Rattle.drawing.specs.Entries.{SegmentColumns, NodeColumns, ExemptionColumns, segment_columns, node_columns, exemption_columns}
use Rattle.demands.specs.Measures.{Measure, clearance, separation, density}

-- ---- floats by their bits
abbrev pub from_bits : ℕ → Float
from_bits bits = of_bits binary64 bits

abbrev pub zero : Float
zero = from_bits 0

abbrev pub minus_zero : Float
minus_zero = from_bits 0x8000_0000_0000_0000

abbrev pub one : Float
one = from_bits 0x3ff0_0000_0000_0000

abbrev pub minus_one : Float
minus_one = from_bits 0xbff0_0000_0000_0000

abbrev pub two : Float
two = from_bits 0x4000_0000_0000_0000

abbrev pub three : Float
three = from_bits 0x4008_0000_0000_0000

abbrev pub four : Float
four = from_bits 0x4010_0000_0000_0000

abbrev pub five : Float
five = from_bits 0x4014_0000_0000_0000

abbrev pub six : Float
six = from_bits 0x4018_0000_0000_0000

abbrev pub nine : Float
nine = from_bits 0x4022_0000_0000_0000

abbrev pub ten : Float
ten = from_bits 0x4024_0000_0000_0000

abbrev pub fifteen : Float
fifteen = from_bits 0x402e_0000_0000_0000

abbrev pub twenty : Float
twenty = from_bits 0x4034_0000_0000_0000

abbrev pub a_128th : Float
a_128th = from_bits 0x3f80_0000_0000_0000

abbrev pub a_64th : Float
a_64th = from_bits 0x3f90_0000_0000_0000

abbrev pub a_32nd : Float
a_32nd = from_bits 0x3fa0_0000_0000_0000

-- 1,048,576
abbrev pub the_most : Float
the_most = from_bits 0x4130_0000_0000_0000

-- ---- drawings: horizontal segments, each by its fixed coordinate, start and end
abbrev pub no_segments : SegmentColumns
no_segments = segment_columns [] [] [] [] []

abbrev pub alone : ℕ → Float → Float → Float → SegmentColumns
alone net fixed start end = segment_columns (net ∷ []) (1 ∷ []) (fixed ∷ []) (start ∷ []) (end ∷ [])

abbrev pub pair : ℕ → ℕ → (Float × Float × Float) → (Float × Float × Float) → SegmentColumns
pair m n a b = segment_columns (m ∷ n ∷ []) (1 ∷ 1 ∷ []) (a.0 ∷ b.0 ∷ []) (a.1 ∷ b.1 ∷ []) (a.2 ∷ b.2 ∷ [])

-- SCOPE 11.5: "Drawing D: net 1 horizontal at 0 from 0 to 10; net 2 horizontal at 4 from 5 to 15; node 7 with x 2, y 1, width 3, height 2; exemption net 2, node 7; threshold 2, cutoff 6"
abbrev pub D : SegmentColumns
D = pair 1 2 (zero, zero, ten) (four, five, fifteen)

abbrev pub node_7 : Float → NodeColumns
node_7 y = node_columns (7 ∷ []) (two ∷ []) (y ∷ []) (three ∷ []) (two ∷ [])

abbrev pub no_nodes : NodeColumns
no_nodes = node_columns [] [] [] [] []

abbrev pub D_exemptions : ExemptionColumns
D_exemptions = exemption_columns (2 ∷ []) (7 ∷ [])

-- ---- the results: a measure on a drawing with its settings, under an allowance, with a scratch of the given number of words
abbrev pub result_on : (m : Measure) → m.Drawing → m.Settings → m.Allowance → ℕ → m.Result
result_on m drawing settings allowance words = m.result (m.answer drawing settings allowance words)

-- separation: least, least nonzero, visits
abbrev pub separation_is : Option Float → Option Float → ℕ → separation.Result
separation_is g h n = separation.accepted (record { least = g; least_nonzero = h }) n

-- clearance: least, violations, visits
abbrev pub clearance_is : Option Float → ℕ → ℕ → clearance.Result
clearance_is g v n = clearance.accepted (record { least = g; violations = v }) n

-- congestion: total, congested, pair overlap, peak, least nonzero close gap, visits
abbrev pub congestion_is : Float → Float → Float → ℕ → Option Float → ℕ → density.Result
congestion_is t c o p g n = density.accepted (record { total_length = t; congested_length = c; pair_overlap_length = o; peak_close_neighbors = p }, g) n

pub record Marked : Type 0 where
  -- SCOPE 13.a: "(a) one segment, allowance 0: separation absent, 0 visits"
  pub a : result_on separation (alone 1 zero zero ten) tt 0 96 ≡ separation_is None None 0
  -- SCOPE 13.b: "(b) D's separation accepted at 16, refused at 15"
  pub b-accepted : result_on separation D tt 16 128 ≡ separation_is (Some four) (Some four) 16
  pub b-refused : result_on separation D tt 15 128 ≡ separation.refused 7
  -- SCOPE 13.c: "(c) D's congestion at 4 and 3"
  pub c-accepted : result_on density D six 4 128 ≡ congestion_is twenty ten five 1 (Some four) 4
  pub c-refused : result_on density D six 3 128 ≡ density.refused 7
  -- SCOPE 13.d: "(d) 0 to 5 and 5 to 9, nets 1 and 2: absent"
  pub d : result_on separation (pair 1 2 (zero, zero, five) (four, five, nine)) tt 1000 128 ≡ separation_is None None 14
  -- SCOPE 13.e: "(e) equal fixed, overlapping, two nets: least 0, nonzero absent"
  pub e : result_on separation (pair 1 2 (four, zero, ten) (four, five, nine)) tt 1000 128 ≡ separation_is (Some zero) None 10
  -- SCOPE 13.f: "(f) one net, gap 1: absent"
  pub f : result_on separation (pair 1 1 (zero, zero, ten) (one, five, nine)) tt 1000 128 ≡ separation_is None None 14
  -- SCOPE 13.g: "(g) distance 2, threshold 2: no violation"
  pub g : result_on clearance (record { segments = alone 1 zero zero ten; nodes = node_7 two; exemptions = D_exemptions }) two 1000 160 ≡ clearance_is (Some two) 0 1
  -- SCOPE 13.h: "(h) no nodes, threshold -1: 5"
  pub h : result_on clearance (record { segments = D; nodes = no_nodes; exemptions = D_exemptions }) minus_one 1000 160 ≡ clearance.refused 5
  -- SCOPE 13.i: "(i) no segments, threshold 0: absent, 0, 0"
  pub i : result_on clearance (record { segments = no_segments; nodes = node_7 one; exemptions = D_exemptions }) zero 0 160 ≡ clearance_is None 0 0
  -- SCOPE 13.j: "(j) gap 4, cutoff 4, two overlapping segments: congested 0, 2 visits"
  pub j : result_on density D four 2 128 ≡ congestion_is twenty zero zero 0 None 2
  -- SCOPE 13.k: "(k) 1/64 and 1,048,576 pass, 1/128 gives 6"
  pub k_passes : result_on density (alone 1 the_most a_64th a_32nd) a_64th 0 96 ≡ congestion_is a_64th zero zero 0 None 0
  pub k_off_the_grid : result_on density (alone 1 the_most a_128th a_32nd) a_64th 0 96 ≡ density.refused 6
  -- SCOPE 13.l: "(l) fixed -1 and -0, cutoff 1: not close"
  pub l : result_on density (pair 1 2 (minus_one, zero, ten) (minus_zero, zero, ten)) one 2 128 ≡ congestion_is twenty zero zero 0 None 2
  -- SCOPE 11.5, D's sheet: "clearance 3ff0000000000000 1 2", "separation 4010000000000000 4010000000000000 16", "congestion 4034000000000000 4024000000000000 4014000000000000 1 4010000000000000 4"; the last two are (b) and (c)
  pub sheet : result_on clearance (record { segments = D; nodes = node_7 one; exemptions = D_exemptions }) two 1000 160 ≡ clearance_is (Some one) 1 2
