-- SCOPE 14.1 to 14.6: "These are shut out: 5 or 6 for drawings that are fit (demand 2); absent gaps for every drawing (2); a sweep that handles its first event and copies that to the rest (2); a visit total not taken from the walk (3); 7 before the first visit though the allowance suffices (3); 7 for all drawings (3); a call that leaves its scratch as found (1)."
-- What every call that meets its contract does on drawing D, on the drawings of the marked cases and on one where a node is pruned, by columns or by records, whatever its allowance and whatever its scratch holds, of any length from the least of SCOPE 2.7 on: a program of these kinds does otherwise on one of them. `proofs/ShutOut.antt` proves `ShutOut`.
use Rattle.std.specs.Prelude.{◌≡◌, true, false, [], ◌∷◌, ℕ, ◌≤◌, Float, length, Option, Some, None}
use Rattle.drawing.specs.Entries.{SegmentColumns, NodeColumns, node_columns}
use Rattle.congestion.specs.declared.report.ParallelCongestion.{ParallelCongestion}
use Rattle.congestion.specs.Answer.{without_density}
use Rattle.demands.specs.Measures.{Measure, Run, result_of_run, clearance, separation, density, profile, congestion}
use Rattle.demands.specs.Demand1.{Returns, cleared}
use Rattle.demands.specs.Marked.{zero, minus_zero, one, minus_one, two, three, four, five, six, nine, ten, twenty, a_128th, a_64th, a_32nd, the_most, no_segments, alone, pair, D, node_7, no_nodes, D_exemptions}

-- a call on this drawing with these settings, with a scratch of at least the given number of words
pub record On (m : Measure) (drawing : m.Drawing) (settings : m.Settings) (words : ℕ) (r : Run m) : Type 0 where
  pub same-drawing : r.drawing ≡ drawing
  pub same-settings : r.settings ≡ settings
  pub enough : words ≤ length r.before

-- a drawing with these figures and this number of visits
pub record Measured (m : Measure) (drawing : m.Drawing) (settings : m.Settings) (words : ℕ) (figures : m.Figures) (visits : ℕ) : Type 0 where
  -- SCOPE 14.4, "a visit total not taken from the walk": the visits are those of the walk, and the figures what it finds (every run on it implies that its floats are values of binary64)
  pub walk : m.Held drawing settings → m.walk drawing settings ≡ record { value = figures; cost = visits }
  -- SCOPE 14.1, 14.5, "5 or 6 for drawings that are fit", "7 before the first visit though the allowance suffices", "7 for all drawings": whatever allowance reaches the visits, the call is accepted; SCOPE 14.2, 14.3, "absent gaps", "a sweep that handles its first event": with these figures; and with these visits, which do not depend on the allowance
  pub accepted : (r : Run m) → On m drawing settings words r → m.reaches r.allowance visits ≡ true → result_of_run m r ≡ m.accepted figures visits
  -- SCOPE 7.7: 7 for any other allowance, and nothing else; there is none where the visits are 0, nor for the call without an allowance
  pub spent : (r : Run m) → On m drawing settings words r → m.reaches r.allowance visits ≡ false → result_of_run m r ≡ m.refused 7
  -- SCOPE 14.6, "a call that leaves its scratch as found": it is zero, whatever it held before
  pub scratch : (r : Run m) → On m drawing settings words r → r.after ≡ cleared r.before

-- a drawing that is refused by that number, for every allowance, and the scratch is as it was
abbrev pub RefusedWith : (m : Measure) → m.Drawing → m.Settings → ℕ → ℕ → Type 0
RefusedWith m drawing settings words number = (r : Run m) → On m drawing settings words r → Returns m r (m.refused number) r.before

-- ---- congestion, by all three calls
-- total, congested, pair overlap, peak; and the least nonzero close gap
abbrev congestion_figures : Float → Float → Float → ℕ → Option Float → ParallelCongestion × Option Float
congestion_figures t c o p g = (record { total_length = t; congested_length = c; pair_overlap_length = o; peak_close_neighbors = p }, g)

pub record Congestion (drawing : SegmentColumns) (cutoff : Float) (words : ℕ) (figures : ParallelCongestion × Option Float) (visits : ℕ) : Type 0 where
  pub by-density : Measured density drawing cutoff words figures visits
  -- SCOPE 6.2: "is the same with pair overlap and peak zero"
  pub by-profile : Measured profile drawing cutoff words (without_density (record { value = figures; cost = visits })).value visits
  -- without an allowance
  pub by-congestion : Measured congestion drawing cutoff words figures visits

pub record OffTheGrid (drawing : SegmentColumns) (cutoff : Float) (words : ℕ) : Type 0 where
  pub by-density : RefusedWith density drawing cutoff words 6
  pub by-profile : RefusedWith profile drawing cutoff words 6
  pub by-congestion : RefusedWith congestion drawing cutoff words 6

-- D's node 7, and a node 8 below it, farther from D's first segment
abbrev nodes_7_and_8 : NodeColumns
nodes_7_and_8 = node_columns (7 ∷ 8 ∷ []) (two ∷ two ∷ []) (one ∷ twenty ∷ []) (three ∷ three ∷ []) (two ∷ two ∷ [])

pub record ShutOut : Type 0 where
  -- ---- drawing D (SCOPE 11.5), each line of its sheet: every gap is present. Its sweeps begin with net 1 alone: the first event finds no pair.
  pub D_clearance : Measured clearance (record { segments = D; nodes = node_7 one; exemptions = D_exemptions }) two 160 (record { least = Some one; violations = 1 }) 2
  pub D_separation : Measured separation D tt 128 (record { least = Some four; least_nonzero = Some four }) 16
  pub D_congestion : Congestion D six 128 (congestion_figures twenty ten five 1 (Some four)) 4
  -- a node that the walk prunes: one visit for one segment and two nodes
  pub one_pruned : Measured clearance (record { segments = alone 1 zero zero ten; nodes = nodes_7_and_8; exemptions = D_exemptions }) zero 160 (record { least = Some one; violations = 0 }) 1
  -- ---- the drawings of SCOPE 13, by the letters of the cases; (b) and (c) are D's
  pub a : Measured separation (alone 1 zero zero ten) tt 96 (record { least = None; least_nonzero = None }) 0
  pub d : Measured separation (pair 1 2 (zero, zero, five) (four, five, nine)) tt 128 (record { least = None; least_nonzero = None }) 14
  pub e : Measured separation (pair 1 2 (four, zero, ten) (four, five, nine)) tt 128 (record { least = Some zero; least_nonzero = None }) 10
  pub f : Measured separation (pair 1 1 (zero, zero, ten) (one, five, nine)) tt 128 (record { least = None; least_nonzero = None }) 14
  pub g : Measured clearance (record { segments = alone 1 zero zero ten; nodes = node_7 two; exemptions = D_exemptions }) two 128 (record { least = Some two; violations = 0 }) 1
  pub h : RefusedWith clearance (record { segments = D; nodes = no_nodes; exemptions = D_exemptions }) minus_one 128 5
  pub i : Measured clearance (record { segments = no_segments; nodes = node_7 one; exemptions = D_exemptions }) zero 96 (record { least = None; violations = 0 }) 0
  pub j : Congestion D four 128 (congestion_figures twenty zero zero 0 None) 2
  pub k_passes : Congestion (alone 1 the_most a_64th a_32nd) a_64th 96 (congestion_figures a_64th zero zero 0 None) 0
  pub k_off_the_grid : OffTheGrid (alone 1 the_most a_128th a_32nd) a_64th 96
  pub l : Congestion (pair 1 2 (minus_one, zero, ten) (minus_zero, zero, ten)) one 128 (congestion_figures twenty zero zero 0 None) 2
