-- The five measures (SCOPE 6.1), each as its crate defines it, and what is meant by a run of one.
-- SCOPE 6.1, 6.2: "A measure is one of the four calls above whose names end in `_bounded`, or `measure_parallel_congestion`, which counts as having an allowance that always reaches".
use Rattle.std.specs.Prelude.{◌≡◌, Bool, true, false, not, List, [], ◌∷◌, ◌++◌, ℕ, leb, Float, length, Option, Some, None, Result, Ok}
use Rattle.std.specs.Float.{nan, inf, fin}
use Rattle.laws.specs.Perm.{Perm}
use Rattle.laws.specs.Charged.{Charged}
use Rattle.drawing.specs.declared.refusal.Refusal.{Refusal}
use Rattle.drawing.specs.Entries.{SegmentColumns, NodeColumns, ExemptionColumns, as_lent, segments, nodes, exemptions}
use Rattle.drawing.specs.Held.{Binary64, SegmentsHeld, NodesHeld}
use Rattle.drawing.specs.Refusals.{first_of, scratch_after}
use Rattle.clearance.specs.declared.report.EdgeNodeClearance.{EdgeNodeClearance}
use Rattle.clearance.specs.Conditions.{clearance_conditions}
use Rattle.clearance.specs.Figures as ofClearance
use Rattle.clearance.specs.Walk as clearanceWalk
use Rattle.clearance.specs.Answer as clearanceCall
use Rattle.separation.specs.declared.report.ParallelSeparation.{ParallelSeparation}
use Rattle.separation.specs.Conditions.{separation_conditions}
use Rattle.separation.specs.Figures as ofSeparation
use Rattle.separation.specs.Walk as separationWalk
use Rattle.separation.specs.Answer as separationCall
use Rattle.congestion.specs.declared.report.ParallelCongestion.{ParallelCongestion}
use Rattle.congestion.specs.declared.report.CongestionReport.{CongestionReport}
use Rattle.congestion.specs.Conditions.{congestion_conditions}
use Rattle.congestion.specs.Visits as congestionVisits
use Rattle.congestion.specs.AllPairs.{all_pairs}
use Rattle.congestion.specs.Walk as congestionWalk
use Rattle.congestion.specs.Answer.{density_answer, profile_answer, congestion_answer, without_density, report_of, zeros, result_of}

pub record Measure : Type 1 where
  -- SCOPE 6.6: "A drawing's lists are its segments, nodes and exemptions, as far as the measure takes them", as columns
  pub Drawing : Type 0
  -- SCOPE 6.6: "two orders hold the same whole entries, bit by bit, each equally often": the entries as they are lent, in whichever direction
  pub Reordered : Drawing → Drawing → Type 0
  -- SCOPE 6.6: "Settings are whatever else it is given to read, allowance and scratch left aside."
  pub Settings : Type 0
  -- SCOPE 1.3: every float that is lent or passed is a value of binary64
  pub Held : Drawing → Settings → Type 0
  -- SCOPE 2.4: the allowance, and whether it reaches a count
  pub Allowance : Type 0
  pub reaches : Allowance → ℕ → Bool
  -- SCOPE 7.2 to 7.6: the conditions of the refusals before 7, each with its refusal, for a scratch of the given number of words
  pub conditions : Drawing → Settings → ℕ → List (Bool × Refusal)
  -- SCOPE 3.0, the figures over all pairs
  pub Figures : Type 0
  pub figures : Drawing → Settings → Figures
  -- the floats among them
  pub floats : Figures → List Float
  -- SCOPE 4.2, 5: the Rust's walk with no limit: what it finds, at the cost of its visits
  pub walk : Drawing → Settings → Charged Figures
  -- SCOPE 4.1, the visit count: "That count is defined over lists and settings alone, the walk included, and takes nothing from the allowance, the scratch or the port's own tally."
  pub count : Drawing → Settings → ℕ
  -- the definition that the call's contract cites, with the length of the scratch
  pub Answer : Type 0
  pub answer : Drawing → Settings → Allowance → ℕ → Answer
  -- SCOPE 6.6: "A result is what the call returns, accepted or refused by number, with the report; lent memory is left aside."
  pub Result : Type 0
  pub result : Answer → Result
  -- the result of a report of figures and visits
  pub accepted : Figures → ℕ → Result
  -- SCOPE 6.3: "A refusal returns its number and a report of zeros and absent gaps"
  pub refused : ℕ → Result

-- ---- an allowance in visits reaches a count that is not above it
abbrev pub visits_reach : ℕ → ℕ → Bool
visits_reach allowance n = leb n allowance

-- ---- the floats of a report
-- the sign is plus, and it is not a NaN
abbrev pub unsigned : Float → Bool
unsigned nan = false
unsigned (inf s) = not s
unsigned (fin s m e) = not s

-- SCOPE 6.4, what a report holds: a value of binary64, not a NaN, not negative and not -0. IEEE 754 leaves the bits of a NaN open; any other value has one bit pattern, so equal ones are equal bit by bit.
abbrev pub Reported : Float → Type 0
Reported x = Binary64 x × (unsigned x ≡ true)

-- the float of a gap, where there is one
abbrev pub present : Option Float → List Float
present None = []
present (Some x) = x ∷ []

-- ---- `measure_edge_node_clearance_bounded`
pub record Lists : Type 0 where
  pub segments : SegmentColumns
  pub nodes : NodeColumns
  pub exemptions : ExemptionColumns

abbrev pub clearance : Measure
clearance = record {
  Drawing = Lists;
  Reordered = λ d e. Perm (as_lent d.segments) (as_lent e.segments) × Perm (nodes d.nodes) (nodes e.nodes) × Perm (exemptions d.exemptions) (exemptions e.exemptions);
  Settings = Float;
  Held = λ d threshold. SegmentsHeld d.segments × NodesHeld d.nodes × Binary64 threshold;
  Allowance = ℕ;
  reaches = visits_reach;
  conditions = λ d threshold words. clearance_conditions d.segments d.nodes d.exemptions threshold words;
  Figures = ofClearance.Figures;
  figures = λ d threshold. ofClearance.figures (exemptions d.exemptions) (λ net. threshold) (segments d.segments) (nodes d.nodes);
  floats = λ f. present f.least;
  walk = λ d threshold. clearanceWalk.walk_all (exemptions d.exemptions) (λ net. threshold) (segments d.segments) (nodes d.nodes);
  count = λ d threshold. clearanceWalk.visit_count (exemptions d.exemptions) (λ net. threshold) (segments d.segments) (nodes d.nodes);
  Answer = Result EdgeNodeClearance Refusal;
  answer = λ d threshold allowance words. clearanceCall.clearance_answer d.segments d.nodes d.exemptions threshold allowance words;
  Result = ℕ × EdgeNodeClearance;
  result = clearanceCall.result_of;
  accepted = λ f n. (0, clearanceCall.report_of f n);
  refused = λ k. (k, clearanceCall.zeros);
}

-- ---- `measure_parallel_separation_bounded`, which has no settings
abbrev pub separation : Measure
separation = record {
  Drawing = SegmentColumns;
  Reordered = λ s t. Perm (as_lent s) (as_lent t);
  Settings = Unit {0};
  Held = λ s none. SegmentsHeld s;
  Allowance = ℕ;
  reaches = visits_reach;
  conditions = λ s none words. separation_conditions s words;
  Figures = ofSeparation.Figures;
  figures = λ s none. ofSeparation.figures (segments s);
  floats = λ f. present f.least ++ present f.least_nonzero;
  walk = λ s none. separationWalk.walk_all (segments s);
  count = λ s none. separationWalk.visit_count (segments s);
  Answer = Result ParallelSeparation Refusal;
  answer = λ s none allowance words. separationCall.separation_answer s allowance words;
  Result = ℕ × ParallelSeparation;
  result = separationCall.result_of;
  accepted = λ f n. (0, separationCall.report_of f n);
  refused = λ k. (k, separationCall.zeros);
}

-- ---- the three calls of congestion (SCOPE 6.2), whose figures are a part of one report
abbrev pub of_congestion : (Charged (ParallelCongestion × Option Float) → Charged (ParallelCongestion × Option Float)) → (A : Type 0) → (A → ℕ → Bool) → (SegmentColumns → Float → A → ℕ → (Result CongestionReport Refusal)) → Measure
of_congestion part A reach answers = record {
  Drawing = SegmentColumns;
  Reordered = λ s t. Perm (as_lent s) (as_lent t);
  Settings = Float;
  Held = λ s cutoff. SegmentsHeld s × Binary64 cutoff;
  Allowance = A;
  reaches = reach;
  conditions = λ s cutoff words. congestion_conditions s cutoff words;
  Figures = ParallelCongestion × Option Float;
  figures = λ s cutoff. (part (all_pairs cutoff (segments s))).value;
  floats = λ f. f.0.total_length ∷ f.0.congested_length ∷ f.0.pair_overlap_length ∷ present f.1;
  walk = λ s cutoff. part (congestionWalk.walk_all cutoff (segments s));
  count = λ s cutoff. congestionVisits.visit_count cutoff (segments s);
  Answer = Result CongestionReport Refusal;
  answer = answers;
  Result = ℕ × CongestionReport;
  result = result_of;
  accepted = λ f n. (0, report_of f n);
  refused = λ k. (k, zeros);
}

-- SCOPE 6.2, `measure_parallel_density_profile_bounded`: "the congestion reference"
abbrev pub density : Measure
density = of_congestion (λ c. c) ℕ visits_reach density_answer

-- SCOPE 6.2, `measure_parallel_congestion_profile_bounded`: "is the same with pair overlap and peak zero"
abbrev pub profile : Measure
profile = of_congestion without_density ℕ visits_reach profile_answer

-- SCOPE 6.2, `measure_parallel_congestion`: "an allowance that always reaches"
abbrev pub congestion : Measure
congestion = of_congestion (λ c. c) (Unit {0}) (λ always n. true) (λ s cutoff always words. congestion_answer s cutoff words)

-- ---- the five measures of SCOPE 6.1
pub data Call : Type 0 where
  edge_node_clearance parallel_separation parallel_density_profile parallel_congestion_profile parallel_congestion : Call

abbrev pub measure_of : Call → Measure
measure_of edge_node_clearance = clearance
measure_of parallel_separation = separation
measure_of parallel_density_profile = density
measure_of parallel_congestion_profile = profile
measure_of parallel_congestion = congestion

-- ---- what a call's contract says of one call (SCOPE 8.5): one equation for what is returned, one for the scratch at exit, and that the floats of a drawing that passes the checks are values of binary64, as the type `f64` implies
pub record Says (m : Measure) (drawing : m.Drawing) (settings : m.Settings) (allowance : m.Allowance) (before : List ℕ) (returned : m.Answer) (after : List ℕ) : Type 0 where
  pub answers : returned ≡ m.answer drawing settings allowance (length before)
  pub leaves : after ≡ scratch_after (first_of (m.conditions drawing settings (length before))) before
  pub held : first_of (m.conditions drawing settings (length before)) ≡ Ok tt → m.Held drawing settings

-- a run of a measure: a call of which its contract holds, by columns or by a thin entry, whose list of records is read as columns (SCOPE 2.6). `readability`, specs/Calls, shows that the functions' own contracts imply it of every call.
pub record Run (m : Measure) : Type 0 where
  pub drawing : m.Drawing
  pub settings : m.Settings
  pub allowance : m.Allowance
  pub before : List ℕ
  pub returned : m.Answer
  pub after : List ℕ
  pub says : Says m drawing settings allowance before returned after

module _ (m : Measure) (r : Run m) where
  -- what the run returned, and the count of its drawing
  abbrev pub result_of_run : m.Result
  result_of_run = m.result r.returned

  abbrev pub visit_count : ℕ
  visit_count = m.count r.drawing r.settings

  -- SCOPE 8.4: the conditions of the refusals that are checked before 7, at this run
  abbrev pub earlier : List (Bool × Refusal)
  earlier = m.conditions r.drawing r.settings (length r.before)

  -- SCOPE 6.3: "The all-pairs report is the measure's figures above with its visit count."
  abbrev pub all_pairs_report : m.Result
  all_pairs_report = m.accepted (m.figures r.drawing r.settings) visit_count
