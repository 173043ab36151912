-- SCOPE 8.3, demand 3, over the five measures. A run is a call by columns or by records, so any two calls may be one of each; that every call of the functions is a run is shown in `readability`, specs/Calls. `proofs/Demand3.antt` proves `Demand3`.
use Rattle.std.specs.Prelude.{◌≡◌, ◌⊎◌, ◌↔◌, true, false, List, ℕ, ◌+◌, ◌*◌, ◌≤◌, Float, length}
use Rattle.drawing.specs.Entries.{Segment, SegmentColumns, segments, nodes}
use Rattle.rows.specs.Rows.{oriented}
use Rattle.separation.specs.Lines.{lines, levels}
use Rattle.congestion.specs.Visits as congestionVisits
use Rattle.congestion.specs.Visits.{segments_along}
use Rattle.demands.specs.Applies.{NoneApplies}
use Rattle.demands.specs.Measures.{Measure, Run, result_of_run, visit_count, earlier, all_pairs_report, Lists, clearance, separation, density, profile, congestion, Call, measure_of}

-- SCOPE 8.3: "Take any two calls of one measure on one drawing with the same settings, its lists in any two orders, under any two allowances and whatever either scratch held before. Where neither call meets an earlier refusal"
pub record AnyTwo (m : Measure) (a b : Run m) : Type 0 where
  pub reordered : m.Reordered a.drawing b.drawing
  pub same-settings : a.settings ≡ b.settings
  pub one-fit : NoneApplies (earlier m a)
  pub other-fit : NoneApplies (earlier m b)

-- SCOPE 8.3: "both allowances reach that drawing's visit count or neither does"
abbrev pub BothOrNeither : (m : Measure) → ℕ → m.Allowance → m.Allowance → Type 0
BothOrNeither m n x y = ((m.reaches x n ≡ true) × (m.reaches y n ≡ true)) ⊎ ((m.reaches x n ≡ false) × (m.reaches y n ≡ false))

pub record Depends (m : Measure) : Type 0 where
  -- SCOPE 4.1, 9.4: the drawing has one visit count, whichever order its lists are in
  pub one-count : (a b : Run m) → AnyTwo m a b → visit_count m a ≡ visit_count m b
  -- SCOPE 8.3: "their results are equal, bit by bit, exactly when both allowances reach that drawing's visit count or neither does"
  pub equal : (a b : Run m) → AnyTwo m a b → (result_of_run m a ≡ result_of_run m b) ↔ BothOrNeither m (visit_count m a) a.allowance b.allowance
  -- SCOPE 8.3: "A call whose allowance reaches it returns the all-pairs report, whose visits are that count"
  pub reached : (r : Run m) → NoneApplies (earlier m r) → m.reaches r.allowance (visit_count m r) ≡ true → result_of_run m r ≡ all_pairs_report m r
  -- SCOPE 8.3: "a call whose allowance does not returns the spent-allowance refusal", which is 7
  pub spent : (r : Run m) → NoneApplies (earlier m r) → m.reaches r.allowance (visit_count m r) ≡ false → result_of_run m r ≡ m.refused 7

-- ---- the counts
-- SCOPE 4.4, 5.8: "and 2 to the power h its leaf count": the tree has a leaf for each different fixed coordinate, rounded up to a power of two
abbrev pub height : ℕ → List Segment → ℕ
height orientation l = levels (length (lines (oriented orientation l)))

-- SCOPE 4.4: "n times (10h + 5)", where "n is that orientation's segments"
abbrev pub at_most : ℕ → List Segment → ℕ
at_most orientation l = segments_along orientation l * (10 * height orientation l + 5)

pub record Counts : Type 0 where
  -- SCOPE 4.3: "Clearance's count is at most segments times nodes", whatever the lists hold
  pub clearance-at_most : (d : Lists) (threshold : Float) → clearance.count d threshold ≤ length (segments d.segments) * length (nodes d.nodes)
  -- SCOPE 4.4: "separation's at most what document 01's formula gives": "the sum over orientations of n times (10h + 5)"
  pub separation-at_most : (d : SegmentColumns) → separation.count d tt ≤ at_most 1 (segments d) + at_most 0 (segments d)
  -- SCOPE 4.5: "congestion's exactly what its formula gives": each of the three calls counts by the formula itself, which `congestion` states beside its sentence; that the walk's visits are this count is demand 2 (`AllPairs`: `walk`)
  pub density_exactly : (d : SegmentColumns) (cutoff : Float) → density.count d cutoff ≡ congestionVisits.visit_count cutoff (segments d)
  pub profile_exactly : (d : SegmentColumns) (cutoff : Float) → profile.count d cutoff ≡ congestionVisits.visit_count cutoff (segments d)
  pub congestion_exactly : (d : SegmentColumns) (cutoff : Float) → congestion.count d cutoff ≡ congestionVisits.visit_count cutoff (segments d)

pub record Demand3 : Type 0 where
  pub of_each : (call : Call) → Depends (measure_of call)
  pub counts : Counts
