-- SCOPE 8.2, demand 2: "The port may differ from the Rust only at the departures listed in document 01, which decides there; elsewhere every figure equals the Rust's, and is proved equal to the same figure taken over all pairs, IEEE 754 giving each rounded step."
-- `proofs/Demand2.antt` proves `Demand2`. The Rust's figures are those of its walk, defined step by step in the measures' crates with the departures of SCOPE 9 built in (docs/DIFFERENCES.md lists them); that the definition is the Rust's own is tested by running both (docs/EVIDENCE.md).
use Rattle.std.specs.Prelude.{◌≡◌, true, List, ℕ, ◌+◌, ◌^◌, ◌<◌, leb, ltb, Float}
use Rattle.std.specs.Float.Ieee.{lt}
use Rattle.laws.specs.Lists.{Mem, All}
use Rattle.floats.specs.Values.{plus_zero, canonical_zero}
use Rattle.floats.specs.TotalOrder.{total_order, key, key_of}
use Rattle.floats.specs.Grid.{on_grid, unit}
use Rattle.drawing.specs.Entries.{Segment, SegmentColumns, segments}
use Rattle.drawing.specs.Held.{Binary64}
use Rattle.rows.specs.Rows.{Row}
use Rattle.separation.specs.Searches.{other_in}
use Rattle.separation.specs.TwoNets.{has_other, summary_over}
use Rattle.congestion.specs.Wires.{wire_of, cutoff_of}
use Rattle.congestion.specs.Walk.{in_range}
use Rattle.congestion.specs.Rounded.{in_range_floats, rounded_total, rounded_overlap}
use Rattle.congestion.specs.RoundedSweep.{rounded_sweep}
use Rattle.demands.specs.Applies.{NoneApplies}
use Rattle.demands.specs.Measures.{Measure, Run, Reported, result_of_run, visit_count, earlier, Call, measure_of, density}

pub record AllPairs (m : Measure) : Type 0 where
  -- SCOPE 6.4, 8.3, "bit by bit": every float of the figures has one bit pattern, since none is a NaN
  pub numbers : (r : Run m) → NoneApplies (earlier m r) → All Reported (m.floats (m.figures r.drawing r.settings))
  -- the figures of the walk, which skips pairs, are the figures over all pairs, bit by bit, and its visits are the count
  pub walk : (r : Run m) → NoneApplies (earlier m r) → m.walk r.drawing r.settings ≡ record { value = m.figures r.drawing r.settings; cost = visit_count m r }
  -- so an accepted call returns what the walk finds, which is the report over all pairs
  pub returned : (r : Run m) → NoneApplies (earlier m r) → m.reaches r.allowance (visit_count m r) ≡ true → result_of_run m r ≡ m.accepted (m.figures r.drawing r.settings) (m.walk r.drawing r.settings).cost

-- SCOPE 5.12, 9.1: congestion's figures are defined in whole numbers of 1/64. "There every sum and product is exact": the same sums with IEEE 754's rounding at each step are these figures, bit by bit. `rounded_total` and `rounded_overlap` are over the segments and over all pairs, `rounded_sweep` adds in the Rust's order. Two rounded steps, `fixed - cutoff` and `fixed + cutoff`, decide which lines the Rust's sweep visits: for a cutoff above 0 they are those of the sweep in 64ths. All three calls have these figures, the profile's without overlap and peak.
pub record Exact (s : SegmentColumns) (cutoff : Float) : Type 0 where
  pub total : rounded_total (segments s) ≡ (density.figures s cutoff).0.total_length
  pub overlap : rounded_overlap cutoff (segments s) ≡ (density.figures s cutoff).0.pair_overlap_length
  pub swept_congested : (rounded_sweep (cutoff_of cutoff) (segments s)).0 ≡ (density.figures s cutoff).0.congested_length
  pub swept_overlap : (rounded_sweep (cutoff_of cutoff) (segments s)).1 ≡ (density.figures s cutoff).0.pair_overlap_length
  pub swept_least : (rounded_sweep (cutoff_of cutoff) (segments s)).2 ≡ (density.figures s cutoff).1
  pub range : lt plus_zero cutoff ≡ true → (a b : Segment) → Mem a (segments s) → Mem b (segments s) → in_range_floats cutoff a b ≡ in_range (cutoff_of cutoff) (wire_of a) (wire_of b)

-- what the definitions use instead of the Rust's own comparisons
pub record Comparisons : Type 0 where
  -- SCOPE 1.3, 9.4, "floats by totalOrder": the definitions compare keys, whose order is IEEE 754's totalOrder of the bit patterns
  pub total-order : (a b : ℕ) → a < 2 ^ 64 → b < 2 ^ 64 → leb (key a) (key b) ≡ total_order a b
  -- SCOPE 5.9, 5.12: the Rust orders congestion's events by totalOrder of their coordinates, the sweep by their 64ths: on the grid, zeros taken as +0 (SCOPE 9.2), both orders are the same
  pub grid-order : (x y : Float) → Binary64 x → Binary64 y → on_grid x ≡ true → on_grid y ≡ true → ltb (key_of (canonical_zero x)) (key_of (canonical_zero y)) ≡ ltb (unit x) (unit y)
  -- SCOPE 5.11: the Rust's tree of active nets keeps two different nets for each node; the walk of separation asks whether any other net is active on the node's lines
  pub two-nets : (ls : List ℕ) (active : List Row) (net h first : ℕ) → has_other (summary_over ls active h first) net ≡ other_in ls active net first (first + 2 ^ h)

pub record Demand2 : Type 0 where
  pub of_each : (call : Call) → AllPairs (measure_of call)
  pub exact : (r : Run density) → NoneApplies (earlier density r) → Exact r.drawing r.settings
  pub comparisons : Comparisons
