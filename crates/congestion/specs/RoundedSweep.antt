-- The sums of lengths as the Rust's sweep takes them, with IEEE 754's rounded steps (SCOPE 1.3, 5.12, 8.2, 9.1).
use Rattle.std.specs.Prelude.{List, [], ◌∷◌, map, Bool, true, false, ◌&&◌, cond, ℕ, pos, ltb, Float, length, get_or, Option, None}
use Rattle.std.specs.Bool.{beq}
use Rattle.std.specs.Float.{binary64}
use Rattle.std.specs.Float.Ieee.{add, sub, mul, lt, of_int}
use Rattle.laws.specs.Lists.{chosen, keep}
use Rattle.floats.specs.Values.{plus_zero, canonical_zero, gap_of}
use Rattle.drawing.specs.Entries.{Segment}
use Rattle.drawing.specs.Gaps.{least_gap, lesser_gap}
use Rattle.congestion.specs.Wires.{wire_of}
use Rattle.congestion.specs.Walk.{Item, numbered, WireEvent, wire_events, in_order, State, neighbor, step, begin}

-- the floats of each item's coordinates
pub record Coordinates : Type 0 where
  pub fixed : Item → Float
  pub start : Item → Float
  pub end : Item → Float

abbrev pub coordinate : Coordinates → WireEvent → Float
coordinate x e = cond e.ends (x.end e.item) (x.start e.item)

-- the Rust's variables that are floats
pub record Amounts : Type 0 where
  pub congested_length : Float
  pub pair_overlap_length : Float
  pub previous : Float
  pub minimum_positive : Option Float

-- `congested_length += congested_active as f64 * (coordinate.0 - previous)`, and the same for the pairs; then the least of the separations of the neighbors that are `> 0.0`
unfoldable pub rounded_step : ℕ → Coordinates → State → Amounts → WireEvent → Amounts
rounded_step c x st a e = record {
  congested_length = add binary64 a.congested_length (mul binary64 (of_int binary64 (pos st.congested_active)) (sub binary64 (coordinate x e) a.previous));
  pair_overlap_length = add binary64 a.pair_overlap_length (mul binary64 (of_int binary64 (pos st.close_pairs)) (sub binary64 (coordinate x e) a.previous));
  previous = coordinate x e;
  minimum_positive = lesser_gap a.minimum_positive (least_gap (chosen (λ r. neighbor c e.item.wire r && lt plus_zero (gap_of (x.fixed r.item) (x.fixed e.item))) (λ r. gap_of (x.fixed r.item) (x.fixed e.item)) st.wires));
}

-- the same over all events, with the states of the sweep
unfoldable pub rounded_run : ℕ → Coordinates → State → Amounts → List WireEvent → Amounts
rounded_run c x st a [] = a
rounded_run c x st a (e ∷ q) = rounded_run c x (step c st e).value (rounded_step c x st a e) q

-- before the first event: the sums are 0, and `previous` is its coordinate
abbrev pub first_amounts : Coordinates → List WireEvent → Amounts
first_amounts x [] = record { congested_length = plus_zero; pair_overlap_length = plus_zero; previous = plus_zero; minimum_positive = None }
first_amounts x (e ∷ q) = record { congested_length = plus_zero; pair_overlap_length = plus_zero; previous = coordinate x e; minimum_positive = None }

-- the floats of a list of segments, by index, zeros made +0
abbrev pub coordinates_of : List Segment → Coordinates
coordinates_of l = record {
  fixed = λ i. canonical_zero (get_or (map (λ (s : Segment). s.fixed) l) i.index plus_zero);
  start = λ i. canonical_zero (get_or (map (λ (s : Segment). s.start) l) i.index plus_zero);
  end = λ i. canonical_zero (get_or (map (λ (s : Segment). s.end) l) i.index plus_zero);
}

-- `congested_length_for_orientation`, the variables that are floats
unfoldable pub rounded_oriented : ℕ → List Segment → Amounts
rounded_oriented c l =
    let i = numbered 0 (map wire_of l) in
    let q = in_order (wire_events i) in
    rounded_run c (coordinates_of l) (begin i) (first_amounts (coordinates_of l) q) q

abbrev pub only_of : Bool → List Segment → List Segment
only_of h l = keep (λ s. beq h (wire_of s).horizontal) l

-- `congested_length`, `pair_overlap_length` and `minimum_positive_separation`
abbrev pub Sums : Type 0
Sums = Float × Float × Option Float

-- one orientation's figures join them `if oriented.len() >= 2`
unfoldable pub rounded_join : ℕ → Sums → List Segment → Sums
rounded_join c s l =
    let a = rounded_oriented c l in
    cond (ltb (length l) 2) s (add binary64 s.0 a.congested_length, add binary64 s.1 a.pair_overlap_length, lesser_gap s.2 a.minimum_positive)

-- `for horizontal in [true, false]`
unfoldable pub rounded_sweep : ℕ → List Segment → Sums
rounded_sweep c l = rounded_join c (rounded_join c (plus_zero, plus_zero, None) (only_of true l)) (only_of false l)
