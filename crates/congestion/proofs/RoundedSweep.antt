-- The Rust's float sums along the sweep are the floats of the sums in 64ths. Assumes nothing.
use Rattle.std.specs.Prelude.{None, Some}
use mathlib.Core.Path.{◌≡◌, refl, sym, ap, ap₂, ◌∙◌, subst}
use mathlib.Core.Logic.{inl}
use mathlib.Core.List.{List, [], ◌∷◌}
use mathlib.Core.Bool.{Bool, true, false, not, ◌&&◌, cond, beq}
use Prim.Native.Nat.{ℕ, ◌+◌, ◌-◌, ◌*◌, ◌^◌, ◌≤◌, ◌<◌}
use native.Mathlib.Omega.{arith}
use native.Mathlib.Nat.{le_refl, le_trans, le_of_eq, lt_of_le_of_lt, mul-le-mul}
use lib.IntN.{pos}
use lib.Dec.{ltb, eqb, lit≤}
use lib.ListN.{length, length-map}
use lib.Ieee.{Float, binary64, add, sub, mul, lt, of_int}
use Rattle.laws.specs.Lists.{Mem, chosen, pairs}
use Rattle.laws.specs.Charged.{runs}
use Rattle.laws.specs.Least.{lesser}
use Rattle.laws.proofs.ListLaws.{mem_map}
use Rattle.laws.proofs.Folds.{fold_same, count-at_most}
use Rattle.floats.specs.Values.{plus_zero, gap_of}
use Rattle.floats.specs.Grid.{unit, of_units}
use Rattle.floats.proofs.Units.{accumulate}
use Rattle.congestion.specs.Wires.{Wire}
use Rattle.drawing.specs.Gaps.{least_gap, lesser_gap}
use Rattle.congestion.specs.Figures.{apart, congested, pair_overlap}
use Rattle.congestion.specs.Walk.{Item, WireState, WireEvent, State, numbered, at, wire_events, in_order, neighbor, gap, least_here, step, first_at, begin, sweep, gap_of_units}
use Rattle.congestion.specs.Inner.Keys.{Representable}
use Rattle.congestion.specs.RoundedSweep.{Coordinates, coordinate, Amounts, rounded_step, rounded_run, first_amounts}
use Rattle.congestion.proofs.Sets.{neighbors_in}
use Rattle.congestion.proofs.FoldLaws.{fewest}
use Rattle.congestion.proofs.Tracking.{facing, row_in, Tracks}
use Rattle.congestion.proofs.Moments.{Fit, Pending, event, active_at, item∈}
use Rattle.congestion.proofs.Passing.{run, congested-stepped, overlap-stepped, previous-stepped, least-stepped, sweep_ind}
use Rattle.congestion.proofs.Fitness.{Stands, zero_stands}
use Rattle.congestion.proofs.EventOrder.{in_list}
use Rattle.congestion.proofs.Beginning.{Sound, wires-of, fit-numbered, pending, tracks}
use Rattle.congestion.proofs.Oriented.{apart-turn, least_units, congested-is, overlap-is, least-is}
use Rattle.congestion.proofs.Bounds.{Small, pairs-length, congested-small, overlap-small}
use Rattle.congestion.proofs.RoundedSums.{zero_units}
use Rattle.congestion.proofs.LeastGap.{held-lesser, held-fold, held-gap, lesser-gap, least-of-chosen, grid-gap, above_zero, nonzero-one}

pub record ItemStands (x : Coordinates) (i : Item) : Type 0 where
  pub fixed : Stands (x.fixed i) i.wire.fixed
  pub start : Stands (x.start i) i.wire.start
  pub end : Stands (x.end i) i.wire.end

event_stands : (x : Coordinates) (b : Bool) (i : Item) → ItemStands x i → Stands (coordinate x (event b i)) (at (event b i))
event_stands x true i s = s.end
event_stands x false i s = s.start

-- ---- one step of a sum: sum += count * (coordinate - previous)
pub one-step : (z n : ℕ) (x y : Float) (u v f : ℕ) → Stands x u → Stands y v → v ≤ u → n ≤ 16777216 → z + n * (u - v) ≤ f → f < 2 ^ 53 → add binary64 (of_units z) (mul binary64 (of_int binary64 (pos n)) (sub binary64 x y)) ≡ of_units (z + n * (u - v))
one-step z n x y u v f sx sy h k b w =
    accumulate z n x y sx.grid sy.grid sx.plain (rw (sx.is, sy.is) h) (omega arith) (le_trans k (lit≤ {m = 16777216} {n = 2 ^ 53} tt)) (rw (sx.is, sy.is) (omega arith))
    ∙ ap₂ (λ (a b : ℕ). of_units (z + n * (a - b))) sx.is sy.is

-- the floats of a state
pub record Matches (st : State) (a : Amounts) : Type 0 where
  pub congested : a.congested_length ≡ of_units st.congested_length
  pub overlap : a.pair_overlap_length ≡ of_units st.pair_overlap_length
  pub last : Stands a.previous st.previous
  pub least : a.minimum_positive ≡ gap_of_units st.minimum_positive
  pub held : Representable st.minimum_positive

-- ---- counts are small
module _ (c : ℕ) (l : List Item) (few : length l ≤ 4096) where
  pub active-few : (t : ℕ) (st : State) → Tracks c l (active_at t) st → st.congested_active ≤ 16777216
  active-few t st tr = let e = tr.active-is in let h = count-at_most (λ i. active_at t i && not (eqb (neighbors_in (facing c) l (active_at t) i) 0)) l in omega arith

  pub pairs-few : (t : ℕ) (st : State) → Tracks c l (active_at t) st → st.close_pairs ≤ 16777216
  pairs-few t st tr =
      let e = tr.pairs_are in
      let h = count-at_most (λ p. active_at t p.0 && (active_at t p.1 && facing c p.0 p.1)) (pairs l) in
      let n = pairs-length l in
      let q = mul-le-mul few few in
      omega arith

-- ---- a sum that grows with each event is at most the last
module _ (c : ℕ) where
  sum_grows : (acc : State → ℕ) → ((b : Bool) (i : Item) (st : State) → acc st ≤ acc (step c st (event b i)).value) → (q : List WireEvent) (st : State) → acc st ≤ acc (run c q st)
  unfolding runs
  sum_grows acc h [] st = le_refl (acc st)
  sum_grows acc h (e ∷ q) st = le_trans (h e.ends e.item st) (sum_grows acc h q (step c st e).value)

  pub congested_grows : (q : List WireEvent) (st : State) → st.congested_length ≤ (run c q st).congested_length
  congested_grows = sum_grows (λ st. st.congested_length) (λ b i st. omega (arith, congested-stepped c b i st))

  pub overlap_grows : (q : List WireEvent) (st : State) → st.pair_overlap_length ≤ (run c q st).pair_overlap_length
  overlap_grows = sum_grows (λ st. st.pair_overlap_length) (λ b i st. omega (arith, overlap-stepped c b i st))

module _ (c : ℕ) (l : List Item) (fit : Fit l) (few : length l ≤ 4096) (x : Coordinates) (stands : (i : Item) → Mem i l → ItemStands x i) where
  -- ---- the least gap to a neighbor
  module _ (w : Item → Bool) (st : State) (tr : Tracks c l w st) (s : Item) (s∈ : Mem s l) where
    row-item : (r : WireState) → Mem r st.wires → Mem r.item l
    row-item r m = let k = mem_map (row_in c l w) l r (subst (Mem r) tr.rows_are m) in subst (λ (i : Item). Mem i l) (sym (ap (λ (z : WireState). z.item) k.2)) k.1

    separation : (r : WireState) → Mem r st.wires → (gap_of (x.fixed r.item) (x.fixed s) ≡ of_units (apart s.wire.fixed r.item.wire.fixed)) × (apart s.wire.fixed r.item.wire.fixed < 2 ^ 53)
    separation r m =
        let f = (stands r.item (row-item r m)).fixed in
        let g = (stands s s∈).fixed in
        let h = grid-gap (x.fixed r.item) (x.fixed s) f.grid g.grid in
        let e : apart (unit (x.fixed r.item)) (unit (x.fixed s)) ≡ apart s.wire.fixed r.item.wire.fixed = ap₂ apart f.is g.is ∙ apart-turn r.item.wire.fixed s.wire.fixed in
        (h.0 ∙ ap of_units e, subst (λ (n : ℕ). n < 2 ^ 53) e h.1)

    least-neighbor : least_gap (chosen (λ r. neighbor c s.wire r && lt plus_zero (gap_of (x.fixed r.item) (x.fixed s))) (λ r. gap_of (x.fixed r.item) (x.fixed s)) st.wires) ≡ gap_of_units (least_here c s st)
    least-neighbor =
        least-of-chosen (λ r. neighbor c s.wire r && lt plus_zero (gap_of (x.fixed r.item) (x.fixed s))) (λ r. gap_of (x.fixed r.item) (x.fixed s)) (λ r. apart s.wire.fixed r.item.wire.fixed) st.wires separation
        ∙ ap gap_of_units (fold_same fewest (λ r. cond (neighbor c s.wire r && lt plus_zero (gap_of (x.fixed r.item) (x.fixed s))) (Some (apart s.wire.fixed r.item.wire.fixed)) None) (λ r. cond (neighbor c s.wire r) (gap s.wire r.item.wire) None) st.wires
        (λ r m. let h = separation r m in
        ap (λ (b : Bool). cond (neighbor c s.wire r && b) (Some (apart s.wire.fixed r.item.wire.fixed)) None) (ap (lt plus_zero) h.0 ∙ above_zero s.wire.fixed r.item.wire.fixed h.1)
        ∙ nonzero-one (neighbor c s.wire r) (eqb s.wire.fixed r.item.wire.fixed) (apart s.wire.fixed r.item.wire.fixed)))

    held-neighbor : Representable (least_here c s st)
    held-neighbor = held-fold (λ r. cond (neighbor c s.wire r) (gap s.wire r.item.wire) None) st.wires (λ r m. held-gap (neighbor c s.wire r) (eqb s.wire.fixed r.item.wire.fixed) (apart s.wire.fixed r.item.wire.fixed) (separation r m).1)

  -- ---- one event, and all
  module _ (t : ℕ) (b : Bool) (s : Item) (q : List WireEvent) (st : State) (pe : Pending l t st.previous (event b s ∷ q)) (tr : Tracks c l (active_at t) st) where
    step_matches : (a : Amounts) → Matches st a → (step c st (event b s)).value.congested_length < 2 ^ 53 → (step c st (event b s)).value.pair_overlap_length < 2 ^ 53 → Matches (step c st (event b s)).value (rounded_step c x st a (event b s))
    unfolding rounded_step
    step_matches a m h k =
        let s∈ = item∈ l fit t st.previous (event b s) q pe in
        let e = event_stands x b s (stands s s∈) in
        let n = pe.past (event b s) (inl refl) in
        let d = at (event b s) - st.previous in
        let f : (step c st (event b s)).value.congested_length ≡ st.congested_length + st.congested_active * d = congested-stepped c b s st in
        let g : (step c st (event b s)).value.pair_overlap_length ≡ st.pair_overlap_length + st.close_pairs * d = overlap-stepped c b s st in
        let p : (step c st (event b s)).value.previous ≡ at (event b s) = previous-stepped c b s st in
        let o : (step c st (event b s)).value.minimum_positive ≡ lesser ltb st.minimum_positive (least_here c s st) = least-stepped c b s st in
        record {
          congested = ap (λ (z : Float). add binary64 z (mul binary64 (of_int binary64 (pos st.congested_active)) (sub binary64 (coordinate x (event b s)) a.previous))) m.congested ∙ one-step st.congested_length st.congested_active (coordinate x (event b s)) a.previous (at (event b s)) st.previous (step c st (event b s)).value.congested_length e m.last n (active-few c l few t st tr) (le_of_eq (sym f)) h ∙ ap of_units (sym f);
          overlap = ap (λ (z : Float). add binary64 z (mul binary64 (of_int binary64 (pos st.close_pairs)) (sub binary64 (coordinate x (event b s)) a.previous))) m.overlap ∙ one-step st.pair_overlap_length st.close_pairs (coordinate x (event b s)) a.previous (at (event b s)) st.previous (step c st (event b s)).value.pair_overlap_length e m.last n (pairs-few c l few t st tr) (le_of_eq (sym g)) k ∙ ap of_units (sym g);
          last = subst (Stands (coordinate x (event b s))) (sym p) e;
          least = ap₂ lesser_gap m.least (least-neighbor (active_at t) st tr s s∈) ∙ lesser-gap st.minimum_positive (least_here c s st) m.held (held-neighbor (active_at t) st tr s s∈) ∙ ap gap_of_units (sym o);
          held = subst Representable (sym o) (held-lesser st.minimum_positive (least_here c s st) m.held (held-neighbor (active_at t) st tr s s∈));
        }

  pub run_matches : (t : ℕ) (q : List WireEvent) (st : State) → Pending l t st.previous q → Tracks c l (active_at t) st → (a : Amounts) → Matches st a → (run c q st).congested_length < 2 ^ 53 → (run c q st).pair_overlap_length < 2 ^ 53 → Matches (run c q st) (rounded_run c x st a q)
  unfolding runs rounded_run
  run_matches = sweep_ind c l fit (λ t q st. (a : Amounts) → Matches st a → (run c q st).congested_length < 2 ^ 53 → (run c q st).pair_overlap_length < 2 ^ 53 → Matches (run c q st) (rounded_run c x st a q)) (λ t st pe a m h k. m)
      (λ t b s q st pe tr ih a m h k.
      let st' = (step c st (event b s)).value in
      ih (rounded_step c x st a (event b s)) (step_matches t b s q st pe tr a m (lt_of_le_of_lt (congested_grows c q st') h) (lt_of_le_of_lt (overlap_grows c q st') k)) h k)

-- ---- the sweep of one orientation
module _ (c : ℕ) (L : List Wire) (sound : Sound L) (small : Small L) (alike : (s t : Wire) → Mem s L → Mem t L → beq s.horizontal t.horizontal ≡ true)
    (x : Coordinates) (stands : (i : Item) → Mem i (numbered 0 L) → ItemStands x i) where
  abbrev l : List Item
  l = numbered 0 L

  fit : Fit (numbered 0 L)
  fit = fit-numbered L sound

  first_matches : Matches (begin l) (first_amounts x (in_order (wire_events l)))
  first_matches = go (in_order (wire_events l)) (in_list l fit)
    where
      go : (q : List WireEvent) → ((e : WireEvent) → Mem e q → Mem e.item l) → Matches (record { wires = (begin l).wires; congested_active = 0; close_pairs = 0; previous = first_at q; congested_length = 0; pair_overlap_length = 0; peak_close_neighbors = 0; minimum_positive = None }) (first_amounts x q)
      go [] h = record { congested = sym zero_units; overlap = sym zero_units; last = zero_stands; least = refl; held = tt }
      go (e ∷ q) h = record { congested = sym zero_units; overlap = sym zero_units; last = event_stands x e.ends e.item (stands e.item (h e (inl refl))); least = refl; held = tt }

  few_items : length l ≤ 4096
  few_items = let e = length-map l (λ (i : Item). i.wire) in let k = ap length (wires-of 0 L) in let h = sound.few in omega arith

  abbrev pub amounts : Amounts
  amounts = rounded_run c x (begin l) (first_amounts x (in_order (wire_events l))) (in_order (wire_events l))

  pub amounts_exact : (amounts.congested_length ≡ of_units (congested c L)) × (amounts.pair_overlap_length ≡ of_units (pair_overlap c L)) × (amounts.minimum_positive ≡ gap_of_units (least_units c L))
  unfolding sweep
  amounts_exact =
      let a = congested-is c L sound alike in
      let b = overlap-is c L sound alike in
      let g = least-is c L sound alike in
      let m = run_matches c l fit few_items x stands 0 (in_order (wire_events l)) (begin l) (pending c l fit) (tracks c l fit) (first_amounts x (in_order (wire_events l))) first_matches (lt_of_le_of_lt (le_of_eq a) (congested-small c L sound small)) (lt_of_le_of_lt (le_of_eq b) (overlap-small c L sound small)) in
      (m.congested ∙ ap of_units a, m.overlap ∙ ap of_units b, m.least ∙ ap gap_of_units g)
