-- The sums of the sweep after all events: each sum over the stretches between events is a sum over cells. Assumes nothing.
use Rattle.std.specs.Prelude.{Option, None}
use mathlib.Core.Path.{◌≡◌, refl, sym, ap, ap₂, ◌∙◌}
use mathlib.Core.Logic.{inl, inr}
use mathlib.Core.List.{List, [], ◌∷◌}
use mathlib.Core.Bool.{Bool, true, false, ◌&&◌, cond}
use Prim.Native.Nat.{ℕ, ◌+◌, ◌-◌, ◌*◌, ◌≤◌}
use native.Mathlib.Omega.{arith}
use native.Mathlib.Nat.{mul_comm}
use lib.Dec.{ltb}
use Rattle.laws.specs.Lists.{Mem, fold, bit, sum, count}
use Rattle.laws.specs.Least.{lesser}
use Rattle.laws.specs.Charged.{runs}
use Rattle.laws.proofs.Folds.{plus, idr, fold-append}
use Rattle.congestion.specs.Cells.{cells_from, covers}
use Rattle.congestion.specs.Walk.{Item, State, WireEvent, at, in_range, visited, neighbor, gap, least_here, step}
use Rattle.congestion.proofs.FoldLaws.{fewest, sum_const}
use Rattle.congestion.proofs.CellLaws.{length-cells, cells_at, cells_same, cells-unit}
use Rattle.congestion.proofs.Tracking.{facing, Tracks, tracks_same, over_rows}
use Rattle.congestion.proofs.Moments.{Fit, Pending, event, key, active_at, unchanged, next, covering, uncovered, step_tracks}

abbrev pub run : ℕ → List WireEvent → State → State
run c q st = (runs (step c) st q).value

-- the items over a cell
abbrev pub on : ℕ → Item → Bool
on k i = covers k i.wire

-- ---- what one event does to a state, for an end and a start alike
pub congested-stepped : (c : ℕ) (b : Bool) (i : Item) (st : State) → (step c st (event b i)).value.congested_length ≡ st.congested_length + st.congested_active * (at (event b i) - st.previous)
congested-stepped c true i st = refl
congested-stepped c false i st = refl

pub overlap-stepped : (c : ℕ) (b : Bool) (i : Item) (st : State) → (step c st (event b i)).value.pair_overlap_length ≡ st.pair_overlap_length + st.close_pairs * (at (event b i) - st.previous)
overlap-stepped c true i st = refl
overlap-stepped c false i st = refl

pub previous-stepped : (c : ℕ) (b : Bool) (i : Item) (st : State) → (step c st (event b i)).value.previous ≡ at (event b i)
previous-stepped c true i st = refl
previous-stepped c false i st = refl

pub least-stepped : (c : ℕ) (b : Bool) (i : Item) (st : State) → (step c st (event b i)).value.minimum_positive ≡ lesser ltb st.minimum_positive (least_here c i st)
least-stepped c true i st = refl
least-stepped c false i st = refl

module _ (c : ℕ) (l : List Item) (fit : Fit l) where
  -- ---- the induction over the remaining events
  pub sweep_ind : (P : ℕ → List WireEvent → State → Type 0)
      → ((t : ℕ) (st : State) → Pending l t st.previous [] → P t [] st)
      → ((t : ℕ) (b : Bool) (s : Item) (q : List WireEvent) (st : State) → Pending l t st.previous (event b s ∷ q) → Tracks c l (active_at t) st → P (key (event b s) + 1) q (step c st (event b s)).value → P t (event b s ∷ q) st)
      → (t : ℕ) (q : List WireEvent) (st : State) → Pending l t st.previous q → Tracks c l (active_at t) st → P t q st
  sweep_ind P base more t [] st pe tr = base t st pe
  sweep_ind P base more t (e ∷ q) st pe tr = more t e.ends e.item q st pe tr (sweep_ind P base more (key e + 1) q (step c st e).value (moved e.ends e.item pe) (step_tracks l fit c t st.previous e.ends e.item q st pe tr))
    where
      moved : (b : Bool) (s : Item) → Pending l t st.previous (event b s ∷ q) → Pending l (key (event b s) + 1) (step c st (event b s)).value.previous q
      moved true s pe = next l fit t st.previous (event true s) q pe
      moved false s pe = next l fit t st.previous (event false s) q pe

  -- ---- a sum that grows by a count times the distance between events, where the count is F of the active set
  module _ (F : (Item → Bool) → ℕ) (F-same : (v w : Item → Bool) → ((j : Item) → Mem j l → v j ≡ w j) → F v ≡ F w) (F-none : F (λ i. false) ≡ 0)
      (acc cnt : State → ℕ) (grows : (b : Bool) (s : Item) (st : State) → acc (step c st (event b s)).value ≡ acc st + cnt st * (at (event b s) - st.previous))
      (counts : (t : ℕ) (st : State) → Tracks c l (active_at t) st → cnt st ≡ F (active_at t)) where
    -- F of the items over each cell
    abbrev over : ℕ → ℕ → ℕ
    over a n = sum (λ k. F (on k)) (cells_from a n)

    time : (t p hi : ℕ) (e : WireEvent) (q : List WireEvent) → Pending l t p (e ∷ q) → at e ≤ hi → (a z : ℕ) → a ≡ F (active_at t) → (z + a * (at e - p)) + over (at e) (hi - at e) ≡ z + over p (hi - p)
    time t p hi e q pe h a z ea =
        let pe1 : p ≤ at e = pe.past e (inl refl) in
        let s1 : over p (at e - p) ≡ a * (at e - p) =
        cells_same plus (λ k. F (on k)) (λ k. a) p (at e - p) (λ k x y. F-same (on k) (active_at t) (λ j m. sym (covering l fit t p e q pe k x (omega arith) j m)) ∙ sym ea)
        ∙ sum_const a (cells_from p (at e - p)) ∙ ap (λ (n : ℕ). n * a) (length-cells p (at e - p)) ∙ mul_comm (at e - p) a in
        let s2 : over p (hi - p) ≡ over p (at e - p) + over (at e) (hi - at e) = ap (sum (λ k. F (on k))) (cells_at p (at e) hi pe1 h) ∙ fold-append plus (λ k. F (on k)) (cells_from p (at e - p)) (cells_from (at e) (hi - at e)) in
        fin (a * (at e - p)) (over p (at e - p)) (over (at e) (hi - at e)) (over p (hi - p)) s1 s2
      where
        fin : (w a b d : ℕ) → a ≡ w → d ≡ a + b → (z + w) + b ≡ z + d
        fin w a b d p q = omega arith

    pub run_sum : (hi t : ℕ) (q : List WireEvent) (st : State) → Pending l t st.previous q → Tracks c l (active_at t) st → ((e : WireEvent) → Mem e q → at e ≤ hi) → acc (run c q st) ≡ acc st + over st.previous (hi - st.previous)
    unfolding runs
    run_sum hi = sweep_ind (λ t q st. ((e : WireEvent) → Mem e q → at e ≤ hi) → acc (run c q st) ≡ acc st + over st.previous (hi - st.previous))
        (λ t st pe bound. let z : over st.previous (hi - st.previous) ≡ 0 = cells-unit plus (λ k. F (on k)) st.previous (hi - st.previous) (λ k x y. F-same (on k) (λ i. false) (λ j m. uncovered l fit t st.previous pe k x j m) ∙ F-none) in omega arith)
        more
      where
        more : (t : ℕ) (b : Bool) (s : Item) (q : List WireEvent) (st : State) → Pending l t st.previous (event b s ∷ q) → Tracks c l (active_at t) st
            → (((e : WireEvent) → Mem e q → at e ≤ hi) → acc (run c q (step c st (event b s)).value) ≡ acc (step c st (event b s)).value + over (step c st (event b s)).value.previous (hi - (step c st (event b s)).value.previous))
            → ((e : WireEvent) → Mem e (event b s ∷ q) → at e ≤ hi) → acc (run c q (step c st (event b s)).value) ≡ acc st + over st.previous (hi - st.previous)
        more t true s q st pe tr ih bound =
            ih (λ x m. bound x (inr m)) ∙ ap (λ (z : ℕ). z + over s.wire.end (hi - s.wire.end)) (grows true s st)
            ∙ time t st.previous hi (event true s) q pe (bound (event true s) (inl refl)) (cnt st) (acc st) (counts t st tr)
        more t false s q st pe tr ih bound =
            ih (λ x m. bound x (inr m)) ∙ ap (λ (z : ℕ). z + over s.wire.start (hi - s.wire.start)) (grows false s st)
            ∙ time t st.previous hi (event false s) q pe (bound (event false s) (inl refl)) (cnt st) (acc st) (counts t st tr)

  -- ---- visits: the active ones in range at each event
  abbrev pub visits_at : WireEvent → ℕ
  visits_at e = count (λ i. active_at (key e) i && in_range c e.item.wire i.wire) l

  pub run_cost : (t : ℕ) (q : List WireEvent) (st : State) → Pending l t st.previous q → Tracks c l (active_at t) st → (runs (step c) st q).cost ≡ sum visits_at q
  unfolding runs fold
  run_cost = sweep_ind (λ t q st. (runs (step c) st q).cost ≡ sum visits_at q) (λ t st pe. refl)
      (λ t b s q st pe tr ih. ap₂ ◌+◌ (over_rows plus c l (active_at (key (event b s))) st (tracks_same c l (active_at t) (active_at (key (event b s))) st (unchanged l fit t st.previous (event b s) q pe) tr) (λ r. bit (visited c s.wire r))) ih)

  -- ---- the least gap to a neighbor at each event
  abbrev pub least_at : WireEvent → Option ℕ
  least_at e = fold (lesser ltb) None (λ i. cond (active_at (key e) i && facing c e.item i) (gap e.item.wire i.wire) None) l

  pub run_least : (t : ℕ) (q : List WireEvent) (st : State) → Pending l t st.previous q → Tracks c l (active_at t) st → (run c q st).minimum_positive ≡ lesser ltb st.minimum_positive (fold (lesser ltb) None least_at q)
  unfolding runs fold
  run_least = sweep_ind (λ t q st. (run c q st).minimum_positive ≡ lesser ltb st.minimum_positive (fold (lesser ltb) None least_at q)) (λ t st pe. sym (idr fewest st.minimum_positive)) more
    where
      here : (t : ℕ) (b : Bool) (s : Item) (q : List WireEvent) (st : State) → Pending l t st.previous (event b s ∷ q) → Tracks c l (active_at t) st
          → fold (lesser ltb) None (λ r. cond (neighbor c s.wire r) (gap s.wire r.item.wire) None) st.wires ≡ least_at (event b s)
      here t b s q st pe tr = over_rows fewest c l (active_at (key (event b s))) st (tracks_same c l (active_at t) (active_at (key (event b s))) st (unchanged l fit t st.previous (event b s) q pe) tr) (λ r. cond (neighbor c s.wire r) (gap s.wire r.item.wire) None)

      put : (z a n r : Option ℕ) → a ≡ n → lesser ltb (lesser ltb z a) r ≡ lesser ltb z (lesser ltb n r)
      put z a n r e = fewest.assoc z a r ∙ ap (λ (y : Option ℕ). lesser ltb z (lesser ltb y r)) e

      more : (t : ℕ) (b : Bool) (s : Item) (q : List WireEvent) (st : State) → Pending l t st.previous (event b s ∷ q) → Tracks c l (active_at t) st
          → (run c q (step c st (event b s)).value).minimum_positive ≡ lesser ltb (step c st (event b s)).value.minimum_positive (fold (lesser ltb) None least_at q)
          → (run c q (step c st (event b s)).value).minimum_positive ≡ lesser ltb st.minimum_positive (lesser ltb (least_at (event b s)) (fold (lesser ltb) None least_at q))
      more t true s q st pe tr ih = ih ∙ put st.minimum_positive _ (least_at (event true s)) (fold (lesser ltb) None least_at q) (here t true s q st pe tr)
      more t false s q st pe tr ih = ih ∙ put st.minimum_positive _ (least_at (event false s)) (fold (lesser ltb) None least_at q) (here t false s q st pe tr)
