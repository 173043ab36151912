-- The peak, for any count that depends on the active set and grows with it: the greatest count after any start is the greatest over all cells. For the sweep's own peak the count is the number of neighbors. Assumes nothing.
use mathlib.Core.Path.{◌≡◌, refl, sym, ap, ◌∙◌, subst}
use mathlib.Core.Logic.{inl}
use mathlib.Core.List.{List, [], ◌∷◌, ◌++◌}
use mathlib.Core.Bool.{Bool, true, false, cond}
use Prim.Native.Nat.{ℕ, ◌+◌, ◌-◌, ◌*◌, ◌≤◌, ◌<◌, max, zero-le}
use native.Mathlib.Omega.{arith}
use native.Mathlib.Nat.{le_trans, le_of_eq}
use lib.Dec.{T, leb, ltb, ltb→lt, leb→le}
use lib.Ieee.Fits.{and_l, and_r}
use Rattle.laws.specs.Lists.{Mem, fold}
use Rattle.laws.specs.Charged.{runs}
use Rattle.laws.proofs.Tests.{is_true, of_true, or_left}
use Rattle.laws.proofs.Folds.{greatest, fold-append, fold-unit, greatest_at_most, at_most_greatest}
use Rattle.congestion.specs.Cells.{cells_from}
use Rattle.congestion.specs.Walk.{Item, State, WireEvent, at, same, highest, step}
use Rattle.congestion.proofs.CellLaws.{is_covered, mem_cells, cells_at, cells-unit}
use Rattle.congestion.proofs.Sets.{neighbors_in, neighbors_grow}
use Rattle.congestion.proofs.Tracking.{facing, Tracks, tracks_same, peak-start}
use Rattle.congestion.proofs.Moments.{Fit, Pending, event, start_key, end_key, key, active_at, unchanged, item∈, next, covering, uncovered, off_before, start_adds, end_drops, step_tracks}
use Rattle.congestion.proofs.Passing.{on, run, sweep_ind}

-- ---- a count N w i of an item i in a set w of items
module _ (l : List Item) (N : (Item → Bool) → Item → ℕ) where
  -- the greatest count of the items of a set
  abbrev pub top_in : (Item → Bool) → ℕ
  top_in w = fold max 0 (λ i. cond (w i) (N w i) 0) l

  -- the count that an event contributes: the greatest one after a start, 0 at an end
  abbrev pub met_at : WireEvent → ℕ
  met_at e = cond e.ends 0 (top_in (active_at (key e + 1)))

  -- the greatest count over the cells from p to hi
  abbrev pub tops : ℕ → ℕ → ℕ
  tops hi p = fold max 0 (λ k. top_in (on k)) (cells_from p (hi - p))

  in_top : (w : Item → Bool) (i : Item) → Mem i l → T (w i) → N w i ≤ top_in w
  in_top w i m h = le_trans (le_of_eq (sym (ap (λ (b : Bool). cond b (N w i) 0) (is_true (w i) h)))) (at_most_greatest (λ i. cond (w i) (N w i) 0) l i m)

  top_at_most : (w : Item → Bool) (b : ℕ) → ((i : Item) → Mem i l → T (w i) → N w i ≤ b) → top_in w ≤ b
  top_at_most w b h = greatest_at_most (λ i. cond (w i) (N w i) 0) b l (λ i m. go (w i) (N w i) (h i m))
    where
      go : (a : Bool) (n : ℕ) → (T a → n ≤ b) → cond a n 0 ≤ b
      go true n h = h tt
      go false n h = zero-le

-- ---- after a start the active ones cover its cell
after-start : (l : List Item) → Fit l → (s : Item) → Mem s l → (j : Item) → Mem j l → T (active_at (start_key s + 1) j) → T (on s.wire.start j)
after-start l fit s n j m h =
    is_covered s.wire.start j.wire
    (early j.wire.start j.index s.wire.start s.index (fit.small j m) (fit.small s n) (ltb→lt (start_key j) (start_key s + 1) (and_l (ltb (start_key j) (start_key s + 1)) (leb (start_key s + 1) (end_key j)) h)))
    (late j.wire.end j.index s.wire.start s.index (fit.small j m) (leb→le (start_key s + 1) (end_key j) (and_r (ltb (start_key j) (start_key s + 1)) (leb (start_key s + 1) (end_key j)) h)))
  where
    early : (a n b m : ℕ) → n < 4096 → m < 4096 → a * 8192 + 4096 + n < b * 8192 + 4096 + m + 1 → a ≤ b
    early a n b m p q r = omega arith

    late : (a n b m : ℕ) → n < 4096 → b * 8192 + 4096 + m + 1 ≤ a * 8192 + n → b < a
    late a n b m p r = omega arith

first_cell : (f : ℕ → ℕ) (x hi : ℕ) → x < hi → f x ≤ fold max 0 f (cells_from x (hi - x))
unfolding cells_from fold
first_cell f x hi h =
    let e : cells_from x (hi - x) ≡ x ∷ cells_from (x + 1) (hi - (x + 1)) = cells_at x (x + 1) hi (omega arith) (omega arith) ∙ ap (λ (n : ℕ). cells_from x n ++ cells_from (x + 1) (hi - (x + 1))) one in
    le_trans (up (f x) _) (le_of_eq (sym (ap (fold max 0 f) e)))
  where
    one : x + 1 - x ≡ 1
    one = omega arith

    up : (a b : ℕ) → a ≤ max a b
    up a b = omega arith

-- ---- a count that grows with the set, so that it depends only on which items of the list are in it
module _ (l : List Item) (fit : Fit l) (N : (Item → Bool) → Item → ℕ) (grows : (v w : Item → Bool) → ((j : Item) → Mem j l → T (v j) → T (w j)) → (i : Item) → N v i ≤ N w i) where
  top_grows : (v w : Item → Bool) → ((j : Item) → Mem j l → T (v j) → T (w j)) → top_in l N v ≤ top_in l N w
  top_grows v w h = top_at_most l N v (top_in l N w) (λ i m t. le_trans (grows v w h i) (in_top l N w i m (h i m t)))

  top_same : (v w : Item → Bool) → ((j : Item) → Mem j l → v j ≡ w j) → top_in l N v ≡ top_in l N w
  top_same v w eq =
      let a = top_grows v w (λ j m t. subst T (eq j m) t) in
      let b = top_grows w v (λ j m t. subst T (sym (eq j m)) t) in
      omega arith

  -- an end makes nothing greater
  no_less : (t p : ℕ) (s : Item) (q : List WireEvent) → Pending l t p (event true s ∷ q) → top_in l N (active_at (end_key s + 1)) ≤ top_in l N (active_at t)
  no_less t p s q pe =
      let m = item∈ l fit t p (event true s) q pe in
      le_trans (top_grows (active_at (end_key s + 1)) (active_at (end_key s)) (λ j n h. of_true (active_at (end_key s) j) (end_drops l fit s m j n ∙ or_left (active_at (end_key s + 1) j) (same s j) (is_true (active_at (end_key s + 1) j) h))))
      (le_of_eq (sym (top_same (active_at t) (active_at (end_key s)) (unchanged l fit t p (event true s) q pe))))

  module _ (hi : ℕ) (ended : (i : Item) → Mem i l → i.wire.end ≤ hi) where
    -- the cells up to an event have the counts of the active set
    before : (t p : ℕ) (e : WireEvent) (q : List WireEvent) → Pending l t p (e ∷ q) → at e ≤ hi → max (top_in l N (active_at t)) (tops l N hi p) ≡ max (top_in l N (active_at t)) (tops l N hi (at e))
    before t p e q pe h =
        let pe1 : p ≤ at e = pe.past e (inl refl) in
        let s1 : fold max 0 (λ k. top_in l N (on k)) (cells_from p (at e - p)) ≤ top_in l N (active_at t) =
        greatest_at_most (λ k. top_in l N (on k)) (top_in l N (active_at t)) (cells_from p (at e - p)) (λ k n. let b = mem_cells k p (at e - p) n in le_of_eq (sym (top_same (active_at t) (on k) (covering l fit t p e q pe k b.0 (omega (arith, b.1)))))) in
        let s2 : tops l N hi p ≡ max (fold max 0 (λ k. top_in l N (on k)) (cells_from p (at e - p))) (tops l N hi (at e)) = ap (fold max 0 (λ k. top_in l N (on k))) (cells_at p (at e) hi pe1 h) ∙ fold-append greatest (λ k. top_in l N (on k)) (cells_from p (at e - p)) (cells_from (at e) (hi - at e)) in
        fin (top_in l N (active_at t)) (tops l N hi p) (fold max 0 (λ k. top_in l N (on k)) (cells_from p (at e - p))) (tops l N hi (at e)) s1 s2
      where
        fin : (t m a b : ℕ) → a ≤ t → m ≡ max a b → max t m ≡ max t b
        fin t m a b h e = omega arith

    starts-below : (s : Item) → Mem s l → s.wire.start < hi
    starts-below s m = let a = fit.long s m in let b = ended s m in omega arith

    -- what a start makes is found on its first cell
    no_greater : (s : Item) → Mem s l → top_in l N (active_at (start_key s + 1)) ≤ tops l N hi s.wire.start
    no_greater s m = le_trans (top_grows (active_at (start_key s + 1)) (on s.wire.start) (after-start l fit s m)) (first_cell (λ k. top_in l N (on k)) s.wire.start hi (starts-below s m))

    pub met-is_tops : (t p : ℕ) (q : List WireEvent) → Pending l t p q → max (top_in l N (active_at t)) (fold max 0 (met_at l N) q) ≡ max (top_in l N (active_at t)) (tops l N hi p)
    unfolding fold
    met-is_tops t p [] pe = ap (λ (z : ℕ). max (top_in l N (active_at t)) z) (sym (cells-unit greatest (λ k. top_in l N (on k)) p (hi - p) (λ k x y. fold-unit greatest (λ i. cond (on k i) (N (on k) i) 0) l (λ i m. ap (λ (b : Bool). cond b (N (on k) i) 0) (uncovered l fit t p pe k x i m)))))
    met-is_tops t p (e ∷ q) pe = go e.ends e.item pe (met-is_tops (key e + 1) (at e) q (next l fit t p e q pe))
      where
        ending : (a b f x : ℕ) → max b f ≡ max b x → b ≤ a → max a (max 0 f) ≡ max a x
        ending a b f x e h = omega arith

        starting : (a b f x : ℕ) → max b f ≡ max b x → b ≤ x → max a (max b f) ≡ max a x
        starting a b f x e h = omega arith

        go : (b : Bool) (s : Item) → Pending l t p (event b s ∷ q)
            → max (top_in l N (active_at (key (event b s) + 1))) (fold max 0 (met_at l N) q) ≡ max (top_in l N (active_at (key (event b s) + 1))) (tops l N hi (at (event b s)))
            → max (top_in l N (active_at t)) (max (met_at l N (event b s)) (fold max 0 (met_at l N) q)) ≡ max (top_in l N (active_at t)) (tops l N hi p)
        go true s pe ih =
            ending (top_in l N (active_at t)) (top_in l N (active_at (end_key s + 1))) (fold max 0 (met_at l N) q) (tops l N hi s.wire.end) ih (no_less t p s q pe)
            ∙ sym (before t p (event true s) q pe (ended s (item∈ l fit t p (event true s) q pe)))
        go false s pe ih =
            let m = item∈ l fit t p (event false s) q pe in
            let a = starts-below s m in
            starting (top_in l N (active_at t)) (top_in l N (active_at (start_key s + 1))) (fold max 0 (met_at l N) q) (tops l N hi s.wire.start) ih (no_greater s m)
            ∙ sym (before t p (event false s) q pe (omega arith))

-- ---- the sweep's peak: of the number of neighbors
module _ (c : ℕ) (l : List Item) (fit : Fit l) where
  abbrev count : (Item → Bool) → Item → ℕ
  count = neighbors_in (facing c) l

  -- after a start the state's peak is the greater of the peak before and the greatest count
  meets_top : (t : ℕ) (s : Item) (q : List WireEvent) (st : State) → Pending l t st.previous (event false s ∷ q) → Tracks c l (active_at t) st → max st.peak_close_neighbors (highest c s st) ≡ max st.peak_close_neighbors (top_in l count (active_at (start_key s + 1)))
  meets_top t s q st pe tr =
      let m = item∈ l fit t st.previous (event false s) q pe in
      let v = active_at (start_key s + 1) in
      let tr' = tracks_same c l (active_at t) (active_at (start_key s)) st (unchanged l fit t st.previous (event false s) q pe) tr in
      let a : highest c s st ≤ top_in l count v = peak-start c l fit.rise s m (active_at (start_key s)) v (off_before l fit s m) (start_adds l fit s m) s.wire.start st tr' (top_in l count v) (in_top l count v) in
      let b : top_in l count v ≤ max st.peak_close_neighbors (highest c s st) = top_at_most l count v (max st.peak_close_neighbors (highest c s st)) (step_tracks l fit c t st.previous false s q st pe tr).peaks in
      omega arith

  run_met : (t : ℕ) (q : List WireEvent) (st : State) → Pending l t st.previous q → Tracks c l (active_at t) st → (run c q st).peak_close_neighbors ≡ max st.peak_close_neighbors (fold max 0 (met_at l count) q)
  unfolding runs fold
  run_met = sweep_ind c l fit (λ t q st. (run c q st).peak_close_neighbors ≡ max st.peak_close_neighbors (fold max 0 (met_at l count) q)) (λ t st pe. omega arith) more
    where
      ending : (a f : ℕ) → max a f ≡ max a (max 0 f)
      ending a f = omega arith

      starting : (a h b f : ℕ) → max a h ≡ max a b → max (max a h) f ≡ max a (max b f)
      starting a h b f e = omega arith

      more : (t : ℕ) (b : Bool) (s : Item) (q : List WireEvent) (st : State) → Pending l t st.previous (event b s ∷ q) → Tracks c l (active_at t) st
          → (run c q (step c st (event b s)).value).peak_close_neighbors ≡ max (step c st (event b s)).value.peak_close_neighbors (fold max 0 (met_at l count) q)
          → (run c q (step c st (event b s)).value).peak_close_neighbors ≡ max st.peak_close_neighbors (max (met_at l count (event b s)) (fold max 0 (met_at l count) q))
      more t true s q st pe tr ih = ih ∙ ending st.peak_close_neighbors (fold max 0 (met_at l count) q)
      more t false s q st pe tr ih = ih ∙ starting st.peak_close_neighbors (highest c s st) (top_in l count (active_at (start_key s + 1))) (fold max 0 (met_at l count) q) (meets_top t s q st pe tr)

  pub run_peak : (hi : ℕ) → ((i : Item) → Mem i l → i.wire.end ≤ hi) → (t : ℕ) (q : List WireEvent) (st : State) → Pending l t st.previous q → Tracks c l (active_at t) st → (run c q st).peak_close_neighbors ≡ max st.peak_close_neighbors (tops l count hi st.previous)
  run_peak hi ended t q st pe tr =
      run_met t q st pe tr
      ∙ known st.peak_close_neighbors (top_in l count (active_at t)) (fold max 0 (met_at l count) q) (tops l count hi st.previous) (top_at_most l count (active_at t) st.peak_close_neighbors tr.peaks)
      (met-is_tops l fit count (neighbors_grow (facing c) l) hi ended t st.previous q pe)
    where
      known : (a b f x : ℕ) → b ≤ a → max b f ≡ max b x → max a f ≡ max a x
      known a b f x h e = omega arith
