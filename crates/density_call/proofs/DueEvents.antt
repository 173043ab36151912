-- In every state of the sweep its next event may be handled: counts are small, no subtraction goes below 0, and floats hold the lengths. Assumes nothing.
use mathlib.Core.Path.{◌≡◌, refl, sym, ap, ◌∙◌, subst}
use mathlib.Core.Logic.{inl}
use mathlib.Core.List.{List, ◌∷◌}
use mathlib.Core.Bool.{Bool, true, false, ◌&&◌, cond}
use Prim.Native.Nat.{ℕ, ◌^◌, ◌≤◌, ◌<◌}
use native.Mathlib.Omega.{arith}
use native.Mathlib.Nat.{le_trans, le_of_eq, lt_of_le_of_lt}
use lib.ListN.{length}
use Rattle.laws.specs.Lists.{Mem}
use Rattle.laws.specs.Charged.{runs}
use Rattle.laws.proofs.Tests.{of_true, and_left, and_right}
use Rattle.laws.proofs.ListLaws.{mem_map}
use Rattle.laws.proofs.Folds.{count-at_most}
use Rattle.congestion.specs.Walk.{Item, WireState, WireEvent, State, neighbor, step}
use Rattle.density_call.specs.Inner.Sweeping.{Ending, Due}
use Rattle.congestion.proofs.Sets.{neighbors_in}
use Rattle.congestion.proofs.Tracking.{facing, row_in, Tracks}
use Rattle.congestion.proofs.Moments.{Fit, event, end_key, active_at}
use Rattle.congestion.proofs.Passing.{run}
use Rattle.congestion.proofs.Reaching.{Reached, at-end, active-room, pairs-room, count_room}
use Rattle.congestion.proofs.RoundedSweep.{active-few, pairs-few, congested_grows, overlap_grows}

module _ (c : ℕ) (l : List Item) where
  -- ---- a wire's state is that of an item
  tracked_row : (w : Item → Bool) (st : State) → Tracks c l w st → (r : WireState) → Mem r st.wires → (i : Item) × Mem i l × (r ≡ row_in c l w i)
  tracked_row w st tr r m = mem_map (row_in c l w) l r (subst (Mem r) tr.rows_are m)

  counts-few : (w : Item → Bool) (st : State) → Tracks c l w st → (r : WireState) → Mem r st.wires → r.neighbors ≤ length l
  counts-few w st tr r m =
      let k = tracked_row w st tr r m in
      le_trans (le_of_eq (ap (λ (z : WireState). z.neighbors) k.2)) (go (w k.0) (neighbors_in (facing c) l w k.0) (count-at_most (λ j. w j && facing c k.0 j) l))
    where
      go : (b : Bool) (n : ℕ) → n ≤ length l → cond b n 0 ≤ length l
      go true n h = h
      go false n h = omega arith

  module _ (fit : Fit l) where
    -- ---- an end
    ending : (s : Item) (q : List WireEvent) (st : State) → Reached c l (event true s ∷ q) st → Ending c s st
    ending s q st r = record {
      active = active-room c l fit s q st r;
      pairs = pairs-room c l fit s q st r;
      some = λ x m h.
          let k = tracked_row (active_at (end_key s)) st (at-end c l fit s q st r) x m in
          let e : neighbor c s.wire (row_in c l (active_at (end_key s)) k.0) ≡ true = sym (ap (neighbor c s.wire) k.2) ∙ h in
          let a = and_left (active_at (end_key s) k.0) (facing c s k.0) e in
          let f = count_room c l fit s q st r k.0 k.1 (of_true (facing c s k.0) (and_right (active_at (end_key s) k.0) (facing c s k.0) e)) in
          le_trans f (le_of_eq (sym (ap (λ (z : WireState). z.neighbors) k.2 ∙ ap (λ (b : Bool). cond b (neighbors_in (facing c) l (active_at (end_key s)) k.0) 0) a)));
    }

    -- ---- any event; the sums at the end of the sweep bound those before it
    pub due : length l ≤ 4096 → (e : WireEvent) (q : List WireEvent) (st : State) → Reached c l (e ∷ q) st → (run c (e ∷ q) st).congested_length < 2 ^ 53 → (run c (e ∷ q) st).pair_overlap_length < 2 ^ 53 → Due c st e
    unfolding runs
    due few e q st r h k = record {
      past = r.left.past e (inl refl);
      active = active-few c l few r.threshold st r.state;
      pairs = pairs-few c l few r.threshold st r.state;
      counts = λ x m. le_trans (counts-few (active_at r.threshold) st r.state x m) few;
      congested = lt_of_le_of_lt (congested_grows c q (step c st e).value) h;
      overlap = lt_of_le_of_lt (overlap_grows c q (step c st e).value) k;
      ending = λ p. ending e.item q st (subst (λ (b : Bool). Reached c l (event b e.item ∷ q) st) p r);
    }
