-- What a sweep that keeps its own tally uses at each event: the state after any of them, and that no count goes below 0. Assumes nothing.
use mathlib.Core.Path.{◌≡◌, ap, ◌∙◌}
use mathlib.Core.List.{List, ◌∷◌}
use mathlib.Core.Bool.{Bool, true, false, ◌&&◌}
use Prim.Native.Nat.{ℕ, ◌+◌, ◌≤◌}
use native.Mathlib.Omega.{arith}
use lib.Dec.{T, eqb}
use Rattle.laws.specs.Lists.{Mem, bit, count}
use Rattle.laws.proofs.Tests.{is_true}
use Rattle.congestion.specs.Walk.{Item, WireEvent, State, wire_events, in_order, neighbor, neighbors, was_congested, step, begin}
use Rattle.congestion.proofs.Sets.{neighbors_in}
use Rattle.congestion.proofs.Tracking.{facing, Tracks, tracks_same, grows, active-before, pairs-before}
use Rattle.congestion.proofs.Moments.{Fit, Pending, event, end_key, key, active_at, unchanged, next, item∈, off_after, end_drops, step_tracks}
use Rattle.congestion.proofs.Beginning.{pending, tracks}

-- ---- the state after any part of the events is that of an active set, given by the keys
pub record Reached (c : ℕ) (l : List Item) (q : List WireEvent) (st : State) : Type 0 where
  pub threshold : ℕ
  pub left : Pending l threshold st.previous q
  pub state : Tracks c l (active_at threshold) st

module _ (c : ℕ) (l : List Item) (fit : Fit l) where
  pub at_first : Reached c l (in_order (wire_events l)) (begin l)
  at_first = record { threshold = 0; left = pending c l fit; state = tracks c l fit }

  pub one_more : (e : WireEvent) (q : List WireEvent) (st : State) → Reached c l (e ∷ q) st → Reached c l q (step c st e).value
  one_more e q st r = go e.ends e.item r.left
    where
      go : (b : Bool) (s : Item) → Pending l r.threshold st.previous (event b s ∷ q) → Reached c l q (step c st (event b s)).value
      go true s pe = record { threshold = key (event true s) + 1; left = next l fit r.threshold st.previous (event true s) q pe; state = step_tracks l fit c r.threshold st.previous true s q st pe r.state }
      go false s pe = record { threshold = key (event false s) + 1; left = next l fit r.threshold st.previous (event false s) q pe; state = step_tracks l fit c r.threshold st.previous false s q st pe r.state }

  -- ---- at the end of s
  module _ (s : Item) (q : List WireEvent) (st : State) (r : Reached c l (event true s ∷ q) st) where
    s∈ : Mem s l
    s∈ = item∈ l fit r.threshold st.previous (event true s) q r.left

    pub at-end : Tracks c l (active_at (end_key s)) st
    at-end = tracks_same c l (active_at r.threshold) (active_at (end_key s)) st (unchanged l fit r.threshold st.previous (event true s) q r.left) r.state

    -- `congested_active -= 1` does not go below 0
    pub active-room : was_congested c s st + count (λ r. neighbor c s.wire r && eqb r.neighbors 1) st.wires ≤ st.congested_active
    active-room = let e = active-before c l fit.rise s s∈ (active_at (end_key s + 1)) (active_at (end_key s)) (off_after l fit s s∈) (end_drops l fit s s∈) s.wire.end st at-end in omega arith

    -- `close_pairs -= neighbors.len()` does not
    pub pairs-room : neighbors c s st ≤ st.close_pairs
    pairs-room = let e = pairs-before c l fit.rise s s∈ (active_at (end_key s + 1)) (active_at (end_key s)) (off_after l fit s s∈) (end_drops l fit s s∈) s.wire.end st at-end in omega arith

    -- `*count -= 1` does not: a neighbor of s has a count of at least 1
    pub count_room : (j : Item) → Mem j l → T (facing c s j) → 1 ≤ neighbors_in (facing c) l (active_at (end_key s)) j
    count_room j m h =
        let e : neighbors_in (facing c) l (active_at (end_key s)) j ≡ neighbors_in (facing c) l (active_at (end_key s + 1)) j + 1 = grows c l fit.rise s s∈ (active_at (end_key s + 1)) (active_at (end_key s)) (off_after l fit s s∈) (end_drops l fit s s∈) s.wire.end st j ∙ ap (λ (b : Bool). neighbors_in (facing c) l (active_at (end_key s + 1)) j + bit b) (is_true (facing c s j) h) in
        omega arith
