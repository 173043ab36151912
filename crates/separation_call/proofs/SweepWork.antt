-- The words that the sweep changes: a segment is entered or taken out, its line's summary goes into the tree after the counts. Assumes nothing.
use Rattle.drawing.specs.declared.refusal.Refusal.{Refusal}
use Rattle.std.specs.Prelude.{Result, Ok, Err}
use mathlib.Core.Path.{◌≡◌, sym, ap, ◌∙◌, subst}
use mathlib.Core.List.{List, ◌∷◌, ◌++◌}
use Prim.Native.Nat.{ℕ, ◌+◌, ◌-◌, ◌*◌, ◌^◌, ◌≤◌}
use native.Mathlib.Omega.{arith}
use lib.ListN.{length, get_or, take, drop, length-append, get_or-append}
use lib.Seq.{get_or-take, drop_at, length-take-le}
use borrow.Rule.Slice.PartMut.{put_mid}
use Rattle.laws.specs.Inner.Allowance.{within}
use Rattle.laws.proofs.Parts.{tail_lent, tail_back}
use Rattle.rows.specs.Rows.{Row}
use Rattle.separation.specs.declared.summary.NetSummary.{NetSummary}
use Rattle.separation.specs.Searches.{set_run}
use Rattle.separation.specs.Walk.{remove}
use Rattle.separation.specs.declared.state.Sweeping.{Sweeping}
use Rattle.separation_call.specs.Inner.ActiveTree.{summary_at, charge_of, Leaves, Decides, Covers, SameOff, Renewed}
use Rattle.separation_call.specs.Inner.ActiveNets.{Slots, Counted, Starts, Ends}
use Rattle.separation_call.specs.Inner.Sweeping.{Working, Pays, Entered, TakenOut}
use Rattle.separation_call.proofs.Trees.{start_off, end_off}
use Rattle.separation_call.proofs.ActiveNets.{counted_frame}
use Rattle.separation_call.proofs.SweepSteps.{charge_stops, charge_pays}

-- the tree after the counts is lent to the next call
pub leaves-behind : (n leaves : ℕ) (w u : List ℕ) → drop (3 * n) u ≡ drop (3 * n) w → Leaves (drop (3 * n) w) leaves → Leaves (take (length u - 3 * n) (drop (3 * n) u)) leaves
leaves-behind n leaves w u e l = subst (λ (t : List ℕ). Leaves t leaves) (sym (tail_lent (3 * n) u ∙ e)) l

-- the `set` was not paid for, or was
module _ (leaves : ℕ) (st : Sweeping) (charge : Result ℕ Refusal) (told : (H : ℕ) → leaves ≡ 2 ^ H → charge ≡ charge_of (within st.remaining (set_run H))) where
  pub pays_not : (x : Refusal) → charge ≡ Err x → Pays leaves st (Err x)
  pays_not x g H k = charge_stops st H charge (told H k) x g

  pub pays : (m : ℕ) → charge ≡ Ok m → Pays leaves st (Ok (record { minimum = st.minimum; minimum_positive = st.minimum_positive; remaining = m }))
  pays m g H k = charge_pays st H charge (told H k) m g

-- w became u by the counts, and u became v by the tree e after them
module _ (n leaves line : ℕ) (w u e v : List ℕ) (summary : NetSummary) (rest : drop (3 * n) u ≡ drop (3 * n) w) (long : length u ≡ length w) (room : 3 * n ≤ length w) (back : v ≡ put_mid (3 * n) (length u - 3 * n) u e) where
  together : v ≡ take (3 * n) u ++ e
  together = back ∙ tail_back (3 * n) u e (omega arith)

  front_length : length (take (3 * n) u) ≡ 3 * n
  front_length = length-take-le (3 * n) u (omega arith)

  work_on : (b : ℕ) (ls : List ℕ) (H : ℕ) (line_of net_of slot_of : ℕ → ℕ) (old new : List Row) → Slots n line_of net_of slot_of → Counted n b ls line_of net_of slot_of new u → Decides ls new summary line (line + 1) → SameOff ls old new line
      → Covers ls old (summary_at (drop (3 * n) w)) H → Renewed (take (length u - 3 * n) (drop (3 * n) u)) e H line summary → Working n b ls H line_of net_of slot_of new v
  work_on b ls H line_of net_of slot_of old new slots counted decides off covers renewed = record {
    counted = counted_frame n b ls line_of net_of slot_of new u v counted slots (λ i h. ap (λ (l : List ℕ). get_or l i 0) together ∙ get_or-append (take (3 * n) u) e 0 i (omega (arith, front_length)) ∙ get_or-take (3 * n) u i 0 h) (omega (arith, front_length, ap length together ∙ length-append (take (3 * n) u) e));
    covers =
        let lent : take (length u - 3 * n) (drop (3 * n) u) ≡ drop (3 * n) w = tail_lent (3 * n) u ∙ rest in
        let fresh : drop (3 * n) v ≡ e = ap (drop (3 * n)) together ∙ drop_at (take (3 * n) u) e (3 * n) front_length in
        let before = subst (λ (t : List ℕ). Covers ls old (summary_at t) H) (sym lent) covers in
        subst (λ (t : List ℕ). Covers ls new (summary_at t) H) (sym fresh) (renewed ls old new off before decides);
  }

  -- the `set` was charged, whatever is returned then
  module _ (renews : (H : ℕ) → leaves ≡ 2 ^ H → Renewed (take (length u - 3 * n) (drop (3 * n) u)) e H line summary) (r : Result Sweeping Refusal) where
    pub entered : (slot net : ℕ) → Starts n slot line net w u summary → Entered n leaves slot line net w v r
    entered slot net f b ls H line_of net_of slot_of active x j to k at work g =
        let c = f b ls line_of net_of slot_of active x j work.counted at.slots at.inside at.slot_is at.line-is at.net-is at.on at.of in
        work_on (b + 1) ls H line_of net_of slot_of active (x ∷ active) at.slots c.0 c.1 (subst (SameOff ls active (x ∷ active)) at.on (start_off ls active x)) work.covers (renews H k)

    pub taken_out : (slot net : ℕ) → Ends n slot line net w u summary → TakenOut n leaves slot line net w v r
    taken_out slot net f b ls H line_of net_of slot_of active x j to k at work m g =
        let c = f b ls line_of net_of slot_of active x j work.counted at.slots at.inside at.slot_is at.line-is at.net-is at.on at.of m in
        work_on (b + 1) ls H line_of net_of slot_of active (remove x active) at.slots c.0 c.1 (subst (SameOff ls active (remove x active)) at.on (end_off ls active x)) work.covers (renews H k)

-- nothing is entered or taken out where the `set` was refused
refused_not : (x : Refusal) (to : Sweeping) → Err x ≡ Ok to → ⊥
refused_not x to e = let z : ◌≡◌ {A = ℕ} 0 1 = cc in omega arith

pub entered_not : (n leaves slot line net : ℕ) (w v : List ℕ) (x : Refusal) → Entered n leaves slot line net w v (Err x)
entered_not n leaves slot line net w v x b ls H line_of net_of slot_of active y j to k at work g = absurd (refused_not x to g)

pub taken_not : (n leaves slot line net : ℕ) (w v : List ℕ) (x : Refusal) → TakenOut n leaves slot line net w v (Err x)
taken_not n leaves slot line net w v x b ls H line_of net_of slot_of active y j to k at work m g = absurd (refused_not x to g)
