-- Both orientations, one after the other within an allowance, yield the figures over all pairs. Assumes nothing.
use Rattle.drawing.specs.declared.refusal.Refusal.TheVariants.{WorkLimitExceeded}
use Rattle.drawing.specs.declared.refusal.Refusal.{Refusal}
use Rattle.std.specs.Prelude.{Option, Result, Ok, Err}
use mathlib.Core.Path.{◌≡◌, refl, sym, ap, ◌∙◌, subst}
use mathlib.Core.Logic.{inl, inr}
use mathlib.Core.List.{List, map}
use mathlib.Core.Bool.{Bool, true, false}
use Prim.Native.Nat.{ℕ, ◌+◌, ◌-◌, ◌^◌, ◌≤◌, ◌<◌, max}
use native.Mathlib.Nat.{le_trans, le_of_eq}
use native.Mathlib.Omega.{arith}
use borrow.Author.Tests.{ne_eqb}
use lib.Dec.{T, ltb, eqb}
use lib.Ieee.{Float, binary64, add}
use lib.ListN.{length, length-map}
use Rattle.laws.specs.Lists.{All}
use Rattle.laws.specs.Least.{lesser}
use Rattle.laws.specs.Perm.{Perm}
use Rattle.laws.specs.Charged.{Charged, free, after}
use Rattle.laws.specs.Inner.Allowance.{Outcome, spent, left, within, onward}
use Rattle.laws.proofs.Tests.{le_or_lt, cond_false}
use Rattle.laws.proofs.ListLaws.{mem_all}
use Rattle.laws.proofs.Perms.{perm_sym, perm_mem, perm-length}
use Rattle.laws.proofs.Runs.{within-enough, within-short, within-free, within-after, onward-spent, onward-left}
use Rattle.floats.specs.Grid.{on_grid, of_units}
use Rattle.floats.proofs.Units.{add_units}
use Rattle.drawing.specs.Entries.{Segment}
use Rattle.drawing.specs.Gaps.{lesser_gap}
use Rattle.drawing.specs.Held.{SegmentHeld}
use Rattle.rows.specs.Rows.{oriented, at_least_two}
use Rattle.congestion.specs.declared.report.ParallelCongestion.{ParallelCongestion}
use Rattle.congestion.specs.declared.found.Found.{Found}
use Rattle.congestion.specs.Wires.{wire_of, cutoff_of}
use Rattle.congestion.specs.Figures.{total}
use Rattle.congestion.specs.AllPairs.{lengths, all_pairs}
use Rattle.congestion.specs.Walk.{State, along, sweep_wires, only, gap_of_units}
use Rattle.congestion.specs.Inner.Keys.{Representable}
use Rattle.density_call.specs.Inner.Sweeping.{swept_of}
use Rattle.density_call.specs.Inner.Measuring.{wire_of_row, found_of, combined_of}
use Rattle.congestion.proofs.Fitness.{FitList, sound_wires}
use Rattle.congestion.proofs.Beginning.{Sound}
use Rattle.congestion.proofs.Bounds.{Small, congested-small, overlap-small}
use Rattle.congestion.proofs.Oriented.{least_units}
use Rattle.congestion.proofs.Orientations.{of-only, congested-two, overlap-two}
use Rattle.congestion.proofs.LeastGap.{held-least, lesser-gap}
use Rattle.congestion.proofs.RoundedSums.{small-wires, low-wires}
use Rattle.congestion.proofs.FiguresOrder.{found-order}
use Rattle.congestion.proofs.SweepFigures.{Right, one_way, sweep_finds}
use Rattle.congestion.proofs.SweepTheorem.{all-pairs-found}
use Rattle.density_call.proofs.RowWires.{wires_in_rows, wires-perm, only-across, only-down}

-- parts of a sum below a bound
below_left : (x y p q t : ℕ) → x ≡ p → y ≡ q → t ≡ p + q → t < 2 ^ 53 → x < 2 ^ 53
below_left x y p q t a b e k = omega arith

below_right : (x y p q t : ℕ) → x ≡ p → y ≡ q → t ≡ p + q → t < 2 ^ 53 → y < 2 ^ 53
below_right x y p q t a b e k = omega arith

-- ---- the outcome of a sweep within an allowance
abbrev figures : State → ℕ → Found
figures st m = record {
  congested_length = of_units st.congested_length;
  pair_overlap_length = of_units st.pair_overlap_length;
  peak_close_neighbors = st.peak_close_neighbors;
  minimum_positive = gap_of_units st.minimum_positive;
  remaining = m;
}

-- a refusal is that of a spent allowance
spent-is : (o : Outcome State) (why : Refusal) → Err why ≡ swept_of o → (o ≡ spent) × (◌≡◌ {A = Result Found Refusal} (Err why) (Err WorkLimitExceeded))
unfolding swept_of
spent-is spent why e = (refl, e)
spent-is (left st m) why e = let z : ◌≡◌ {A = ℕ} 0 1 = cc in absurd (omega arith)

-- the allowance was enough, and these are the figures of the state that the sweep reached
record Reached (m : ℕ) (c : Charged State) (f : Found) : Type 0 where
  paid : within m c ≡ left c.value f.remaining
  is : f ≡ figures c.value f.remaining

reached : (m : ℕ) (c : Charged State) (f : Found) → Ok f ≡ swept_of (within m c) → Reached m c f
unfolding swept_of
reached m c f e = elim (le_or_lt c.cost m) [
  | inl h ↦
      let a = within-enough m c h in
      let b = one f (figures c.value (m - c.cost)) (e ∙ ap swept_of a) in
      let k : m - c.cost ≡ f.remaining = sym (ap (λ (x : Found). x.remaining) b) in
      record { paid = a ∙ ap (left c.value) k; is = b ∙ ap (figures c.value) k }
  | inr h ↦ absurd (never (e ∙ ap swept_of (within-short m c h)))
]
  where
    one : (f g : Found) → ◌≡◌ {A = Result Found Refusal} (Ok f) (Ok g) → f ≡ g
    one f g e = cc

    never : Ok f ≡ Err WorkLimitExceeded → ⊥
    never e = let z : ◌≡◌ {A = ℕ} 0 1 = cc in omega arith

-- ---- one orientation after the other
across-is : (c : ℕ) (l : List Segment) → along c (only true (wires_in_rows l)) ≡ along c (map (wire_of_row true) (oriented 1 l))
across-is c l = ap (along c) (only-across l)

down_is : (c : ℕ) (l : List Segment) → along c (only false (wires_in_rows l)) ≡ along c (map (wire_of_row false) (oriented 0 l))
down_is c l = ap (along c) (only-down l)

module _ (c : ℕ) (some : 0 < c) (l : List Segment) where
  abbrev across : Charged State
  across = along c (map (wire_of_row true) (oriented 1 l))

  abbrev down : Charged State
  down = along c (map (wire_of_row false) (oriented 0 l))

  -- the figures of two states
  abbrev together : State → State → ParallelCongestion × Option Float
  together h v = (lengths (total (wires_in_rows l)) (h.congested_length + v.congested_length) (h.pair_overlap_length + v.pair_overlap_length) (max h.peak_close_neighbors v.peak_close_neighbors), gap_of_units (lesser ltb h.minimum_positive v.minimum_positive))

  abbrev second : State → ℕ → Outcome (ParallelCongestion × Option Float)
  second h r = onward (within r down) (λ v r. left (together h v) r)

  wires-within : (m : ℕ) → within m (sweep_wires c (wires_in_rows l)) ≡ onward (within m across) second
  unfolding sweep_wires
  wires-within m =
      ap (within m) (cond_false (eqb c 0) _ _ (ne_eqb c 0 (λ e. omega arith)))
      ∙ within-after m (along c (only true (wires_in_rows l))) (λ h. after (along c (only false (wires_in_rows l))) (λ v. free (together h v)))
      ∙ (λ i. onward (within m (across-is c l i)) (λ h r. then-down h r i))
    where
      then-down : (h : State) (r : ℕ) → within r (after (along c (only false (wires_in_rows l))) (λ v. free (together h v))) ≡ second h r
      then-down h r =
          within-after r (along c (only false (wires_in_rows l))) (λ v. free (together h v))
          ∙ (λ i. onward (within r (down_is c l i)) (λ v k. within-free k (together h v) i))

-- ---- the sweep over rows has the figures over all pairs
module _ (cutoff : Float) (grid : T (on_grid cutoff)) (l : List Segment) (fit : FitList l) (held : All SegmentHeld l) where
  abbrev c : ℕ
  c = cutoff_of cutoff

  same-wires : Perm (wires_in_rows l) (map wire_of l)
  same-wires = wires-perm l held (mem_all (λ (s : Segment). s.orientation ≤ 1) l (λ s m. (fit.each s m).byte))

  sound : Sound (wires_in_rows l)
  sound =
      let v = sound_wires l fit in
      record { few = le_trans (le_of_eq (perm-length same-wires)) v.few; ordered = λ w m. v.ordered w (perm_mem w same-wires m) }

  small : Small (wires_in_rows l)
  small w m = small-wires l fit w (perm_mem w same-wires m)

  all-pairs_are : all_pairs cutoff l ≡ sweep_wires c (wires_in_rows l)
  all-pairs_are = all-pairs-found cutoff grid l fit ∙ found-order c (perm_sym same-wires) ∙ sym (sweep_finds c (wires_in_rows l) sound)

  module _ (some : 0 < c) where
    -- the sums of both orientations are those of the whole, which a float holds
    right : (h : Bool) → Right c (only h (wires_in_rows l)) (along c (only h (wires_in_rows l)))
    right h = one_way c some h (wires_in_rows l) sound

    abbrev h : State
    h = (along c (map (wire_of_row true) (oriented 1 l))).value

    abbrev v : State
    v = (along c (map (wire_of_row false) (oriented 0 l))).value

    across-right : Right c (only true (wires_in_rows l)) (along c (map (wire_of_row true) (oriented 1 l)))
    across-right = subst (Right c (only true (wires_in_rows l))) (across-is c l) (right true)

    down-right : Right c (only false (wires_in_rows l)) (along c (map (wire_of_row false) (oriented 0 l)))
    down-right = subst (Right c (only false (wires_in_rows l))) (down_is c l) (right false)

    congested-sum : add binary64 (of_units h.congested_length) (of_units v.congested_length) ≡ of_units (h.congested_length + v.congested_length)
    congested-sum =
        let a = across-right.congested-right in
        let b = down-right.congested-right in
        let t = congested-two c (wires_in_rows l) in
        let k = congested-small c (wires_in_rows l) sound small in
        add_units h.congested_length v.congested_length (below_left _ _ _ _ _ a b t k) (below_right _ _ _ _ _ a b t k)

    overlap-sum : add binary64 (of_units h.pair_overlap_length) (of_units v.pair_overlap_length) ≡ of_units (h.pair_overlap_length + v.pair_overlap_length)
    overlap-sum =
        let a = across-right.overlap-right in
        let b = down-right.overlap-right in
        let t = overlap-two c (wires_in_rows l) in
        let k = overlap-small c (wires_in_rows l) sound small in
        add_units h.pair_overlap_length v.pair_overlap_length (below_left _ _ _ _ _ a b t k) (below_right _ _ _ _ _ a b t k)

    -- the least gaps of both are numbers that a float holds: the lesser gap is that of the lesser number
    held_way : (b : Bool) → Representable (least_units c (only b (wires_in_rows l)))
    held_way b = held-least c (only b (wires_in_rows l)) (λ w m. low-wires l fit w (perm_mem w same-wires (of-only b w (wires_in_rows l) m).0))

    least-lesser : lesser_gap (gap_of_units h.minimum_positive) (gap_of_units v.minimum_positive) ≡ gap_of_units (lesser ltb h.minimum_positive v.minimum_positive)
    least-lesser = lesser-gap h.minimum_positive v.minimum_positive (subst Representable (sym across-right.least-right) (held_way true)) (subst Representable (sym down-right.least-right) (held_way false))

    -- ---- too few visits, whatever the sweeps find
    cost-least : at_least_two (length (oriented 1 l)) + at_least_two (length (oriented 0 l)) ≤ (all_pairs cutoff l).cost
    unfolding sweep_wires
    cost-least =
        let w = wires_in_rows l in
        let one : length (only true w) ≡ length (oriented 1 l) = ap length (only-across l) ∙ length-map (oriented 1 l) (wire_of_row true) in
        let other : length (only false w) ≡ length (oriented 0 l) = ap length (only-down l) ∙ length-map (oriented 0 l) (wire_of_row false) in
        let cost : (sweep_wires c w).cost ≡ (along c (only true w)).cost + ((along c (only false w)).cost + 0) = ap (λ (x : Charged (ParallelCongestion × Option Float)). x.cost) (cond_false (eqb c 0) _ _ (ne_eqb c 0 (λ e. omega arith))) in
        rw (← one, ← other, all-pairs_are) (omega (arith, cost, (right true).cost-right, (right false).cost-right))

    pub too_few : (m n : ℕ) → n ≡ at_least_two (length (oriented 1 l)) + at_least_two (length (oriented 0 l)) → m < n → Err WorkLimitExceeded ≡ found_of (within m (all_pairs cutoff l))
    unfolding found_of
    too_few m n e k = sym (ap found_of (within-short m (all_pairs cutoff l) (omega (arith, cost-least))))

    -- ---- what the code answers, from the outcomes of its sweeps
    module _ (m : ℕ) (first : Result Found Refusal) (one : first ≡ swept_of (within m (across c some l))) where
      whole : within m (all_pairs cutoff l) ≡ onward (within m (across c some l)) (second c some l)
      whole = ap (within m) all-pairs_are ∙ wires-within c some l m

      pub stops : (why : Refusal) → first ≡ Err why → Err why ≡ found_of (within m (all_pairs cutoff l))
      unfolding found_of
      stops why e =
          let k = spent-is (within m (across c some l)) why (sym e ∙ one) in
          let z : onward (within m (across c some l)) (second c some l) ≡ spent = rw k.0 (onward-spent (second c some l)) in
          k.1 ∙ sym (ap found_of (whole ∙ z))

      module _ (a : Found) (went : first ≡ Ok a) (next : Result Found Refusal) (other : next ≡ swept_of (within a.remaining (down c some l))) where
        on : within m (all_pairs cutoff l) ≡ second c some l h a.remaining
        on = whole ∙ rw (reached m (across c some l) a (sym went ∙ one)).paid (onward-left h a.remaining (second c some l))

        pub stops_later : (why : Refusal) → next ≡ Err why → Err why ≡ found_of (within m (all_pairs cutoff l))
        unfolding found_of
        stops_later why e =
            let k = spent-is (within a.remaining (down c some l)) why (sym e ∙ other) in
            let z : second c some l h a.remaining ≡ spent = rw k.0 (onward-spent (λ w r. left (together c some l h w) r)) in
            k.1 ∙ sym (ap found_of (on ∙ z))

        pub went_both : (d r : Found) → next ≡ Ok d → r ≡ combined_of a d → Ok r ≡ found_of (within m (all_pairs cutoff l))
        unfolding found_of lengths
        went_both d r e t =
            let p = reached m (across c some l) a (sym went ∙ one) in
            let q = reached a.remaining (down c some l) d (sym e ∙ other) in
            let z : second c some l h a.remaining ≡ left (together c some l h v) d.remaining = rw q.paid (onward-left v d.remaining (λ w r. left (together c some l h w) r)) in
            ap Ok (t ∙ (λ i. combined_of (p.is i) (q.is i)))
            ∙ (λ i. Ok (record {
              congested_length = congested-sum i;
              pair_overlap_length = overlap-sum i;
              peak_close_neighbors = max h.peak_close_neighbors v.peak_close_neighbors;
              minimum_positive = least-lesser i;
              remaining = d.remaining;
            }))
            ∙ sym (ap found_of (on ∙ z))
