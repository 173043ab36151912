-- The checks of congestion leave columns and a cutoff that both orientations can be swept with; a cutoff of 0 or less leaves nothing to sweep. Assumes nothing.
use Rattle.std.specs.Prelude.{None, Ok}
use mathlib.Core.Path.{◌≡◌, sym, ap, ◌∙◌, subst}
use mathlib.Core.Logic.{inl, inr}
use mathlib.Core.List.{map}
use mathlib.Core.Bool.{true, false}
use Prim.Native.Nat.{ℕ, ◌≤◌}
use native.Mathlib.Nat.{le_trans, le_of_eq}
use native.Mathlib.Omega.{arith}
use borrow.Author.Tests.{ltb-true, ltb-false, eqb-true, eqb-false, le-ltb}
use lib.Dec.{T}
use lib.Ieee.{Float, lt, eq, le}
use Rattle.laws.specs.Lists.{All}
use Rattle.laws.specs.Inner.Allowance.{within}
use Rattle.laws.proofs.Tests.{or_elim, neither_left, neither_right}
use Rattle.laws.proofs.ListLaws.{all_mem}
use Rattle.laws.proofs.Runs.{within-free}
use Rattle.floats.specs.Values.{plus_zero}
use Rattle.floats.specs.Grid.{on_grid, unit}
use Rattle.floats.proofs.Units.{lt_units, eq_units}
use Rattle.drawing.specs.Entries.{SegmentColumns, segments}
use Rattle.drawing.specs.Refusals.{first_of}
use Rattle.drawing.proofs.EntryLaws.{length-segments}
use Rattle.drawing.specs.Held.{SegmentHeld}
use Rattle.rows.proofs.Oriented.{mem_oriented}
use Rattle.congestion.specs.Conditions.{congestion_conditions}
use Rattle.congestion.specs.Wires.{wire_of, cutoff_of}
use Rattle.congestion.specs.Figures.{total}
use Rattle.congestion.specs.AllPairs.{lengths, all_pairs}
use Rattle.density_call.specs.Inner.Measuring.{Proper, Cutoff, AtColumns, found_of, none_of}
use Rattle.congestion.proofs.Fitness.{zero_stands, segments_passed, agree, fit_list, fit-cutoff}
use Rattle.congestion.proofs.RoundedSums.{zero_units}
use Rattle.congestion.proofs.SweepTheorem.{no_cutoff}
use Rattle.density_call.proofs.RowTabled.{row-proper}

-- ---- `cutoff <= 0.0` on the grid
module _ (x : Float) (g : T (on_grid x)) where
  not_above : le x plus_zero ≡ true → unit x ≤ unit plus_zero
  unfolding le
  not_above e = elim (or_elim (lt x plus_zero) (eq x plus_zero) e) [
    | inl t ↦ let k = ltb-true (unit x) (unit plus_zero) (sym (lt_units x plus_zero g zero_stands.grid) ∙ t) in omega arith
    | inr t ↦ le_of_eq (eqb-true (unit x) (unit plus_zero) (sym (eq_units x plus_zero g zero_stands.grid) ∙ t))
  ]

  above : le x plus_zero ≡ false → Cutoff x
  unfolding le cutoff_of
  above e =
      let a = ltb-false (unit x) (unit plus_zero) (sym (lt_units x plus_zero g zero_stands.grid) ∙ neither_left (lt x plus_zero) (eq x plus_zero) e) in
      let b = eqb-false (unit x) (unit plus_zero) (sym (eq_units x plus_zero g zero_stands.grid) ∙ neither_right (lt x plus_zero) (eq x plus_zero) e) in
      let z = zero_stands.is in
      record { grid = g; some = omega arith }

-- ---- what the checks leave
module _ (s : SegmentColumns) (cutoff : Float) (words : ℕ) (passed : first_of (congestion_conditions s cutoff words) ≡ Ok tt) where
  -- nothing is swept
  pub nothing_swept : le cutoff plus_zero ≡ true → (m : ℕ) → Ok (none_of m) ≡ found_of (within m (all_pairs cutoff (segments s)))
  unfolding found_of lengths
  nothing_swept e m =
      let g = fit-cutoff s cutoff words passed in
      let k = lt_units plus_zero cutoff zero_stands.grid g ∙ le-ltb (unit plus_zero) (unit cutoff) (not_above cutoff g e) in
      (λ i. Ok (record { congested_length = sym zero_units i; pair_overlap_length = sym zero_units i; peak_close_neighbors = 0; minimum_positive = None; remaining = m }))
      ∙ sym (ap found_of (ap (within m) (no_cutoff cutoff g k (segments s) (fit_list s cutoff words passed)) ∙ within-free m (lengths (total (map wire_of (segments s))) 0 0 0, None)))

  pub cutoff-above : le cutoff plus_zero ≡ false → Cutoff cutoff
  cutoff-above = above cutoff (fit-cutoff s cutoff words passed)

  pub at_columns : All SegmentHeld (segments s) → (o : ℕ) → AtColumns words o s
  at_columns held o =
      let same = agree s cutoff words passed in
      let fit = fit_list s cutoff words passed in
      record {
        agree = same;
        few = le_trans (le_of_eq (sym (length-segments s same))) fit.few;
        room = (segments_passed s cutoff words passed).room;
        proper = λ r m.
            let g = mem_oriented o (segments s) r m in
            subst Proper (sym g.is) (row-proper g.segment (all_mem SegmentHeld (segments s) held g.segment g.there) (fit.each g.segment g.there));
      }
