-- The Rust's sweep, its segments in the order of SCOPE 9.4, finds the all-pairs report of a fit drawing and costs its visit count; and both are the same for every order of the segments. Assumes nothing.
use Rattle.std.specs.Prelude.{None}
use mathlib.Core.Path.{◌≡◌, sym, ◌∙◌}
use mathlib.Core.Bool.{false}
use mathlib.Core.List.{List, map}
use native.Mathlib.Omega.{arith}
use native.Mathlib.Nat.{le_trans, le_of_eq}
use lib.Dec.{T}
use lib.Ieee.{Float, lt}
use borrow.Author.Tests.{ltb-false}
use Rattle.laws.specs.Perm.{Perm}
use Rattle.laws.proofs.Perms.{perm_sym, perm-length, perm_mem, perm-map}
use Rattle.floats.specs.Values.{plus_zero}
use Rattle.floats.specs.Grid.{on_grid, unit}
use Rattle.floats.proofs.Units.{lt_units}
use Rattle.drawing.specs.Entries.{Segment}
use Rattle.drawing.specs.Orders.{segments_in_order}
use Rattle.drawing.proofs.ListOrders.{segments-in_order-perm}
use Rattle.congestion.specs.Wires.{wire_of, cutoff_of}
use Rattle.congestion.specs.Figures.{total, congested, pair_overlap, peak}
use Rattle.congestion.specs.AllPairs.{lengths, all_pairs}
use Rattle.congestion.specs.Walk.{walk_all}
use Rattle.congestion.proofs.SweepFigures.{found, zero-cutoff, sweep_finds}
use Rattle.congestion.proofs.FiguresOrder.{found-order}
use Rattle.congestion.proofs.LeastGap.{least-gap}
use Rattle.congestion.proofs.Visits.{visits_in_units}
use Rattle.congestion.proofs.Fitness.{zero_stands, FitList, sound_wires}

pub fit-perm : {l m : List Segment} → Perm l m → FitList l → FitList m
fit-perm p f = record { few = le_trans (le_of_eq (sym (perm-length p))) f.few; each = λ s n. f.each s (perm_mem s (perm_sym p) n) }

module _ (cutoff : Float) (grid : T (on_grid cutoff)) where
  -- the report is that of the wires
  pub all-pairs-found : (l : List Segment) → FitList l → all_pairs cutoff l ≡ found (cutoff_of cutoff) (map wire_of l)
  unfolding all_pairs
  all-pairs-found l f = let g = least-gap (cutoff_of cutoff) l (λ s m. (f.each s m).fixed) in let c = cutoff_of cutoff in let w = map wire_of l in let n = visits_in_units cutoff grid l f in λ i. record { value = (lengths (total w) (congested c w) (pair_overlap c w) (peak c w), g i); cost = n i }

  pub all-pairs-order : {l m : List Segment} → Perm l m → FitList l → all_pairs cutoff l ≡ all_pairs cutoff m
  all-pairs-order {l} {m} p f = all-pairs-found l f ∙ found-order (cutoff_of cutoff) (perm-map wire_of p) ∙ sym (all-pairs-found m (fit-perm p f))

  pub sweep-is-all-pairs : (l : List Segment) → FitList l → walk_all cutoff l ≡ all_pairs cutoff l
  unfolding walk_all
  sweep-is-all-pairs l f =
      let p = segments-in_order-perm l in
      let g = fit-perm (perm_sym p) f in
      sweep_finds (cutoff_of cutoff) (map wire_of (segments_in_order l)) (sound_wires (segments_in_order l) g)
      ∙ sym (all-pairs-found (segments_in_order l) g)
      ∙ all-pairs-order p g

  -- SCOPE 3.16, 4.5: "Cutoff 0 or less gives total length, zeros and an absent gap": the cutoff is not above 0
  pub no_cutoff : lt plus_zero cutoff ≡ false → (l : List Segment) → FitList l → all_pairs cutoff l ≡ record { value = (lengths (total (map wire_of l)) 0 0 0, None); cost = 0 }
  unfolding cutoff_of
  no_cutoff e l f =
      let z = zero_stands in
      let h = ltb-false (unit plus_zero) (unit cutoff) (sym (lt_units plus_zero cutoff z.grid grid) ∙ e) in
      let c : cutoff_of cutoff ≡ 0 = let u = z.is in omega arith in
      all-pairs-found l f ∙ zero-cutoff (cutoff_of cutoff) c (map wire_of l)
