-- Demand 2. Assumes nothing.
use mathlib.Core.Path.{◌≡◌, sym, ap, ◌∙◌}
use mathlib.Core.Bool.{true}
use Prim.Native.Nat.{◌<◌}
use borrow.Author.Tests.{ltb-true}
use lib.Dec.{T, ltb, lit<}
use lib.Ieee.{Float, nan, inf, fin, binary64, lt}
use lib.ListN.{length}
use Rattle.laws.specs.Lists.{Mem}
use Rattle.laws.proofs.Tests.{of_true}
use Rattle.laws.proofs.ListLaws.{all_mem}
use Rattle.floats.specs.Values.{plus_zero, canonical_zero}
use Rattle.floats.specs.TotalOrder.{key_of}
use Rattle.floats.specs.Grid.{on_grid, unit}
use Rattle.floats.proofs.Zeros.{canonical_again, canonical_fin}
use Rattle.floats.proofs.NumberKeys.{canonical_key}
use Rattle.floats.proofs.TotalOrder.{key-order}
use Rattle.floats.proofs.Units.{lt_units, grid_num, canonical_unit, canonical_grid}
use Rattle.drawing.specs.Entries.{Segment, segments}
use Rattle.drawing.specs.Held.{Binary64, SegmentHeld}
use Rattle.separation.proofs.TwoNets.{two-nets_decide}
use Rattle.congestion.specs.Wires.{cutoff_of}
use Rattle.congestion.proofs.Fitness.{fit_list, fit-cutoff}
use Rattle.congestion.proofs.Closeness.{below-cutoff}
use Rattle.congestion.proofs.RoundedSums.{zero_units}
use Rattle.congestion.proofs.RangeTests.{range-floats}
use Rattle.congestion.proofs.RoundedDrawing.{report_exact}
use Rattle.demands.specs.Applies.{NoneApplies}
use Rattle.demands.specs.Measures.{Run, earlier, measure_of, density}
use Rattle.demands.specs.Demand2.{Exact, Demand2}
use Rattle.demands.proofs.FirstMet.{none_passed}
use Rattle.demands.proofs.OneCall.{all-pairs}
use Rattle.demands.proofs.AllFacts.{all_facts}

some-cutoff : (cutoff : Float) → T (on_grid cutoff) → lt plus_zero cutoff ≡ true → 0 < cutoff_of cutoff
some-cutoff cutoff g h = ltb-true 0 (cutoff_of cutoff) (sym (below-cutoff 0 cutoff (lit< tt) g) ∙ ap (λ (x : Float). lt x cutoff) zero_units ∙ h)

exact : (r : Run density) → NoneApplies (earlier density r) → Exact r.drawing r.settings
exact r h =
    let s = r.drawing in
    let cutoff = r.settings in
    let l = segments s in
    let p = none_passed (earlier density r) h in
    let f = fit_list s cutoff (length r.before) p in
    let g = fit-cutoff s cutoff (length r.before) p in
    let x = report_exact cutoff l f in
    record {
      total = x.total;
      overlap = x.overlap-pairs g;
      swept_congested = x.congested;
      swept_overlap = x.overlap;
      swept_least = x.least;
      range = λ e y z m n.
          let held : (y : Segment) → Mem y l → SegmentHeld y = all_mem SegmentHeld l (r.says.held p).0 in
          range-floats cutoff y z (held y m).fixed (held z n).fixed (f.each y m).fixed (f.each z n).fixed g (some-cutoff cutoff g e);
    }

grid_fits : (x : Float) → Binary64 x → T (on_grid x) → Binary64 (canonical_zero x)
unfolding on_grid
grid_fits nan p g = absurd g
grid_fits (inf s) p g = absurd g
grid_fits (fin s m e) p g = (canonical_fin binary64 (fin s m e) (p, tt)).0

grid-order : (x y : Float) → Binary64 x → Binary64 y → on_grid x ≡ true → on_grid y ≡ true → ltb (key_of (canonical_zero x)) (key_of (canonical_zero y)) ≡ ltb (unit x) (unit y)
grid-order x y p q g h =
    let a : T (on_grid (canonical_zero x)) = of_true (on_grid (canonical_zero x)) (canonical_grid x ∙ g) in
    let b : T (on_grid (canonical_zero y)) = of_true (on_grid (canonical_zero y)) (canonical_grid y ∙ h) in
    sym (canonical_key (canonical_zero x) (canonical_zero y) (grid_num (canonical_zero x) (grid_fits x p (of_true (on_grid x) g)) a) (grid_num (canonical_zero y) (grid_fits y q (of_true (on_grid y) h)) b) (canonical_again x) (canonical_again y))
    ∙ lt_units (canonical_zero x) (canonical_zero y) a b
    ∙ (λ i. ltb (canonical_unit x i) (canonical_unit y i))

pub demand_2 : Demand2
demand_2 = record { of_each = λ call. all-pairs (measure_of call) (all_facts call); exact = exact; comparisons = record { total-order = key-order; grid-order = grid-order; two-nets = two-nets_decide } }
