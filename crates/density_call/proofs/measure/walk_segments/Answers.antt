-- `density_call::measure::walk_segments` meets its contract: a cutoff of 0 or less; too few visits for the segments; else horizontal segments, then vertical ones with the remaining visits. Assumes nothing.
use Rattle.std.specs.Prelude.{Ok}
use mathlib.Core.Path.{◌≡◌, sym, ap, ◌∙◌, subst}
use mathlib.Core.Bool.{false}
use Prim.Native.Nat.{ℕ}
use lib.Ieee.{Float, of_bits, le}
use Rattle.std.proofs.lemmas.Result.{err_from_is_err_and}
use Rattle.laws.specs.Lists.{All}
use Rattle.floats.specs.Values.{plus_zero}
use Rattle.drawing.specs.Entries.{SegmentColumns, lent_segments, segments}
use Rattle.drawing.specs.Refusals.{first_of}
use Rattle.drawing.specs.Inner.Lengths.{SegmentsAgree}
use Rattle.drawing.specs.Held.{SegmentHeld}
use Rattle.congestion.specs.Conditions.{congestion_conditions}
use Rattle.rows.proofs.ToSweep.{rows-to-sweep}
use Rattle.density_call.specs.Inner.Measuring.{Cutoff, AtColumns}
use Rattle.congestion.proofs.Fitness.{FitList, agree, fit_list}
use Rattle.density_call.proofs.BothWays.{too_few, stops, stops_later, went_both}
use Rattle.density_call.proofs.SweptBoth.{nothing_swept, cutoff-above, at_columns}
use Rattle.density_call.proofs.measure.walk_segments.Goals as goal

-- what is known after the first test: the cutoff is above 0
record Ready (s : SegmentColumns) (cutoff : Float) (words : ℕ) : Type 0 where
  held : All SegmentHeld (segments s)
  fit : FitList (segments s)
  sweeps : Cutoff cutoff
  rows_of : (o : ℕ) → AtColumns words o s

ready : (s : SegmentColumns) (cutoff : Float) (words : ℕ) → first_of (congestion_conditions s cutoff words) ≡ Ok tt → le cutoff plus_zero ≡ false → (SegmentsAgree s → All SegmentHeld (segments s)) → Ready s cutoff words
ready s cutoff words passed above known =
    let held = known (agree s cutoff words passed) in
    record {
      held = held;
      fit = fit_list s cutoff words passed;
      sweeps = cutoff-above s cutoff words passed above;
      rows_of = λ o. at_columns s cutoff words passed held o;
    }

pub returns-then-cutoff : goal.returns-then-cutoff
unfolding of_bits
returns-then-cutoff c = ap Ok c.nothing_found.ensures ∙ nothing_swept _ _ _ c.requires c.if-cutoff.true _

pub returns-then-allowance-segments_to_sweep : goal.returns-then-allowance-segments_to_sweep
unfolding of_bits
returns-then-allowance-segments_to_sweep c =
    let s = lent_segments c.args.segments.now in
    let r = ready s c.args.cutoff _ c.requires c.if-cutoff.false c.held.ensures.floats in
    too_few c.args.cutoff r.sweeps.grid (segments s) r.fit r.held r.sweeps.some _ _ (c.segments_to_sweep.ensures ∙ rows-to-sweep s (agree s c.args.cutoff _ c.requires)) c.if-allowance-segments_to_sweep.true

pub sweep_along-requires : goal.sweep_along-requires
unfolding of_bits
sweep_along-requires c =
    let s = lent_segments c.args.segments.now in
    let r = ready s c.args.cutoff _ c.requires c.if-cutoff.false c.held.ensures.floats in
    record { at_columns = r.rows_of 1; cutoff = r.sweeps }

pub returns-in_err-across : goal.returns-in_err-across
unfolding of_bits
returns-in_err-across c =
    let s = lent_segments c.args.segments.now in
    let r = ready s c.args.cutoff _ c.requires c.if-cutoff.false c.held.ensures.floats in
    let exit = err_from_is_err_and c.from_residual.result c.from_residual.ensures.1 in
    rw (exit.1, exit.2) (stops c.args.cutoff r.sweeps.grid (segments s) r.fit r.held r.sweeps.some _ _ c.sweep_along.ensures _ c.in_err-across.was)

pub sweep_along-requires-2 : goal.sweep_along-requires-2
unfolding of_bits
sweep_along-requires-2 c =
    let s = lent_segments c.args.segments.now in
    let r = ready s c.args.cutoff _ c.requires c.if-cutoff.false c.held.ensures.floats in
    record { at_columns = subst (λ (n : ℕ). AtColumns n 0 s) (sym c.sweep_along.auto.s) (r.rows_of 0); cutoff = r.sweeps }

pub returns-in_err-down : goal.returns-in_err-down
unfolding of_bits
returns-in_err-down c =
    let s = lent_segments c.args.segments.now in
    let r = ready s c.args.cutoff _ c.requires c.if-cutoff.false c.held.ensures.floats in
    let exit = err_from_is_err_and c.from_residual-in_err-down.result c.from_residual-in_err-down.ensures.1 in
    rw (exit.1, exit.2) (stops_later c.args.cutoff r.sweeps.grid (segments s) r.fit r.held r.sweeps.some _ _ c.sweep_along.ensures _ c.in_ok-across.was _ c.sweep_along-2.ensures _ c.in_err-down.was)

pub returns : goal.returns
unfolding of_bits
returns c =
    let s = lent_segments c.args.segments.now in
    let r = ready s c.args.cutoff _ c.requires c.if-cutoff.false c.held.ensures.floats in
    went_both c.args.cutoff r.sweeps.grid (segments s) r.fit r.held r.sweeps.some _ _ c.sweep_along.ensures _ c.in_ok-across.was _ c.sweep_along-2.ensures _ _ c.in_ok-down.was c.combined.ensures
