-- `density_call::measure::measure_parallel_density_profile_bounded` meets its contract: the checks, the total, the sweep, the scratch cleared. Assumes nothing.
use mathlib.Core.Path.{sym, ap, subst, ◌∙◌}
use Rattle.std.proofs.lemmas.Result.{err_from_is_err_and}
use Prim.Native.Nat.{ℕ}
use lib.Dec.{T}
use lib.ListN.{replicate}
use Rattle.drawing.specs.Entries.{lent_segments}
use Rattle.drawing.proofs.FirstRefusal.{not_passed, refused-scratch, passed_scratch}
use Rattle.congestion.proofs.Fitness.{agree}
use Rattle.density_call.proofs.WholeCall.{refused-answer, passed_answer}
use Rattle.density_call.proofs.measure.measure_parallel_density_profile_bounded.Goals as goal

pub returns-in_err-check_congestion : goal.returns-in_err-check_congestion
returns-in_err-check_congestion c =
    let check = c.check_congestion.ensures in
    let told = c.in_err-check_congestion.was in
    let exit = err_from_is_err_and c.from_residual.result c.from_residual.ensures.1 in
    rw (exit.1, exit.2) (refused-answer _ _ _ _ _ _ check told, refused-scratch _ _ _ _ check told, not_passed _ _ _ check told)

pub walk_segments-swept-requires : goal.walk_segments-swept-requires
walk_segments-swept-requires c = sym c.check_congestion.ensures ∙ c.in_ok-check_congestion.was

pub returns : goal.returns
returns c =
    let s = lent_segments c.args.segments.now in
    let told = c.in_ok-check_congestion.was in
    let check = c.check_congestion.ensures in
    let passed = sym check ∙ told in
    let held = c.held.ensures.floats (agree s _ _ passed) in
    let kept = ap (λ (k : ℕ). replicate {A = ℕ} k 0) c.walk_segments-swept.auto.scratch in
    let cleared = c.clear.ensures ∙ kept in (
      passed_answer s _ _ _ passed _ c.walk_segments-swept.ensures _ (c.total_length-total.ensures.value (agree s _ _ passed)) _ c.answer_of.ensures,
      passed_scratch _ _ _ _ check told cleared,
      λ p. (held, subst T (sym c.well_formed.1.0.1) tt),
    )
