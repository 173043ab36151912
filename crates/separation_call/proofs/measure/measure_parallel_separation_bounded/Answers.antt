-- `separation_call::measure::measure_parallel_separation_bounded` meets its contract: the checks, the walk, the scratch cleared. Assumes nothing.
use Rattle.separation_call.proofs.WholeCall.{refused-answer, passed_answer}
use Rattle.separation.proofs.Checked.{separation-passes}
use Rattle.drawing.proofs.FirstRefusal.{not_passed, refused-scratch, passed_scratch}
use Rattle.drawing.specs.Entries.{lent_segments}
use Rattle.std.proofs.lemmas.Result.{err_from_is_err_and}
use lib.ListN.{replicate}
use Prim.Native.Nat.{ℕ}
use mathlib.Core.Path.{sym, ap, ◌∙◌}
use Rattle.separation_call.proofs.measure.measure_parallel_separation_bounded.Goals as goal

pub returns-in_err-check_separation : goal.returns-in_err-check_separation
returns-in_err-check_separation c =
    let p = err_from_is_err_and c.from_residual.result c.from_residual.ensures.1 in
    let check = c.check_separation.ensures in
    let told = c.in_err-check_separation.was in
    rw (p.1, p.2) (refused-answer _ _ _ _ _ check told, refused-scratch _ _ _ _ check told, not_passed _ _ _ check told)

pub walk_segments-swept-requires : goal.walk_segments-swept-requires
walk_segments-swept-requires c =
    let passed = sym c.check_separation.ensures ∙ c.in_ok-check_separation.was in
    record { passed = passed; held = c.held.ensures.floats (separation-passes _ _ passed).agree; nets = c.held.ensures.nets }

pub returns : goal.returns
returns c =
    let s = lent_segments c.args.segments.now in
    let told = c.in_ok-check_separation.was in
    let check = c.check_separation.ensures in
    let passed = sym check ∙ told in
    let held = c.held.ensures.floats (separation-passes s _ passed).agree in
    let kept = ap (λ (k : ℕ). replicate {A = ℕ} k 0) c.walk_segments-swept.auto.scratch in
    let cleared = c.clear.ensures ∙ kept in (
      passed_answer s _ _ passed held _ c.walk_segments-swept.ensures _ c.answer_of.ensures,
      passed_scratch _ _ _ _ check told cleared,
      λ p. held,
    )
