use Rattle.std.proofs.lemmas.Result.{err_from_is_err_and}
use mathlib.Core.Path.{sym, ap, ◌∙◌}
use Prim.Native.Nat.{ℕ}
use lib.ListN.{length, replicate}
use Rattle.drawing.specs.Entries.{lent_segments, lent_nodes, lent_exemptions}
use Rattle.clearance.proofs.Answers.{Lent, passes}
use Rattle.drawing.proofs.FirstRefusal.{not_passed, refused-scratch, passed_scratch}
use Rattle.clearance_call.proofs.WholeCall.{sizes, refused-answer, passed_answer}
use borrow.Author.Rules.{rules}
use Rattle.clearance_call.proofs.measure.measure_edge_node_clearance_bounded.Goals as goal

pub returns-in_err-check_clearance : goal.returns-in_err-check_clearance
returns-in_err-check_clearance c =
    let check = c.check_clearance.ensures in
    let told = c.in_err-check_clearance.was in
    let p = err_from_is_err_and c.from_residual.result c.from_residual.ensures.1 in
    rw (p.1, p.2) (refused-answer _ _ _ _ _ _ _ _ check told, refused-scratch _ _ _ _ check told, not_passed _ _ _ check told)

pub walk_segments-walked-requires : goal.walk_segments-walked-requires
walk_segments-walked-requires c = sym c.check_clearance.ensures ∙ c.in_ok-check_clearance.was

pub returns : goal.returns
returns c =
    let s = lent_segments c.args.segments.now in
    let n = lent_nodes c.args.nodes.now in
    let e = lent_exemptions c.args.exemptions.now in
    let told = c.in_ok-check_clearance.was in
    let passed : passes s n e c.args.threshold (length c.args.scratch.now) = sym c.check_clearance.ensures ∙ told in
    let z = sizes s n e _ _ passed in
    let lent : Lent s n c.args.threshold = record {
      segments-held = c.held.ensures.floats z.segments;
      nodes-held = c.held-2.ensures z.nodes;
      threshold-held = search rules;
    } in
    let kept = ap (λ (k : ℕ). replicate {A = ℕ} k 0) c.walk_segments-walked.auto.scratch in
    let cleared = c.clear.ensures ∙ kept in (
      passed_answer s n e _ _ _ passed lent _ c.walk_segments-walked.ensures.outcome c.walk_segments-walked.ensures.refusal _ c.answer_of.ensures,
      passed_scratch _ _ _ _ c.check_clearance.ensures told cleared,
      λ p. (lent.segments-held, lent.nodes-held, lent.threshold-held),
    )
