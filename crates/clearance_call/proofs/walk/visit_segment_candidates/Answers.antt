-- `clearance_call::walk::visit_segment_candidates` meets its contract: the part that is next and those that wait are the rest of the walk. The measure counts the steps that these can still take. Assumes nothing.
use Rattle.std.specs.Prelude.{Ok}
use Rattle.std.proofs.lemmas.Result.{err_from_is_err_and}
use mathlib.Core.Path.{refl, ap, ◌∙◌}
use Rattle.clearance_call.proofs.PartWalk.{underway_start, underway_stopped, underway_done, underway_next, next_less, underway_halves, underway_room, underway_split, split_less}
use native.Mathlib.Omega.{arith}
use borrow.Author.Rules.{rules}
use Rattle.clearance_call.proofs.walk.visit_segment_candidates.Goals as goal

pub loop-step-init : goal.loop-step-init
loop-step-init c =
    let ready = c.requires.walkable in
    underway_start _ _ _ _ _ _ _ _ ready.0 ready.1 (search rules)

pub returns-in_err-step-clause-outcome : goal.returns-in_err-step-clause-outcome
returns-in_err-step-clause-outcome c ex net l = let p = err_from_is_err_and c.from_residual.result c.from_residual.ensures.1 in rw (p.1, p.2) (underway_stopped _ _ _ _ _ _ _ _ _ _ _ c.loop-step.invariant _ c.look_at_part.ensures.outcome _ c.in_err-step.was ex net l)

pub bounds-waiting-top : goal.bounds-waiting-top
bounds-waiting-top c = underway_room _ _ _ _ _ _ _ _ _ _ _ c.loop-step.invariant _ c.look_at_part.ensures.outcome _ (c.in_ok-step.was ∙ ap Ok c.in-Split.is) c.requires.net_marks

pub loop-step-smaller-in-Split : goal.loop-step-smaller-in-Split
loop-step-smaller-in-Split c =
    let u = c.loop-step.invariant in
    let room = underway_room _ _ _ _ _ _ _ _ _ _ _ c.loop-step.invariant _ c.look_at_part.ensures.outcome _ (c.in_ok-step.was ∙ ap Ok c.in-Split.is) c.requires.net_marks in
    let halves = underway_halves _ _ _ _ _ _ _ _ _ _ _ c.loop-step.invariant _ c.look_at_part.ensures.outcome _ (c.in_ok-step.was ∙ ap Ok c.in-Split.is) c.requires.net_marks in
    split_less _ _ _ _ (omega (arith, u.long, room)) refl _ _ (omega (arith, halves.nearer.part.some, halves.farther.part.some)) (omega (arith, halves.nearer.part.some, halves.farther.part.some)) (omega (arith, halves.together))

pub loop-step-preserved-in-Split : goal.loop-step-preserved-in-Split
loop-step-preserved-in-Split c = underway_split _ _ _ _ _ _ _ _ _ _ _ c.loop-step.invariant _ c.look_at_part.ensures.outcome _ (c.in_ok-step.was ∙ ap Ok c.in-Split.is) c.requires.net_marks _ refl

pub returns-then-top-eq0-clause-outcome : goal.returns-then-top-eq0-clause-outcome
returns-then-top-eq0-clause-outcome c ex net l = underway_done _ _ _ _ _ _ _ _ _ _ _ c.loop-step.invariant _ c.look_at_part.ensures.outcome _ (c.in_ok-step.was ∙ ap Ok c.in-Done.is) c.if-top-eq0.true ex net l

pub loop-step-smaller : goal.loop-step-smaller
loop-step-smaller c = next_less _ _ _ _ _ _ _ _ _ _ _ c.loop-step.invariant _ c.look_at_part.ensures.outcome _ (c.in_ok-step.was ∙ ap Ok c.in-Done.is) _ (omega (arith, c.if-top-eq0.false)) _ refl

pub loop-step-preserved : goal.loop-step-preserved
loop-step-preserved c = underway_next _ _ _ _ _ _ _ _ _ _ _ c.loop-step.invariant _ c.look_at_part.ensures.outcome _ (c.in_ok-step.was ∙ ap Ok c.in-Done.is) _ (omega (arith, c.if-top-eq0.false)) _ refl c.requires.net_marks
