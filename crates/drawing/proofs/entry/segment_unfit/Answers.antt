-- `drawing::entry::segment_unfit` meets its contract: each return is the first part of the definition that holds. Assumes nothing.
use mathlib.Core.Bool.{Bool, not}
use mathlib.Core.Path.{◌≡◌, sym, ap, ◌∙◌}
use Prim.Native.Nat.{ℕ}
use borrow.Author.Tests.{lt-ltb, le-ltb}
use lib.Ieee.{Float}
use Rattle.drawing.specs.declared.ends.Ends.{Ends}
use Rattle.drawing.specs.Conditions.{unfit_segment, unfit_fields}
use Rattle.drawing.proofs.entry.segment_unfit.Goals as goal

-- the ends that are tested are those of the definition
of-ends : (o : ℕ) (f : Float) (tested ends : Ends) (r : Bool) → tested ≡ ends → r ≡ unfit_fields o f tested.start tested.end → r ≡ unfit_fields o f ends.start ends.end
of-ends o f tested ends r e h = h ∙ ap (λ (z : Ends). unfit_fields o f z.start z.end) e

pub returns-then-segment-gt1 : goal.returns-then-segment-gt1
unfolding unfit_segment unfit_fields
returns-then-segment-gt1 c = rw (lt-ltb 1 _ c.if-segment-gt1.true)

pub returns-then-not-is_finite : goal.returns-then-not-is_finite
unfolding unfit_segment unfit_fields
returns-then-not-is_finite c = rw (le-ltb 1 _ c.if-segment-gt1.false, ap not (sym c.is_finite.ensures) ∙ (ap not c.if-not-is_finite.true))

pub returns-then-not-is_finite-2 : goal.returns-then-not-is_finite-2
unfolding unfit_segment unfit_fields
returns-then-not-is_finite-2 c =
    of-ends c.args.segment.orientation c.args.segment.fixed _ _ _ c.ends_in_order-ends.ensures
    (rw (le-ltb 1 _ c.if-segment-gt1.false, ap not (sym c.is_finite.ensures) ∙ (ap not c.if-not-is_finite.false), ap not (sym c.is_finite-2.ensures) ∙ (ap not c.if-not-is_finite-2.true)))

pub returns-then-not-is_finite-3 : goal.returns-then-not-is_finite-3
unfolding unfit_segment unfit_fields
returns-then-not-is_finite-3 c =
    of-ends c.args.segment.orientation c.args.segment.fixed _ _ _ c.ends_in_order-ends.ensures
    (rw (le-ltb 1 _ c.if-segment-gt1.false, ap not (sym c.is_finite.ensures) ∙ (ap not c.if-not-is_finite.false), ap not (sym c.is_finite-2.ensures) ∙ (ap not c.if-not-is_finite-2.false), ap not (sym c.is_finite-3.ensures) ∙ (ap not c.if-not-is_finite-3.true)))

pub returns : goal.returns
unfolding unfit_segment unfit_fields
returns c =
    of-ends c.args.segment.orientation c.args.segment.fixed _ _ _ c.ends_in_order-ends.ensures
    (rw (le-ltb 1 _ c.if-segment-gt1.false, ap not (sym c.is_finite.ensures) ∙ (ap not c.if-not-is_finite.false), ap not (sym c.is_finite-2.ensures) ∙ (ap not c.if-not-is_finite-2.false), ap not (sym c.is_finite-3.ensures) ∙ (ap not c.if-not-is_finite-3.false)))
