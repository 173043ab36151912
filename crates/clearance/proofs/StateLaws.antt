-- The visit of a pair, the order of two halves, and the answer of a call from the state of a walk. Assumes nothing.
use Rattle.drawing.specs.declared.refusal.Refusal.{Refusal}
use Rattle.std.specs.Prelude.{Option, Some, Result, Ok, Err, IfErr}
use Rattle.std.proofs.Common.{◌≡◌, refl, ℕ, suc, ◌+◌, ◌-◌, ◌%◌, ◌^◌, ◌<◌, Bool, true, false, sym, ap, ◌∙◌, mod-eq_of_lt, arith}
use lib.Ieee.{Float, lt}
use Rattle.laws.specs.Lists.{bit}
use Rattle.laws.specs.Charged.{free, visit}
use Rattle.laws.specs.Inner.Allowance.{left, within, reply}
use Rattle.laws.proofs.Runs.{within-free, visit-spent, visit-paid}
use Rattle.drawing.specs.declared.refusal.Refusal.TheVariants.{WorkLimitExceeded}
use Rattle.drawing.specs.Gaps.{lesser_gap}
use Rattle.drawing.specs.Inner.LeastFloats.{Number, gap_of_float, least_with}
use Rattle.drawing.proofs.LeastFloatLaws.{least-joined}
use Rattle.clearance.specs.declared.visit.Walking.{Walking}
use Rattle.clearance.specs.declared.report.EdgeNodeClearance.{EdgeNodeClearance}
use Rattle.clearance.specs.declared.halves.Subtree.{Subtree}
use Rattle.clearance.specs.Figures.{Figures}
use Rattle.clearance.specs.Walk.{with_pair}
use Rattle.clearance.specs.Answer.{accepted}
use Rattle.clearance.specs.Inner.State.{so_far, outcome_of, nearer_first, Answers}

-- ---- the visit of a pair, as the code returns it
pub visit_stopped : (m : ℕ) (g : Figures) → m ≡ 0 → outcome_of (Err WorkLimitExceeded) ≡ within m (visit (free g))
unfolding outcome_of
visit_stopped m g e = sym (rw e (visit-spent (free g)))

visit-went : (m : ℕ) (g : Figures) → (m ≡ 0 → ⊥) → left g (m - 1) ≡ within m (visit (free g))
visit-went m g e = let x : m ≡ suc (m - 1) = omega arith in sym (ap (λ (z : ℕ). within z (visit (free g))) x ∙ visit-paid (m - 1) (free g) ∙ within-free (m - 1) g)

module _ (w : Walking) (b : Bool) (t d : Float) (paid : w.remaining ≡ 0 → ⊥) where
  pub visit_passed : b ≡ true → outcome_of (Ok (record { least = w.least; violations = w.violations; remaining = w.remaining - 1 })) ≡ within w.remaining (visit (free (with_pair b t d (so_far w))))
  unfolding with_pair outcome_of
  visit_passed e = rw e (visit-went w.remaining (so_far w) paid)

  visit-counted : b ≡ false → (v : ℕ) → v ≡ w.violations + bit (lt d t) → (x : Float) → x ≡ least_with w.least d → Number d → outcome_of (Ok (record { least = x; violations = v; remaining = w.remaining - 1 })) ≡ within w.remaining (visit (free (with_pair b t d (so_far w))))
  unfolding with_pair outcome_of
  visit-counted e v f x h num = let k : gap_of_float x ≡ lesser_gap (gap_of_float w.least) (Some d) = ap gap_of_float h ∙ least-joined w.least d num in rw (e, f, k) (visit-went w.remaining (with_pair false t d (so_far w)) paid)

  -- one violation more, as long as the count does not wrap
  pub visit-below : b ≡ false → lt d t ≡ true → w.violations + w.remaining < 2 ^ 64 → (v : ℕ) → v ≡ (w.violations + 1) % 2 ^ 64 → (x : Float) → x ≡ least_with w.least d → Number d → outcome_of (Ok (record { least = x; violations = v; remaining = w.remaining - 1 })) ≡ within w.remaining (visit (free (with_pair b t d (so_far w))))
  visit-below e f room v wraps = visit-counted e v (wraps ∙ mod-eq_of_lt (omega arith) ∙ rw f)

  pub visit_clear : b ≡ false → lt d t ≡ false → (x : Float) → x ≡ least_with w.least d → Number d → outcome_of (Ok (record { least = x; violations = w.violations; remaining = w.remaining - 1 })) ≡ within w.remaining (visit (free (with_pair b t d (so_far w))))
  visit_clear e f = visit-counted e w.violations (rw f (omega arith))

-- ---- the order of two halves, as the code returns it
module _ (l r : Subtree) where
  pub right-nearer : lt r.lower l.lower ≡ true → record { nearer = r; farther = l } ≡ nearer_first l r
  unfolding nearer_first
  right-nearer e = rw e

  pub left-first : lt r.lower l.lower ≡ false → record { nearer = l; farther = r } ≡ nearer_first l r
  unfolding nearer_first
  left-first e = rw e

-- ---- the answer from what the walks returned
pub answers-reply : (r : Result Walking Refusal) (allowance : ℕ) (a : Result EdgeNodeClearance Refusal) → IfErr r (λ e. e ≡ WorkLimitExceeded) → Answers r allowance a → a ≡ reply accepted (Err WorkLimitExceeded) allowance (outcome_of r)
unfolding outcome_of reply
answers-reply (Ok w) allowance a spent h = h
answers-reply (Err e) allowance a spent h = h ∙ ap Err spent

pub answers-refused : (r : Result Walking Refusal) (allowance : ℕ) (e : Refusal) → r ≡ Err e → Answers r allowance (Err e)
answers-refused r allowance e h = rw h refl

pub answers-went : (r : Result Walking Refusal) (allowance : ℕ) (w : Walking) → r ≡ Ok w → (g : Option Float) → g ≡ gap_of_float w.least → (n : ℕ) → n ≡ allowance - w.remaining → Answers r allowance (Ok (record { minimum_clearance = g; violations = w.violations; visits = n }))
unfolding accepted
answers-went r allowance w h g e n f = rw (h, e, f)
