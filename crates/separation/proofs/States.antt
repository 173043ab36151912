-- What the functions on a state of the sweep and on an allowance answer. Assumes nothing.
use Rattle.drawing.specs.declared.refusal.Refusal.{Refusal}
use Rattle.std.specs.Prelude.{Option, Some, Result, Ok, Err}
use mathlib.Core.Path.{◌≡◌, refl, sym, ap, ◌∙◌, subst}
use mathlib.Core.Bool.{Bool, true, false}
use Prim.Native.Nat.{ℕ, ◌-◌, ◌*◌, ◌/◌, ◌<◌}
use native.Mathlib.Omega.{arith}
use borrow.Author.Tests.{lt-ltb, ltb-true}
use lib.Dec.{ltb}
use lib.Ieee.{Float, binary64, of_bits, sub}
use Rattle.laws.specs.Inner.Allowance.{Outcome, spent, left, reply}
use Rattle.floats.specs.Values.{plus_zero, abs_of, gap_of}
use Rattle.drawing.specs.declared.refusal.Refusal.TheVariants.{WorkLimitExceeded}
use Rattle.drawing.specs.Gaps.{lesser_gap}
use Rattle.drawing.specs.Inner.LeastFloats.{Number, gap_of_float, least_with}
use Rattle.drawing.proofs.LeastFloatLaws.{none_absent, least-joined}
use Rattle.separation.specs.declared.state.Sweeping.{Sweeping}
use Rattle.separation.specs.declared.found.Found.{Found}
use Rattle.separation.specs.declared.report.ParallelSeparation.{ParallelSeparation}
use Rattle.separation.specs.Figures.{Figures}
use Rattle.separation.specs.Walk.{no_figures, lesser_figures, own_line}
use Rattle.separation.specs.Answer.{accepted}
use Rattle.separation.specs.Inner.States.{met_by, at_start, Gives, found_by, swept_of, with_gap, Answers, too_few, gap_met}
use Rattle.separation.proofs.Summaries.{both}

-- ---- what the code's answer says of a run while the sweep runs
pub went_on : (r : Result Sweeping Refusal) (t : Sweeping) (o : Outcome Figures) → r ≡ Ok t → Gives r o → o ≡ left (met_by t) t.remaining
went_on r t o e h = rw e at h

pub stopped : (r : Result Sweeping Refusal) (x : Refusal) (o : Outcome Figures) → r ≡ Err x → Gives r o → (x ≡ WorkLimitExceeded) × (o ≡ spent)
stopped r x o e h = rw e at h

pub gives_on : (r : Result Sweeping Refusal) (a b : Outcome Figures) → a ≡ b → Gives r a → Gives r b
gives_on r a b e h = subst (Gives r) e h

-- ---- and of a whole sweep
pub went-is : (o : Outcome Figures) (t : Found) → Ok t ≡ swept_of o → o ≡ left (found_by t) t.remaining
unfolding swept_of
went-is spent t e = cc
went-is (left f m) t e = cc

pub spent-is : (o : Outcome Figures) (x : Refusal) → Err x ≡ swept_of o → (x ≡ WorkLimitExceeded) × (o ≡ spent)
unfolding swept_of
spent-is spent x e = (cc, refl)
spent-is (left f m) x e = cc

-- ---- before the first event
pub start-met : (allowance : ℕ) → met_by (at_start allowance) ≡ no_figures
start-met allowance = λ i. record { least = none_absent i; least_nonzero = none_absent i }

-- ---- another net on the own line
zero_is : gap_of_float (of_bits binary64 0) ≡ Some plus_zero
unfolding of_bits gap_of_float
zero_is = refl

pub own-found : (own : Bool) (f : Figures) → own ≡ true → record { least = gap_of_float (of_bits binary64 0); least_nonzero = f.least_nonzero } ≡ own_line own f
own-found own f e = rw (e, zero_is) refl

pub own_not : (own : Bool) (f : Figures) → own ≡ false → f ≡ own_line own f
own_not own f e = rw e

-- ---- a gap joins both figures
pub gap_meets : (st : Sweeping) (m : ℕ) (there here d a b : Float) → d ≡ abs_of (sub binary64 there here) → a ≡ least_with st.minimum d → b ≡ least_with st.minimum_positive d → record { minimum = a; minimum_positive = b; remaining = m } ≡ gap_met (gap_of there here) m st
unfolding gap_of
gap_meets st m there here d a b g x y = λ i. record { minimum = (x ∙ ap (least_with st.minimum) g) i; minimum_positive = (y ∙ ap (least_with st.minimum_positive) g) i; remaining = m }

pub gap_joins : (st : Sweeping) (m : ℕ) (gap : Float) → Number gap → met_by (gap_met gap m st) ≡ with_gap gap (met_by st)
unfolding lesser_figures
gap_joins st m gap number = λ i. record { least = least-joined st.minimum gap number i; least_nonzero = least-joined st.minimum_positive gap number i }

-- ---- the lesser of each figure
pub lesser-of : (a b : Found) (x y : Option Float) → x ≡ lesser_gap a.minimum b.minimum → y ≡ lesser_gap a.minimum_positive b.minimum_positive → record { least = x; least_nonzero = y } ≡ lesser_figures (found_by a) (found_by b)
unfolding lesser_figures
lesser-of a b x y e f = λ i. record { least = e i; least_nonzero = f i }

-- ---- the answer
pub answers-spent : (r : Result Found Refusal) (allowance : ℕ) (x : Refusal) → r ≡ Err x → Answers r allowance (Err x)
answers-spent r allowance x h = rw h refl

pub answers-went : (r : Result Found Refusal) (allowance : ℕ) (t : Found) (v : ℕ) → r ≡ Ok t → v ≡ allowance - t.remaining → Answers r allowance (Ok (record { minimum = t.minimum; minimum_positive = t.minimum_positive; visits = v }))
answers-went r allowance t v h k = rw (h, k) refl

-- where the walk ended as an outcome within the allowance does, it is the reply to that
pub answers-reply : (r : Result Found Refusal) (allowance : ℕ) (a : Result ParallelSeparation Refusal) → Answers r allowance a → (o : Outcome Figures) → r ≡ swept_of o → a ≡ reply accepted (Err WorkLimitExceeded) allowance o
unfolding reply
answers-reply (Ok t) allowance a h o e = h ∙ sym (ap (reply accepted (Err WorkLimitExceeded) allowance) (went-is o t e))
answers-reply (Err x) allowance a h o e = let p = spent-is o x e in h ∙ ap Err p.0 ∙ sym (ap (reply accepted (Err WorkLimitExceeded) allowance) p.1)

-- ---- the allowance: a fifth of it in place of five times the segments
pub fifth : (m n : ℕ) → ltb (m / 5) n ≡ too_few m n
unfolding too_few
fifth m n = both (ltb (m / 5) n) (ltb m (5 * n)) (λ t. let h : m / 5 < n = ltb-true (m / 5) n t in lt-ltb m (5 * n) (omega arith)) (λ t. let h : m < 5 * n = ltb-true m (5 * n) t in lt-ltb (m / 5) n (omega arith))

pub too_few_means : (m n : ℕ) (t : Bool) → t ≡ too_few m n → t ≡ true → m < 5 * n
unfolding too_few
too_few_means m n t e h = ltb-true m (5 * n) (sym e ∙ h)
