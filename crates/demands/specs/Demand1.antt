-- SCOPE 8.1, demand 1: "Where an input is unfit, the call returns the first refusal that applies in document 01's list and touches no lent memory; where the allowance runs out it returns that refusal and a cleared scratch; every call ends, for all inputs, with no condition laid on its caller."
-- `proofs/Demand1.antt` proves `Demand1`; that every call ends, and requires nothing of its caller, is stated of the functions themselves, in `readability`, specs/Calls. Lists and settings are lent or passed to be read only: the scratch is the one part of lent memory that a call may write. The tight pair's refusals are in `TightPair`; it is lent nothing that it may write.
use Rattle.std.specs.Prelude.{◌≡◌, Bool, true, false, ◌⊎◌, List, ℕ, length, replicate, Result}
use Rattle.drawing.specs.declared.refusal.Refusal.{Refusal}
use Rattle.drawing.specs.Refusals.{number_of, number_of_check, first_of}
use Rattle.demands.specs.Applies.{First, NoneApplies, InOrder}
use Rattle.demands.specs.Measures.{Measure, Run, result_of_run, visit_count, earlier, all_pairs_report, Call, measure_of}

-- what a run returned, and the contents of the scratch after it
pub record Returns (m : Measure) (r : Run m) (result : m.Result) (scratch : List ℕ) : Type 0 where
  pub returned : result_of_run m r ≡ result
  pub left : r.after ≡ scratch

-- SCOPE 6.5: "After an accepted call or a spent allowance the whole scratch is zero."
abbrev pub cleared : List ℕ → List ℕ
cleared scratch = replicate (length scratch) 0

-- SCOPE 8.4: a refusal that is checked before 7 and applies first
pub record Unfit (m : Measure) (r : Run m) : Type 0 where
  pub refusal : Refusal
  pub first : First (earlier m r) refusal

pub record Refusing (m : Measure) : Type 0 where
  -- every run meets a first refusal before 7, or none
  pub unfit_or_fit : (r : Run m) → Unfit m r ⊎ NoneApplies (earlier m r)
  -- SCOPE 6.3, 6.5, an unfit input: the number of the first refusal that applies, with a report of zeros and absent gaps, and the scratch as it was
  pub unfit : (r : Run m) (refusal : Refusal) → First (earlier m r) refusal → Returns m r (m.refused (number_of refusal)) r.before
  -- SCOPE 7.7, the allowance runs out: "7. `WorkLimitExceeded`: the visit count exceeds the allowance"
  pub spent : (r : Run m) → NoneApplies (earlier m r) → m.reaches r.allowance (visit_count m r) ≡ false → Returns m r (m.refused 7) (cleared r.before)
  -- it does not run out: the report, and the scratch is cleared too
  pub accepted : (r : Run m) → NoneApplies (earlier m r) → m.reaches r.allowance (visit_count m r) ≡ true → Returns m r (all_pairs_report m r) (cleared r.before)

-- what a check of these conditions returns, by its number: that of the first refusal that applies, or 0
pub record Checking (l : List (Bool × Refusal)) (answer : Result Unit Refusal) : Type 0 where
  pub unfit : (refusal : Refusal) → First l refusal → number_of_check answer ≡ number_of refusal
  pub fit : NoneApplies l → number_of_check answer ≡ 0

pub record Demand1 : Type 0 where
  pub of_each : (call : Call) → Refusing (measure_of call)
  -- SCOPE 7.0, "in document 01's list": the conditions of each call are in the order of that list, so the first of them that holds is the first there
  pub in_order : (call : Call) (d : (measure_of call).Drawing) (s : (measure_of call).Settings) (words : ℕ) → InOrder 0 ((measure_of call).conditions d s words)
  -- the public checks: the contract of each is that it returns `first_of` of its conditions
  pub of_checks : (l : List (Bool × Refusal)) (answer : Result Unit Refusal) → answer ≡ first_of l → Checking l answer
