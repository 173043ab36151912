-- The whole call: the answer from the outcome of the sweep. Assumes nothing.
use Rattle.std.specs.Prelude.{Option, Result, Ok, Err}
use mathlib.Core.Path.{◌≡◌, refl, sym, ap, ◌∙◌}
use Prim.Native.Nat.{ℕ, ◌-◌}
use lib.Ieee.{Float}
use Rattle.laws.specs.Charged.{Charged}
use Rattle.laws.specs.Inner.Allowance.{Outcome, spent, left, within, reply}
use Rattle.laws.proofs.Runs.{within-left, settle-within}
use Rattle.drawing.specs.declared.refusal.Refusal.{Refusal}
use Rattle.drawing.specs.declared.refusal.Refusal.TheVariants.{WorkLimitExceeded}
use Rattle.drawing.specs.Entries.{SegmentColumns, segments}
use Rattle.drawing.specs.Refusals.{first_of, checked}
use Rattle.congestion.specs.declared.found.Found.{Found}
use Rattle.congestion.specs.declared.report.ParallelCongestion.{ParallelCongestion}
use Rattle.congestion.specs.declared.report.CongestionReport.{CongestionReport}
use Rattle.congestion.specs.Conditions.{congestion_conditions}
use Rattle.congestion.specs.AllPairs.{all_pairs}
use Rattle.congestion.specs.Rounded.{rounded_total}
use Rattle.congestion.specs.Answer.{report_of, settled, density_answer}
use Rattle.congestion.specs.Inner.Answering.{answer_of}
use Rattle.density_call.specs.Inner.Measuring.{found_of}
use Rattle.congestion.proofs.Fitness.{fit_list}
use Rattle.congestion.proofs.RoundedDrawing.{report_exact}
use Rattle.congestion.proofs.Answers.{Passes, density_settles}

-- ---- the answer, by whether the allowance reached
abbrev Profile : Type 0
Profile = ParallelCongestion × Option Float

-- the code's answer for an outcome is the reply to that outcome, where the total length is the outcome's
pub answer_replies : (o : Outcome Profile) (total : Float) (allowance : ℕ) → ((p : Profile) (m : ℕ) → o ≡ left p m → total ≡ p.0.total_length) → answer_of (found_of o) total allowance ≡ reply (λ p n. Ok (report_of p n)) (Err WorkLimitExceeded) allowance o
unfolding reply found_of
answer_replies spent total allowance k = refl
answer_replies (left p m) total allowance k =
    let t = k p m refl in
    λ i. Ok (record {
      congestion = record { total_length = t i; congested_length = p.0.congested_length; pair_overlap_length = p.0.pair_overlap_length; peak_close_neighbors = p.0.peak_close_neighbors };
      minimum_positive = p.1;
      visits = allowance - m;
    })

-- ---- `measure_parallel_density_profile_bounded`
module _ (c : SegmentColumns) (cutoff : Float) (allowance words : ℕ) where
  pub refused-answer : (k : Result Unit Refusal) (r : Refusal) → k ≡ first_of (congestion_conditions c cutoff words) → k ≡ Err r → Err r ≡ density_answer c cutoff allowance words
  refused-answer k r h g = sym (density_settles.earlier c cutoff allowance words r (sym h ∙ g))

  module _ (passed : Passes c cutoff words) where
    abbrev report : Charged Profile
    report = all_pairs cutoff (segments c)

    -- the rounded sum over all segments is the total length of the report
    same_total : (total : Float) → total ≡ rounded_total (segments c) → (p : Profile) (m : ℕ) → within allowance report ≡ left p m → total ≡ p.0.total_length
    same_total total t p m e = t ∙ (report_exact cutoff (segments c) (fit_list c cutoff words passed)).total ∙ ap (λ (v : Profile). v.0.total_length) (within-left allowance report p m e).1

    pub passed_answer : (r : Result Found Refusal) → r ≡ found_of (within allowance report) → (total : Float) → total ≡ rounded_total (segments c) → (a : Result CongestionReport Refusal) → a ≡ answer_of r total allowance → a ≡ density_answer c cutoff allowance words
    unfolding density_answer settled
    passed_answer r e total t a f =
        f
        ∙ ap (λ (o : Result Found Refusal). answer_of o total allowance) e
        ∙ answer_replies (within allowance report) total allowance (same_total total t)
        ∙ settle-within (λ p n. Ok (report_of p n)) (Err WorkLimitExceeded) allowance report
        ∙ sym (ap (λ (k : Result Unit Refusal). checked Err k (settled allowance report)) passed)
