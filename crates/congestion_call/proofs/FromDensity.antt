-- The answers of the two calls that rest on the density profile, from its answer. Assumes nothing.
use Rattle.drawing.specs.declared.refusal.Refusal.{Refusal}
use Rattle.std.specs.Prelude.{Result, Ok, Err}
use mathlib.Core.Path.{◌≡◌, refl, sym, ◌∙◌}
use mathlib.Core.Bool.{Bool, true, false, cond}
use Prim.Native.Nat.{ℕ, ◌≤◌}
use native.Mathlib.Nat.{le_trans, mul-le-mul}
use lib.Ieee.{Float}
use Rattle.laws.specs.Charged.{reaches, settle}
use Rattle.laws.proofs.Runs.{settle-reached}
use Rattle.drawing.specs.declared.refusal.Refusal.TheVariants.{WorkLimitExceeded}
use Rattle.drawing.specs.Entries.{SegmentColumns, segments}
use Rattle.drawing.specs.Refusals.{first_of, checked}
use Rattle.congestion.specs.Conditions.{congestion_conditions}
use Rattle.congestion.specs.AllPairs.{all_pairs}
use Rattle.congestion.specs.Answer.{report_of, settled, density_answer, without_density, profile_answer, congestion_answer}
use Rattle.congestion.specs.Inner.Answering.{answer_without_density}
use Rattle.congestion.proofs.Fitness.{fit_list}
use Rattle.congestion.proofs.Answers.{density_settles, congestion-earlier, congestion-reached, cost-at_most}

-- ---- SCOPE 6.2: `measure_parallel_congestion_profile_bounded`, "the same with pair overlap and peak zero"
pub plain-answer : (c : SegmentColumns) (cutoff : Float) (allowance words : ℕ) → answer_without_density (density_answer c cutoff allowance words) ≡ profile_answer c cutoff allowance words
unfolding density_answer profile_answer settled settle
plain-answer c cutoff allowance words = go (first_of (congestion_conditions c cutoff words)) (reaches allowance (all_pairs cutoff (segments c)))
  where
    go : (k : Result Unit Refusal) (b : Bool)
        → answer_without_density (checked Err k (cond b (Ok (report_of (all_pairs cutoff (segments c)).value (all_pairs cutoff (segments c)).cost)) (Err WorkLimitExceeded)))
        ≡ checked Err k (cond b (Ok (report_of (without_density (all_pairs cutoff (segments c))).value (all_pairs cutoff (segments c)).cost)) (Err WorkLimitExceeded))
    go (Err r) b = refl
    go (Ok tt) true = refl
    go (Ok tt) false = refl

-- ---- `measure_parallel_congestion`: 4,096 segments cost at most 4,096 * 4,096 visits
pub great_allowance : (c : SegmentColumns) (cutoff : Float) (m words : ℕ) → 16777216 ≤ m → density_answer c cutoff m words ≡ congestion_answer c cutoff words
unfolding settled
great_allowance c cutoff m words h = go (first_of (congestion_conditions c cutoff words)) refl
  where
    go : (k : Result Unit Refusal) → first_of (congestion_conditions c cutoff words) ≡ k → density_answer c cutoff m words ≡ congestion_answer c cutoff words
    go (Err r) e = density_settles.earlier c cutoff m words r e ∙ sym (congestion-earlier c cutoff words r e)
    go (Ok tt) e =
        let few = (fit_list c cutoff words e).few in
        density_settles.behind c cutoff m words e
        ∙ settle-reached (λ p n. Ok (report_of p n)) (Err WorkLimitExceeded) m (all_pairs cutoff (segments c)) (le_trans (cost-at_most cutoff (segments c)) (le_trans (mul-le-mul few few) h))
        ∙ sym (congestion-reached c cutoff words e)
