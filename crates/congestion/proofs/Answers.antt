-- What the congestion calls answer: an earlier refusal, or what their allowance settles. Assumes nothing.
use Rattle.std.specs.Prelude.{Option, Result, Ok, Err}
use mathlib.Core.Path.{◌≡◌, refl, ap, ◌∙◌}
use mathlib.Core.Bool.{Bool, true, false, cond}
use mathlib.Core.List.{List}
use Prim.Native.Nat.{ℕ, ◌*◌, ◌≤◌}
use lib.Ieee.{Float}
use lib.ListN.{length}
use Rattle.laws.specs.Charged.{Charged, reaches, settle}
use Rattle.drawing.specs.Entries.{Segment, SegmentColumns, segments}
use Rattle.drawing.specs.Refusals.{number_of, first_of, checked}
use Rattle.drawing.specs.declared.refusal.Refusal.{Refusal}
use Rattle.drawing.specs.declared.refusal.Refusal.TheVariants.{WorkLimitExceeded}
use Rattle.congestion.specs.declared.report.ParallelCongestion.{ParallelCongestion}
use Rattle.congestion.specs.declared.report.CongestionReport.{CongestionReport}
use Rattle.congestion.specs.Conditions.{congestion_conditions}
use Rattle.congestion.specs.AllPairs.{all_pairs}
use Rattle.congestion.specs.Answer.{report_of, settled, density_answer, without_density, profile_answer, congestion_answer, zeros, result_of}
use Rattle.congestion.proofs.Visits.{visits_at_most}

-- a call with this cutoff and a scratch whose length is `words` meets no refusal before 7
abbrev pub Passes : SegmentColumns → Float → ℕ → Type 0
Passes s cutoff words = first_of (congestion_conditions s cutoff words) ≡ Ok tt

-- a call that checks and then settles an all-pairs report with its visit count
pub record Settles (answer : SegmentColumns → Float → ℕ → ℕ → Result CongestionReport Refusal) (report : Float → List Segment → Charged (ParallelCongestion × Option Float)) : Type 0 where
  -- an earlier refusal is returned
  pub earlier : (s : SegmentColumns) (cutoff : Float) (m words : ℕ) (r : Refusal) → first_of (congestion_conditions s cutoff words) ≡ Err r → answer s cutoff m words ≡ Err r
  pub behind : (s : SegmentColumns) (cutoff : Float) (m words : ℕ) → Passes s cutoff words → answer s cutoff m words ≡ settled m (report cutoff (segments s))

module _ (answer : SegmentColumns → Float → ℕ → ℕ → Result CongestionReport Refusal) (report : Float → List Segment → Charged (ParallelCongestion × Option Float))
    (is : (s : SegmentColumns) (cutoff : Float) (m words : ℕ) → answer s cutoff m words ≡ checked Err (first_of (congestion_conditions s cutoff words)) (settled m (report cutoff (segments s)))) where
  settles : Settles answer report
  settles = record {
    earlier = λ s cutoff m words r e. is s cutoff m words ∙ ap (λ (c : Result Unit Refusal). checked Err c (settled m (report cutoff (segments s)))) e;
    behind = λ s cutoff m words p. is s cutoff m words ∙ ap (λ (c : Result Unit Refusal). checked Err c (settled m (report cutoff (segments s)))) p;
  }

-- SCOPE 8.3: "A call whose allowance reaches it returns the all-pairs report, whose visits are that count; a call whose allowance does not returns the spent-allowance refusal", which is 7
pub result_settles : (m : ℕ) (c : Charged (ParallelCongestion × Option Float)) → result_of (settled m c) ≡ settle (λ p n. (0, report_of p n)) (7, zeros) m c
unfolding settled settle result_of number_of
result_settles m c = go (reaches m c)
  where
    go : (b : Bool) → result_of (cond b (Ok (report_of c.value c.cost)) (Err WorkLimitExceeded)) ≡ cond b (0, report_of c.value c.cost) (7, zeros)
    go true = refl
    go false = refl

-- `measure_parallel_density_profile_bounded`
pub density_settles : Settles density_answer all_pairs
unfolding density_answer
density_settles = settles density_answer all_pairs (λ s cutoff m words. refl)

-- `measure_parallel_congestion_profile_bounded`
pub profile_settles : Settles profile_answer (λ cutoff l. without_density (all_pairs cutoff l))
unfolding profile_answer
profile_settles = settles profile_answer (λ cutoff l. without_density (all_pairs cutoff l)) (λ s cutoff m words. refl)

-- SCOPE 6.2: `measure_parallel_congestion`, with an allowance that always reaches
pub congestion-earlier : (s : SegmentColumns) (cutoff : Float) (words : ℕ) (r : Refusal) → first_of (congestion_conditions s cutoff words) ≡ Err r → congestion_answer s cutoff words ≡ Err r
unfolding congestion_answer
congestion-earlier s cutoff words r e = rw e

pub congestion-reached : (s : SegmentColumns) (cutoff : Float) (words : ℕ) → Passes s cutoff words → congestion_answer s cutoff words ≡ Ok (report_of (all_pairs cutoff (segments s)).value (all_pairs cutoff (segments s)).cost)
unfolding congestion_answer
congestion-reached s cutoff words p = rw p

-- ---- n segments cost at most n * n visits
pub cost-at_most : (cutoff : Float) (l : List Segment) → (all_pairs cutoff l).cost ≤ length l * length l
unfolding all_pairs
cost-at_most cutoff l = visits_at_most cutoff l
