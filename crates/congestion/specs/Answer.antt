-- What the three congestion calls answer (SCOPE 6.2, 6.3, 7.0, 8.3): the first refusal that applies, then the all-pairs report where the allowance reaches its visit count.
use Rattle.drawing.specs.declared.refusal.Refusal.{Refusal}
use Rattle.std.specs.Prelude.{ℕ, Float, Option, None, Result, Ok, Err}
use Rattle.laws.specs.Charged.{Charged, settle}
use Rattle.floats.specs.Values.{plus_zero}
use Rattle.drawing.specs.Entries.{SegmentColumns, segments}
use Rattle.drawing.specs.Refusals.{number_of, first_of, checked}
use Rattle.drawing.specs.declared.refusal.Refusal.TheVariants.{WorkLimitExceeded}
use Rattle.congestion.specs.declared.report.ParallelCongestion.{ParallelCongestion}
use Rattle.congestion.specs.declared.report.CongestionReport.{CongestionReport}
use Rattle.congestion.specs.Conditions.{congestion_conditions}
use Rattle.congestion.specs.AllPairs.{all_pairs}

-- SCOPE 6.3: the report of figures, with the n visits that they cost
abbrev pub report_of : ParallelCongestion × Option Float → ℕ → CongestionReport
report_of p n = record { congestion = p.0; minimum_positive = p.1; visits = n }

-- SCOPE 7.7, 8.3: "7. `WorkLimitExceeded`: the visit count exceeds the allowance"
unfoldable pub settled : ℕ → Charged (ParallelCongestion × Option Float) → Result CongestionReport Refusal
settled allowance c = settle (λ p n. Ok (report_of p n)) (Err WorkLimitExceeded) allowance c

-- SCOPE 6.2: `measure_parallel_density_profile_bounded`, "the congestion reference", with a scratch whose length is `words`
unfoldable pub density_answer : SegmentColumns → Float → ℕ → ℕ → Result CongestionReport Refusal
density_answer s cutoff allowance words = checked Err (first_of (congestion_conditions s cutoff words)) (settled allowance (all_pairs cutoff (segments s)))

-- SCOPE 6.2: "is the same with pair overlap and peak zero"
abbrev pub without_density : Charged (ParallelCongestion × Option Float) → Charged (ParallelCongestion × Option Float)
without_density c =
    let p = c.value.0 in
    record { value = (record { total_length = p.total_length; congested_length = p.congested_length; pair_overlap_length = plus_zero; peak_close_neighbors = 0 }, c.value.1); cost = c.cost }

-- SCOPE 6.2: `measure_parallel_congestion_profile_bounded`
unfoldable pub profile_answer : SegmentColumns → Float → ℕ → ℕ → Result CongestionReport Refusal
profile_answer s cutoff allowance words = checked Err (first_of (congestion_conditions s cutoff words)) (settled allowance (without_density (all_pairs cutoff (segments s))))

-- SCOPE 6.2: `measure_parallel_congestion` "counts as having an allowance that always reaches"
unfoldable pub congestion_answer : SegmentColumns → Float → ℕ → Result CongestionReport Refusal
congestion_answer s cutoff words = let c = all_pairs cutoff (segments s) in checked Err (first_of (congestion_conditions s cutoff words)) (Ok (report_of c.value c.cost))

-- SCOPE 6.3: "a report of zeros and absent gaps"
abbrev pub zeros : CongestionReport
zeros = record { congestion = record { total_length = plus_zero; congested_length = plus_zero; pair_overlap_length = plus_zero; peak_close_neighbors = 0 }; minimum_positive = None; visits = 0 }

-- SCOPE 6.3, 8.5: "A refusal returns its number and a report of zeros and absent gaps": each case by its number, 0 for a report, and its values
unfoldable pub result_of : Result CongestionReport Refusal → ℕ × CongestionReport
result_of (Ok r) = (0, r)
result_of (Err r) = (number_of r, zeros)
