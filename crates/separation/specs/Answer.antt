-- The answer of the call (SCOPE 6.3, 7.0, 8.3): the first refusal that applies; else the all-pairs report where the allowance reaches the visit count, and refusal 7 where it does not.
use Rattle.drawing.specs.declared.refusal.Refusal.{Refusal}
use Rattle.std.specs.Prelude.{List, ℕ, None, Result, Ok, Err}
use Rattle.laws.specs.Charged.{Charged, settle}
use Rattle.drawing.specs.declared.refusal.Refusal.TheVariants.{WorkLimitExceeded}
use Rattle.drawing.specs.Entries.{Segment, SegmentColumns, segments}
use Rattle.drawing.specs.Refusals.{number_of, first_of, checked}
use Rattle.separation.specs.declared.report.ParallelSeparation.{ParallelSeparation}
use Rattle.separation.specs.Conditions.{separation_conditions}
use Rattle.separation.specs.Figures.{Figures, figures}
use Rattle.separation.specs.Walk.{visit_count}

-- SCOPE 6.3: "The all-pairs report is the measure's figures above with its visit count."
abbrev pub report_of : Figures → ℕ → ParallelSeparation
report_of f n = record { minimum = f.least; minimum_positive = f.least_nonzero; visits = n }

abbrev pub accepted : Figures → ℕ → Result ParallelSeparation Refusal
accepted f n = Ok (report_of f n)

-- SCOPE 3.9, 4.2: the figures over all pairs, at the cost of the visit count
unfoldable pub all_pairs : List Segment → Charged Figures
all_pairs l = record { value = figures l; cost = visit_count l }

-- SCOPE 7.0, 8.3: the answer of a call, by its columns, its allowance and the length of its scratch
unfoldable pub separation_answer : SegmentColumns → ℕ → ℕ → Result ParallelSeparation Refusal
separation_answer s allowance words =
    let settled = settle accepted (Err WorkLimitExceeded) allowance (all_pairs (segments s)) in
    checked Err (first_of (separation_conditions s words)) settled

-- SCOPE 6.3: "a report of zeros and absent gaps"
abbrev pub zeros : ParallelSeparation
zeros = record { minimum = None; minimum_positive = None; visits = 0 }

-- SCOPE 6.3, 8.5: "A refusal returns its number and a report of zeros and absent gaps": each case by its number, 0 for a report, and its values
unfoldable pub result_of : Result ParallelSeparation Refusal → ℕ × ParallelSeparation
result_of (Ok p) = (0, p)
result_of (Err r) = (number_of r, zeros)
