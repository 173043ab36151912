-- What the clearance call answers, and the number and values of each case of the answer.
use Rattle.drawing.specs.declared.refusal.Refusal.{Refusal}
use Rattle.std.specs.Prelude.{ℕ, List, Float, None, Result, Ok, Err}
use Rattle.laws.specs.Charged.{Charged, settle}
use Rattle.drawing.specs.declared.refusal.Refusal.TheVariants.{WorkLimitExceeded}
use Rattle.drawing.specs.Entries.{Segment, Node, Exemption, SegmentColumns, NodeColumns, ExemptionColumns, segments, nodes, exemptions}
use Rattle.drawing.specs.Refusals.{number_of, first_of, checked}
use Rattle.clearance.specs.declared.report.EdgeNodeClearance.{EdgeNodeClearance}
use Rattle.clearance.specs.Conditions.{clearance_conditions}
use Rattle.clearance.specs.Figures.{Figures, figures}
use Rattle.clearance.specs.Walk.{visit_count}

-- SCOPE 4.1: "Accepted reports also carry the visits used, which are the visit count"
abbrev pub report_of : Figures → ℕ → EdgeNodeClearance
report_of g count = record { minimum_clearance = g.least; violations = g.violations; visits = count }

unfoldable pub accepted : Figures → ℕ → Result EdgeNodeClearance Refusal
accepted g count = Ok (report_of g count)

-- SCOPE 6.3: "The all-pairs report is the measure's figures above with its visit count."
unfoldable pub all_pairs : List Exemption → (ℕ → Float) → List Segment → List Node → Charged Figures
all_pairs ex threshold ss ns = record { value = figures ex threshold ss ns; cost = visit_count ex threshold ss ns }

-- The checks in the order of SCOPE 7.0; then SCOPE 7.7: "`WorkLimitExceeded`: the visit count exceeds the allowance", else the all-pairs report. The call has one threshold for all nets.
unfoldable pub clearance_answer : SegmentColumns → NodeColumns → ExemptionColumns → Float → ℕ → ℕ → Result EdgeNodeClearance Refusal
clearance_answer s n e threshold allowance words =
    checked Err (first_of (clearance_conditions s n e threshold words))
    (settle accepted (Err WorkLimitExceeded) allowance (all_pairs (exemptions e) (λ net. threshold) (segments s) (nodes n)))

-- SCOPE 6.3: "a report of zeros and absent gaps"
abbrev pub zeros : EdgeNodeClearance
zeros = record { minimum_clearance = None; violations = 0; visits = 0 }

-- SCOPE 6.3, 8.5: "A refusal returns its number and a report of zeros and absent gaps": each case by its number, 0 for a report, and its values
unfoldable pub result_of : Result EdgeNodeClearance Refusal → ℕ × EdgeNodeClearance
result_of (Ok r) = (0, r)
result_of (Err w) = (number_of w, zeros)
