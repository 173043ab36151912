-- What only the contracts of inner functions cite: the state of the sweep as the code holds it, what changes the figures, and the answers within an allowance.
use Rattle.drawing.specs.declared.refusal.Refusal.{Refusal}
use Rattle.std.specs.Prelude.{◌≡◌, Bool, ℕ, ◌-◌, ◌*◌, ltb, Float, Some, Result, Ok, Err}
use Rattle.std.specs.Float.{nan}
use Rattle.laws.specs.Inner.Allowance.{Outcome, spent, left}
use Rattle.drawing.specs.declared.refusal.Refusal.TheVariants.{WorkLimitExceeded}
use Rattle.drawing.specs.Inner.LeastFloats.{gap_of_float, least_with}
use Rattle.separation.specs.declared.state.Sweeping.{Sweeping}
use Rattle.separation.specs.declared.report.ParallelSeparation.{ParallelSeparation}
use Rattle.separation.specs.declared.found.Found.{Found}
use Rattle.separation.specs.Figures.{Figures}
use Rattle.separation.specs.Walk.{lesser_figures}
use Rattle.separation.specs.Answer.{accepted}

-- the figures that a state holds
abbrev pub met_by : Sweeping → Figures
met_by s = record { least = gap_of_float s.minimum; least_nonzero = gap_of_float s.minimum_positive }

-- the state before the first event: no gap yet, and the whole allowance remaining
abbrev pub at_start : ℕ → Sweeping
at_start allowance = record { minimum = nan; minimum_positive = nan; remaining = allowance }

-- the code's answer while the sweep runs, for the outcome of a run within the allowance: the figures with the remaining visits, or refusal 7 and no other
abbrev pub Gives : Result Sweeping Refusal → Outcome Figures → Type 0
Gives (Ok s) o = o ≡ left (met_by s) s.remaining
Gives (Err r) o = (r ≡ WorkLimitExceeded) × (o ≡ spent)

-- what the sweep found once its last event is handled
abbrev pub found_in : Sweeping → Found
found_in s = record { minimum = gap_of_float s.minimum; minimum_positive = gap_of_float s.minimum_positive; remaining = s.remaining }

-- the figures that were found
abbrev pub found_by : Found → Figures
found_by f = record { least = f.minimum; least_nonzero = f.minimum_positive }

-- the code's answer for the outcome of one whole sweep, or of both, within the allowance
unfoldable pub swept_of : Outcome Figures → Result Found Refusal
swept_of spent = Err WorkLimitExceeded
swept_of (left f m) = Ok (record { minimum = f.least; minimum_positive = f.least_nonzero; remaining = m })

-- a gap joins both figures, as in `other_line` of Walk.antt
abbrev pub with_gap : Float → Figures → Figures
with_gap x f = let g = Some x in lesser_figures f (record { least = g; least_nonzero = g })

-- the same for a state, with m remaining visits
abbrev pub gap_met : Float → ℕ → Sweeping → Sweeping
gap_met gap m s = record { minimum = least_with s.minimum gap; minimum_positive = least_with s.minimum_positive gap; remaining = m }

-- the answer of a call whose checks passed and whose walk ended with this: a refusal stays what it is
abbrev pub Answers : Result Found Refusal → ℕ → Result ParallelSeparation Refusal → Type 0
Answers (Ok f) allowance a = a ≡ accepted (found_by f) (allowance - f.remaining)
Answers (Err r) allowance a = a ≡ Err r

-- the allowance is below five visits for each segment that is swept, the least that they cost
unfoldable pub too_few : ℕ → ℕ → Bool
too_few allowance segments = ltb allowance (5 * segments)
