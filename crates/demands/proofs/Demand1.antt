-- Demand 1. Assumes nothing.
use Rattle.std.specs.Prelude.{Result}
use mathlib.Core.Path.{◌≡◌, ap, ◌∙◌}
use mathlib.Core.Bool.{Bool}
use mathlib.Core.List.{List}
use Rattle.drawing.specs.declared.refusal.Refusal.{Refusal}
use Rattle.drawing.specs.Refusals.{number_of_check, first_of}
use Rattle.demands.specs.Measures.{measure_of}
use Rattle.demands.specs.Demand1.{Checking, Demand1}
use Rattle.demands.proofs.FirstMet.{first-refused, none_passed}
use Rattle.demands.proofs.OneCall.{refusing}
use Rattle.demands.proofs.AllFacts.{all_facts}
use Rattle.demands.proofs.CheckingOrder.{in_order}

checking : (l : List (Bool × Refusal)) (answer : Result Unit Refusal) → answer ≡ first_of l → Checking l answer
unfolding number_of_check
checking l answer e = record { unfit = λ why f. ap number_of_check (e ∙ first-refused l why f); fit = λ h. ap number_of_check (e ∙ none_passed l h) }

pub demand_1 : Demand1
demand_1 = record { of_each = λ call. refusing (measure_of call) (all_facts call); in_order = in_order; of_checks = checking }
