-- The tight pair. Assumes nothing.
use Rattle.std.specs.Prelude.{Option, Some, None, Result, Ok, Err}
use mathlib.Core.Path.{◌≡◌, refl, ap, ◌∙◌}
use lib.Ieee.{Float}
use Rattle.drawing.specs.declared.refusal.Refusal.{Refusal}
use Rattle.drawing.specs.Entries.{SegmentColumns, NodeColumns, ExemptionColumns, segments, nodes, exemptions}
use Rattle.drawing.specs.Gaps.{least_gap}
use Rattle.drawing.specs.Refusals.{number_of, first_of, checked}
use Rattle.tight_pair.specs.declared.TightPair.{TightPair}
use Rattle.clearance.specs.Figures.{distances, figures}
use Rattle.tight_pair.specs.Conditions.{tight_pair_conditions}
use Rattle.tight_pair.specs.TightPair.{pair_if_any, tight_pair_answer, Answered, result_of}
use Rattle.demands.specs.Applies.{First, NoneApplies}
use Rattle.demands.specs.TightPair.{Pair, TightPairs}
use Rattle.demands.proofs.FirstMet.{first-refused, none_passed}
use Rattle.demands.proofs.CheckingOrder.{of-tight-pair}

module _ (s : SegmentColumns) (n : NodeColumns) (e : ExemptionColumns) (r : Result (Option TightPair) Refusal) (a : Answered s n e r) where
  -- from the outcome of the checks, and from the least clearance
  answered : (c : Result Unit Refusal) → first_of (tight_pair_conditions s n e) ≡ c → (g : Option Float) → least_gap (distances (exemptions e) (segments s) (nodes n)) ≡ g → r ≡ checked Err c (Ok (pair_if_any g a.choice))
  unfolding tight_pair_answer
  answered c p g q = a.is ∙ (λ i. checked Err (p i) (Ok (pair_if_any (q i) a.choice)))

  unfit : (why : Refusal) → First (tight_pair_conditions s n e) why → result_of r ≡ (number_of why, None)
  unfolding result_of
  unfit why f = ap result_of (answered (Err why) (first-refused (tight_pair_conditions s n e) why f) _ refl)

  no_pair : NoneApplies (tight_pair_conditions s n e) → (threshold : Float) → (figures (exemptions e) (λ net. threshold) (segments s) (nodes n)).least ≡ None → result_of r ≡ (0, None)
  unfolding pair_if_any result_of figures
  no_pair h threshold g = ap result_of (answered (Ok tt) (none_passed (tight_pair_conditions s n e) h) None g)

  some_pair : NoneApplies (tight_pair_conditions s n e) → (threshold d : Float) → (figures (exemptions e) (λ net. threshold) (segments s) (nodes n)).least ≡ Some d → Pair s n e r
  unfolding pair_if_any result_of figures
  some_pair h threshold d g =
      let is : r ≡ Ok (Some a.choice) = answered (Ok tt) (none_passed (tight_pair_conditions s n e) h) (Some d) g in
      record { segment = a.choice.segment; node = a.choice.node; returned = ap result_of is; tight = a.tight a.choice is }

pub tight-pairs : TightPairs
tight-pairs = record { of_each = λ s n e r a. record { unfit = unfit s n e r a; no_pair = no_pair s n e r a; some_pair = some_pair s n e r a }; in_order = of-tight-pair }
