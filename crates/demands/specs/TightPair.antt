-- SCOPE 12.1, 12.2: "Tight pair (added; no threshold, allowance or scratch): checks 2, 3 and 5 of clearance, then answers any pair, by segment and node position, that is not exempt and whose distance is the least clearance, or absent if there is none."
-- What follows from `Answered`, which is the call's contract (`readability`, specs/Calls). `proofs/TightPair.antt` proves `TightPairs`.
use Rattle.std.specs.Prelude.{◌≡◌, ℕ, Float, Option, Some, None, Result}
use Rattle.drawing.specs.declared.refusal.Refusal.{Refusal}
use Rattle.drawing.specs.Entries.{SegmentColumns, NodeColumns, ExemptionColumns, segments, nodes, exemptions}
use Rattle.drawing.specs.Refusals.{number_of}
use Rattle.tight_pair.specs.declared.TightPair.{TightPair}
use Rattle.tight_pair.specs.Conditions.{tight_pair_conditions}
use Rattle.tight_pair.specs.TightPair.{Tight, Answered, result_of}
use Rattle.demands.specs.Applies.{First, NoneApplies, InOrder}
use Rattle.demands.specs.Measures.{clearance}

module _ (s : SegmentColumns) (n : NodeColumns) (e : ExemptionColumns) (r : Result (Option TightPair) Refusal) where
  -- SCOPE 3.5, the least clearance: no threshold changes it
  abbrev least_clearance : Float → Option Float
  least_clearance threshold = (clearance.figures (record { segments = s; nodes = n; exemptions = e }) threshold).least

  -- a pair that is answered
  pub record Pair : Type 0 where
    pub segment : ℕ
    pub node : ℕ
    pub returned : result_of r ≡ (0, Some (record { segment = segment; node = node }))
    pub tight : Tight (exemptions e) (segments s) (nodes n) segment node

  pub record Holds : Type 0 where
    -- SCOPE 12.1: "for the tight pair, an absent pair"
    pub unfit : (refusal : Refusal) → First (tight_pair_conditions s n e) refusal → result_of r ≡ (number_of refusal, None)
    -- SCOPE 12.2: "or absent if there is none"
    pub no_pair : NoneApplies (tight_pair_conditions s n e) → (threshold : Float) → least_clearance threshold ≡ None → result_of r ≡ (0, None)
    -- SCOPE 12.2: "any pair .. that is not exempt and whose distance is the least clearance"
    pub some_pair : NoneApplies (tight_pair_conditions s n e) → (threshold least : Float) → least_clearance threshold ≡ Some least → Pair

pub record TightPairs : Type 0 where
  pub of_each : (s : SegmentColumns) (n : NodeColumns) (e : ExemptionColumns) (r : Result (Option TightPair) Refusal) → Answered s n e r → Holds s n e r
  -- SCOPE 12.1: "checks 2, 3 and 5 of clearance", in this order
  pub in_order : (s : SegmentColumns) (n : NodeColumns) (e : ExemptionColumns) → InOrder 0 (tight_pair_conditions s n e)
