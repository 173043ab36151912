-- The conditions of each call are in the checking order of SCOPE 7. Assumes nothing.
use Prim.Native.Nat.{ℕ}
use native.Mathlib.Omega.{arith}
use lib.Ieee.{Float}
use Rattle.drawing.specs.Entries.{SegmentColumns, NodeColumns, ExemptionColumns}
use Rattle.drawing.specs.Checks.{segment_conditions, list_conditions, entry_conditions}
use Rattle.clearance.specs.Conditions.{clearance_conditions}
use Rattle.separation.specs.Conditions.{separation_conditions}
use Rattle.congestion.specs.Conditions.{congestion_conditions}
use Rattle.tight_pair.specs.Conditions.{tight_pair_conditions}
use Rattle.demands.specs.Applies.{place_in_list, InOrder}
use Rattle.demands.specs.Measures.{Lists, Call, edge_node_clearance, parallel_separation, parallel_density_profile, parallel_congestion_profile, parallel_congestion, measure_of}

of-clearance : (d : Lists) (threshold : Float) (words : ℕ) → InOrder 0 (clearance_conditions d.segments d.nodes d.exemptions threshold words)
unfolding clearance_conditions list_conditions entry_conditions place_in_list
of-clearance d threshold words = (omega arith, (omega arith, (omega arith, (omega arith, (omega arith, (omega arith, (omega arith, (omega arith, (omega arith, (omega arith, omega arith))))))))))

of-separation : (s : SegmentColumns) (words : ℕ) → InOrder 0 (separation_conditions s words)
unfolding separation_conditions segment_conditions place_in_list
of-separation s words = (omega arith, (omega arith, (omega arith, (omega arith, omega arith))))

of-congestion : (s : SegmentColumns) (cutoff : Float) (words : ℕ) → InOrder 0 (congestion_conditions s cutoff words)
unfolding congestion_conditions segment_conditions place_in_list
of-congestion s cutoff words = (omega arith, (omega arith, (omega arith, (omega arith, (omega arith, (omega arith, (omega arith, omega arith)))))))

pub of-tight-pair : (s : SegmentColumns) (n : NodeColumns) (e : ExemptionColumns) → InOrder 0 (tight_pair_conditions s n e)
unfolding tight_pair_conditions list_conditions entry_conditions place_in_list
of-tight-pair s n e = (omega arith, (omega arith, (omega arith, (omega arith, (omega arith, (omega arith, (omega arith, (omega arith, omega arith))))))))

pub in_order : (call : Call) (d : (measure_of call).Drawing) (s : (measure_of call).Settings) (words : ℕ) → InOrder 0 ((measure_of call).conditions d s words)
in_order edge_node_clearance d threshold words = of-clearance d threshold words
in_order parallel_separation s none words = of-separation s words
in_order parallel_density_profile s cutoff words = of-congestion s cutoff words
in_order parallel_congestion_profile s cutoff words = of-congestion s cutoff words
in_order parallel_congestion s cutoff words = of-congestion s cutoff words
