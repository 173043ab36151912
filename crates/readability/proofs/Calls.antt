-- The calls' own contracts say what specs/Calls states. Assumes nothing.
use Rattle.drawing.proofs.ColumnLaws.{columns_entries, columns_same}
use Rattle.clearance_call.proofs.measure.measure_edge_node_clearance_bounded.Met as clearance
use Rattle.clearance_call.proofs.measure.measure_edge_node_clearance_bounded.Reads as clearance-reads
use Rattle.tight_pair.proofs.tight_pair.Met as tight-pair
use Rattle.tight_pair.proofs.tight_pair.Reads as tight-pair-reads
use Rattle.join_call.proofs.columns.join.Met as join
use Rattle.join_call.proofs.columns.join.Reads as join-reads
use Rattle.separation_call.proofs.measure.measure_parallel_separation_bounded.Met as separation
use Rattle.separation_call.proofs.measure.measure_parallel_separation_bounded.Reads as separation-reads
use Rattle.density_call.proofs.measure.measure_parallel_density_profile_bounded.Met as density
use Rattle.density_call.proofs.measure.measure_parallel_density_profile_bounded.Reads as density-reads
use Rattle.congestion_call.proofs.measure.measure_parallel_congestion_profile_bounded.Met as profile
use Rattle.congestion_call.proofs.measure.measure_parallel_congestion_profile_bounded.Reads as profile-reads
use Rattle.congestion_call.proofs.measure.measure_parallel_congestion.Met as congestion
use Rattle.congestion_call.proofs.measure.measure_parallel_congestion.Reads as congestion-reads
use Rattle.records.proofs.edge_node.measure_edge_node_clearance_bounded_by_records.Met as clearance-entry
use Rattle.records.proofs.edge_node.measure_edge_node_clearance_bounded_by_records.Reads as clearance-entry-reads
use Rattle.records.proofs.parallel.measure_parallel_separation_bounded_by_records.Met as separation-entry
use Rattle.records.proofs.parallel.measure_parallel_separation_bounded_by_records.Reads as separation-entry-reads
use Rattle.records.proofs.parallel.measure_parallel_density_profile_bounded_by_records.Met as density-entry
use Rattle.records.proofs.parallel.measure_parallel_density_profile_bounded_by_records.Reads as density-entry-reads
use Rattle.records.proofs.parallel.measure_parallel_congestion_profile_bounded_by_records.Met as profile-entry
use Rattle.records.proofs.parallel.measure_parallel_congestion_profile_bounded_by_records.Reads as profile-entry-reads
use Rattle.records.proofs.parallel.measure_parallel_congestion_by_records.Met as congestion-entry
use Rattle.records.proofs.parallel.measure_parallel_congestion_by_records.Reads as congestion-entry-reads
use Rattle.readability.specs.Calls.{Calls}

pub calls : Calls
calls = record {
  of-clearance = record { ends = λ w γ k wired same. clearance-reads.known w γ k _ same (clearance.met w.𝓤 w.𝓛 w.𝓜 w.𝓡 wired); asks_nothing = λ κs a. tt; says = λ κs a x e l. record { answers = l.0; leaves = l.1; held = l.2 } };
  of-separation = record { ends = λ w γ k wired same. separation-reads.known w γ k _ same (separation.met w.𝓤 w.𝓛 w.𝓜 w.𝓡 wired); asks_nothing = λ κs a. tt; says = λ κs a x e l. record { answers = l.0; leaves = l.1; held = l.2 } };
  of-density = record { ends = λ w γ k wired same. density-reads.known w γ k _ same (density.met w.𝓤 w.𝓛 w.𝓜 w.𝓡 wired); asks_nothing = λ κs a. tt; says = λ κs a x e l. record { answers = l.0; leaves = l.1; held = l.2 } };
  of-profile = record { ends = λ w γ k wired same. profile-reads.known w γ k _ same (profile.met w.𝓤 w.𝓛 w.𝓜 w.𝓡 wired); asks_nothing = λ κs a. tt; says = λ κs a x e l. record { answers = l.0; leaves = l.1; held = l.2 } };
  of-congestion = record { ends = λ w γ k wired same. congestion-reads.known w γ k _ same (congestion.met w.𝓤 w.𝓛 w.𝓜 w.𝓡 wired); asks_nothing = λ κs a. tt; says = λ κs a x e l. record { answers = l.0; leaves = l.1; held = l.2 } };
  of-tight-pair = record { ends = λ w γ k wired same. tight-pair-reads.known w γ k _ same (tight-pair.met w.𝓤 w.𝓛 w.𝓜 w.𝓡 wired); asks_nothing = λ κs a. tt; says = λ κs a x e l. l };
  of_join = record { ends = λ w γ k wired same. join-reads.known w γ k _ same (join.met w.𝓤 w.𝓛 w.𝓜 w.𝓡 wired); asks_nothing = λ κs a. tt; says = λ κs a x e l. record { answers = l.0; leaves = l.1; held = l.2 } };
  of-clearance-by_records = record { ends = λ w γ k wired same. clearance-entry-reads.known w γ k _ same (clearance-entry.met w.𝓤 w.𝓛 w.𝓜 w.𝓡 wired); asks_nothing = λ κs a. tt; says = λ κs a x e l. record { answers = l.0; leaves = l.1; held = l.2 } };
  of-separation-by_records = record { ends = λ w γ k wired same. separation-entry-reads.known w γ k _ same (separation-entry.met w.𝓤 w.𝓛 w.𝓜 w.𝓡 wired); asks_nothing = λ κs a. tt; says = λ κs a x e l. record { answers = l.0; leaves = l.1; held = l.2 } };
  of-density-by_records = record { ends = λ w γ k wired same. density-entry-reads.known w γ k _ same (density-entry.met w.𝓤 w.𝓛 w.𝓜 w.𝓡 wired); asks_nothing = λ κs a. tt; says = λ κs a x e l. record { answers = l.0; leaves = l.1; held = l.2 } };
  of-profile-by_records = record { ends = λ w γ k wired same. profile-entry-reads.known w γ k _ same (profile-entry.met w.𝓤 w.𝓛 w.𝓜 w.𝓡 wired); asks_nothing = λ κs a. tt; says = λ κs a x e l. record { answers = l.0; leaves = l.1; held = l.2 } };
  of-congestion-by_records = record { ends = λ w γ k wired same. congestion-entry-reads.known w γ k _ same (congestion-entry.met w.𝓤 w.𝓛 w.𝓜 w.𝓡 wired); asks_nothing = λ κs a. tt; says = λ κs a x e l. record { answers = l.0; leaves = l.1; held = l.2 } };
  columns_entries = columns_entries;
  never_differ = columns_same;
}
