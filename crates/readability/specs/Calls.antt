-- What the calls' own contracts say, as the checker reads them (SCOPE 8.1, 8.5): of each of the five measures, by columns and by records, of the tight pair and of the joiner, that it requires nothing of its caller, that it ends, and what it returns; of a measure, that its run is one of `demands`, specs/Measures, and of the joiner, that it is one of specs/Joining.
-- Each entry names the function's own code and its name, so the statement is about the function and not about a copy of its contract. `a` are the arguments in the order of the signature, `x` is what is returned, and `e` are the arguments at exit.
use Rattle.std.specs.Prelude.{ℕ, List, ◌≡◌, false}
use prog.Routine.{Env, Callee}
use prog.Wired.{Code, Wired}
use contract.Lifetimes.{Lfts}
use borrow.Fn.Kinds.{ParamKind, ResultKind, In, Out, Dens, res_t, ended_of}
use borrow.Fn.World.{World}
use borrow.Fn.Run.{Over}
use borrow.Fn.Plain.{Known}
use denote.Triple.Clauses.{AtExit}
use Rattle.drawing.specs.Entries.{Segment, as_lent, columns_of, segment_columns, lent_segments, lent_nodes, lent_exemptions}
use Rattle.drawing.specs.Checks.{segments_differ}
use Rattle.tight_pair.specs.TightPair.{Answered}
use Rattle.clearance_call.proofs.measure.measure_edge_node_clearance_bounded.Kinds as clearanceKinds
use Rattle.clearance_call.proofs.measure.measure_edge_node_clearance_bounded.Reads as clearanceReads
use Rattle.clearance_call.proofs.measure.measure_edge_node_clearance_bounded.Symbol as clearanceCode
use Rattle.tight_pair.proofs.tight_pair.Kinds as tightPairKinds
use Rattle.tight_pair.proofs.tight_pair.Reads as tightPairReads
use Rattle.tight_pair.proofs.tight_pair.Symbol as tightPairCode
use Rattle.join_call.proofs.columns.join.Kinds as joinKinds
use Rattle.join_call.proofs.columns.join.Reads as joinReads
use Rattle.join_call.proofs.columns.join.Symbol as joinCode
use Rattle.separation_call.proofs.measure.measure_parallel_separation_bounded.Kinds as separationKinds
use Rattle.separation_call.proofs.measure.measure_parallel_separation_bounded.Reads as separationReads
use Rattle.separation_call.proofs.measure.measure_parallel_separation_bounded.Symbol as separationCode
use Rattle.density_call.proofs.measure.measure_parallel_density_profile_bounded.Kinds as densityKinds
use Rattle.density_call.proofs.measure.measure_parallel_density_profile_bounded.Reads as densityReads
use Rattle.density_call.proofs.measure.measure_parallel_density_profile_bounded.Symbol as densityCode
use Rattle.congestion_call.proofs.measure.measure_parallel_congestion_profile_bounded.Kinds as profileKinds
use Rattle.congestion_call.proofs.measure.measure_parallel_congestion_profile_bounded.Reads as profileReads
use Rattle.congestion_call.proofs.measure.measure_parallel_congestion_profile_bounded.Symbol as profileCode
use Rattle.congestion_call.proofs.measure.measure_parallel_congestion.Kinds as congestionKinds
use Rattle.congestion_call.proofs.measure.measure_parallel_congestion.Reads as congestionReads
use Rattle.congestion_call.proofs.measure.measure_parallel_congestion.Symbol as congestionCode
use Rattle.records.proofs.edge_node.measure_edge_node_clearance_bounded_by_records.Kinds as clearanceEntryKinds
use Rattle.records.proofs.edge_node.measure_edge_node_clearance_bounded_by_records.Reads as clearanceEntryReads
use Rattle.records.proofs.edge_node.measure_edge_node_clearance_bounded_by_records.Symbol as clearanceEntryCode
use Rattle.records.proofs.parallel.measure_parallel_separation_bounded_by_records.Kinds as separationEntryKinds
use Rattle.records.proofs.parallel.measure_parallel_separation_bounded_by_records.Reads as separationEntryReads
use Rattle.records.proofs.parallel.measure_parallel_separation_bounded_by_records.Symbol as separationEntryCode
use Rattle.records.proofs.parallel.measure_parallel_density_profile_bounded_by_records.Kinds as densityEntryKinds
use Rattle.records.proofs.parallel.measure_parallel_density_profile_bounded_by_records.Reads as densityEntryReads
use Rattle.records.proofs.parallel.measure_parallel_density_profile_bounded_by_records.Symbol as densityEntryCode
use Rattle.records.proofs.parallel.measure_parallel_congestion_profile_bounded_by_records.Kinds as profileEntryKinds
use Rattle.records.proofs.parallel.measure_parallel_congestion_profile_bounded_by_records.Reads as profileEntryReads
use Rattle.records.proofs.parallel.measure_parallel_congestion_profile_bounded_by_records.Symbol as profileEntryCode
use Rattle.records.proofs.parallel.measure_parallel_congestion_by_records.Kinds as congestionEntryKinds
use Rattle.records.proofs.parallel.measure_parallel_congestion_by_records.Reads as congestionEntryReads
use Rattle.records.proofs.parallel.measure_parallel_congestion_by_records.Symbol as congestionEntryCode
use Rattle.records.specs.Records.{parallel_columns, edge_node_columns}
use Rattle.demands.specs.Joining.{JoinSays}
use Rattle.demands.specs.Measures.{Says, clearance, separation, density, profile, congestion}

-- in every model that has the function's code, with the code of all that it names, and under every name: the function's routine, called where P holds of its arguments, does nothing undefined and returns, and Q holds then. It is the checker's statement of total correctness, which it derives of a function from the function's theorem.
abbrev pub TotallyCorrect : (n : ℕ) (ps : List (ParamKind n)) (r : ResultKind n) → Code → Callee → In n ps → Out n ps r → Type 2
TotallyCorrect n ps r code name P Q = (w : World) (γ : Env) (k : Callee) → Wired w.𝓡.env code → γ k ≡ w.𝓡.env name → Known w.𝓛 (Over w.𝓛 w.𝓜 w.𝓡 γ) n ps r P Q k

-- a function of n lifetimes with these parameters and this result; `Asked` is what it requires of a caller, and `Learnt` what a caller knows after the call
pub record Contract (n : ℕ) (ps : List (ParamKind n)) (r : ResultKind n) (code : Code) (name : Callee) (Asked : In n ps) (Learnt : Out n ps r) (Claim : Out n ps r) : Type 2 where
  -- SCOPE 8.1: "every call ends, for all inputs"
  pub ends : TotallyCorrect n ps r code name Asked Learnt
  -- SCOPE 8.1: "with no condition laid on its caller"
  pub asks_nothing : (κs : Lfts n) (a : Dens κs ps) → Asked κs a
  -- what a caller knows
  pub says : (κs : Lfts n) (a : Dens κs ps) (x : (res_t r κs).Denot) (e : AtExit (ended_of n ps r) κs) → Learnt κs a x e → Claim κs a x e

pub record Calls : Type 2 where
  -- segments, nodes, exemptions, threshold, allowance, scratch
  pub of-clearance : Contract 7 clearanceKinds.ps clearanceKinds.r clearanceCode.code clearanceCode.name clearanceReads.Asked clearanceReads.Learnt (λ κs a x e. let b = a.1.1.1 in
      Says clearance (record {
        segments = lent_segments a.0.now;
        nodes = lent_nodes a.1.0.now;
        exemptions = lent_exemptions a.1.1.0.now;
      }) b.0 b.1.0 b.1.1.0.now x e.1.1.1.1.1.0.now)
  -- segments, allowance, scratch
  pub of-separation : Contract 3 separationKinds.ps separationKinds.r separationCode.code separationCode.name separationReads.Asked separationReads.Learnt (λ κs a x e. Says separation (lent_segments a.0.now) tt a.1.0 a.1.1.0.now x e.1.1.0.now)
  -- segments, cutoff, allowance, scratch
  pub of-density : Contract 3 densityKinds.ps densityKinds.r densityCode.code densityCode.name densityReads.Asked densityReads.Learnt (λ κs a x e. Says density (lent_segments a.0.now) a.1.0 a.1.1.0 a.1.1.1.0.now x e.1.1.1.0.now)
  pub of-profile : Contract 3 profileKinds.ps profileKinds.r profileCode.code profileCode.name profileReads.Asked profileReads.Learnt (λ κs a x e. Says profile (lent_segments a.0.now) a.1.0 a.1.1.0 a.1.1.1.0.now x e.1.1.1.0.now)
  -- segments, cutoff, scratch: no allowance
  pub of-congestion : Contract 3 congestionKinds.ps congestionKinds.r congestionCode.code congestionCode.name congestionReads.Asked congestionReads.Learnt (λ κs a x e. Says congestion (lent_segments a.0.now) a.1.0 tt a.1.1.0.now x e.1.1.0.now)
  -- segments, nodes, exemptions: nothing that is lent can be written
  pub of-tight-pair : Contract 6 tightPairKinds.ps tightPairKinds.r tightPairCode.code tightPairCode.name tightPairReads.Asked tightPairReads.Learnt (λ κs a x e. Answered (lent_segments a.0.now) (lent_nodes a.1.0.now) (lent_exemptions a.1.1.0.now) x)
  -- segments, to_net, to_orientation, to_fixed, to_start, to_end: with the equations that make a call a `JoinRun`
  pub of_join : Contract 7 joinKinds.ps joinKinds.r joinCode.code joinCode.name joinReads.Asked joinReads.Learnt (λ κs a x e. let b = a.1 in let f = e.1 in
      JoinSays (lent_segments a.0.now)
      (segment_columns b.0.now b.1.0.now b.1.1.0.now b.1.1.1.0.now b.1.1.1.1.0.now) x
      (segment_columns f.0.now f.1.0.now f.1.1.0.now f.1.1.1.0.now f.1.1.1.1.0.now))
  -- ---- the thin entries, SCOPE 2.6, 6.1: "it is called by columns or by a thin entry, where there is one". A list of records is read as columns, and the entry answers what the call by columns answers of them.
  -- records, nodes, exemptions, threshold, allowance, scratch
  pub of-clearance-by_records : Contract 6 clearanceEntryKinds.ps clearanceEntryKinds.r clearanceEntryCode.code clearanceEntryCode.name clearanceEntryReads.Asked clearanceEntryReads.Learnt (λ κs a x e. let b = a.1.1.1 in
      Says clearance (record {
        segments = edge_node_columns a.0.now;
        nodes = lent_nodes a.1.0.now;
        exemptions = lent_exemptions a.1.1.0.now;
      }) b.0 b.1.0 b.1.1.0.now x e.1.1.1.1.1.0.now)
  -- records, allowance, scratch
  pub of-separation-by_records : Contract 2 separationEntryKinds.ps separationEntryKinds.r separationEntryCode.code separationEntryCode.name separationEntryReads.Asked separationEntryReads.Learnt (λ κs a x e. Says separation (parallel_columns a.0.now) tt a.1.0 a.1.1.0.now x e.1.1.0.now)
  -- records, cutoff, allowance, scratch
  pub of-density-by_records : Contract 2 densityEntryKinds.ps densityEntryKinds.r densityEntryCode.code densityEntryCode.name densityEntryReads.Asked densityEntryReads.Learnt (λ κs a x e. Says density (parallel_columns a.0.now) a.1.0 a.1.1.0 a.1.1.1.0.now x e.1.1.1.0.now)
  pub of-profile-by_records : Contract 2 profileEntryKinds.ps profileEntryKinds.r profileEntryCode.code profileEntryCode.name profileEntryReads.Asked profileEntryReads.Learnt (λ κs a x e. Says profile (parallel_columns a.0.now) a.1.0 a.1.1.0 a.1.1.1.0.now x e.1.1.1.0.now)
  -- records, cutoff, scratch: no allowance
  pub of-congestion-by_records : Contract 2 congestionEntryKinds.ps congestionEntryKinds.r congestionEntryCode.code congestionEntryCode.name congestionEntryReads.Asked congestionEntryReads.Learnt (λ κs a x e. Says congestion (parallel_columns a.0.now) a.1.0 tt a.1.1.0.now x e.1.1.0.now)
  -- the entries of a list's columns are that list, so lists of records in two orders are drawings in two orders, and so are one of records and one of columns; and refusal 2 does not arise for them
  pub columns_entries : (l : List Segment) → as_lent (columns_of l) ≡ l
  pub never_differ : (l : List Segment) → segments_differ (columns_of l) ≡ false
