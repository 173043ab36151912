-- What only inner contracts cite: the answers that the code makes from what the sweep found, and from another answer.
use Rattle.drawing.specs.declared.refusal.Refusal.{Refusal}
use Rattle.std.specs.Prelude.{ℕ, ◌-◌, Float, Result, Ok, Err}
use Rattle.floats.specs.Values.{plus_zero}
use Rattle.congestion.specs.declared.found.Found.{Found}
use Rattle.congestion.specs.declared.report.CongestionReport.{CongestionReport}

-- the answer of a call whose checks passed, for this total length
abbrev pub answer_of : Result Found Refusal → Float → ℕ → Result CongestionReport Refusal
answer_of (Ok f) total allowance = Ok (record {
  congestion = record { total_length = total; congested_length = f.congested_length; pair_overlap_length = f.pair_overlap_length; peak_close_neighbors = f.peak_close_neighbors };
  minimum_positive = f.minimum_positive;
  visits = allowance - f.remaining;
})
answer_of (Err why) total allowance = Err why

-- an answer with pair overlap and peak zero
abbrev pub answer_without_density : Result CongestionReport Refusal → Result CongestionReport Refusal
answer_without_density (Ok r) = Ok (record {
  congestion = record { total_length = r.congestion.total_length; congested_length = r.congestion.congested_length; pair_overlap_length = plus_zero; peak_close_neighbors = 0 };
  minimum_positive = r.minimum_positive;
  visits = r.visits;
})
answer_without_density (Err why) = Err why
