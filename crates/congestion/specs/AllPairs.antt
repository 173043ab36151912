-- The all-pairs report of a drawing's segments, with its visit count (SCOPE 6.3).
use Rattle.std.specs.Prelude.{List, map, Bool, not, ◌&&◌, ℕ, eqb, Float, Option}
use Rattle.laws.specs.Lists.{chosen, pairs}
use Rattle.laws.specs.Charged.{Charged}
use Rattle.floats.specs.Values.{gap_of}
use Rattle.floats.specs.Grid.{of_units}
use Rattle.drawing.specs.Entries.{Segment}
use Rattle.drawing.specs.Gaps.{least_gap}
use Rattle.congestion.specs.declared.report.ParallelCongestion.{ParallelCongestion}
use Rattle.congestion.specs.Wires.{Wire, wire_of, cutoff_of}
use Rattle.congestion.specs.Figures.{close_other, total, congested, pair_overlap, peak}
use Rattle.congestion.specs.Visits.{visit_count}

-- SCOPE 9.1: three lengths, given in 64ths, and the peak
unfoldable pub lengths : ℕ → ℕ → ℕ → ℕ → ParallelCongestion
lengths t c o p = record { total_length = of_units t; congested_length = of_units c; pair_overlap_length = of_units o; peak_close_neighbors = p }

-- SCOPE 3.15: a close pair of different nets whose fixed coordinates differ: its gap is not zero
abbrev pub gapped : ℕ → Wire → Wire → Bool
gapped c s t = close_other c s t && not (eqb s.fixed t.fixed)

-- SCOPE 3.15: "the least nonzero gap of close different-net pairs", each gap one rounded subtraction of the given coordinates; +0 and -0 have the same number of 64ths, so the gap between them counts as zero
unfoldable pub least_nonzero : ℕ → List Segment → Option Float
least_nonzero c l = least_gap (chosen (λ p. gapped c (wire_of p.0) (wire_of p.1)) (λ p. gap_of p.0.fixed p.1.fixed) (pairs l))

-- SCOPE 6.3: the figures of the report and the least gap, and what they cost, for a drawing on the grid: a float off it is no number of 64ths, and check 6 comes first. "The all-pairs report is the measure's figures above with its visit count."
unfoldable pub all_pairs : Float → List Segment → Charged (ParallelCongestion × Option Float)
all_pairs cutoff l =
    let c = cutoff_of cutoff in
    let w = map wire_of l in
    record { value = (lengths (total w) (congested c w) (pair_overlap c w) (peak c w), least_nonzero c l); cost = visit_count cutoff l }
