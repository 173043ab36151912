-- The text of a sheet. SCOPE 11.1, 11.4: "three lines", or "a refused file only `file refused` and the number".
use Rattle.std.specs.Prelude.{List, [], ◌∷◌, ◌++◌, ℕ, Result, Ok, Err}
use Rattle.drawing.specs.declared.refusal.Refusal.{Refusal}
use Rattle.drawing.specs.Entries.{SegmentColumns, NodeColumns, ExemptionColumns, columns_of, node_columns_of, exemption_columns_of}
use Rattle.drawing.specs.Refusals.{number_of}
use Rattle.clearance.specs.declared.report.EdgeNodeClearance.{EdgeNodeClearance}
use Rattle.clearance.specs.Answer.{clearance_answer}
use Rattle.separation.specs.declared.report.ParallelSeparation.{ParallelSeparation}
use Rattle.separation.specs.Answer.{separation_answer}
use Rattle.congestion.specs.declared.report.CongestionReport.{CongestionReport}
use Rattle.congestion.specs.Answer.{density_answer}
use Rattle.file.specs.Reading.{Settings, Drawing, Read, got, refused, read}
use Rattle.text.specs.Text.{decimal, float_text}
use Rattle.printing.specs.Fields.{gap_text, fields}

-- the words of a sheet, as bytes: clearance, separation, congestion, file, refused
unfoldable pub clearance_label : List ℕ
clearance_label = 99 ∷ 108 ∷ 101 ∷ 97 ∷ 114 ∷ 97 ∷ 110 ∷ 99 ∷ 101 ∷ []

unfoldable pub separation_label : List ℕ
separation_label = 115 ∷ 101 ∷ 112 ∷ 97 ∷ 114 ∷ 97 ∷ 116 ∷ 105 ∷ 111 ∷ 110 ∷ []

unfoldable pub congestion_label : List ℕ
congestion_label = 99 ∷ 111 ∷ 110 ∷ 103 ∷ 101 ∷ 115 ∷ 116 ∷ 105 ∷ 111 ∷ 110 ∷ []

unfoldable pub file_label : List ℕ
file_label = 102 ∷ 105 ∷ 108 ∷ 101 ∷ []

unfoldable pub refused_label : List ℕ
refused_label = 114 ∷ 101 ∷ 102 ∷ 117 ∷ 115 ∷ 101 ∷ 100 ∷ []

-- SCOPE 11.4: "A refused measure prints its name, `refused` and the number"
unfoldable pub refusal : List ℕ → Refusal → List ℕ
refusal name r = name ++ fields (refused_label ∷ decimal (number_of r) ∷ [])

-- SCOPE 11.2: "least, violations, visits"
unfoldable pub clearance_line : Result EdgeNodeClearance Refusal → List ℕ
clearance_line (Ok r) = clearance_label ++ fields (gap_text r.minimum_clearance ∷ decimal r.violations ∷ decimal r.visits ∷ [])
clearance_line (Err r) = refusal clearance_label r

-- SCOPE 11.2: "least, least nonzero, visits"
unfoldable pub separation_line : Result ParallelSeparation Refusal → List ℕ
separation_line (Ok r) = separation_label ++ fields (gap_text r.minimum ∷ gap_text r.minimum_positive ∷ decimal r.visits ∷ [])
separation_line (Err r) = refusal separation_label r

-- SCOPE 11.2: "total, congested, pair overlap, peak, least nonzero close gap, visits"
unfoldable pub congestion_line : Result CongestionReport Refusal → List ℕ
congestion_line (Ok r) =
    let c = r.congestion in
    congestion_label ++ fields (float_text c.total_length ∷ float_text c.congested_length ∷ float_text c.pair_overlap_length ∷ decimal c.peak_close_neighbors ∷ gap_text r.minimum_positive ∷ decimal r.visits ∷ [])
congestion_line (Err r) = refusal congestion_label r

-- the words of scratch that the program lends to each call. SCOPE 2.7, 11.6: "32 times (segments + nodes) plus 64 words" for 120 segments and 120 nodes
unfoldable pub scratch_words : ℕ
scratch_words = 7744

-- SCOPE 11.1: the three lines of columns and settings: clearance, separation, congestion, each with its own allowance
unfoldable pub lines_of_columns : SegmentColumns → NodeColumns → ExemptionColumns → Settings → List ℕ
lines_of_columns s n e set =
    clearance_line (clearance_answer s n e set.threshold set.clearance scratch_words)
    ++ (separation_line (separation_answer s set.separation scratch_words)
    ++ congestion_line (density_answer s set.cutoff set.congestion scratch_words))

unfoldable pub lines_of_drawing : Drawing → List ℕ
lines_of_drawing d = lines_of_columns (columns_of d.segments) (node_columns_of d.nodes) (exemption_columns_of d.exemptions) d.settings

unfoldable pub printed : Read Drawing → List ℕ
printed (got d rest) = lines_of_drawing d
printed (refused r) = refusal file_label r

-- SCOPE 11.1, 11.6: "reads it from standard input and writes three lines"
unfoldable pub sheet : List ℕ → List ℕ
sheet bytes = printed (read bytes)
