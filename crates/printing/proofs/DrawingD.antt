-- Drawing D: its file says D, and its sheet is the three lines of SCOPE 11.5. By computing the definitions. Assumes nothing.
use mathlib.Core.Path.{◌≡◌, refl, ap, ◌∙◌}
use mathlib.Core.List.{List, [], ◌∷◌, ◌++◌}
use Prim.Native.Nat.{ℕ}
use lib.Ieee.{binary64, of_bits, to_bits}
use Rattle.drawing.specs.Entries.{columns_of, node_columns_of, exemption_columns_of}
use Rattle.clearance.specs.Answer.{accepted, clearance_answer}
use Rattle.clearance.proofs.Examples as OfClearance
use Rattle.separation.specs.Answer.{separation_answer}
use Rattle.separation.proofs.Examples as OfSeparation
use Rattle.congestion.specs.Answer.{density_answer}
use Rattle.congestion.proofs.Examples as OfCongestion
use Rattle.file.specs.Reading.{got, Drawing, then, big_endian, number, float as readFloat, version_byte, orientation, segment, node, exemption, entries, counted, settings, parts, ended, read}
use Rattle.text.specs.Text.{glyph, hexadecimal, leading, decimal, float_text}
use Rattle.printing.specs.Fields.{gap_text, fields}
use Rattle.printing.specs.Sheet.{clearance_label, separation_label, congestion_label, clearance_line, separation_line, congestion_line, scratch_words, lines_of_columns, lines_of_drawing, printed, sheet}
use Rattle.printing.proofs.Printing.{three}

-- version; two segments; one node; one exemption; threshold 2, cutoff 6; allowances 1,000: a line for each count and for each entry
abbrev bytes : List ℕ
bytes =
    1 ∷
    0 ∷ 0 ∷ 0 ∷ 2 ∷
    0 ∷ 0 ∷ 0 ∷ 1 ∷ 1 ∷ 0 ∷ 0 ∷ 0 ∷ 0 ∷ 0 ∷ 0 ∷ 0 ∷ 0 ∷ 0 ∷ 0 ∷ 0 ∷ 0 ∷ 0 ∷ 0 ∷ 0 ∷ 0 ∷ 64 ∷ 36 ∷ 0 ∷ 0 ∷ 0 ∷ 0 ∷ 0 ∷ 0 ∷
    0 ∷ 0 ∷ 0 ∷ 2 ∷ 1 ∷ 64 ∷ 16 ∷ 0 ∷ 0 ∷ 0 ∷ 0 ∷ 0 ∷ 0 ∷ 64 ∷ 20 ∷ 0 ∷ 0 ∷ 0 ∷ 0 ∷ 0 ∷ 0 ∷ 64 ∷ 46 ∷ 0 ∷ 0 ∷ 0 ∷ 0 ∷ 0 ∷ 0 ∷
    0 ∷ 0 ∷ 0 ∷ 1 ∷
    0 ∷ 0 ∷ 0 ∷ 7 ∷ 64 ∷ 0 ∷ 0 ∷ 0 ∷ 0 ∷ 0 ∷ 0 ∷ 0 ∷ 63 ∷ 240 ∷ 0 ∷ 0 ∷ 0 ∷ 0 ∷ 0 ∷ 0 ∷ 64 ∷ 8 ∷ 0 ∷ 0 ∷ 0 ∷ 0 ∷ 0 ∷ 0 ∷ 64 ∷ 0 ∷ 0 ∷ 0 ∷ 0 ∷ 0 ∷ 0 ∷ 0 ∷
    0 ∷ 0 ∷ 0 ∷ 1 ∷
    0 ∷ 0 ∷ 0 ∷ 2 ∷ 0 ∷ 0 ∷ 0 ∷ 7 ∷
    64 ∷ 0 ∷ 0 ∷ 0 ∷ 0 ∷ 0 ∷ 0 ∷ 0 ∷ 64 ∷ 24 ∷ 0 ∷ 0 ∷ 0 ∷ 0 ∷ 0 ∷ 0 ∷
    0 ∷ 0 ∷ 0 ∷ 0 ∷ 0 ∷ 0 ∷ 3 ∷ 232 ∷ 0 ∷ 0 ∷ 0 ∷ 0 ∷ 0 ∷ 0 ∷ 3 ∷ 232 ∷ 0 ∷ 0 ∷ 0 ∷ 0 ∷ 0 ∷ 0 ∷ 3 ∷ 232 ∷ []

abbrev drawing : Drawing
drawing = record {
  segments = record { net = 1; orientation = 1; fixed = of_bits binary64 0; start = of_bits binary64 0; end = of_bits binary64 0x4024_0000_0000_0000 }
      ∷ record { net = 2; orientation = 1; fixed = of_bits binary64 0x4010_0000_0000_0000; start = of_bits binary64 0x4014_0000_0000_0000; end = of_bits binary64 0x402e_0000_0000_0000 } ∷ [];
  nodes = record { id = 7; x = of_bits binary64 0x4000_0000_0000_0000; y = of_bits binary64 0x3ff0_0000_0000_0000; width = of_bits binary64 0x4008_0000_0000_0000; height = of_bits binary64 0x4000_0000_0000_0000 } ∷ [];
  exemptions = record { net = 2; node = 7 } ∷ [];
  settings = record { threshold = of_bits binary64 0x4000_0000_0000_0000; cutoff = of_bits binary64 0x4018_0000_0000_0000; clearance = 1000; separation = 1000; congestion = 1000 };
}

-- "clearance 3ff0000000000000 1 2"
abbrev clearance_text : List ℕ
clearance_text = 99 ∷ 108 ∷ 101 ∷ 97 ∷ 114 ∷ 97 ∷ 110 ∷ 99 ∷ 101 ∷ 32 ∷ 51 ∷ 102 ∷ 102 ∷ 48 ∷ 48 ∷ 48 ∷ 48 ∷ 48 ∷ 48 ∷ 48 ∷ 48 ∷ 48 ∷ 48 ∷ 48 ∷ 48 ∷ 48 ∷ 32 ∷ 49 ∷ 32 ∷ 50 ∷ 10 ∷ []

-- "separation 4010000000000000 4010000000000000 16"
abbrev separation_text : List ℕ
separation_text = 115 ∷ 101 ∷ 112 ∷ 97 ∷ 114 ∷ 97 ∷ 116 ∷ 105 ∷ 111 ∷ 110 ∷ 32 ∷ 52 ∷ 48 ∷ 49 ∷ 48 ∷ 48 ∷ 48 ∷ 48 ∷ 48 ∷ 48 ∷ 48 ∷ 48 ∷ 48 ∷ 48 ∷ 48 ∷ 48 ∷ 48 ∷ 32 ∷ 52 ∷ 48 ∷ 49 ∷ 48 ∷ 48 ∷ 48 ∷ 48 ∷ 48 ∷ 48 ∷ 48 ∷ 48 ∷ 48 ∷ 48 ∷ 48 ∷ 48 ∷ 48 ∷ 32 ∷ 49 ∷ 54 ∷ 10 ∷ []

-- "congestion 4034000000000000 4024000000000000 4014000000000000 1 4010000000000000 4"
abbrev congestion_text : List ℕ
congestion_text = 99 ∷ 111 ∷ 110 ∷ 103 ∷ 101 ∷ 115 ∷ 116 ∷ 105 ∷ 111 ∷ 110 ∷ 32 ∷ 52 ∷ 48 ∷ 51 ∷ 52 ∷ 48 ∷ 48 ∷ 48 ∷ 48 ∷ 48 ∷ 48 ∷ 48 ∷ 48 ∷ 48 ∷ 48 ∷ 48 ∷ 48 ∷ 32 ∷ 52 ∷ 48 ∷ 50 ∷ 52 ∷ 48 ∷ 48 ∷ 48 ∷ 48 ∷ 48 ∷ 48 ∷ 48 ∷ 48 ∷ 48 ∷ 48 ∷ 48 ∷ 48 ∷ 32 ∷ 52 ∷ 48 ∷ 49 ∷ 52 ∷ 48 ∷ 48 ∷ 48 ∷ 48 ∷ 48 ∷ 48 ∷ 48 ∷ 48 ∷ 48 ∷ 48 ∷ 48 ∷ 48 ∷ 32 ∷ 49 ∷ 32 ∷ 52 ∷ 48 ∷ 49 ∷ 48 ∷ 48 ∷ 48 ∷ 48 ∷ 48 ∷ 48 ∷ 48 ∷ 48 ∷ 48 ∷ 48 ∷ 48 ∷ 48 ∷ 48 ∷ 32 ∷ 52 ∷ 10 ∷ []

pub file_of_d : read bytes ≡ got drawing []
unfolding then big_endian number readFloat version_byte orientation segment node exemption entries counted settings parts ended read
file_of_d = refl

pub clearance-of-d : clearance_line (clearance_answer (columns_of drawing.segments) (node_columns_of drawing.nodes) (exemption_columns_of drawing.exemptions) drawing.settings.threshold 1000 7744) ≡ clearance_text
unfolding columns_of node_columns_of exemption_columns_of clearance_line clearance_label fields gap_text float_text decimal leading hexadecimal glyph accepted of_bits to_bits
clearance-of-d = ap clearance_line (OfClearance.marked).d-sheet

pub separation-of-d : separation_line (separation_answer (columns_of drawing.segments) 1000 7744) ≡ separation_text
unfolding columns_of separation_line separation_label fields gap_text float_text decimal leading hexadecimal glyph of_bits to_bits
separation-of-d = ap separation_line (OfSeparation.marked).d-sheet

pub congestion-of-d : congestion_line (density_answer (columns_of drawing.segments) drawing.settings.cutoff 1000 7744) ≡ congestion_text
unfolding columns_of congestion_line congestion_label fields gap_text float_text decimal leading hexadecimal glyph of_bits to_bits
congestion-of-d = ap congestion_line (OfCongestion.marked).D_sheet

-- SCOPE 11.5, the sheet of D: "Output", byte by byte
pub sheet-of-d : sheet bytes ≡ clearance_text ++ (separation_text ++ congestion_text)
unfolding sheet printed lines_of_drawing lines_of_columns scratch_words
sheet-of-d = ap printed file_of_d ∙ three clearance-of-d separation-of-d congestion-of-d
