-- What reading a drawing file returns, with the number and values of each case (SCOPE 8.5, 10.3), and what the lent columns hold then.
use Rattle.drawing.specs.declared.refusal.Refusal.{Refusal}
use Rattle.std.specs.Prelude.{List, ℕ, length, Option, Result, None, Some, Ok, Err}
use Rattle.drawing.specs.Refusals.{number_of}
use Rattle.drawing.specs.Outputs.{written_over}
use Rattle.file.specs.declared.reading.Header.{Header}
use Rattle.file.specs.Reading.{Read, got, refused, Drawing}

-- the counts of the lists and the settings
unfoldable pub header_of : Drawing → Header
header_of d =
    let set = d.settings in
    record { segments = length d.segments; nodes = length d.nodes; exemptions = length d.exemptions; threshold = set.threshold; cutoff = set.cutoff; clearance = set.clearance; separation = set.separation; congestion = set.congestion }

-- the answer: the counts and settings of a file that is read, or the refusal
unfoldable pub reading_of : Read Drawing → Result Header Refusal
reading_of (got d rest) = Ok (header_of d)
reading_of (refused r) = Err r

-- each case of the answer by its number, 0 for a file that is read, and its values. SCOPE 8.5, 10.3: "A refusal returns its number", and there is no header
unfoldable pub result_of : Result Header Refusal → ℕ × Option Header
result_of (Ok h) = (0, Some h)
result_of (Err w) = (number_of w, None)

-- the number and values of a file
unfoldable pub file_result : Read Drawing → ℕ × Option Header
file_result (got d rest) = (0, Some (header_of d))
file_result (refused w) = (number_of w, None)

-- a lent column: f of each entry of its list, and past these what was there. SCOPE 8.1, 10.3: a refused file "touches no lent memory"
unfoldable pub column_after : {A B : Type 0} → (Drawing → List A) → (A → B) → Read Drawing → List B → List B
column_after list f (got d rest) old = written_over f (list d) old
column_after list f (refused r) old = old
