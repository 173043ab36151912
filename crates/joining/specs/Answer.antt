-- What the joiner returns (SCOPE 16.6), with the number and values of each case, and what the lent output columns hold then (SCOPE 16.7).
use Rattle.std.specs.Prelude.{List, ℕ, ◌-◌, length, Result, Ok, Err}
use Rattle.drawing.specs.declared.lists.Segment.{Segment}
use Rattle.drawing.specs.Entries.{SegmentColumns, segments}
use Rattle.drawing.specs.Outputs.{written_over}
use Rattle.drawing.specs.declared.refusal.Refusal.{Refusal}
use Rattle.drawing.specs.Refusals.{number_of, first_of, checked}
use Rattle.joining.specs.declared.answer.Joined.{Joined}
use Rattle.joining.specs.Joined.{joined}
use Rattle.joining.specs.Conditions.{join_conditions}

-- SCOPE 16.6: how many pieces there are, and "how many pieces went away"
abbrev pub joined_of : List Segment → Result Joined Refusal
joined_of l = Ok (record { pieces = length (joined l); gone = length l - length (joined l) })

unfoldable pub join_answer : SegmentColumns → SegmentColumns → Result Joined Refusal
join_answer c out = checked Err (first_of (join_conditions c out)) (joined_of (segments c))

-- SCOPE 16.7: the pieces, column by column; "Output entries past the last piece keep their contents"
unfoldable pub written : List Segment → SegmentColumns → SegmentColumns
written l c = record { net = written_over (λ (s : Segment). s.net) l c.net; orientation = written_over (λ (s : Segment). s.orientation) l c.orientation; fixed = written_over (λ (s : Segment). s.fixed) l c.fixed; start = written_over (λ (s : Segment). s.start) l c.start; end = written_over (λ (s : Segment). s.end) l c.end }

-- SCOPE 16.7: the output columns at exit; refused, "with nothing written"
unfoldable pub output_after : SegmentColumns → SegmentColumns → SegmentColumns
output_after c out = checked (λ r. out) (first_of (join_conditions c out)) (written (joined (segments c)) out)

-- SCOPE 6.3, 16.6: each case by its number, 0 for an accepted call, with the pieces and how many went away; zeros at a refusal
unfoldable pub result_of : Result Joined Refusal → ℕ × ℕ × ℕ
result_of (Ok j) = (0, j.pieces, j.gone)
result_of (Err r) = (number_of r, 0, 0)
