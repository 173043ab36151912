-- What is left of the call once checks 2, 3 and 5 have passed: check 8, and the pieces.
use Rattle.std.specs.Prelude.{cond, length, Result, Err}
use Rattle.drawing.specs.declared.refusal.Refusal.{Refusal}
use Rattle.drawing.specs.declared.refusal.Refusal.TheVariants.{ShortOutput}
use Rattle.drawing.specs.Entries.{SegmentColumns, segments}
use Rattle.drawing.specs.Conditions.{short_output}
use Rattle.joining.specs.declared.answer.Joined.{Joined}
use Rattle.joining.specs.Joined.{joined}
use Rattle.joining.specs.Conditions.{output_lengths}
use Rattle.joining.specs.Answer.{joined_of, written}

unfoldable pub rest_answer : SegmentColumns → SegmentColumns → Result Joined Refusal
rest_answer c out = cond (short_output (length (joined (segments c))) (output_lengths out)) (Err ShortOutput) (joined_of (segments c))

unfoldable pub rest_output : SegmentColumns → SegmentColumns → SegmentColumns
rest_output c out = cond (short_output (length (joined (segments c))) (output_lengths out)) out (written (joined (segments c)) out)
