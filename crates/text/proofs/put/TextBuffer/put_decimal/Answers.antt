-- `text::put::TextBuffer::put_decimal` meets its contract: 0 has one digit, and any other number is written without leading zeros. Assumes nothing.
use native.Mathlib.Omega.{arith}
use Rattle.text.proofs.TextPuts.{put-within, put_same}
use Rattle.text.proofs.DigitTexts.{leading_wide, decimal-zero, decimal-leading}
use Rattle.text.proofs.put.TextBuffer.put_decimal.Goals as goal

pub returns-then-number-eq0 : goal.returns-then-number-eq0
returns-then-number-eq0 c = put_same (decimal-zero _ c.if-number-eq0.true) (put-within (omega arith) c.put_byte.ensures)

pub returns-else-number-eq0 : goal.returns-else-number-eq0
returns-else-number-eq0 c = put_same (decimal-leading c.args.number c.if-number-eq0.false) (put-within (leading_wide c.args.number c.ranges.number.fits) c.put_leading.ensures)
