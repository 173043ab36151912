-- `text::put::TextBuffer::put_leading` meets its contract. The measure is the number. Assumes nothing.
use native.Mathlib.Omega.{arith}
use Rattle.text.proofs.DigitTexts.{leading-none, leading_more}
use Rattle.text.proofs.put.TextBuffer.+put_leading.Goals as goal

pub returns-then-number-gt0 : goal.returns-then-number-gt0
returns-then-number-gt0 t c = leading_more _ _ c.if-number-gt0.true c.put_leading.ensures c.glyph.ensures c.put_byte.ensures

pub returns-else-number-gt0 : goal.returns-else-number-gt0
returns-else-number-gt0 t c = leading-none _ _ (omega arith)
