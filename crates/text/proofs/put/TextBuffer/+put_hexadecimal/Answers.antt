-- `text::put::TextBuffer::put_hexadecimal` meets its contract. The measure is the number of digits. Assumes nothing.
use native.Mathlib.Omega.{arith}
use Rattle.text.proofs.DigitTexts.{hexadecimal-none, hexadecimal_more}
use Rattle.text.proofs.put.TextBuffer.+put_hexadecimal.Goals as goal

pub returns-then-digits-gt0 : goal.returns-then-digits-gt0
returns-then-digits-gt0 t c = hexadecimal_more _ _ _ c.if-digits-gt0.true c.put_hexadecimal.ensures c.glyph.ensures c.put_byte.ensures

pub returns-else-digits-gt0 : goal.returns-else-digits-gt0
returns-else-digits-gt0 t c = hexadecimal-none _ _ _ (omega arith)
