-- `text::put::TextBuffer::put_float` meets its contract: the digits are those of its bits. Assumes nothing.
use mathlib.Core.Path.{ap}
use Rattle.text.specs.Text.{float_text, hexadecimal}
use Rattle.text.proofs.TextPuts.{put_same}
use Rattle.text.proofs.put.TextBuffer.put_float.Goals as goal

pub returns : goal.returns
unfolding float_text
returns c = put_same (ap (hexadecimal 16) c.bits_of.ensures) c.put_hexadecimal.ensures
