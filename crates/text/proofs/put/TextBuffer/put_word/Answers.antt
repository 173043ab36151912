-- `text::put::TextBuffer::put_word` meets its contract: after i turns the word's first i bytes are put. Assumes nothing.
use native.Mathlib.Omega.{arith}
use lib.Seq.{take_all}
use Rattle.text.proofs.TextPuts.{copied_none, copied_next, copied_all, drop-none}
use Rattle.text.proofs.put.TextBuffer.put_word.Goals as goal

pub loop-byte-init : goal.loop-byte-init
loop-byte-init c = copied_none _ _

pub loop-byte-preserved : goal.loop-byte-preserved
loop-byte-preserved c = copied_next _ _ c.loop-byte.invariant c.loop-byte-test.true c.put_byte.ensures

-- `take_all` and `drop-none` are for a part of the word that is all of it: without them, a program that puts such a part would be refused for taking one, and not for what it leaves out.
pub returns : goal.returns
returns c = copied_all _ c.args.word.now _ c.loop-byte.invariant c.loop-byte-test.false (grind (arith, take_all, drop-none))
