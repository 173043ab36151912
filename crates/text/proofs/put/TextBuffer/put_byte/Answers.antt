-- `text::put::TextBuffer::put_byte` meets its contract: the byte is stored, or left out past the buffer's end. Assumes nothing.
use native.Mathlib.Omega.{arith}
use mathlib.Core.Path.{sym}
use lib.Seq.{set_out}
use Rattle.text.specs.Inner.TextPut.{index_after}
use Rattle.text.proofs.TextPuts.{put_one}
use Rattle.text.proofs.put.TextBuffer.put_byte.Goals as goal
use Rattle.text.proofs.put.TextBuffer.put_byte.Goals.{then-at-self, else-at-self}

pub returns : goal.returns
unfolding index_after
returns c =
    put_one _
    (elim c.if-at-self.branch [ then-at-self w ↦ rw w.self-is | else-at-self w ↦ rw w.self-is (sym (set_out _ _ _ w.if-at-self.false)) ])
    (omega arith)
    (elim c.if-at-self.branch [ then-at-self w ↦ rw w.self-is | else-at-self w ↦ rw w.self-is ])
