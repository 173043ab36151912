use Rattle.text.proofs.TextPuts.{Copied}
use Rattle.text.proofs.put.TextBuffer.put_word.Given as goal

abbrev pub invariant-loop-byte : goal.invariant-loop-byte
invariant-loop-byte l = Copied l.initial.self l.word l.self l.byte-index
