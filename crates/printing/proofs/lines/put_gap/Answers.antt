-- `printing::lines::put_gap` meets its contract: case by case. Assumes nothing.
use mathlib.Core.Path.{sym, ap}
use native.Mathlib.Omega.{arith}
use Rattle.printing.specs.Fields.{gap_text, none_text}
use Rattle.text.proofs.TextPuts.{put-within, put_same}
use Rattle.printing.proofs.lines.put_gap.Goals as goal

pub returns-in-None : goal.returns-in-None
unfolding gap_text none_text
returns-in-None c = put_same (sym (ap gap_text c.in-None.is)) (put-within (omega arith) c.put_word.ensures)

pub returns-in-Some : goal.returns-in-Some
unfolding gap_text
returns-in-Some c = put_same (sym (ap gap_text c.in-Some.is)) c.put_float.ensures
