-- `printing::lines::separation_line` meets its contract: the name, and the fields of each case after it. Assumes nothing.
use mathlib.Core.Path.{sym, ap}
use native.Mathlib.Omega.{arith}
use Rattle.printing.specs.Fields.{fields}
use Rattle.printing.specs.Sheet.{separation_label, refusal, separation_line}
use Rattle.text.proofs.TextPuts.{put_both, put_same, put-within}
use Rattle.printing.proofs.lines.separation_line.Goals as goal

pub returns-in-Ok : goal.returns-in-Ok
unfolding separation_line separation_label fields
returns-in-Ok c = put_same (sym (ap separation_line c.in-Ok.is)) (put_both c.put_word.ensures (put_both c.gap_field.ensures c.gap_and_visits.ensures))

pub returns-in-Err : goal.returns-in-Err
unfolding separation_line separation_label refusal
returns-in-Err c = put_same (sym (ap separation_line c.in-Err.is)) (put-within (omega arith) (put_both c.put_word.ensures c.refused_fields.ensures))
