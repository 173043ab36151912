-- `printing::lines::clearance_line` meets its contract: the name, and the fields of each case after it. Assumes nothing.
use mathlib.Core.Path.{sym, ap}
use native.Mathlib.Omega.{arith}
use Rattle.printing.specs.Fields.{fields}
use Rattle.printing.specs.Sheet.{clearance_label, refusal, clearance_line}
use Rattle.text.proofs.TextPuts.{put_both, put_same, put-within}
use Rattle.printing.proofs.lines.clearance_line.Goals as goal

pub returns-in-Ok : goal.returns-in-Ok
unfolding clearance_line clearance_label fields
returns-in-Ok c = put_same (sym (ap clearance_line c.in-Ok.is)) (put_both c.put_word.ensures (put_both c.gap_field.ensures (put_both c.count_field.ensures (put_both c.count_field-in-Ok.ensures c.put_byte.ensures))))

pub returns-in-Err : goal.returns-in-Err
unfolding clearance_line clearance_label refusal
returns-in-Err c = put_same (sym (ap clearance_line c.in-Err.is)) (put-within (omega arith) (put_both c.put_word.ensures c.refused_fields.ensures))
