-- `printing::lines::gap_and_visits` meets its contract: the fields in sequence. Assumes nothing.
use Rattle.printing.specs.Fields.{fields}
use Rattle.text.proofs.TextPuts.{put_both}
use Rattle.printing.proofs.lines.gap_and_visits.Goals as goal

pub returns : goal.returns
unfolding fields
returns c = put_both c.gap_field.ensures (put_both c.count_field.ensures c.put_byte.ensures)
