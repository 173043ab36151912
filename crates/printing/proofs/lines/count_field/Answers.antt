-- `printing::lines::count_field` meets its contract: a space, and the field after it. Assumes nothing.
use Rattle.text.proofs.TextPuts.{put_both}
use Rattle.printing.proofs.lines.count_field.Goals as goal

pub returns : goal.returns
returns c = put_both c.put_byte.ensures c.put_decimal.ensures
