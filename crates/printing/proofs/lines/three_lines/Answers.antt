-- `printing::lines::three_lines` meets its contract: the lines in sequence. Assumes nothing.
use Rattle.text.proofs.TextPuts.{put_both}
use Rattle.printing.proofs.lines.three_lines.Goals as goal

pub returns : goal.returns
returns c = put_both c.clearance_line.ensures (put_both c.separation_line.ensures c.congestion_line.ensures)
