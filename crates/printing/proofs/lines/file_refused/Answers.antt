-- `printing::lines::file_refused` meets its contract: the name, and the fields after it. Assumes nothing.
use Rattle.printing.specs.Sheet.{refusal, file_label}
use Rattle.text.proofs.TextPuts.{put_both}
use Rattle.printing.proofs.lines.file_refused.Goals as goal

pub returns : goal.returns
unfolding refusal file_label
returns c = put_both c.put_word.ensures c.refused_fields.ensures
