-- `printing::lines::refused_fields` meets its contract: the fields in sequence. Assumes nothing.
use mathlib.Core.Path.{ap}
use mathlib.Core.List.{◌∷◌}
use Rattle.text.specs.Text.{decimal}
use Rattle.printing.specs.Fields.{fields}
use Rattle.printing.specs.Sheet.{refused_label}
use Rattle.text.proofs.TextPuts.{put_both, put_same}
use Rattle.printing.proofs.lines.refused_fields.Goals as goal

pub returns : goal.returns
unfolding fields refused_label
returns c =
    let count = put_same (ap (λ n. 32 ∷ decimal n) c.from.ensures) c.count_field.ensures in
    put_both c.put_word.ensures (put_both count c.put_byte.ensures)
