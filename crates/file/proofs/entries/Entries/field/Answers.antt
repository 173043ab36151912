-- `file::entries::Entries::field` meets its contract. Assumes nothing.
use mathlib.Core.Path.{sym, ap, ◌∙◌}
use mathlib.Core.List.{List}
use Prim.Native.Nat.{ℕ}
use lib.ListN.{take}
use Rattle.file.proofs.ColumnsFilled.{field_at}
use Rattle.file.proofs.entries.Entries.field.Goals as goal

pub returns : goal.returns
returns g c =
    let s = c.args.self.now in
    c.read_at.ensures ∙ ap (λ (l : List ℕ). g.T.Field.value (take g.T.Field.width l)) (sym (field_at s.width s.count s.bytes.now s.at c.args.index c.args.offset c.requires.0))
