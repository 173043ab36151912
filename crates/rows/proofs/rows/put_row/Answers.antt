-- `rows::rows::put_row` meets its contract: four consecutive stores are one paste. Assumes nothing.
use borrow.Author.Rules.{rules}
use mathlib.Core.Path.{ap, ◌∙◌}
use lib.ListN.{length-set}
use Rattle.floats.specs.Values.{canonical_zero}
use Rattle.floats.specs.TotalOrder.{key_of}
use Rattle.drawing.specs.declared.ends.Ends.{Ends}
use Rattle.rows.proofs.RowTables.{four_stores}
use Rattle.rows.proofs.rows.put_row.Goals as goal

pub bounds-s-at-2 : goal.bounds-s-at-2
bounds-s-at-2 c = simp length-set (search rules)

pub bounds-s-at-3 : goal.bounds-s-at-3
bounds-s-at-3 c = simp length-set (search rules)

pub bounds-s-at-4 : goal.bounds-s-at-4
bounds-s-at-4 c = simp length-set (search rules)

pub returns : goal.returns
returns c =
    let ends = c.ends_in_order-ends.ensures in
    let line = c.key_of-line.ensures ∙ ap key_of c.canonical_zero.ensures in
    let first = c.key_of-first.ensures ∙ ap key_of c.canonical_zero-2.ensures ∙ ap (λ (z : Ends). key_of (canonical_zero z.start)) ends in
    let last = c.key_of-last.ensures ∙ ap key_of c.canonical_zero-3.ensures ∙ ap (λ (z : Ends). key_of (canonical_zero z.end)) ends in
    four_stores c.args.s.now c.args.at _ _ _ _ _ c.requires line first last c.from.ensures
