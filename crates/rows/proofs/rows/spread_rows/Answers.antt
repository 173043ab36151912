-- `rows::rows::spread_rows` meets its contract: a written column stays while those before it are written. Assumes nothing.
use mathlib.Core.Path.{sym, ◌∙◌}
use native.Mathlib.Omega.{arith}
use Rattle.rows.proofs.SpreadTables.{to_spread, no_columns, no_places, no_rows, not_spread, column_still, four_columns}
use Rattle.rows.proofs.rows.spread_rows.Goals as goal

pub returns-then-from-n : goal.returns-then-from-n
returns-then-from-n c = not_spread _ _ _ _ (no_columns _ _ _ _ c.if-from-n.true)

pub returns-then-s-from : goal.returns-then-s-from
returns-then-s-from c = not_spread _ _ _ _ (no_places _ _ _ _ c.if-s-from.true)

pub returns-then-not-rows_fit : goal.returns-then-not-rows_fit
returns-then-not-rows_fit c = not_spread _ _ _ _ (no_rows _ _ _ _ (sym c.rows_fit.ensures ∙ c.if-not-rows_fit.true))

pub spread_column-requires : goal.spread_column-requires
spread_column-requires c =
    let f = to_spread _ _ _ _ c.if-from-n.false c.if-s-from.false (sym c.rows_fit.ensures ∙ c.if-not-rows_fit.false) in
    (f, omega arith, omega (arith, f.room))

pub spread_column-requires-2 : goal.spread_column-requires-2
spread_column-requires-2 c =
    let f = column_still _ _ _ _ 5 _ _ (to_spread _ _ _ _ c.if-from-n.false c.if-s-from.false (sym c.rows_fit.ensures ∙ c.if-not-rows_fit.false)) (omega arith) c.spread_column.ensures in
    (f, omega arith, omega (arith, f.room))

pub spread_column-requires-3 : goal.spread_column-requires-3
spread_column-requires-3 c =
    let f = column_still _ _ _ _ 4 _ _ (column_still _ _ _ _ 5 _ _ (to_spread _ _ _ _ c.if-from-n.false c.if-s-from.false (sym c.rows_fit.ensures ∙ c.if-not-rows_fit.false)) (omega arith) c.spread_column.ensures) (omega arith) c.spread_column-2.ensures in
    (f, omega arith, omega (arith, f.room))

pub spread_column-requires-4 : goal.spread_column-requires-4
spread_column-requires-4 c =
    let f = column_still _ _ _ _ 3 _ _ (column_still _ _ _ _ 4 _ _ (column_still _ _ _ _ 5 _ _ (to_spread _ _ _ _ c.if-from-n.false c.if-s-from.false (sym c.rows_fit.ensures ∙ c.if-not-rows_fit.false)) (omega arith) c.spread_column.ensures) (omega arith) c.spread_column-2.ensures) (omega arith) c.spread_column-3.ensures in
    (f, omega arith, omega (arith, f.room))

pub returns : goal.returns
returns c =
    let f = to_spread _ _ _ _ c.if-from-n.false c.if-s-from.false (sym c.rows_fit.ensures ∙ c.if-not-rows_fit.false) in
    four_columns _ _ _ _ _ _ _ _ f c.spread_column.ensures c.spread_column-2.ensures c.spread_column-3.ensures c.spread_column-4.ensures
