-- `density_call::along::sweep_along` meets its contract: the rows in order, and their sweep. Assumes nothing.
use Rattle.std.specs.Prelude.{Ok}
use mathlib.Core.Bool.{true}
use mathlib.Core.Path.{ap, ◌∙◌}
use Rattle.density_call.proofs.AlongWires.{few_swept, at_rows, more_swept}
use Rattle.density_call.proofs.along.sweep_along.Goals as goal

pub returns-then-n-lt2 : goal.returns-then-n-lt2
returns-then-n-lt2 c = let rows = c.order_rows-n in ap Ok c.nothing_found.ensures ∙ few_swept c.args.s.now rows.new.p _ _ _ c.requires.at_columns (rows.ensures.value, rows.ensures.p_after) _ _ _ c.if-n-lt2.true

pub sweep_rows-requires : goal.sweep_rows-requires
sweep_rows-requires c = let rows = c.order_rows-n in record { at_rows = at_rows c.args.s.now rows.new.p _ _ _ c.requires.at_columns (rows.ensures.value, rows.ensures.p_after) rows.auto.p c.if-n-lt2.false true; cutoff = c.requires.cutoff }

pub returns : goal.returns
returns c = let rows = c.order_rows-n in more_swept c.args.s.now rows.new.p _ _ _ c.requires.at_columns (rows.ensures.value, rows.ensures.p_after) rows.auto.p c.if-n-lt2.false _ _ _ _ c.sweep_rows.ensures
