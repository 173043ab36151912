-- `drawing::entry::node_unfit` meets its contract: the horizontal axis decides, or the vertical one. Assumes nothing.
use mathlib.Core.Path.{sym, ◌∙◌}
use Rattle.drawing.specs.Conditions.{unfit_node, unfit_box}
use Rattle.drawing.proofs.entry.node_unfit.Goals as goal

pub returns-then-extent_unfit : goal.returns-then-extent_unfit
unfolding unfit_node unfit_box
returns-then-extent_unfit c = rw (sym c.extent_unfit.ensures ∙ c.if-extent_unfit.true)

pub returns : goal.returns
unfolding unfit_node unfit_box
returns c = rw (sym c.extent_unfit.ensures ∙ c.if-extent_unfit.false) c.extent_unfit-2.ensures
