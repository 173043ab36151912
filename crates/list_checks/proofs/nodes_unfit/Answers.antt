-- `list_checks::nodes_unfit` meets its contract. Assumes nothing.
use mathlib.Core.Path.{refl, ◌∙◌}
use Prim.Native.Nat.{ℕ}
use native.Mathlib.Omega.{arith}
use Rattle.std.proofs.Common.{rules, tests}
use Rattle.std.proofs.lemmas.Iterator.{YieldsList-from_range}
use Rattle.std.proofs.lemmas.Iterator.Search.{any_from_yields_List}
use Rattle.drawing.specs.Entries.{lent_nodes}
use Rattle.drawing.specs.Inner.Entries.{node_at}
use Rattle.drawing.specs.Conditions.{unfit_node}
use Rattle.drawing.proofs.Scans.{nodes_scanned}
use Rattle.list_checks.proofs.nodes_unfit.Goals as goal

pub returns : goal.returns
returns c =
    any_from_yields_List (λ (i : ℕ). unfit_node (node_at (lent_nodes c.args.nodes.now) i)) _ _ _ c.any.ensures.ran (YieldsList-from_range 0 _ _ refl (omega arith)) (λ x b q k. search (rules, tests))
    ∙ nodes_scanned unfit_node _ c.requires
