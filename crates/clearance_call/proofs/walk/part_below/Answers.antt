use mathlib.Core.Path.{refl, sym, ◌∙◌}
use mathlib.Core.Bool.{false}
use borrow.Author.Rules.{rules}
use Rattle.laws.proofs.Tests.{clash}
use Rattle.clearance_call.proofs.LeafRuns.{tree-below}
use Rattle.clearance_call.proofs.walk.part_below.Goals as goal

pub returns-then-n-lt-EDGE_TEST_LEAVES : goal.returns-then-n-lt-EDGE_TEST_LEAVES
returns-then-n-lt-EDGE_TEST_LEAVES c e = clash false e refl

pub returns-then-not-lower-threshold : goal.returns-then-not-lower-threshold
returns-then-not-lower-threshold c e = clash false e refl

pub returns : goal.returns
returns c e =
    tree-below _ _ _ _ _ _ _ (search rules) c.requires.near c.requires.fit_and_nested.0 c.requires.fit_and_nested.1 c.bounds_of.ensures c.if-not-lower-threshold.false (sym c.edges_below.ensures ∙ e)
