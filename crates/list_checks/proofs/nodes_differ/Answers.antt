-- `list_checks::nodes_differ` meets its contract: the first length that differs from that of `id` decides. Assumes nothing.
use borrow.Author.Tests.{eq-eqb, ne_eqb}
use Rattle.laws.specs.Lists.{some_of}
use Rattle.laws.proofs.Tests.{or_false}
use Rattle.drawing.specs.Conditions.{differ}
use Rattle.drawing.specs.Checks.{nodes_differ}
use Rattle.list_checks.proofs.nodes_differ.Goals as goal

pub returns-then-n-nodes : goal.returns-then-n-nodes
unfolding nodes_differ differ some_of
returns-then-n-nodes c = rw (ne_eqb _ _ c.if-n-nodes.true)

pub returns-then-n-nodes-2 : goal.returns-then-n-nodes-2
unfolding nodes_differ differ some_of
returns-then-n-nodes-2 c = rw (eq-eqb _ _ c.if-n-nodes.false, ne_eqb _ _ c.if-n-nodes-2.true)

pub returns-then-n-nodes-3 : goal.returns-then-n-nodes-3
unfolding nodes_differ differ some_of
returns-then-n-nodes-3 c = rw (eq-eqb _ _ c.if-n-nodes.false, eq-eqb _ _ c.if-n-nodes-2.false, ne_eqb _ _ c.if-n-nodes-3.true)

pub returns : goal.returns
unfolding nodes_differ differ some_of
returns c = rw (eq-eqb _ _ c.if-n-nodes.false, eq-eqb _ _ c.if-n-nodes-2.false, eq-eqb _ _ c.if-n-nodes-3.false) (or_false _)
