-- `tight_pair::look_at_nodes` meets its contract: after j iterations the first j nodes have been compared. Assumes nothing.
use mathlib.Core.Path.{sym, ap, ◌∙◌}
use Rattle.drawing.specs.Entries.{Node}
use Rattle.clearance.specs.Figures.{exempt}
use Rattle.tight_pair.specs.Inner.Looking.{best_with}
use Rattle.boxes.specs.Boxes.{node_box, distance}
use Rattle.tight_pair.proofs.PairLaws.{not_nearer, passed_by, taken, nodes-start, nodes_next, nodes-end}
use Rattle.tight_pair.proofs.look_at_nodes.Goals as goal
use Rattle.tight_pair.proofs.look_at_nodes.Goals.{then-is_nearer+then-not-is_exempt, else-is_nearer, else-is_nearer-via-then-is_nearer+else-not-is_exempt, else-is_nearer-via-else-is_nearer}

pub loop-node-init : goal.loop-node-init
loop-node-init c = nodes-start _ _ _ _ _ _ c.requires

pub loop-node-preserved : goal.loop-node-preserved
loop-node-preserved c =
    nodes_next _ _ _ _ _ _ _ _ c.loop-node.invariant c.loop-node-test.true _
    (c.distance-distance.ensures ∙ ap (distance c.args.bounds) (c.from_node.ensures ∙ ap node_box c.at-entry.ensures)) _
    (λ ex net l. elim c.if-is_nearer.branch [
      | then-is_nearer+then-not-is_exempt w ↦ w.best-is ∙ taken _ _ _ _ (sym c.is_nearer.ensures ∙ w.if-is_nearer.true) (sym (w.is_exempt.ensures ex net l) ∙ w.if-not-is_exempt.true)
      | else-is_nearer w ↦ elim w.else-is_nearer.branch [
        | else-is_nearer-via-then-is_nearer+else-not-is_exempt v ↦ w.best-is ∙ passed_by _ _ _ _ (sym (v.is_exempt.ensures ex net l) ∙ v.if-not-is_exempt.false)
        | else-is_nearer-via-else-is_nearer v ↦ w.best-is ∙ not_nearer _ _ _ _ (sym c.is_nearer.ensures ∙ v.if-is_nearer.false)
      ]
    ]
    ∙ ap (λ (z : Node). best_with (exempt ex net z.id) c.distance-distance.result (record { segment = c.args.segment; node = c.loop-node.node }) c.loop-node.best) c.at-entry.ensures)

pub returns : goal.returns
returns c = nodes-end _ _ _ _ _ _ _ _ c.loop-node.invariant c.loop-node-test.false
