use native.Mathlib.Omega.{arith}
use Rattle.clearance_call.proofs.Prepared.{buildable, leaves-placed, rest-long, lists, grown}
use borrow.Author.Rules.{rules}
use Rattle.clearance_call.proofs.prepare.prepare_nodes.Goals as goal

pub build_clearance_bvh-requires : goal.build_clearance_bvh-requires
build_clearance_bvh-requires c = buildable _ c.requires.0 _ _ _ c.requires.3 c.places_in_front.auto.s c.places_in_front.ensures c.fill_node_tables.ensures

pub put_leaves-requires : goal.put_leaves-requires
put_leaves-requires c = (leaves-placed _ c.requires.0 _ _ _ c.requires.3 c.places_in_front.auto.s c.places_in_front.ensures c.fill_node_tables.ensures _ c.build_clearance_bvh.auto.s c.build_clearance_bvh.ensures, search rules, omega (arith, c.requires.3, c.places_in_front.auto.s, c.fill_node_tables.auto.s, c.build_clearance_bvh.auto.s))

pub put_splits-requires : goal.put_splits-requires
put_splits-requires c = (c.requires.1, rest-long _ c.requires.0 _ _ _ c.requires.3 c.places_in_front.auto.s c.places_in_front.ensures c.fill_node_tables.ensures _ c.build_clearance_bvh.auto.s c.build_clearance_bvh.ensures _ c.put_leaves.ensures)

pub group_leaves-requires : goal.group_leaves-requires
group_leaves-requires c =
    lists _ c.requires.0 _ _ _ c.requires.3 c.places_in_front.auto.s c.places_in_front.ensures c.fill_node_tables.ensures _ c.build_clearance_bvh.auto.s c.build_clearance_bvh.ensures _ c.put_leaves.ensures _ _ c.put_splits.ensures c.requires.2

pub returns : goal.returns
returns c =
    let grouped = c.group_leaves.ensures in
    record { tree_stored = grown _ c.requires.0 _ _ _ c.requires.3 c.places_in_front.auto.s c.places_in_front.ensures c.fill_node_tables.ensures _ c.build_clearance_bvh.auto.s c.build_clearance_bvh.ensures _ c.put_leaves.ensures _ _ c.put_splits.ensures _ grouped.tree; grouped = grouped.leaves }
