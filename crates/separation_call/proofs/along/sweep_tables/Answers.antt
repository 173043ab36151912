-- `separation_call::along::sweep_tables` meets its contract: the words after the tables are cleared, then the events run. Assumes nothing.
use borrow.Author.Rules.{rules}
use Rattle.separation_call.proofs.TablesMade.{tables_leaves, tables_end, tables_first, tables_swept}
use Rattle.separation_call.proofs.along.sweep_tables.Goals as goal

pub leaf_count-leaves-requires : goal.leaf_count-leaves-requires
leaf_count-leaves-requires c = let p = tables_leaves c.args.s.now _ _ c.requires in record { at_least_one = p.0; at_most_4096 = p.1 }

pub overflow_mul-end-2 : goal.overflow_mul-end-2
overflow_mul-end-2 c = let k = tables_end _ _ _ _ c.leaf_count-leaves.ensures c.requires in search (rules, k.1)

pub overflow_add-end : goal.overflow_add-end
overflow_add-end c = let k = tables_end _ _ _ _ c.leaf_count-leaves.ensures c.requires in search (rules, k.1)

pub slice_bounds-clear-end : goal.slice_bounds-clear-end
slice_bounds-clear-end c = (tables_end _ _ _ _ c.leaf_count-leaves.ensures c.requires).0

pub run_events-requires : goal.run_events-requires
run_events-requires c = tables_first _ _ _ _ c.leaf_count-leaves.ensures _ c.clear.ensures c.requires

pub returns : goal.returns
returns c = tables_swept c.args.s.now _ _ _ c.leaf_count-leaves.ensures _ c.clear.ensures c.requires _ _ c.run_events.ensures
