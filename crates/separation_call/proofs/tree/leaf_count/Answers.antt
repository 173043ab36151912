-- `separation_call::tree::leaf_count` meets its contract. Assumes nothing.
use Rattle.separation_call.proofs.StoredTree.{shift_few, leaf_power}
use Rattle.separation_call.proofs.tree.leaf_count.Goals as goal

pub overflow_shl-result : goal.overflow_shl-result
overflow_shl-result c = shift_few _ c.requires.at_most_4096

pub returns : goal.returns
returns c = leaf_power _ c.requires.at_most_4096
