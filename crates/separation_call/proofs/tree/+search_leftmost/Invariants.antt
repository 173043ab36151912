-- The measure is the number of leaves below the node. Assumes nothing.
use Rattle.std.proofs.Common.{◌-◌}
use Rattle.separation_call.proofs.tree.+search_leftmost.Given as goal

abbrev pub decreases-search_leftmost : goal.decreases-search_leftmost
decreases-search_leftmost l = l.end - l.start
