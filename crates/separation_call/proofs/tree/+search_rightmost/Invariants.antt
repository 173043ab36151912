-- The measure is the number of leaves below the node. Assumes nothing.
use Rattle.std.proofs.Common.{◌-◌}
use Rattle.separation_call.proofs.tree.+search_rightmost.Given as goal

abbrev pub decreases-search_rightmost : goal.decreases-search_rightmost
decreases-search_rightmost l = l.end - l.start
