-- `bitset::last_below` meets its contract. The loop's invariant: `bits` is word `at` of the words with the rest, and those above it have no members. The measure is `at`. Assumes nothing.
use Rattle.bitset.proofs.Looks.{Looking}
use Rattle.bitset.proofs.last_below.Given as goal

abbrev pub invariant-loop-bits : goal.invariant-loop-bits
invariant-loop-bits l = Looking l.words l.to l.rest l.at l.bits

abbrev pub decreases-loop-bits : goal.decreases-loop-bits
decreases-loop-bits l = l.at
