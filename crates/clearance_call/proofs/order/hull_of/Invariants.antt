use Prim.Native.Nat.{◌≤◌}
use Rattle.drawing.specs.Entries.{lent_nodes}
use Rattle.clearance_call.proofs.LeafOrders.{Hulled}
use Rattle.clearance_call.proofs.order.hull_of.Given as goal

abbrev pub invariant-loop-k : goal.invariant-loop-k
invariant-loop-k l = (1 ≤ l.k) × Hulled l.s l.n (lent_nodes l.nodes) l.bounds l.k
