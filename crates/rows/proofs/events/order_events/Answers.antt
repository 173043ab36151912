-- `rows::events::order_events` meets its contract: all numbers are written at the front and sorted by their keys. Assumes nothing.
use Prim.Native.Nat.{◌*◌, ◌≤◌}
use native.Mathlib.Omega.{arith}
use lib.ListN.{length}
use Rattle.sorting.proofs.Entries.{front_filled}
use Rattle.rows.proofs.EventTables.{events-refused, events_done}
use Rattle.rows.proofs.events.order_events.Goals as goal

pub returns-then-s-n : goal.returns-then-s-n
returns-then-s-n c = events-refused _ _ (omega (arith, c.if-s-n.true))

pub returns : goal.returns
returns c =
    let s = c.args.s.now in
    let n = c.args.n in
    let room : 4 * n ≤ length s = omega (arith, c.if-s-n.false) in
    events_done s n _ _ room (front_filled s _ _ (omega arith) c.fill_places.ensures) c.sort_indices.ensures
