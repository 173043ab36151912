-- `join_call::table::Table::piece` meets its contract: the place has a whole row. Assumes nothing.
use Rattle.std.proofs.Common.{◌≡◌, ◌<◌, length, arith}
use Rattle.join_call.proofs.Tables.{entries-length, entries-at}
use Rattle.join_call.proofs.table.Table.piece.Goals as goal

pub piece_at-requires : goal.piece_at-requires
piece_at-requires c =
    let t = c.self.inside in
    let n = entries-length t.count t.words.now 0 t.count in
    let e : length c.args.self.now ≡ t.count = cc in
    (c.self.invariant, omega (arith, e, c.requires))

pub returns : goal.returns
returns c =
    let t = c.self.inside in
    let n = entries-length t.count t.words.now 0 t.count in
    let e : length c.args.self.now ≡ t.count = cc in
    let below : c.args.k < t.count = omega (arith, e, c.requires) in
    let p = entries-at t.count t.words.now 0 t.count c.args.k c.piece_at.result c.args.k below (omega arith) in
    cc
