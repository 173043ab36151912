-- `join_call::table::Table::len` meets its contract: there are so many pieces. Assumes nothing.
use Rattle.join_call.proofs.Tables.{entries-length}
use Rattle.join_call.proofs.table.Table.len.Goals as goal

pub returns : goal.returns
returns c =
    let t = c.self.inside in
    let e = entries-length t.count t.words.now 0 t.count in
    cc
