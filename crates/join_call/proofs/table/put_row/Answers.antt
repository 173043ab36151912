-- `join_call::table::put_row` meets its contract: four stores in a row are one paste. Assumes nothing.
use Rattle.join_call.proofs.Tables.{four_stores}
use Rattle.join_call.proofs.table.put_row.Goals as goal

pub returns : goal.returns
returns c = four_stores c.args.a.now c.args.at c.args.p c.requires
