-- `clearance_call::tables::put_row` meets its contract: five stores in a row are one paste. Assumes nothing.
use borrow.Author.Rules.{rules}
use lib.ListN.{length-set}
use Rattle.clearance_call.proofs.TableLaws.{five_stores}
use Rattle.clearance_call.proofs.tables.put_row.Goals as goal

pub bounds-s-at-2 : goal.bounds-s-at-2
bounds-s-at-2 c = simp length-set (search rules)

pub bounds-s-at-3 : goal.bounds-s-at-3
bounds-s-at-3 c = simp length-set (search rules)

pub bounds-s-at-4 : goal.bounds-s-at-4
bounds-s-at-4 c = simp length-set (search rules)

pub bounds-s-at-5 : goal.bounds-s-at-5
bounds-s-at-5 c = simp length-set (search rules)

pub returns : goal.returns
returns c = five_stores _ _ _ _ _ _ _ c.requires
