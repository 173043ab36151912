use Prim.Native.Nat.{◌+◌, ◌≤◌}
use native.Mathlib.Omega.{arith}
use lib.ListN.{length, length-set}
use Rattle.clearance_call.proofs.StoredBoxes.{box-put}
use borrow.Author.Rules.{rules}
use Rattle.clearance_call.proofs.stored.put_box.Goals as goal

pub bounds-words-p-2 : goal.bounds-words-p-2
bounds-words-p-2 c = let h : c.args.p + 4 ≤ length c.args.words.now = c.requires in simp length-set (omega arith)

pub bounds-words-p-3 : goal.bounds-words-p-3
bounds-words-p-3 c = let h : c.args.p + 4 ≤ length c.args.words.now = c.requires in simp length-set (omega arith)

pub bounds-words-p-4 : goal.bounds-words-p-4
bounds-words-p-4 c = let h : c.args.p + 4 ≤ length c.args.words.now = c.requires in simp length-set (omega arith)

pub returns : goal.returns
returns c = box-put _ _ _ _ _ _ _ _ _ _ c.requires (search rules) (search rules) (search rules) (search rules) c.bits_of.ensures c.bits_of-2.ensures c.bits_of-3.ensures c.bits_of-4.ensures
