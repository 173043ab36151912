-- `clearance_call::stored::put_splits` meets its contract. The measure is the number of leaves. Assumes nothing.
use native.Mathlib.Omega.{arith}
use Rattle.clearance_call.proofs.StoredBoxes.{splits_one, splits_join}
use Rattle.clearance_call.proofs.stored.+put_splits.Goals as goal

pub overflow_mul-i : goal.overflow_mul-i
overflow_mul-i t c = let p = c.requires in omega (arith, p.0, p.1)

pub box_from-requires : goal.box_from-requires
box_from-requires t c = let p = c.requires in omega (arith, p.0, p.1)

pub returns-then-n-lt2 : goal.returns-then-n-lt2
returns-then-n-lt2 t c = let p = c.requires in splits_one _ _ _ _ p.0 c.if-n-lt2.true c.box_from.ensures

pub put_splits-left-requires : goal.put_splits-left-requires
put_splits-left-requires t c = let p = c.requires in let g = c.if-n-lt2.false in (omega (arith, g), (omega (arith, g), omega (arith, p.1)))

pub overflow_add-i : goal.overflow_add-i
overflow_add-i t c = let p = c.requires in omega (arith, p.0, p.1)

pub put_splits-right-requires : goal.put_splits-right-requires
put_splits-right-requires t c = let p = c.requires in let g = c.if-n-lt2.false in (omega (arith, g), (omega (arith, g), omega (arith, p.1, c.put_splits-left.auto.words)))

pub overflow_add-i-2 : goal.overflow_add-i-2
overflow_add-i-2 t c = let p = c.requires in omega (arith, p.0, p.1)

pub overflow_mul-i-2 : goal.overflow_mul-i-2
overflow_mul-i-2 t c = let p = c.requires in omega (arith, p.0, p.1, c.if-n-lt2.false)

pub overflow_add-i-3 : goal.overflow_add-i-3
overflow_add-i-3 t c = let p = c.requires in omega (arith, p.0, p.1, c.if-n-lt2.false)

pub put_box-requires : goal.put_box-requires
put_box-requires t c = let p = c.requires in omega (arith, p.0, p.1, c.if-n-lt2.false, c.put_splits-left.auto.words, c.put_splits-right.auto.words)

pub returns : goal.returns
returns t c = splits_join _ _ _ _ _ _ _ _ _ c.if-n-lt2.false c.put_splits-left.ensures c.put_splits-right.ensures c.union-bounds.ensures c.put_box.ensures
