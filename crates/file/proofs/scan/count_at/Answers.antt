-- `file::scan::count_at` meets its contract: the faults of a list in byte order. Assumes nothing.
use native.Mathlib.Nat.{le_trans}
use native.Mathlib.Omega.{arith}
use Rattle.file.proofs.FixedLists.{count-short, count-many, count_missing, count-there, product}
use Rattle.file.proofs.scan.count_at.Goals as goal

pub returns-then-left-lt4-clause-counted_entries : goal.returns-then-left-lt4-clause-counted_entries
returns-then-left-lt4-clause-counted_entries c = count-short _ _ _ _ c.requires.0 c.if-left-lt4.true

pub returns-then-limit-n-clause-counted_entries : goal.returns-then-limit-n-clause-counted_entries
returns-then-limit-n-clause-counted_entries c = count-many _ _ _ _ c.requires.0 _ c.if-left-lt4.false c.read_at-n.ensures c.if-limit-n.true

pub overflow_mul-width : goal.overflow_mul-width
overflow_mul-width c = omega (arith, product _ _ c.requires.2 (le_trans c.if-limit-n.false c.requires.1))

pub returns-then-left-width-clause-counted_entries : goal.returns-then-left-width-clause-counted_entries
returns-then-left-width-clause-counted_entries c = count_missing _ _ _ _ c.requires.0 _ c.if-left-lt4.false c.read_at-n.ensures c.if-limit-n.false c.if-left-width.true

pub returns-clause-counted_entries : goal.returns-clause-counted_entries
returns-clause-counted_entries c = count-there _ _ _ _ c.requires.0 _ c.if-left-lt4.false c.read_at-n.ensures c.if-limit-n.false c.if-left-width.false
