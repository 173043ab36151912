-- `clearance_call::marks::is_marked` meets its contract. Assumes nothing.
use mathlib.Core.Path.{sym}
use native.Mathlib.Omega.{arith}
use Rattle.bitset.proofs.Sets.{member_beyond}
use Rattle.clearance_call.proofs.marks.is_marked.Goals as goal

pub returns-then-marks-eq0 : goal.returns-then-marks-eq0
returns-then-marks-eq0 c = sym (member_beyond _ _ (omega (arith, c.if-marks-eq0.true)))
