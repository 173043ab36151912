-- `rows::counts::at_least_two` meets its contract. Assumes nothing.
use native.Mathlib.Omega.{arith}
use Rattle.rows.proofs.ToSweep.{less_than_two, two_or_more}
use Rattle.rows.proofs.counts.at_least_two.Goals as goal

pub returns-then-n-lt2 : goal.returns-then-n-lt2
returns-then-n-lt2 c = less_than_two c.args.n (omega arith)

pub returns-else-n-lt2 : goal.returns-else-n-lt2
returns-else-n-lt2 c = two_or_more c.args.n (omega arith)
