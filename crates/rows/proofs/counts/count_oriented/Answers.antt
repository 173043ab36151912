-- `rows::counts::count_oriented` meets its contract: the bytes that pass the filter are counted. Assumes nothing.
use Rattle.std.proofs.Common.{rules}
use Rattle.rows.proofs.ToSweep.{oriented-count}
use Rattle.rows.proofs.counts.count_oriented.Goals as goal

pub returns : goal.returns
returns c = search (rules, oriented-count c.args.wanted)
