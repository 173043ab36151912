-- `file::bytes::U8Field::read_at` meets its contract. Assumes nothing.
use native.Mathlib.Omega.{arith}
use Rattle.file.proofs.ColumnsFilled.{byte_is}
use Rattle.file.proofs.bytes.U8Field.read_at.Goals as goal

pub returns : goal.returns
returns c = byte_is c.args.at c.args.bytes.now (omega (arith, c.requires))
