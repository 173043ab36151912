-- `file::bytes::U32Field::read_at` meets its contract: four bytes are the number that they stand for. Assumes nothing.
use mathlib.Core.Path.{◌≡◌, ap, ◌∙◌}
use native.Mathlib.Omega.{arith}
use lib.ListN.{length, take, drop, length-drop}
use lib.Seq.{length-take-le}
use Rattle.file.specs.Reading.{big_endian}
use Rattle.file.proofs.BigEndian.{four}
use Rattle.file.proofs.bytes.U32Field.read_at.Goals as goal

pub returns : goal.returns
returns c =
    let l = drop c.args.at c.args.bytes.now in
    let is : c.chunk.result ≡ take 4 l = c.chunk.ensures in
    let len : length c.chunk.result ≡ 4 = ap length is ∙ length-take-le 4 l (simp length-drop (omega (arith, c.requires))) in
    c.from_be_bytes.ensures ∙ four c.chunk.result len ∙ ap (big_endian 0) is
