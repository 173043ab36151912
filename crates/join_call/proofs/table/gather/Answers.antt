-- `join_call::table::gather` meets its contract: after i turns the first i segments are in the table. Assumes nothing.
use Rattle.std.proofs.Common.{ap, ◌∙◌, arith}
use Rattle.drawing.specs.Entries.{as_taken, lent_segments}
use Rattle.joining.specs.Joined.{canonical_zeros}
use Rattle.joining.specs.Inner.Pieces.{piece_of}
use Rattle.join_call.proofs.Tables.{gathered_next}
use Rattle.join_call.proofs.table.gather.Goals as goal

pub loop-i-preserved : goal.loop-i-preserved
loop-i-preserved c =
    gathered_next (lent_segments c.args.segments.now) _ _ _ _ _ c.loop-i.invariant (omega (arith, c.loop-i-test.true, c.requires.room)) (c.piece_of.ensures ∙ ap (λ s. piece_of (canonical_zeros (as_taken s))) c.at.ensures) c.put_row.ensures
