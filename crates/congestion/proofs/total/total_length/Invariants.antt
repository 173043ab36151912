-- `congestion::total::total_length` meets its contract: length by length, in the list's order. Assumes nothing.
use lib.ListN.{length}
use Rattle.drawing.specs.Entries.{lent_segments}
use Rattle.drawing.specs.Inner.Lengths.{SegmentsAgree}
use Rattle.congestion.proofs.SummedLengths.{Summed}
use Rattle.congestion.proofs.total.total_length.Given as goal

-- what columns of one length sum to
abbrev pub invariant-loop-one : goal.invariant-loop-one
invariant-loop-one l = SegmentsAgree (lent_segments l.segments) → Summed (lent_segments l.segments) l.total (length l.yielded)
