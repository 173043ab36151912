-- `lines::columns::Columns::copy_from` meets its contract. Assumes nothing.
use Rattle.lines.proofs.Copying.{Copied}
use Rattle.lines.proofs.columns.Columns.copy_from.Given as goal

abbrev pub invariant-loop-i : goal.invariant-loop-i
invariant-loop-i g l =
    let segment = g.R.SegmentRecord.segment in
    record {
      nets : Copied (λ r. (segment r).net) l.record-items l.self-inside.net l.i;
      orientations : Copied (λ r. (segment r).orientation) l.record-items l.self-inside.orientation l.i;
      fixeds : Copied (λ r. (segment r).fixed) l.record-items l.self-inside.fixed l.i;
      starts : Copied (λ r. (segment r).start) l.record-items l.self-inside.start l.i;
      ends : Copied (λ r. (segment r).end) l.record-items l.self-inside.end l.i;
    }
