-- `lines::columns::Columns::copy_from` meets its contract. Assumes nothing.
use Rattle.std.proofs.Common.{rules}
use Rattle.lines.proofs.Copying.{copied_next, columns_copied}
use Rattle.lines.proofs.columns.Columns.copy_from.Goals as goal

pub loop-i-preserved : goal.loop-i-preserved
loop-i-preserved g c =
    let now = c.loop-i.invariant in
    let segment = g.R.SegmentRecord.segment in
    record {
      nets = copied_next (λ r. (segment r).net) _ _ _ c.record-item.result _ now.nets (search rules) (search rules) c.record-item.is (search rules);
      orientations = copied_next (λ r. (segment r).orientation) _ _ _ c.record-item.result _ now.orientations (search rules) (search rules) c.record-item.is (search rules);
      fixeds = copied_next (λ r. (segment r).fixed) _ _ _ c.record-item.result _ now.fixeds (search rules) (search rules) c.record-item.is (search rules);
      starts = copied_next (λ r. (segment r).start) _ _ _ c.record-item.result _ now.starts (search rules) (search rules) c.record-item.is (search rules);
      ends = copied_next (λ r. (segment r).end) _ _ _ c.record-item.result _ now.ends (search rules) (search rules) c.record-item.is (search rules);
    }

pub returns : goal.returns
returns g c =
    let now = c.loop-i.invariant in
    columns_copied g.R.SegmentRecord.segment c.args.records.now _ _ _ _ _ _ _ (search rules) c.loop-i.auto.i-end c.loop-i-test.false now.nets now.orientations now.fixeds now.starts now.ends
