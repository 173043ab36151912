-- `join_call::write::write_pieces` meets its contract: what is written and what is left make up the whole. Assumes nothing.
use Rattle.std.proofs.Common.{◌∙◌, refl, sym, ap, length, arith}
use Rattle.join_call.proofs.Runs.{whole-none}
use Rattle.join_call.proofs.Writes.{columns-trans, write_none, write_start, write_room, write_next, write_count, write_end}
use Rattle.join_call.proofs.write.write_pieces.Goals as goal

pub returns-then-len-eq0-clause-count : goal.returns-then-len-eq0-clause-count
returns-then-len-eq0-clause-count c = sym (ap length (whole-none _ (sym c.len.ensures ∙ c.if-len-eq0.true)))

pub returns-then-len-eq0-clause-columns_after : goal.returns-then-len-eq0-clause-columns_after
returns-then-len-eq0-clause-columns_after c = write_none _ _ (sym c.len.ensures ∙ c.if-len-eq0.true)

pub loop-k-init : goal.loop-k-init
loop-k-init c = record {
  columns = record { net = refl; orientation = refl; fixed = refl; start = refl; end = refl };
  writing = write_start _ _ _ (λ z. c.if-len-eq0.false (c.len.ensures ∙ z)) c.piece-c.ensures;
}

pub close_piece-at-requires : goal.close_piece-at-requires
close_piece-at-requires c = write_room _ _ c.requires _ _ _ _ c.loop-k.invariant.writing

pub loop-k-preserved : goal.loop-k-preserved
loop-k-preserved c =
    let w = c.close_piece-at.ensures in
    record {
      columns = columns-trans _ _ _ c.loop-k.invariant.columns w.same_columns;
      writing = write_next _ _ c.requires _ _ _ _ _ _ _ _ c.loop-k.invariant.writing (omega (arith, c.loop-k-test.true, c.len-k-end.ensures)) c.piece-x.ensures w.count w.columns_after c.next-c.ensures;
    }

pub write-requires : goal.write-requires
write-requires c = write_room _ _ c.requires _ _ _ _ c.loop-k.invariant.writing

pub returns-clause-count : goal.returns-clause-count
returns-clause-count c = write_count _ _ c.requires _ _ _ _ c.loop-k.invariant.writing (omega (arith, c.loop-k-test.false, c.len-k-end.ensures))

pub returns-clause-columns_after : goal.returns-clause-columns_after
returns-clause-columns_after c =
    write_end _ _ c.requires _ _ _ _ _ c.loop-k.invariant.writing (omega (arith, c.loop-k-test.false, c.len-k-end.ensures)) c.write.ensures.columns_after
