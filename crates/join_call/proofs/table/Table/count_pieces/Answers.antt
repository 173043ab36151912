-- `join_call::table::Table::count_pieces` meets its contract: what is counted and what is left make up the whole. Assumes nothing.
use Rattle.std.proofs.Common.{◌≡◌, ◌+◌, ◌∙◌, sym, ap, length, arith}
use Rattle.joining.specs.Inner.Pieces.{begun}
use Rattle.joining.proofs.PieceLaws.{none-begun, one-begun}
use Rattle.join_call.proofs.Runs.{whole-none, count-start, count_next, count-end}
use Rattle.join_call.proofs.table.Table.count_pieces.Goals as goal
use Rattle.join_call.proofs.table.Table.count_pieces.Goals.{then-not-touches, else-not-touches}

pub returns-then-len-eq0 : goal.returns-then-len-eq0
returns-then-len-eq0 c = sym (ap length (whole-none _ (sym c.len.ensures ∙ c.if-len-eq0.true)))

pub loop-k-init : goal.loop-k-init
loop-k-init c = count-start _ _ (λ z. c.if-len-eq0.false (c.len.ensures ∙ z)) c.piece-c.ensures

pub loop-k-preserved : goal.loop-k-preserved
loop-k-preserved c =
    let counted : c.if-not-touches.count ≡ c.loop-k.count + begun c.loop-k.c c.piece-x.result = elim c.if-not-touches.branch [
      | then-not-touches w ↦ w.count-is ∙ one-begun _ _ _ (sym c.touches.ensures ∙ w.if-not-touches.true)
      | else-not-touches w ↦ w.count-is ∙ none-begun _ _ _ (sym c.touches.ensures ∙ w.if-not-touches.false)
    ] in
    count_next _ _ _ _ _ _ _ c.loop-k.invariant (omega (arith, c.loop-k-test.true, c.len-k-end.ensures)) c.piece-x.ensures counted c.next-c.ensures

pub returns : goal.returns
returns c = count-end _ _ _ _ c.loop-k.invariant (omega (arith, c.loop-k-test.false, c.len-k-end.ensures))
