-- `exemptions::gather` meets its contract: after i iterations the first i words are packed exemptions, and the sort puts them in order. Assumes nothing.
use native.Mathlib.Omega.{arith}
use Rattle.exemptions.proofs.ExemptLaws.{packing_start, packing_next, gathered}
use Rattle.exemptions.proofs.gather.Goals as goal

pub returns-then-node-k : goal.returns-then-node-k
returns-then-node-k c = λ a h. absurd (c.if-node-k.true a.node)

pub returns-then-words-k : goal.returns-then-words-k
returns-then-words-k c = λ a h. absurd (omega (arith, c.if-words-k.true))

pub loop-i-init : goal.loop-i-init
loop-i-init c = packing_start _ _ (record { node = c.if-node-k.false }) c.if-words-k.false

pub loop-i-preserved : goal.loop-i-preserved
loop-i-preserved c = packing_next _ _ _ _ c.loop-i.invariant c.loop-i-test.true (c.type_inv.node c.loop-i.i).fits _ c.pack.ensures

pub returns : goal.returns
returns c = λ a h. gathered _ a _ _ _ _ c.loop-i.invariant c.loop-i-test.false c.sort_indices.ensures
