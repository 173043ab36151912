-- `exemptions::first_node` meets its contract: as for words, with the step as a quotient. Assumes nothing.
use native.Mathlib.Omega.{arith}
use Rattle.exemptions.proofs.ExemptLaws.{halving_start, nodes_halved, halving_end}
use Rattle.exemptions.proofs.first_node.Goals as goal

pub loop-n-init : goal.loop-n-init
loop-n-init c = halving_start _ _ _ _ c.requires.0

pub overflow_mul-at : goal.overflow_mul-at
overflow_mul-at c = let next = nodes_halved c.args.words.now _ _ _ _ _ c.loop-n.invariant c.loop-n-test.true c.ranges.id.fits in omega (arith, next.to)

pub overflow_add-at : goal.overflow_add-at
overflow_add-at c = let next = nodes_halved c.args.words.now _ _ _ _ _ c.loop-n.invariant c.loop-n-test.true c.ranges.id.fits in omega (arith, next.to)

pub loop-n-preserved : goal.loop-n-preserved
loop-n-preserved c = nodes_halved c.args.words.now _ _ _ _ _ c.loop-n.invariant c.loop-n-test.true c.ranges.id.fits

pub returns : goal.returns
returns c = λ o. halving_end _ _ _ _ _ _ c.loop-n.invariant c.loop-n-test.false o
