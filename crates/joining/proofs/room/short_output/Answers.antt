-- `joining::room::short_output` meets its contract: some length is below what is needed. Assumes nothing.
use Rattle.std.proofs.Common.{arith, rules, tests, ◌∙◌, sym}
use Rattle.std.proofs.Math.Seq.{take-length}
use Rattle.std.proofs.lemmas.Iterator.{YieldsList-from_slice}
use Rattle.std.proofs.lemmas.Iterator.Search.{any_from_yields_List}
use lib.Dec.{ltb}
use Rattle.drawing.specs.Conditions.{short_output}
use Rattle.joining.proofs.SomeOf.{some_any}
use Rattle.joining.proofs.room.short_output.Goals as goal

-- What is looked at is all of the list. `take-length` is for a part `..n` that is all of it: without it, a program that looks at such a part would be refused for looking at one, and not for what it leaves out.
pub returns : goal.returns
unfolding short_output
returns c =
    let a = c.args in
    any_from_yields_List (λ m. ltb m a.needed) _ _ _ c.any.ensures.ran (YieldsList-from_slice a.lengths.now (grind (arith, take-length))) (λ x b q k. search (rules, tests)) ∙ sym (some_any _ a.lengths.now)
