-- `congestion::total::total_length` meets its contract: length by length, in the list's order. Assumes nothing.
use mathlib.Core.Path.{◌≡◌, ap, ap₂, sym, ◌∙◌}
use mathlib.Core.List.{List}
use Prim.Native.Nat.{ℕ}
use native.Mathlib.Omega.{arith}
use lib.Ieee.{Float, nan, of_bits}
use lib.ListN.{length, take, length-append}
use lib.Seq.{take-length}
use Rattle.std.specs.Iterator.Adapters.{zip_first, zip_second}
use Rattle.std.specs.Slice.Iter.{iter_rest}
use Rattle.std.proofs.lemmas.Slice.Zip.{zip_turn, zip_end}
use Rattle.floats.specs.Values.{canonical_zero}
use Rattle.drawing.specs.Entries.{ends_in_order}
use Rattle.drawing.specs.declared.ends.Ends.{Ends}
use Rattle.congestion.proofs.SummedLengths.{summed_none, summed_next, summed_all}
use Rattle.congestion.proofs.total.total_length.Goals as goal

-- what the code cuts off a column that has as many entries as the nets: nothing
cut_at_end : (l : List Float) (n : ℕ) → length l ≡ n → take n l ≡ l
cut_at_end l n e = ap (λ k. take k l) (sym e) ∙ take-length l

pub loop-one-init : goal.loop-one-init
unfolding of_bits
loop-one-init c = λ a. summed_none _ a

pub loop-one-preserved : goal.loop-one-preserved
loop-one-preserved c = λ a.
    let s = c.args.segments.now in
    let w = c.into_iter-one-iterator.ensures.into_iter_gives in
    let first : iter_rest (zip_first c.into_iter-one-iterator.result) ≡ s.start.now = ap (λ z. iter_rest (zip_first z)) w ∙ ap iter_rest c.zip-one-items.ensures.first ∙ c.iter.ensures.rest ∙ cut_at_end s.start.now _ a.start in
    let second : iter_rest (zip_second c.into_iter-one-iterator.result) ≡ s.end.now = ap (λ z. iter_rest (zip_second z)) w ∙ c.zip-one-items.ensures.second.0 ∙ cut_at_end s.end.now _ a.end in
    let turn = zip_turn s.start.now s.end.now c.loop-one.yielded _ _ c.next.new.self _ first second c.loop-one.yielded_by _ c.in-Some.is c.next.ensures.steps in
    let ends = c.ends_in_order-ends.ensures ∙ ap₂ ends_in_order (turn.2 nan) (turn.3 nan) in
    rw length-append
    (summed_next _ _ _ _ _ (c.loop-one.invariant a) (omega (arith, a.start, turn.0))
    (c.canonical_zero-in-loop-one.ensures ∙ ap (λ (z : Ends). canonical_zero z.start) ends)
    (c.canonical_zero.ensures ∙ ap (λ (z : Ends). canonical_zero z.end) ends))

pub returns-clause-value : goal.returns-clause-value
returns-clause-value c = λ a.
    let s = c.args.segments.now in
    let w = c.into_iter-one-iterator.ensures.into_iter_gives in
    let first : iter_rest (zip_first c.into_iter-one-iterator.result) ≡ s.start.now = ap (λ z. iter_rest (zip_first z)) w ∙ ap iter_rest c.zip-one-items.ensures.first ∙ c.iter.ensures.rest ∙ cut_at_end s.start.now _ a.start in
    let second : iter_rest (zip_second c.into_iter-one-iterator.result) ≡ s.end.now = ap (λ z. iter_rest (zip_second z)) w ∙ c.zip-one-items.ensures.second.0 ∙ cut_at_end s.end.now _ a.end in
    let end = zip_end s.start.now s.end.now c.loop-one.yielded _ _ c.next.new.self _ first second c.loop-one.yielded_by c.in-None.is c.next.ensures.steps in
    summed_all _ _ _ (c.loop-one.invariant a) (omega (arith, end, a.start, a.end))
