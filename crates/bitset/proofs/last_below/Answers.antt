-- `bitset::last_below` meets its contract. The loop's invariant: `bits` is word `at` of the words with the rest, and those above it have no members. The measure is `at`. Assumes nothing.
use Prim.Native.Nat.{◌-◌}
use native.Mathlib.Omega.{arith}
use borrow.Author.Rules.{rules}
use Rattle.bitset.proofs.Looks.{looking_begins, looking_goes_on, looking_ends, top_fits, top_short, top_shift, looking_found, looking_misses}
use Rattle.bitset.proofs.last_below.Goals as goal

pub loop-bits-init : goal.loop-bits-init
loop-bits-init c = looking_begins _ _ _ _ c.word_of-at.ensures (search rules)

pub returns-then-at-first : goal.returns-then-at-first
returns-then-at-first c = looking_ends c.loop-bits.invariant c.loop-bits-test.true _ c.if-at-first.true

pub loop-bits-preserved : goal.loop-bits-preserved
loop-bits-preserved c = looking_goes_on c.loop-bits.invariant c.loop-bits-test.true _ c.if-at-first.false (c.shared_slice_known-in-loop-bits-1.given (c.loop-bits.at - 1)).fits

pub overflow_add-place : goal.overflow_add-place
overflow_add-place c = omega (arith, top_fits c.loop-bits.invariant c.top_bit-top.result c.top_bit-top.ensures.0 c.top_bit-top.ensures.1)

pub returns-then-place-from : goal.returns-then-place-from
returns-then-place-from c = looking_misses c.loop-bits.invariant c.top_bit-top.result c.top_bit-top.ensures.0 c.top_bit-top.ensures.1 _ c.if-place-from.true

pub overflow_shl-below : goal.overflow_shl-below
overflow_shl-below c = top_short c.loop-bits.invariant c.top_bit-top.result c.top_bit-top.ensures.0 c.top_bit-top.ensures.1

pub overflow_sub-below : goal.overflow_sub-below
overflow_sub-below c = omega (arith, top_shift c.loop-bits.invariant c.top_bit-top.result c.top_bit-top.ensures.0 c.top_bit-top.ensures.1)

pub returns : goal.returns
returns c = looking_found c.loop-bits.invariant c.top_bit-top.result c.top_bit-top.ensures.0 c.top_bit-top.ensures.1 _ c.if-place-from.false
