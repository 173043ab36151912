-- `exemptions::first_at_least` meets its contract: among words that ascend those below v come first. Assumes nothing.
use native.Mathlib.Omega.{arith}
use borrow.Author.Rules.{rules}
use mathlib.Core.Logic.{inl, inr}
use lib.Dec.{ltb}
use Rattle.std.proofs.lemmas.List.Sorted.{IsPartitionPoint-from_clause}
use Rattle.exemptions.proofs.ExemptLaws.{part_lower_bound}
use Rattle.exemptions.proofs.first_at_least.Goals as goal

pub returns-in_default : goal.returns-in_default
returns-in_default c = λ h k o. elim c.in_default.ensures.lookup.0 [ inl p ↦ absurd (omega arith) | inr p ↦ absurd (omega arith) ]

pub returns : goal.returns
returns c = λ h k o.
    part_lower_bound _ _ _ _ _ c.in-Some.ensures.lookup.0.2 h k _ c.partition_point.ensures.bound
    (λ p. IsPartitionPoint-from_clause (λ y. ltb y c.args.v) _ _ c.partition_point.ensures.partitioned p (λ a r f' x. search rules))
    o
