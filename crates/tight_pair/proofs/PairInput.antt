-- What holds of the columns of a call of the tight pair once the checks have passed. Assumes nothing.
use Rattle.std.specs.Prelude.{Ok}
use mathlib.Core.Path.{◌≡◌, ◌∙◌}
use mathlib.Core.Bool.{Bool, false}
use mathlib.Core.List.{List, [], ◌∷◌, ◌++◌}
use Prim.Native.Nat.{◌≤◌}
use lib.ListN.{length}
use Rattle.laws.specs.Lists.{All, some_of}
use Rattle.laws.proofs.ListLaws.{all_mem, mem_all, none-all}
use Rattle.drawing.specs.declared.refusal.Refusal.{Refusal}
use Rattle.drawing.specs.Entries.{Node, SegmentColumns, NodeColumns, ExemptionColumns, segments, nodes}
use Rattle.drawing.specs.Inner.Lengths.{SegmentsAgree, NodesAgree, ExemptionsAgree}
use Rattle.drawing.specs.Refusals.{first_of}
use Rattle.drawing.specs.Conditions.{unfit_node}
use Rattle.drawing.specs.Checks.{list_conditions, entry_conditions}
use Rattle.drawing.proofs.FirstRefusal.{ListsPass, lists_pass, passed_head, first_no}
use Rattle.drawing.specs.Held.{NodeHeld, SegmentsHeld, NodesHeld, FitSegment}
use Rattle.drawing.proofs.Fit.{FitNode, fit-segments}
use Rattle.tight_pair.specs.Conditions.{tight_pair_conditions}
use Rattle.exemptions.proofs.ExemptLaws.{exemptions-agree}

-- where the conditions of two lists all pass, those of each list do
passed_both : (l m : List (Bool × Refusal)) → first_of (l ++ m) ≡ Ok tt → (first_of l ≡ Ok tt) × (first_of m ≡ Ok tt)
unfolding first_of
passed_both [] m e = (λ i. (Ok tt), e)
passed_both (c ∷ l) m e =
    let h = passed_head c.0 c.1 (l ++ m) e in
    let r = passed_both l m h.1 in
    (first_no c.0 c.1 l h.0 ∙ r.0, r.1)

-- entries of which none is unfit
fit-nodes : (l : List Node) → All NodeHeld l → some_of unfit_node l ≡ false → All FitNode l
fit-nodes l h e = let a = none-all unfit_node l e in mem_all FitNode l (λ x m. record { held = all_mem NodeHeld l h x m; passes = all_mem _ l a x m })

module _ (s : SegmentColumns) (n : NodeColumns) (e : ExemptionColumns) (p : first_of (tight_pair_conditions s n e) ≡ Ok tt) where
  parts : (first_of (list_conditions s n e) ≡ Ok tt) × (first_of (entry_conditions s n) ≡ Ok tt)
  unfolding tight_pair_conditions
  parts = passed_both (list_conditions s n e) (entry_conditions s n) p

  lists : ListsPass s n e
  lists = lists_pass s n e parts.0

  -- the condition under which `gather` writes its words
  pub pair-exemptions : ExemptionsAgree e × (length e.net ≤ 4096)
  unfolding list_conditions
  pair-exemptions = (exemptions-agree e (passed_head _ _ _ (passed_head _ _ _ (passed_head _ _ _ parts.0).1).1).0, lists.few-exemptions)

  -- what `look_at_segments` requires
  pub pair_columns : SegmentsAgree s × NodesAgree n
  pair_columns = (lists.segments, lists.nodes)

  pub pair-segments : SegmentsHeld s → All FitSegment (segments s)
  unfolding entry_conditions
  pair-segments h = fit-segments (segments s) h (passed_head _ _ _ parts.1).0

  pub pair-nodes : NodesHeld n → All FitNode (nodes n)
  unfolding entry_conditions
  pair-nodes h = fit-nodes (nodes n) h (passed_head _ _ _ (passed_head _ _ _ parts.1).1).0
