-- The first refusal that applies, condition by condition, and what is known where no condition holds. Assumes nothing.
use Rattle.std.specs.Prelude.{Result, Ok, Err}
use mathlib.Core.Path.{◌≡◌, refl, sym, ap, ◌∙◌}
use mathlib.Core.Logic.{inl, inr}
use mathlib.Core.Bool.{Bool, true, false, not, cond}
use mathlib.Core.List.{List, [], ◌∷◌, ◌++◌}
use Prim.Native.Nat.{ℕ, ◌+◌, ◌*◌, ◌≤◌}
use native.Mathlib.Omega.{arith}
use borrow.Author.Tests.{ltb-false, eqb-true, not-false}
use lib.Dec.{eqb}
use lib.ListN.{length, replicate}
use Rattle.laws.specs.Lists.{some_of}
use Rattle.laws.proofs.Tests.{decide, clash}
use Rattle.laws.proofs.ListLaws.{none-all}
use Rattle.drawing.specs.declared.refusal.Refusal.{Refusal}
use Rattle.drawing.specs.Refusals.{first_of, scratch_after}
use Rattle.drawing.specs.Entries.{SegmentColumns, NodeColumns, ExemptionColumns, segments}
use Rattle.drawing.specs.Conditions.{differ, too_many, short_scratch, unfit_segment}
use Rattle.drawing.specs.Checks.{segments_differ, nodes_differ, segment_conditions, segment_list_conditions, list_conditions, entry_conditions}
use Rattle.drawing.specs.Inner.Lengths.{SegmentsAgree, NodesAgree, compared_entry_conditions}

pub first_yes : (b : Bool) (r : Refusal) (l : List (Bool × Refusal)) → b ≡ true → first_of ((b, r) ∷ l) ≡ Err r
unfolding first_of
first_yes b r l e = rw e

pub first_no : (b : Bool) (r : Refusal) (l : List (Bool × Refusal)) → b ≡ false → first_of ((b, r) ∷ l) ≡ first_of l
unfolding first_of
first_no b r l e = rw e

pub first-none : first_of [] ≡ Ok tt
unfolding first_of
first-none = refl

-- one check after another: the first that refuses decides
abbrev pub then : Result Unit Refusal → Result Unit Refusal → Result Unit Refusal
then (Ok tt) d = d
then (Err r) d = Err r

pub first-append : (l m : List (Bool × Refusal)) → first_of (l ++ m) ≡ then (first_of l) (first_of m)
unfolding first_of
first-append [] m = refl
first-append (c ∷ l) m = go c.0 (first-append l m)
  where
    go : (b : Bool) → first_of (l ++ m) ≡ then (first_of l) (first_of m) → cond b (Err c.1) (first_of (l ++ m)) ≡ then (cond b (Err c.1) (first_of l)) (first_of m)
    go true e = refl
    go false e = e

-- the answer c of the first conditions is the answer, or the others decide
pub first_stop : (l m : List (Bool × Refusal)) (c : Result Unit Refusal) (r : Refusal) → c ≡ first_of l → c ≡ Err r → c ≡ first_of (l ++ m)
first_stop l m c r e g = g ∙ sym (first-append l m ∙ ap (λ (d : Result Unit Refusal). then d (first_of m)) (sym e ∙ g))

pub first_go_on : (l m : List (Bool × Refusal)) (c : Result Unit Refusal) → c ≡ first_of l → c ≡ Ok tt → first_of (l ++ m) ≡ first_of m
first_go_on l m c e g = first-append l m ∙ ap (λ (d : Result Unit Refusal). then d (first_of m)) (sym e ∙ g)

-- ---- where all pass
abbrev is_passed : Result Unit Refusal → Bool
is_passed (Ok tt) = true
is_passed (Err r) = false

pub passed_head : (b : Bool) (r : Refusal) (l : List (Bool × Refusal)) → first_of ((b, r) ∷ l) ≡ Ok tt → (b ≡ false) × (first_of l ≡ Ok tt)
passed_head b r l e = elim (decide b) [
  | inl t ↦ clash true refl (ap is_passed (sym e ∙ first_yes b r l t))
  | inr f ↦ (f, sym (first_no b r l f) ∙ e)
]

pub few : (n : ℕ) → too_many n ≡ false → n ≤ 4096
unfolding too_many
few n e = ltb-false 4096 n e

-- in a list of lengths, none differs from n
as_long : (n m : ℕ) → not (eqb n m) ≡ false → m ≡ n
as_long n m e = sym (eqb-true n m (not-false (eqb n m) e))

pub segments-agree : (c : SegmentColumns) → segments_differ c ≡ false → SegmentsAgree c
unfolding segments_differ differ
segments-agree c e =
    let n = length c.net in
    let a = none-all (λ (m : ℕ). not (eqb n m)) (length c.orientation ∷ length c.fixed ∷ length c.start ∷ length c.end ∷ []) e in
    record { orientation = as_long n _ a.0; fixed = as_long n _ a.1.0; start = as_long n _ a.1.1.0; end = as_long n _ a.1.1.1.0 }

pub nodes-agree : (c : NodeColumns) → nodes_differ c ≡ false → NodesAgree c
unfolding nodes_differ differ
nodes-agree c e =
    let n = length c.id in
    let a = none-all (λ (m : ℕ). not (eqb n m)) (length c.x ∷ length c.y ∷ length c.width ∷ length c.height ∷ []) e in
    record { x = as_long n _ a.0; y = as_long n _ a.1.0; width = as_long n _ a.1.1.0; height = as_long n _ a.1.1.1.0 }

-- ---- what is known about segments that pass
pub record SegmentsPass (s : SegmentColumns) (words : ℕ) : Type 0 where
  pub agree : SegmentsAgree s
  pub few-segments : length s.net ≤ 4096
  pub room : 32 * length s.net + 64 ≤ words
  pub fit : some_of unfit_segment (segments s) ≡ false

pub segments_pass : (s : SegmentColumns) (words : ℕ) → first_of (segment_conditions s words) ≡ Ok tt → SegmentsPass s words
unfolding segment_conditions short_scratch
segments_pass s words e =
    let a = passed_head _ _ _ e in
    let b = passed_head _ _ _ a.1 in
    let c = passed_head _ _ _ b.1 in
    let d = passed_head _ _ _ c.1 in
    record { agree = segments-agree s a.0; few-segments = few _ b.0; room = omega (arith, ltb-false words (32 * (length s.net + 0) + 64) c.0); fit = d.0 }

-- and about those of a call without scratch
pub record SegmentListPasses (s : SegmentColumns) : Type 0 where
  pub agree : SegmentsAgree s
  pub few-segments : length s.net ≤ 4096
  pub fit : some_of unfit_segment (segments s) ≡ false

pub segment_list_passes : (s : SegmentColumns) → first_of (segment_list_conditions s) ≡ Ok tt → SegmentListPasses s
unfolding segment_list_conditions
segment_list_passes s e =
    let a = passed_head _ _ _ e in
    let b = passed_head _ _ _ a.1 in
    let c = passed_head _ _ _ b.1 in
    record { agree = segments-agree s a.0; few-segments = few _ b.0; fit = c.0 }

-- of three lists
pub record ListsPass (s : SegmentColumns) (n : NodeColumns) (x : ExemptionColumns) : Type 0 where
  pub segments : SegmentsAgree s
  pub nodes : NodesAgree n
  pub few-segments : length s.net ≤ 4096
  pub few-nodes : length n.id ≤ 4096
  pub few-exemptions : length x.net ≤ 4096

pub lists_pass : (s : SegmentColumns) (n : NodeColumns) (x : ExemptionColumns) → first_of (list_conditions s n x) ≡ Ok tt → ListsPass s n x
unfolding list_conditions
lists_pass s n x e =
    let a = passed_head _ _ _ e in
    let b = passed_head _ _ _ a.1 in
    let c = passed_head _ _ _ b.1 in
    let d = passed_head _ _ _ c.1 in
    let f = passed_head _ _ _ d.1 in
    let g = passed_head _ _ _ f.1 in
    record { segments = segments-agree s a.0; nodes = nodes-agree n b.0; few-segments = few _ d.0; few-nodes = few _ f.0; few-exemptions = few _ g.0 }

-- after their checks the columns need not be compared again
pub entries_compared : (s : SegmentColumns) (n : NodeColumns) (x : ExemptionColumns) → first_of (list_conditions s n x) ≡ Ok tt → first_of (compared_entry_conditions s n) ≡ first_of (entry_conditions s n)
unfolding list_conditions compared_entry_conditions
entries_compared s n x e =
    let a = passed_head _ _ _ e in
    let b = passed_head _ _ _ a.1 in
    first_no _ _ _ a.0 ∙ first_no _ _ _ b.0

-- what is refused does not pass
pub not_passed : {A : Type 0} (k c : Result Unit Refusal) (r : Refusal) → c ≡ k → c ≡ Err r → k ≡ Ok tt → A
not_passed k c r h g e = clash true refl (ap is_passed (sym e ∙ sym h ∙ g))

-- ---- the scratch at exit, from what a call's checks returned
pub refused-scratch : (k c : Result Unit Refusal) (r : Refusal) (l : List ℕ) → c ≡ k → c ≡ Err r → l ≡ scratch_after k l
unfolding scratch_after
refused-scratch k c r l h g = sym (rw (sym h ∙ g))

pub passed_scratch : (k c : Result Unit Refusal) (l r : List ℕ) → c ≡ k → c ≡ Ok tt → r ≡ replicate (length l) 0 → r ≡ scratch_after k l
unfolding scratch_after
passed_scratch k c l r h g e = sym (rw (sym h ∙ g) (sym e))
