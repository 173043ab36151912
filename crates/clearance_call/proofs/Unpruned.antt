-- Where every box of a tree is nearer than the threshold nothing is pruned, whatever the least distance is: the walk visits each leaf once, and equals the visits of the leaves from left to right. Assumes nothing.
use Rattle.std.specs.Prelude.{Option, Some, None}
use mathlib.Core.Path.{◌≡◌, refl, sym, ap, ◌∙◌}
use mathlib.Core.Logic.{inl, inr}
use mathlib.Core.Bool.{Bool, true, false}
use mathlib.Core.List.{List, [], ◌∷◌, ◌++◌}
use Prim.Native.Nat.{ℕ, ◌+◌, ◌≤◌, ◌<◌}
use native.Mathlib.Omega.{arith}
use borrow.Author.Tests.{ltb-true, ltb-false, le-ltb}
use lib.Dec.{leb}
use lib.Ieee.{Float, binary64, lt}
use Rattle.laws.specs.Lists.{bit}
use Rattle.laws.specs.Perm.{Perm, none, first, swap, via}
use Rattle.laws.specs.Charged.{Charged, after, runs}
use Rattle.laws.proofs.Tests.{decide, or_left}
use Rattle.laws.proofs.Perms.{perm-turn}
use Rattle.laws.proofs.Runs.{runs_append}
use Rattle.floats.specs.Values.{lesser_of}
use Rattle.floats.specs.TotalOrder.{key_of}
use Rattle.floats.proofs.Rank.{rank, Num, lt_rank}
use Rattle.floats.proofs.Gaps.{Good}
use Rattle.floats.proofs.Extremes.{lesser, picked}
use Rattle.drawing.specs.Entries.{Segment, Exemption}
use Rattle.drawing.specs.Gaps.{lesser_gap}
use Rattle.boxes.specs.declared.aabb.Aabb.{Aabb}
use Rattle.boxes.specs.Boxes.{segment_box, distance}
use Rattle.boxes.proofs.AnyBoxes.{any_distance_good}
use Rattle.clearance.specs.Figures.{Figures, exempt}
use Rattle.clearance.specs.Tree.{IndexedNode, Tree, empty, leaf, branch, bounds_of}
use Rattle.clearance.specs.Walk.{contributes, with_pair, walk}
use Rattle.clearance_call.specs.Inner.Nested.{TreeBelow, leaf_visit}
use Rattle.clearance.proofs.TreeLaws.{leaves}
use Rattle.clearance.proofs.WalkSteps.{lower, walk-empty, walk-leaf, walk-left-first, walk-right-first}

-- ---- the lesser of a number and two distances, in either order
module _ (x a b : Float) (p : Num binary64 x) (q : Good a) (r : Good b) where
  skipped : (y z : Float) → Good y → Good z → lt y x ≡ true → lt z x ≡ false → lt z y ≡ false
  skipped y z g h e f =
      let u : rank binary64 y < rank binary64 x = ltb-true (rank binary64 y) (rank binary64 x) (sym (lt_rank binary64 y x g.num p) ∙ e) in
      let v : rank binary64 x ≤ rank binary64 z = ltb-false (rank binary64 z) (rank binary64 x) (sym (lt_rank binary64 z x h.num p) ∙ f) in
      lt_rank binary64 z y h.num g.num ∙ le-ltb (rank binary64 z) (rank binary64 y) (over (rank binary64 x) (rank binary64 y) (rank binary64 z) u v)
    where
      over : (k m n : ℕ) → m < k → k ≤ n → m ≤ n
      over k m n h g = omega arith

  lesser-turn : lesser_of (lesser_of x a) b ≡ lesser_of (lesser_of x b) a
  unfolding lesser_of
  lesser-turn = elim (decide (lt a x)) [
    | inl e ↦ elim (decide (lt b x)) [
      | inl f ↦ rw (e, f) (lesser.comm a b q r)
      | inr f ↦ rw (e, f, skipped a b q r e f, e)
    ]
    | inr e ↦ elim (decide (lt b x)) [
      | inl f ↦ rw (e, f, skipped b a r q f e)
      | inr f ↦ rw (e, f, e)
    ]
  ]

-- a least distance that is absent or a number
abbrev pub NumberGap : Option Float → Type 0
NumberGap None = Unit {0}
NumberGap (Some x) = Num binary64 x

gap-turn : (g : Option Float) (a b : Float) → NumberGap g → Good a → Good b → lesser_gap (lesser_gap g (Some a)) (Some b) ≡ lesser_gap (lesser_gap g (Some b)) (Some a)
unfolding lesser_gap
gap-turn None a b p q r = ap Some (lesser.comm a b q r)
gap-turn (Some x) a b p q r = ap Some (lesser-turn x a b p q r)

gap-number : (g : Option Float) (a : Float) → NumberGap g → Good a → NumberGap (lesser_gap g (Some a))
unfolding lesser_gap lesser_of
gap-number None a p q = q.num
gap-number (Some x) a p q = picked (Num binary64) (lt a x) x a p q.num

-- ---- two pairs more, in either order
pair_turn : (t c d : Float) → Good c → Good d → (g : Figures) → NumberGap g.least → (e f : Bool) → with_pair f t d (with_pair e t c g) ≡ with_pair e t c (with_pair f t d g)
unfolding with_pair
pair_turn t c d p q g n true f = refl
pair_turn t c d p q g n false true = refl
pair_turn t c d p q g n false false =
    let a = gap-turn g.least c d n p q in
    let b : g.violations + bit (lt c t) + bit (lt d t) ≡ g.violations + bit (lt d t) + bit (lt c t) = omega arith in
    λ i. record { least = a i; violations = b i }

pair-number : (t d : Float) → Good d → (g : Figures) → NumberGap g.least → (e : Bool) → NumberGap (with_pair e t d g).least
unfolding with_pair
pair-number t d q g n true = n
pair-number t d q g n false = gap-number g.least d n q

-- ---- leaves visited one after another
module _ (ex : List Exemption) (t : Float) (net : ℕ) (p : Aabb) where
  abbrev step : Figures → IndexedNode → Charged Figures
  step g n = leaf_visit ex t net p g n

  abbrev good : (n : IndexedNode) → Good (distance p n.bounds)
  good n = any_distance_good p n.bounds

  visit-number : (g : Figures) (n : IndexedNode) → NumberGap g.least → NumberGap (step g n).value.least
  visit-number g n h = pair-number t (distance p n.bounds) (good n) g h (exempt ex net n.id)

  runs_number : (l : List IndexedNode) (g : Figures) → NumberGap g.least → NumberGap (runs step g l).value.least
  unfolding runs
  runs_number [] g h = h
  runs_number (n ∷ l) g h = runs_number l (step g n).value (visit-number g n h)

  runs-perm : {l r : List IndexedNode} → Perm l r → (g : Figures) → NumberGap g.least → runs step g l ≡ runs step g r
  unfolding runs
  runs-perm none g h = refl
  runs-perm (first {x = n} q) g h = let e = runs-perm q (step g n).value (visit-number g n h) in λ i. record { value = (e i).value; cost = 1 + (e i).cost }
  runs-perm (swap {x = m} {y = n} {l = l}) g h =
      let e = pair_turn t (distance p m.bounds) (distance p n.bounds) (good m) (good n) g h (exempt ex net m.id) (exempt ex net n.id) in
      λ i. record { value = (runs step (e i) l).value; cost = 1 + (1 + (runs step (e i) l).cost) }
  runs-perm (via q r) g h = runs-perm q g h ∙ runs-perm r g h

-- ---- the walk
below-contributes : (d t : Float) (g : Option Float) → lt d t ≡ true → contributes d t g ≡ true
unfolding contributes
below-contributes d t None e = refl
below-contributes d t (Some x) e = or_left (lt d t) (lt d x) e

module _ (ex : List Exemption) (t : Float) (s : Segment) where
  abbrev run : Figures → List IndexedNode → Charged Figures
  run g l = runs (leaf_visit ex t s.net (segment_box s)) g l

  -- one tree and then the other, each with its leaves visited one after another
  both : (l r : Tree) (g : Figures) → walk ex t s l g ≡ run g (leaves l) → ((f : Figures) → NumberGap f.least → walk ex t s r f ≡ run f (leaves r)) → NumberGap g.least → after (walk ex t s l g) (λ f. walk ex t s r f) ≡ run g (leaves l ++ leaves r)
  both l r g e f h =
      let m = run g (leaves l) in
      let k = f m.value (runs_number ex t s.net (segment_box s) (leaves l) g h) in
      ap (λ (c : Charged Figures). after c (λ f. walk ex t s r f)) e
      ∙ (λ i. record { value = (k i).value; cost = m.cost + (k i).cost })
      ∙ sym (runs_append (leaf_visit ex t s.net (segment_box s)) (leaves l) (leaves r) g)

  pub walk_unpruned : (tree : Tree) → TreeBelow (segment_box s) t tree → (g : Figures) → NumberGap g.least → walk ex t s tree g ≡ runs (leaf_visit ex t s.net (segment_box s)) g (leaves tree)
  unfolding leaves runs bounds_of
  walk_unpruned empty h g n = walk-empty ex t s g
  walk_unpruned (leaf m) h g n = walk-leaf ex t s m g (below-contributes _ t g.least h)
  walk_unpruned (branch b l r) h g n =
      let here = below-contributes (distance (segment_box s) b) t g.least h.0 in
      elim (decide (leb (key_of (lower s l)) (key_of (lower s r)))) [
        | inl k ↦ walk-left-first ex t s b l r g here k ∙ both l r g (walk_unpruned l h.1 g n) (walk_unpruned r h.2) n
        | inr k ↦ walk-right-first ex t s b l r g here k ∙ both r l g (walk_unpruned r h.2 g n) (walk_unpruned l h.1) n ∙ runs-perm ex t s.net (segment_box s) (perm-turn (leaves r) (leaves l)) g n
      ]
