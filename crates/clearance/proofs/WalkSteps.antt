-- The walk of one segment, case by case: pruned, at a leaf, and over a branch's children. Assumes nothing.
use Rattle.std.proofs.Common.{◌≡◌, true, false, leb, List, refl, inl, inr}
use lib.Ieee.{Float}
use Rattle.laws.specs.Charged.{Charged, free, visit, after}
use Rattle.laws.proofs.Tests.{decide}
use Rattle.floats.specs.TotalOrder.{key_of}
use Rattle.drawing.specs.Entries.{Segment, Exemption}
use Rattle.boxes.specs.declared.aabb.Aabb.{Aabb}
use Rattle.boxes.specs.Boxes.{segment_box, distance}
use Rattle.clearance.specs.Figures.{Figures, exempt}
use Rattle.clearance.specs.Tree.{IndexedNode, Tree, empty, leaf, branch, bounds_of}
use Rattle.clearance.specs.Walk.{contributes, with_pair, walk}

-- the distance of a segment to a tree's box
abbrev pub lower : Segment → Tree → Float
lower s tree = distance (segment_box s) (bounds_of tree)

module _ (ex : List Exemption) (t : Float) (s : Segment) where
  pub walk-empty : (g : Figures) → walk ex t s empty g ≡ free g
  unfolding walk
  walk-empty g = refl

  pub walk_pruned : (tree : Tree) (g : Figures) → contributes (lower s tree) t g.least ≡ false → walk ex t s tree g ≡ free g
  unfolding walk bounds_of
  walk_pruned empty g e = refl
  walk_pruned (leaf n) g e = rw e
  walk_pruned (branch b l r) g e = rw e

  pub walk-leaf : (n : IndexedNode) (g : Figures) → contributes (lower s (leaf n)) t g.least ≡ true
      → walk ex t s (leaf n) g ≡ visit (free (with_pair (exempt ex s.net n.id) t (distance (segment_box s) n.bounds) g))
  unfolding walk bounds_of
  walk-leaf n g e = rw e

  module _ (b : Aabb) (l r : Tree) (g : Figures) (e : contributes (lower s (branch b l r)) t g.least ≡ true) where
    pub walk-left-first : leb (key_of (lower s l)) (key_of (lower s r)) ≡ true → walk ex t s (branch b l r) g ≡ after (walk ex t s l g) (λ h. walk ex t s r h)
    unfolding walk bounds_of
    walk-left-first k = rw (e, k)

    pub walk-right-first : leb (key_of (lower s l)) (key_of (lower s r)) ≡ false → walk ex t s (branch b l r) g ≡ after (walk ex t s r g) (λ h. walk ex t s l h)
    unfolding walk bounds_of
    walk-right-first k = rw (e, k)

  -- what holds in each of these cases holds of the walk
  module _
      (P : Tree → Figures → Charged Figures → Type 0)
      (pruned : (tree : Tree) (g : Figures) → P tree g (free g))
      (visited : (n : IndexedNode) (g : Figures) → P (leaf n) g (visit (free (with_pair (exempt ex s.net n.id) t (distance (segment_box s) n.bounds) g))))
      (left-first : (b : Aabb) (l r : Tree) (g : Figures) → P l g (walk ex t s l g) → P r (walk ex t s l g).value (walk ex t s r (walk ex t s l g).value) → P (branch b l r) g (after (walk ex t s l g) (λ h. walk ex t s r h)))
      (right-first : (b : Aabb) (l r : Tree) (g : Figures) → P r g (walk ex t s r g) → P l (walk ex t s r g).value (walk ex t s l (walk ex t s r g).value) → P (branch b l r) g (after (walk ex t s r g) (λ h. walk ex t s l h)))
    where
      pub by_cases : (tree : Tree) (g : Figures) → P tree g (walk ex t s tree g)
      by_cases empty g = rw (walk-empty g) (pruned empty g)
      by_cases (leaf n) g = elim (decide (contributes (lower s (leaf n)) t g.least)) [
        | inr e ↦ rw (walk_pruned (leaf n) g e) (pruned (leaf n) g)
        | inl e ↦ rw (walk-leaf n g e) (visited n g)
      ]
      by_cases (branch b l r) g = elim (decide (contributes (lower s (branch b l r)) t g.least)) [
        | inr e ↦ rw (walk_pruned (branch b l r) g e) (pruned (branch b l r) g)
        | inl e ↦ elim (decide (leb (key_of (lower s l)) (key_of (lower s r)))) [
          | inl k ↦ rw (walk-left-first b l r g e k) (left-first b l r g (by_cases l g) (by_cases r (walk ex t s l g).value))
          | inr k ↦ rw (walk-right-first b l r g e k) (right-first b l r g (by_cases r g) (by_cases l (walk ex t s r g).value))
        ]
      ]
