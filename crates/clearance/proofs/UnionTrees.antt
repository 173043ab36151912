-- The tree as the code stores it: a branch's box is the union of its children's boxes, where the definition folds the boxes of the list. For fit lists every walk is the same over both. Assumes nothing.
use Rattle.std.proofs.Common.{◌≡◌, ℕ, zero, suc, ◌/◌, ◌≤◌, cond, leb, List, [], ◌∷◌, map, length, take, drop, refl, arith}
use lib.Ieee.{Float}
use Rattle.laws.specs.Lists.{All}
use Rattle.laws.specs.Charged.{free, after, runs}
use Rattle.laws.proofs.Perms.{perm-all, perm_sym}
use Rattle.floats.specs.TotalOrder.{key_of}
use Rattle.drawing.specs.Entries.{Segment, Node, Exemption}
use Rattle.drawing.specs.Orders.{segments_in_order, nodes_in_order}
use Rattle.drawing.proofs.ListOrders.{segments-in_order-perm}
use Rattle.boxes.specs.Boxes.{segment_box, union}
use Rattle.clearance.specs.Figures.{Figures}
use Rattle.clearance.specs.Tree.{IndexedNode, indexed, Tree, empty, leaf, branch, bounds_of, build, tree_of}
use Rattle.clearance.specs.Walk.{contributes, walk, no_figures, walk_all}
use Rattle.drawing.specs.Held.{FitSegment}
use Rattle.drawing.proofs.Fit.{FitNode}
use Rattle.boxes.proofs.BoxLaws.{fit-segment, distance-alike}
use Rattle.clearance.proofs.TreeLaws.{FitIndexed, Around, around_alike, around_perm, around_node, around_union, ordered, halves_perm, halves_all, first_some, second-some, first_small, second-small, build_around, enough, in_order-fit}
use Rattle.clearance.proofs.WalkSteps.{lower}

-- a branch over two trees, with the union of their boxes
abbrev pub joined : Tree → Tree → Tree
joined l r = branch (union (bounds_of l) (bounds_of r)) l r

-- a tree with the box of every branch replaced by the union of its children's boxes: what the code stores
unfoldable pub rejoined : Tree → Tree
rejoined empty = empty
rejoined (leaf n) = leaf n
rejoined (branch b l r) = joined (rejoined l) (rejoined r)

-- its box is the least one around the nodes of the list, as the definition's box is
rejoined_around : (k : ℕ) (l : List IndexedNode) → 1 ≤ length l → length l ≤ k → All FitIndexed l → Around (bounds_of (rejoined (build k l))) l
unfolding build rejoined bounds_of ordered
rejoined_around zero l some h f = absurd (omega arith)
rejoined_around (suc k) [] some h f = absurd (omega arith)
rejoined_around (suc k) (n ∷ []) some h f = around_node n f.0
rejoined_around (suc k) (n ∷ m ∷ l) some h f =
    let row = ordered n m l in
    let half = length row / 2 in
    let fit = halves_all n m l FitIndexed f in
    around_perm _ (halves_perm n m l)
    (around_union _ _ (take half row) (drop half row) (rejoined_around k (take half row) (first_some n m l) (first_small n m l k h) fit.0) (rejoined_around k (drop half row) (second-some n m l) (second-small n m l k h) fit.1))

module _ (ex : List Exemption) (t : Float) (s : Segment) (p : FitSegment s) where
  -- so both are equally far away
  lower_rejoined : (k : ℕ) (l : List IndexedNode) → 1 ≤ length l → length l ≤ k → All FitIndexed l → lower s (rejoined (build k l)) ≡ lower s (build k l)
  lower_rejoined k l some h f =
      let a = rejoined_around k l some h f in
      let b = build_around k l some h f in
      distance-alike (segment_box s) _ _ (fit-segment s p) a.fit b.fit (around_alike _ _ l a b)

  -- and the walk prunes alike and takes the children in the same order
  build-walk : (k : ℕ) (l : List IndexedNode) → length l ≤ k → All FitIndexed l → (g : Figures) → walk ex t s (rejoined (build k l)) g ≡ walk ex t s (build k l) g
  unfolding build rejoined walk bounds_of ordered
  build-walk zero l h f g = refl
  build-walk (suc k) [] h f g = refl
  build-walk (suc k) (n ∷ []) h f g = refl
  build-walk (suc k) (n ∷ m ∷ l) h f g =
      let row = ordered n m l in
      let half = length row / 2 in
      let fit = halves_all n m l FitIndexed f in
      let a = first_small n m l k h in
      let c = second-small n m l k h in
      let left = build-walk k (take half row) a fit.0 in
      let right = build-walk k (drop half row) c fit.1 in
      let dl = lower_rejoined k (take half row) (first_some n m l) a fit.0 in
      let dr = lower_rejoined k (drop half row) (second-some n m l) c fit.1 in
      let d = lower_rejoined (suc k) (n ∷ m ∷ l) (omega arith) h f in
      λ i. cond (contributes (d i) t g.least) (cond (leb (key_of (dl i)) (key_of (dr i))) (after (left g i) (λ x. right x i)) (after (right g i) (λ x. left x i))) (free g)

module _ (ex : List Exemption) (t : ℕ → Float) (ns : List Node) (h : All FitNode ns) where
  runs_rejoined : (ss : List Segment) → All FitSegment ss → (g : Figures) → runs (λ f s. walk ex (t s.net) s (rejoined (tree_of ns)) f) g ss ≡ runs (λ f s. walk ex (t s.net) s (tree_of ns) f) g ss
  unfolding runs tree_of
  runs_rejoined [] p g = refl
  runs_rejoined (s ∷ ss) p g =
      let one = build-walk ex (t s.net) s p.0 (length ns) (map indexed (nodes_in_order ns)) (enough ns) (in_order-fit ns h) in
      λ i. after (one g i) (λ f. runs_rejoined ss p.1 f i)

  -- the walks of all segments over the stored tree have the figures and the visits of the definition's walks
  pub walk-all_rejoined : (ss : List Segment) → All FitSegment ss → runs (λ g s. walk ex (t s.net) s (rejoined (tree_of ns)) g) no_figures (segments_in_order ss) ≡ walk_all ex t ss ns
  unfolding walk_all
  walk-all_rejoined ss p = runs_rejoined (segments_in_order ss) (perm-all FitSegment (perm_sym (segments-in_order-perm ss)) p) no_figures
