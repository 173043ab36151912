-- The tree holds the nodes of its list, each once, and the box of a branch is the least one around the nodes below it. Assumes nothing.
use Rattle.std.proofs.Common.{ℕ, zero, suc, ◌/◌, ◌≤◌, List, [], ◌∷◌, ◌++◌, map, length, take, drop, sym, ◌∙◌, subst, append_assoc, append-nil, le_of_eq, not-suc-le-zero, arith, length-drop, take-append-drop, length-take}
use lib.Ieee.{binary64}
use lib.ListN.{length-map}
use Rattle.laws.specs.Lists.{All}
use Rattle.laws.specs.Perm.{Perm, none, via}
use Rattle.laws.specs.Rows.{row_le}
use Rattle.laws.proofs.ListLaws.{all_append, all_first, all-second, all_map}
use Rattle.laws.proofs.Perms.{perm_refl, perm_sym, perm-eq, perm-length, perm_both, perm-all, perm-map}
use Rattle.laws.proofs.Sorting.{sort_perm}
use Rattle.floats.specs.Values.{plus_zero}
use Rattle.floats.proofs.Rank.{Fin, zero_num}
use Rattle.drawing.specs.Entries.{Node}
use Rattle.drawing.specs.Orders.{nodes_in_order}
use Rattle.drawing.proofs.ListOrders.{nodes-in_order-perm}
use Rattle.boxes.specs.declared.aabb.Aabb.{Aabb}
use Rattle.boxes.specs.Boxes.{union}
use Rattle.clearance.specs.Tree.{IndexedNode, indexed, indexed_row, indexed_in_order, horizontal_wider, hull, Tree, empty, leaf, branch, bounds_of, build, tree_of}
use Rattle.drawing.proofs.Fit.{FitNode}
use Rattle.boxes.specs.Inner.Fitting.{Span, FitBox, Within}
use Rattle.boxes.proofs.BoxLaws.{le_self, within_self, within-trans, fit-node, fit-union, union-first, union-second, union-least, Alike}

abbrev pub FitIndexed : IndexedNode → Type 0
FitIndexed n = FitBox n.bounds

unfoldable pub leaves : Tree → List IndexedNode
leaves empty = []
leaves (leaf n) = n ∷ []
leaves (branch b l r) = leaves l ++ leaves r

-- ---- the least box around the nodes of a list
-- a fit node in a box
pub record In (b : Aabb) (n : IndexedNode) : Type 0 where
  pub fit : FitIndexed n
  pub within : Within n.bounds b

-- b is fit, holds the nodes and lies in every box that holds them
pub record Around (b : Aabb) (l : List IndexedNode) : Type 0 where
  pub fit : FitBox b
  pub holds : All (In b) l
  pub least : (u : Aabb) → All (In u) l → Within b u

pub around_alike : (b c : Aabb) (l : List IndexedNode) → Around b l → Around c l → Alike b c
around_alike b c l p q = record { into = p.least c q.holds; back = q.least b p.holds }

pub around_perm : (b : Aabb) {l r : List IndexedNode} → Perm l r → Around b l → Around b r
around_perm b p a = record { fit = a.fit; holds = perm-all (In b) p a.holds; least = λ u h. a.least u (perm-all (In u) (perm_sym p) h) }

pub around_node : (n : IndexedNode) → FitIndexed n → Around n.bounds (n ∷ [])
around_node n h = record { fit = h; holds = (record { fit = h; within = within_self n.bounds h }, tt); least = λ u i. i.0.within }

in_wider : (b u : Aabb) (l : List IndexedNode) → FitBox b → FitBox u → Within b u → All (In b) l → All (In u) l
in_wider b u l p q w h = all_map (λ n i. record { fit = i.fit; within = within-trans n.bounds b u i.fit p q i.within w }) l h

pub around_union : (b c : Aabb) (l r : List IndexedNode) → Around b l → Around c r → Around (union b c) (l ++ r)
around_union b c l r p q =
    let u = union b c in
    let fit = fit-union b c p.fit q.fit in
    record {
      fit = fit;
      holds = all_append (In u) l r (in_wider b u l p.fit fit (union-first b c p.fit q.fit) p.holds) (in_wider c u r q.fit fit (union-second b c p.fit q.fit) q.holds);
      least = λ v h. union-least b c v (p.least v (all_first (In v) l r h)) (q.least v (all-second (In v) l r h));
    }

-- a box around r into which the boxes of l are folded, one after another, is around both
around_more : (b : Aabb) (r l : List IndexedNode) → Around b r → All FitIndexed l → Around (hull b l) (r ++ l)
unfolding hull
around_more b r [] p h = subst (Around b) (sym (append-nil r)) p
around_more b r (n ∷ l) p h =
    subst (Around (hull (union b n.bounds) l)) (append_assoc r (n ∷ []) l)
    (around_more (union b n.bounds) (r ++ n ∷ []) l (around_union b n.bounds r (n ∷ []) p (around_node n h.0)) h.1)

-- so the box that is folded over a list is the least one around its nodes, whatever its order
pub hull_around : (n : IndexedNode) (l : List IndexedNode) → All FitIndexed (n ∷ l) → Around (hull n.bounds l) (n ∷ l)
hull_around n l h = around_more n.bounds (n ∷ []) l (around_node n h.0) h.1

-- ---- a list in order along its wider axis, and its halves
unfoldable pub ordered : IndexedNode → IndexedNode → List IndexedNode → List IndexedNode
ordered n m l = indexed_in_order (horizontal_wider (hull n.bounds (m ∷ l))) (n ∷ m ∷ l)

module _ (n m : IndexedNode) (l : List IndexedNode) where
  abbrev row : List IndexedNode
  row = ordered n m l

  pub ordered-perm : Perm (ordered n m l) (n ∷ m ∷ l)
  unfolding ordered indexed_in_order
  ordered-perm = let h = horizontal_wider (hull n.bounds (m ∷ l)) in sort_perm (λ a b. row_le (indexed_row h a) (indexed_row h b)) (n ∷ m ∷ l)

  pub halves_perm : Perm (take (length row / 2) row ++ drop (length row / 2) row) (n ∷ m ∷ l)
  halves_perm = via (perm-eq (take-append-drop (length row / 2) row)) ordered-perm

  -- what holds of all holds of those of either half
  pub halves_all : (P : IndexedNode → Type 0) → All P (n ∷ m ∷ l) → All P (take (length row / 2) row) × All P (drop (length row / 2) row)
  halves_all P h =
      let both = perm-all P (perm_sym halves_perm) h in
      (all_first P (take (length row / 2) row) (drop (length row / 2) row) both, all-second P (take (length row / 2) row) (drop (length row / 2) row) both)

  -- neither half is empty
  pub first_some : 1 ≤ length (take (length row / 2) row)
  first_some = let e = perm-length ordered-perm in rw length-take (omega arith)

  pub second-some : 1 ≤ length (drop (length row / 2) row)
  second-some = let e = perm-length ordered-perm in rw length-drop (omega arith)

  module _ (k : ℕ) (h : suc (suc (length l)) ≤ suc k) where
    pub first_small : length (take (length row / 2) row) ≤ k
    first_small = let e = perm-length ordered-perm in rw length-take (omega arith)

    pub second-small : length (drop (length row / 2) row) ≤ k
    second-small = let e = perm-length ordered-perm in rw length-drop (omega arith)

-- ---- every node is a leaf, once
pub build-leaves : (k : ℕ) (l : List IndexedNode) → length l ≤ k → Perm (leaves (build k l)) l
unfolding build leaves ordered
build-leaves zero [] h = none
build-leaves zero (n ∷ l) h = absurd (not-suc-le-zero h)
build-leaves (suc k) [] h = none
build-leaves (suc k) (n ∷ []) h = perm_refl (n ∷ [])
build-leaves (suc k) (n ∷ m ∷ l) h =
    let row = ordered n m l in
    let half = length row / 2 in
    via (perm_both (build-leaves k (take half row) (first_small n m l k h)) (build-leaves k (drop half row) (second-small n m l k h))) (halves_perm n m l)

-- ---- the box of every branch holds the nodes below it
abbrev pub Sound : Tree → Type 0
Sound empty = Unit {0}
Sound (leaf n) = FitIndexed n
Sound (branch b l r) = FitBox b × All (In b) (leaves l ++ leaves r) × Sound l × Sound r

pub sound_box : (tree : Tree) → Sound tree → FitBox (bounds_of tree)
unfolding bounds_of
sound_box empty h = record { across = nothing; down = nothing }
  where
    nothing : Span plus_zero plus_zero
    nothing = let z : Fin binary64 plus_zero = zero_num binary64 _ in record { low = z; high = z; rising = le_self plus_zero z }
sound_box (leaf n) h = h
sound_box (branch b l r) h = h.0

pub sound_in : (tree : Tree) → Sound tree → All (In (bounds_of tree)) (leaves tree)
unfolding bounds_of leaves
sound_in empty h = tt
sound_in (leaf n) h = (record { fit = h; within = within_self n.bounds h }, tt)
sound_in (branch b l r) h = h.1

pub sound_fit : (tree : Tree) → Sound tree → All FitIndexed (leaves tree)
sound_fit tree h = all_map (λ n i. i.fit) (leaves tree) (sound_in tree h)

pub build_sound : (k : ℕ) (l : List IndexedNode) → length l ≤ k → All FitIndexed l → Sound (build k l)
unfolding build leaves ordered
build_sound zero l h g = tt
build_sound (suc k) [] h g = tt
build_sound (suc k) (n ∷ []) h g = g.0
build_sound (suc k) (n ∷ m ∷ l) h g =
    let row = ordered n m l in
    let half = length row / 2 in
    let box = hull_around n (m ∷ l) g in
    let fit = halves_all n m l FitIndexed g in (
      box.fit,
      perm-all (In (hull n.bounds (m ∷ l))) (perm_sym (build-leaves (suc k) (n ∷ m ∷ l) h)) box.holds,
      build_sound k (take half row) (first_small n m l k h) fit.0,
      build_sound k (drop half row) (second-small n m l k h) fit.1,
    )

-- and it is the least box around the nodes of its list
pub build_around : (k : ℕ) (l : List IndexedNode) → 1 ≤ length l → length l ≤ k → All FitIndexed l → Around (bounds_of (build k l)) l
unfolding build bounds_of
build_around zero l some h g = absurd (omega arith)
build_around (suc k) [] some h g = absurd (omega arith)
build_around (suc k) (n ∷ []) some h g = around_node n g.0
build_around (suc k) (n ∷ m ∷ l) some h g = hull_around n (m ∷ l) g

-- ---- the tree of a list of nodes
pub indexed-fit : (ns : List Node) → All FitNode ns → All FitIndexed (map indexed ns)
unfolding indexed
indexed-fit [] h = tt
indexed-fit (n ∷ ns) h = (fit-node n h.0, indexed-fit ns h.1)

pub enough : (ns : List Node) → length (map indexed (nodes_in_order ns)) ≤ length ns
enough ns = le_of_eq (length-map (nodes_in_order ns) indexed ∙ perm-length (nodes-in_order-perm ns))

pub in_order-fit : (ns : List Node) → All FitNode ns → All FitIndexed (map indexed (nodes_in_order ns))
in_order-fit ns h = indexed-fit (nodes_in_order ns) (perm-all FitNode (perm_sym (nodes-in_order-perm ns)) h)

pub tree-leaves : (ns : List Node) → Perm (leaves (tree_of ns)) (map indexed ns)
unfolding tree_of
tree-leaves ns = via (build-leaves (length ns) (map indexed (nodes_in_order ns)) (enough ns)) (perm-map indexed (nodes-in_order-perm ns))

pub tree_sound : (ns : List Node) → All FitNode ns → Sound (tree_of ns)
unfolding tree_of
tree_sound ns h = build_sound (length ns) (map indexed (nodes_in_order ns)) (enough ns) (in_order-fit ns h)
