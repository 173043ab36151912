-- The order of the list of nodes decides nothing in the tree as it is stored: code may build it from the nodes as they are given. Assumes nothing.
use Rattle.std.proofs.Common.{◌≡◌, ℕ, zero, suc, ◌/◌, Bool, true, false, leb, List, [], ◌∷◌, map, length, take, drop, sym, refl, ap, ◌∙◌, inl, inr, le_antisymm, arith}
use lib.Ieee.{Float, binary64, sub}
use Rattle.laws.specs.Lists.{All}
use Rattle.laws.specs.Perm.{Perm, via}
use Rattle.laws.specs.Rows.{row_le}
use Rattle.laws.proofs.ListLaws.{all_map}
use Rattle.laws.proofs.Perms.{perm_sym, perm-length, perm_mem, perm-all, perm-map}
use Rattle.laws.proofs.RowLaws.{row_antisym, by_rows}
use Rattle.laws.proofs.Sorting.{sort_same}
use Rattle.floats.specs.TotalOrder.{key_of}
use Rattle.floats.proofs.Rank.{distance as apart}
use Rattle.floats.proofs.Rounding.{rnd}
use Rattle.floats.proofs.Difference.{sub_mag}
use Rattle.floats.proofs.Gaps.{Good, good_one}
use Rattle.floats.proofs.NumberKeys.{key-of-one}
use Rattle.drawing.specs.Entries.{Node}
use Rattle.drawing.specs.Orders.{nodes_in_order}
use Rattle.drawing.proofs.ListOrders.{nodes-in_order-perm}
use Rattle.boxes.specs.declared.aabb.Aabb.{Aabb}
use Rattle.clearance.specs.Tree.{IndexedNode, indexed, indexed_row, indexed_in_order, horizontal_wider, hull, build, tree_of}
use Rattle.drawing.proofs.Fit.{FitNode}
use Rattle.boxes.specs.Boxes.{union}
use Rattle.boxes.specs.Inner.Fitting.{Span, Inside}
use Rattle.boxes.proofs.BoxLaws.{at, low-at, high-at, Alike}
use Rattle.boxes.proofs.Spans.{Whole, whole-node, whole-union, width_good, height_good}
use Rattle.clearance.proofs.TreeLaws.{FitIndexed, around_alike, around_perm, hull_around}
use Rattle.clearance.proofs.UnionTrees.{joined, rejoined}

abbrev pub WholeIndexed : IndexedNode → Type 0
WholeIndexed n = Whole n.bounds

-- ---- boxes that lie in each other have the same wider axis
span-alike : (a b c d : Float) → Span a b → Span c d → Good (sub binary64 b a) → Good (sub binary64 d c) → Inside a b c d → Inside c d a b → sub binary64 b a ≡ sub binary64 d c
span-alike a b c d p q g h x y =
    let u : at a ≡ at c = le_antisymm (low-at c d a b q p y) (low-at a b c d p q x) in
    let v : at b ≡ at d = le_antisymm (high-at a b c d p q x) (high-at c d a b q p y) in
    good_one (sub binary64 b a) (sub binary64 d c) g h
    (sub_mag binary64 b a p.high p.low ∙ (λ i. rnd binary64 (apart (v i) (u i))) ∙ sym (sub_mag binary64 d c q.high q.low))

wider_alike : (b c : Aabb) → Whole b → Whole c → Alike b c → horizontal_wider b ≡ horizontal_wider c
unfolding horizontal_wider
wider_alike b c p q h =
    let w = span-alike b.left b.right c.left c.right p.fit.across q.fit.across (width_good b p) (width_good c q) h.into.across h.back.across in
    let v = span-alike b.top b.bottom c.top c.bottom p.fit.down q.fit.down (height_good b p) (height_good c q) h.into.down h.back.down in
    λ i. leb (key_of (v i)) (key_of (w i))

-- ---- the hull of a list, in any order
hull-whole : (b : Aabb) (l : List IndexedNode) → Whole b → All WholeIndexed l → Whole (hull b l)
unfolding hull
hull-whole b [] p h = p
hull-whole b (n ∷ l) p h = hull-whole (union b n.bounds) l (whole-union b n.bounds p h.0) h.1

fits_of : (l : List IndexedNode) → All WholeIndexed l → All FitIndexed l
fits_of l h = all_map (λ n w. w.fit) l h

hull-alike : (x y : IndexedNode) (l r : List IndexedNode) → Perm (x ∷ l) (y ∷ r) → All FitIndexed (x ∷ l) → All FitIndexed (y ∷ r) → Alike (hull x.bounds l) (hull y.bounds r)
hull-alike x y l r p h k = around_alike _ _ (y ∷ r) (around_perm _ p (hull_around x l h)) (hull_around y r k)

-- ---- nodes with equal rows are equal, so all orders of the nodes give one order along an axis
held_one : (m n : IndexedNode) → FitIndexed m → FitIndexed n → key_of m.bounds.left ≡ key_of n.bounds.left → key_of m.bounds.right ≡ key_of n.bounds.right
    → key_of m.bounds.top ≡ key_of n.bounds.top → key_of m.bounds.bottom ≡ key_of n.bounds.bottom → m.id ≡ n.id → m ≡ n
held_one m n p q a b c d e =
    let l = key-of-one m.bounds.left n.bounds.left p.across.low.0 q.across.low.0 a in
    let r = key-of-one m.bounds.right n.bounds.right p.across.high.0 q.across.high.0 b in
    let t = key-of-one m.bounds.top n.bounds.top p.down.low.0 q.down.low.0 c in
    let u = key-of-one m.bounds.bottom n.bounds.bottom p.down.high.0 q.down.high.0 d in
    λ i. record { id = e i; bounds = record { left = l i; top = t i; right = r i; bottom = u i } }

pub row_one : (horizontal : Bool) (m n : IndexedNode) → FitIndexed m → FitIndexed n → indexed_row horizontal m ≡ indexed_row horizontal n → m ≡ n
unfolding indexed_row
row_one true m n p q e = held_one m n p q (cc) (cc) (cc) (cc) (cc)
row_one false m n p q e = held_one m n p q (cc) (cc) (cc) (cc) (cc)

indexed-one-order : (horizontal : Bool) {l r : List IndexedNode} → Perm l r → All FitIndexed l → indexed_in_order horizontal l ≡ indexed_in_order horizontal r
unfolding indexed_in_order
indexed-one-order h p k = sort_same (λ a b. row_le (indexed_row h a) (indexed_row h b)) (by_rows (indexed_row h)) FitIndexed (λ a b x y u v. row_one h a b x y (row_antisym (indexed_row h a) (indexed_row h b) u v)) p k

-- ---- a tree over nodes in any order: the boxes that the Rust folds lie in each other, those of the leaves and so their unions are the same
build_any_nodes : (k : ℕ) {l r : List IndexedNode} → Perm l r → All WholeIndexed l → rejoined (build k l) ≡ rejoined (build k r)
unfolding build rejoined
build_any_nodes k {l} {r} p h = go k l r p h
  where
    go : (k : ℕ) (l r : List IndexedNode) → Perm l r → All WholeIndexed l → rejoined (build k l) ≡ rejoined (build k r)
    go zero l r p h = refl
    go (suc k) [] [] p h = refl
    go (suc k) [] (y ∷ r) p h = absurd (omega (arith, perm-length p))
    go (suc k) (x ∷ l) [] p h = absurd (omega (arith, perm-length p))
    go (suc k) (x ∷ []) (y ∷ []) p h = elim (perm_mem x p (inl refl)) [ inl e ↦ ap (λ (z : IndexedNode). rejoined (build (suc k) (z ∷ []))) e | inr m ↦ absurd m ]
    go (suc k) (x ∷ []) (y ∷ z ∷ r) p h = absurd (omega (arith, perm-length p))
    go (suc k) (x ∷ w ∷ l) (y ∷ []) p h = absurd (omega (arith, perm-length p))
    go (suc k) (x ∷ w ∷ l) (y ∷ z ∷ r) p h =
        let b = hull x.bounds (w ∷ l) in
        let c = hull y.bounds (z ∷ r) in
        let h' : All WholeIndexed (y ∷ z ∷ r) = perm-all WholeIndexed p h in
        let wb = hull-whole x.bounds (w ∷ l) h.0 h.1 in
        let wc = hull-whole y.bounds (z ∷ r) h'.0 h'.1 in
        let same = hull-alike x y (w ∷ l) (z ∷ r) p (fits_of (x ∷ w ∷ l) h) (fits_of (y ∷ z ∷ r) h') in
        let row : indexed_in_order (horizontal_wider b) (x ∷ w ∷ l) ≡ indexed_in_order (horizontal_wider c) (y ∷ z ∷ r) =
        indexed-one-order (horizontal_wider b) p (fits_of (x ∷ w ∷ l) h) ∙ ap (λ (o : Bool). indexed_in_order o (y ∷ z ∷ r)) (wider_alike b c wb wc same) in
        ap (λ (q : List IndexedNode). joined (rejoined (build k (take (length q / 2) q))) (rejoined (build k (drop (length q / 2) q)))) row

whole-indexed : (ns : List Node) → All FitNode ns → All WholeIndexed (map indexed ns)
unfolding indexed
whole-indexed [] h = tt
whole-indexed (n ∷ ns) h = (whole-node n h.0, whole-indexed ns h.1)

pub tree_any_nodes : (ns : List Node) → All FitNode ns → {l : List IndexedNode} → Perm l (map indexed ns) → rejoined (tree_of ns) ≡ rejoined (build (length ns) l)
unfolding tree_of
tree_any_nodes ns h {l} q =
    let given = perm-map indexed (nodes-in_order-perm ns) in
    let whole : All WholeIndexed (map indexed (nodes_in_order ns)) = perm-all WholeIndexed (perm_sym given) (whole-indexed ns h) in
    build_any_nodes (length ns) (via given (perm_sym q)) whole
