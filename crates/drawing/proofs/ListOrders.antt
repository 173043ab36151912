-- Sorting in the orders of SCOPE 9.4 gives one list for every order of the entries. Assumes nothing.
use mathlib.Core.Path.{◌≡◌, sym, ap, subst}
use mathlib.Core.List.{List, [], ◌∷◌}
use Prim.Native.Nat.{ℕ}
use native.Mathlib.Omega.{arith}
use lib.Ieee.{nan, lt}
use lib.ListN.{get_or}
use Rattle.laws.specs.Lists.{All}
use Rattle.laws.specs.Perm.{Perm}
use Rattle.laws.specs.Rows.{row_le}
use Rattle.laws.proofs.Places.{at_all}
use Rattle.laws.proofs.RowLaws.{row_antisym, by_rows}
use Rattle.laws.proofs.Sorting.{sort_same, sort_perm}
use Rattle.floats.specs.Values.{lesser_of, greater_of}
use Rattle.floats.proofs.Extremes.{picked}
use Rattle.floats.proofs.NumberKeys.{key-of-one}
use Rattle.drawing.specs.Entries.{Segment, Node, SegmentColumns, NodeColumns, as_taken, segments, nodes}
use Rattle.drawing.specs.Inner.Entries.{segment_at, node_at}
use Rattle.drawing.specs.Inner.Lengths.{SegmentsAgree, NodesAgree}
use Rattle.drawing.specs.Held.{Binary64, SegmentHeld, NodeHeld, SegmentsHeld, NodesHeld}
use Rattle.drawing.specs.Orders.{segment_row, node_row, segments_in_order, nodes_in_order}
use Rattle.drawing.proofs.EntryLaws.{length-segments, segments-at, length-nodes, nodes-at}

abbrev head : List ℕ → ℕ
head [] = 0
head (x ∷ l) = x

abbrev tail : List ℕ → List ℕ
tail [] = []
tail (x ∷ l) = l

pub segment-row-one : (s t : Segment) → SegmentHeld s → SegmentHeld t → segment_row s ≡ segment_row t → s ≡ t
unfolding segment_row
segment-row-one s t p q e =
    let a = ap head e in
    let b = ap (λ (l : List ℕ). head (tail l)) e in
    let c = key-of-one s.fixed t.fixed p.fixed q.fixed (ap (λ (l : List ℕ). head (tail (tail l))) e) in
    let d = key-of-one s.start t.start p.start q.start (ap (λ (l : List ℕ). head (tail (tail (tail l)))) e) in
    let f = key-of-one s.end t.end p.end q.end (ap (λ (l : List ℕ). head (tail (tail (tail (tail l))))) e) in
    λ i. record { net = a i; orientation = b i; fixed = c i; start = d i; end = f i }

pub node-row-one : (m n : Node) → NodeHeld m → NodeHeld n → node_row m ≡ node_row n → m ≡ n
unfolding node_row
node-row-one m n p q e =
    let a = ap head e in
    let b = key-of-one m.x n.x p.x q.x (ap (λ (l : List ℕ). head (tail l)) e) in
    let c = key-of-one m.y n.y p.y q.y (ap (λ (l : List ℕ). head (tail (tail l))) e) in
    let d = key-of-one m.width n.width p.width q.width (ap (λ (l : List ℕ). head (tail (tail (tail l)))) e) in
    let f = key-of-one m.height n.height p.height q.height (ap (λ (l : List ℕ). head (tail (tail (tail (tail l))))) e) in
    λ i. record { id = a i; x = b i; y = c i; width = d i; height = f i }

pub segments-one-order : {l r : List Segment} → Perm l r → All SegmentHeld l → segments_in_order l ≡ segments_in_order r
unfolding segments_in_order
segments-one-order p h = sort_same (λ a b. row_le (segment_row a) (segment_row b)) (by_rows segment_row) SegmentHeld (λ a b x y g k. segment-row-one a b x y (row_antisym (segment_row a) (segment_row b) g k)) p h

pub nodes-one-order : {l r : List Node} → Perm l r → All NodeHeld l → nodes_in_order l ≡ nodes_in_order r
unfolding nodes_in_order
nodes-one-order p h = sort_same (λ a b. row_le (node_row a) (node_row b)) (by_rows node_row) NodeHeld (λ a b x y g k. node-row-one a b x y (row_antisym (node_row a) (node_row b) g k)) p h

-- and they hold the same entries
pub segments-in_order-perm : (l : List Segment) → Perm (segments_in_order l) l
unfolding segments_in_order
segments-in_order-perm l = sort_perm (λ a b. row_le (segment_row a) (segment_row b)) l

pub nodes-in_order-perm : (l : List Node) → Perm (nodes_in_order l) l
unfolding nodes_in_order
nodes-in_order-perm l = sort_perm (λ a b. row_le (node_row a) (node_row b)) l

-- what holds at every index of lent columns holds of every entry
pub segments-all : (P : Segment → Type 0) (c : SegmentColumns) → SegmentsAgree c → ((i : ℕ) → P (segment_at c i)) → All P (segments c)
segments-all P c a h = at_all P (segment_at c 0) (segments c) (λ k b. subst P (sym (segments-at c a (segment_at c 0) k (omega (arith, length-segments c a)))) (h k))

-- the ends in rising order are values of binary64, as the ends are
pub taken_held : (s : Segment) → SegmentHeld s → SegmentHeld (as_taken s)
unfolding lesser_of greater_of
taken_held s h = record { fixed = h.fixed; start = picked Binary64 (lt s.end s.start) s.start s.end h.start h.end; end = picked Binary64 (lt s.end s.start) s.end s.start h.end h.start }

pub segments-held : (c : SegmentColumns) → SegmentsAgree c → ((i : ℕ) → Binary64 (get_or c.fixed i nan)) → ((i : ℕ) → Binary64 (get_or c.start i nan)) → ((i : ℕ) → Binary64 (get_or c.end i nan)) → SegmentsHeld c
segments-held c a f b e = segments-all SegmentHeld c a (λ i. taken_held _ (record { fixed = f i; start = b i; end = e i }))

pub nodes-held : (c : NodeColumns) → NodesAgree c → ((i : ℕ) → Binary64 (get_or c.x i nan)) → ((i : ℕ) → Binary64 (get_or c.y i nan)) → ((i : ℕ) → Binary64 (get_or c.width i nan)) → ((i : ℕ) → Binary64 (get_or c.height i nan)) → NodesHeld c
nodes-held c a x y w h = at_all NodeHeld (node_at c 0) (nodes c) (λ k b. subst NodeHeld (sym (nodes-at c a (node_at c 0) k (omega (arith, length-nodes c a)))) (record { x = x k; y = y k; width = w k; height = h k }))
