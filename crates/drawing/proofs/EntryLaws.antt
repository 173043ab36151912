-- The entries of columns of equal length, by index. Assumes nothing.
use mathlib.Core.Path.{◌≡◌, refl, ap, ◌∙◌}
use mathlib.Core.List.{List, [], ◌∷◌, map}
use Prim.Native.Nat.{ℕ, zero, suc, ◌<◌}
use native.Mathlib.Nat.{not-suc-le-zero, le_of_suc-le-suc}
use native.Mathlib.Omega.{arith}
use lib.Ieee.{Float, nan}
use lib.ListN.{length, length-map, get_or}
use Rattle.drawing.specs.Entries.{Segment, Node, SegmentColumns, NodeColumns, ExemptionColumns, segments_of, nodes_of, exemptions_of, as_lent, as_taken, segments, nodes, exemptions}
use Rattle.drawing.specs.Inner.Entries.{node_at, segment_at}
use Rattle.drawing.specs.Inner.Lengths.{SegmentsAgree, NodesAgree, ExemptionsAgree}

same : {m n : ℕ} → suc m ≡ suc n → m ≡ n
same e = omega arith

segments-length : (ns os : List ℕ) (fs ss es : List Float) → length os ≡ length ns → length fs ≡ length ns → length ss ≡ length ns → length es ≡ length ns → length (segments_of ns os fs ss es) ≡ length ns
unfolding segments_of
segments-length [] os fs ss es p q r t = refl
segments-length (n ∷ ns) [] fs ss es p q r t = absurd (omega arith)
segments-length (n ∷ ns) (o ∷ os) [] ss es p q r t = absurd (omega arith)
segments-length (n ∷ ns) (o ∷ os) (f ∷ fs) [] es p q r t = absurd (omega arith)
segments-length (n ∷ ns) (o ∷ os) (f ∷ fs) (s ∷ ss) [] p q r t = absurd (omega arith)
segments-length (n ∷ ns) (o ∷ os) (f ∷ fs) (s ∷ ss) (e ∷ es) p q r t = ap suc (segments-length ns os fs ss es (same p) (same q) (same r) (same t))

segments_get : (ns os : List ℕ) (fs ss es : List Float) → length os ≡ length ns → length fs ≡ length ns → length ss ≡ length ns → length es ≡ length ns → (z : Segment) (i : ℕ) → i < length ns
    → get_or (segments_of ns os fs ss es) i z ≡ record { net = get_or ns i 0; orientation = get_or os i 0; fixed = get_or fs i nan; start = get_or ss i nan; end = get_or es i nan }
unfolding segments_of
segments_get [] os fs ss es p q r t z i h = absurd (not-suc-le-zero h)
segments_get (n ∷ ns) [] fs ss es p q r t z i h = absurd (omega arith)
segments_get (n ∷ ns) (o ∷ os) [] ss es p q r t z i h = absurd (omega arith)
segments_get (n ∷ ns) (o ∷ os) (f ∷ fs) [] es p q r t z i h = absurd (omega arith)
segments_get (n ∷ ns) (o ∷ os) (f ∷ fs) (s ∷ ss) [] p q r t z i h = absurd (omega arith)
segments_get (n ∷ ns) (o ∷ os) (f ∷ fs) (s ∷ ss) (e ∷ es) p q r t z zero h = refl
segments_get (n ∷ ns) (o ∷ os) (f ∷ fs) (s ∷ ss) (e ∷ es) p q r t z (suc i) h = segments_get ns os fs ss es (same p) (same q) (same r) (same t) z i (le_of_suc-le-suc h)

length-lent : (c : SegmentColumns) → SegmentsAgree c → length (as_lent c) ≡ length c.net
length-lent c a = segments-length c.net c.orientation c.fixed c.start c.end a.orientation a.fixed a.start a.end

taken_get : (l : List Segment) (y z : Segment) (i : ℕ) → i < length l → get_or (map as_taken l) i z ≡ as_taken (get_or l i y)
taken_get [] y z i h = absurd (not-suc-le-zero h)
taken_get (s ∷ l) y z zero h = refl
taken_get (s ∷ l) y z (suc i) h = taken_get l y z i (le_of_suc-le-suc h)

-- ---- as many are taken as are lent, each at its index
pub length-segments : (c : SegmentColumns) → SegmentsAgree c → length (segments c) ≡ length c.net
unfolding segments
length-segments c a = length-map (as_lent c) as_taken ∙ length-lent c a

pub segments-at : (c : SegmentColumns) → SegmentsAgree c → (z : Segment) (i : ℕ) → i < length c.net → get_or (segments c) i z ≡ segment_at c i
unfolding segments
segments-at c a z i h =
    taken_get (as_lent c) z z i (omega (arith, length-lent c a))
    ∙ ap as_taken (segments_get c.net c.orientation c.fixed c.start c.end a.orientation a.fixed a.start a.end z i h)

nodes-length : (is : List ℕ) (xs ys ws hs : List Float) → length xs ≡ length is → length ys ≡ length is → length ws ≡ length is → length hs ≡ length is → length (nodes_of is xs ys ws hs) ≡ length is
unfolding nodes_of
nodes-length [] xs ys ws hs p q r t = refl
nodes-length (i ∷ is) [] ys ws hs p q r t = absurd (omega arith)
nodes-length (i ∷ is) (x ∷ xs) [] ws hs p q r t = absurd (omega arith)
nodes-length (i ∷ is) (x ∷ xs) (y ∷ ys) [] hs p q r t = absurd (omega arith)
nodes-length (i ∷ is) (x ∷ xs) (y ∷ ys) (w ∷ ws) [] p q r t = absurd (omega arith)
nodes-length (i ∷ is) (x ∷ xs) (y ∷ ys) (w ∷ ws) (h ∷ hs) p q r t = ap suc (nodes-length is xs ys ws hs (same p) (same q) (same r) (same t))

nodes_get : (is : List ℕ) (xs ys ws hs : List Float) → length xs ≡ length is → length ys ≡ length is → length ws ≡ length is → length hs ≡ length is → (z : Node) (k : ℕ) → k < length is
    → get_or (nodes_of is xs ys ws hs) k z ≡ record { id = get_or is k 0; x = get_or xs k nan; y = get_or ys k nan; width = get_or ws k nan; height = get_or hs k nan }
unfolding nodes_of
nodes_get [] xs ys ws hs p q r t z k b = absurd (not-suc-le-zero b)
nodes_get (i ∷ is) [] ys ws hs p q r t z k b = absurd (omega arith)
nodes_get (i ∷ is) (x ∷ xs) [] ws hs p q r t z k b = absurd (omega arith)
nodes_get (i ∷ is) (x ∷ xs) (y ∷ ys) [] hs p q r t z k b = absurd (omega arith)
nodes_get (i ∷ is) (x ∷ xs) (y ∷ ys) (w ∷ ws) [] p q r t z k b = absurd (omega arith)
nodes_get (i ∷ is) (x ∷ xs) (y ∷ ys) (w ∷ ws) (h ∷ hs) p q r t z zero b = refl
nodes_get (i ∷ is) (x ∷ xs) (y ∷ ys) (w ∷ ws) (h ∷ hs) p q r t z (suc k) b = nodes_get is xs ys ws hs (same p) (same q) (same r) (same t) z k (le_of_suc-le-suc b)

pub length-nodes : (c : NodeColumns) → NodesAgree c → length (nodes c) ≡ length c.id
length-nodes c a = nodes-length c.id c.x c.y c.width c.height a.x a.y a.width a.height

pub nodes-at : (c : NodeColumns) → NodesAgree c → (z : Node) (i : ℕ) → i < length c.id → get_or (nodes c) i z ≡ node_at c i
nodes-at c a z i h = nodes_get c.id c.x c.y c.width c.height a.x a.y a.width a.height z i h

exemptions-length : (ns ms : List ℕ) → length ms ≡ length ns → length (exemptions_of ns ms) ≡ length ns
unfolding exemptions_of
exemptions-length [] ms p = refl
exemptions-length (n ∷ ns) [] p = absurd (omega arith)
exemptions-length (n ∷ ns) (m ∷ ms) p = ap suc (exemptions-length ns ms (same p))

pub length-exemptions : (c : ExemptionColumns) → ExemptionsAgree c → length (exemptions c) ≡ length c.net
length-exemptions c a = exemptions-length c.net c.node a.node
