-- A test on the entry at each index of columns is one on the entries. Assumes nothing.
use mathlib.Core.Path.{◌≡◌, sym, ap, ◌∙◌}
use mathlib.Core.Bool.{Bool, ◌||◌}
use mathlib.Core.List.{List, ◌∷◌}
use Prim.Native.Nat.{ℕ, zero, suc, ◌+◌, ◌<◌}
use native.Mathlib.Numerals.{add-one}
use native.Mathlib.Omega.{arith}
use lib.ListN.{length, get_or, drop}
use lib.Seq.{drop-cons}
use Rattle.std.specs.List.{list_any, range_with_len}
use Rattle.laws.specs.Lists.{some_of}
use Rattle.laws.proofs.ListLaws.{scan_end}
use Rattle.drawing.specs.Entries.{Segment, Node, SegmentColumns, NodeColumns, segments, nodes}
use Rattle.drawing.specs.Inner.Entries.{segment_at, node_at}
use Rattle.drawing.specs.Inner.Lengths.{SegmentsAgree, NodesAgree}
use Rattle.drawing.proofs.EntryLaws.{length-segments, segments-at, length-nodes, nodes-at}

-- f gives the entry at each index of l
scanned : {A : Type 0} (p : A → Bool) (l : List A) (f : ℕ → A) → ((i : ℕ) → i < length l → get_or l i (f i) ≡ f i) → (a n : ℕ) → a + n ≡ length l → list_any (λ (i : ℕ). p (f i)) (range_with_len a n) ≡ some_of p (drop a l)
unfolding some_of
scanned p l f e a zero h = sym (scan_end p l a (omega arith))
scanned p l f e a (suc n) h =
    let first : drop a l ≡ f a ∷ drop (a + 1) l = drop-cons l a (f a) (omega arith) ∙ (λ j. e a (omega (arith, h)) j ∷ drop (sym (add-one a) j) l) in
    ap (λ (r : Bool). p (f a) || r) (scanned p l f e (a + 1) n (omega arith)) ∙ sym (ap (some_of p) first)

pub segments_scanned : (p : Segment → Bool) (c : SegmentColumns) → SegmentsAgree c → list_any (λ (i : ℕ). p (segment_at c i)) (range_with_len 0 (length c.net)) ≡ some_of p (segments c)
segments_scanned p c a =
    let n : length (segments c) ≡ length c.net = length-segments c a in
    scanned p (segments c) (segment_at c) (λ i h. segments-at c a (segment_at c i) i (omega (arith, n))) 0 (length c.net) (omega (arith, n))

pub nodes_scanned : (p : Node → Bool) (c : NodeColumns) → NodesAgree c → list_any (λ (i : ℕ). p (node_at c i)) (range_with_len 0 (length c.id)) ≡ some_of p (nodes c)
nodes_scanned p c a =
    let n : length (nodes c) ≡ length c.id = length-nodes c a in
    scanned p (nodes c) (node_at c) (λ i h. nodes-at c a (node_at c i) i (omega (arith, n))) 0 (length c.id) (omega (arith, n))
