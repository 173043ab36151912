-- A call whose checks have passed: what is known of its lists, what the scratch holds, and that the walks in it are the definition's. Assumes nothing.
use Rattle.std.specs.Prelude.{Result, Ok, Err, IfErr}
use mathlib.Core.Path.{◌≡◌, refl, sym, ap, subst, ◌∙◌}
use mathlib.Core.Bool.{false}
use mathlib.Core.List.{List, [], ◌∷◌, ◌++◌, map, map-map}
use Prim.Native.Nat.{ℕ, ◌+◌, ◌-◌, ◌*◌, ◌≤◌, ◌<◌}
use native.Mathlib.Omega.{arith}
use borrow.Author.Tests.{ltb-false}
use borrow.Rule.Slice.PartMut.{mid_of, put_mid, post_of, same_len_mid, mid_len, take_put}
use lib.Ieee.{Float}
use lib.ListN.{length, get_or, take, drop, length-drop}
use lib.Seq.{get_or-take, take_at, drop_at, take_all, length-take-le, drop-drop, take-take}
use Rattle.laws.specs.Lists.{All}
use Rattle.laws.specs.Charged.{free, after, runs}
use Rattle.laws.specs.Sort.{sort_by}
use Rattle.laws.specs.Inner.Allowance.{within, reply}
use Rattle.laws.specs.Perm.{Perm}
use Rattle.laws.proofs.Perms.{perm-eq}
use Rattle.laws.proofs.Places.{all-at}
use Rattle.laws.proofs.Parts.{tail_lent, part_same}
use Rattle.laws.proofs.Runs.{within-free}
use Rattle.sorting.specs.Inner.Sorted.{up_to}
use Rattle.sorting.proofs.Entries.{length-up_to, up_to-placed}
use Rattle.drawing.specs.declared.refusal.Refusal.{Refusal}
use Rattle.drawing.specs.declared.refusal.Refusal.TheVariants.{WorkLimitExceeded}
use Rattle.drawing.specs.Refusals.{first_of}
use Rattle.drawing.specs.Entries.{Segment, Node, Exemption, SegmentColumns, NodeColumns, ExemptionColumns, segments, nodes, exemptions}
use Rattle.drawing.specs.Inner.Entries.{segment_at, node_at}
use Rattle.drawing.specs.Inner.Lengths.{SegmentsAgree, NodesAgree, ExemptionsAgree}
use Rattle.drawing.specs.Conditions.{short_scratch}
use Rattle.drawing.specs.Checks.{list_conditions}
use Rattle.drawing.specs.Orders.{segments_in_order, nodes_in_order}
use Rattle.drawing.proofs.EntryLaws.{length-segments, length-nodes, segments-at, nodes-at}
use Rattle.drawing.proofs.FirstRefusal.{passed_head, few, segments-agree, nodes-agree}
use Rattle.drawing.specs.Held.{FitSegment}
use Rattle.clearance.specs.declared.visit.Walking.{Walking}
use Rattle.clearance.specs.Conditions.{clearance_conditions}
use Rattle.clearance.specs.Figures.{Figures}
use Rattle.clearance.specs.Tree.{indexed, Tree, empty, build, tree_of}
use Rattle.clearance.specs.Walk.{walk, no_figures, walk_all}
use Rattle.clearance_call.specs.Inner.LeafOrder.{indexed_at}
use Rattle.clearance_call.specs.Inner.Tables.{SegmentsOrdered}
use Rattle.clearance_call.specs.Inner.Stored.{stored_tree, TreeStored}
use Rattle.clearance_call.specs.Inner.Nested.{Nested}
use Rattle.exemptions.specs.Inner.Exempting.{unpacked, Holds, Gathered}
use Rattle.clearance_call.specs.Inner.Marks.{Grouped}
use Rattle.clearance.specs.Inner.State.{outcome_of, at_start, Answers}
use Rattle.clearance_call.specs.Inner.Walking.{Part, HoldsCount, SegmentPlaces, all_walks}
use Rattle.clearance.specs.Answer.{accepted, clearance_answer}
use Rattle.drawing.proofs.Fit.{FitNode}
use Rattle.drawing.specs.Inner.LeastFloats.{gap_of_float}
use Rattle.boxes.proofs.BoxLaws.{fit-segment}
use Rattle.clearance.proofs.StateLaws.{answers-reply}
use Rattle.clearance.specs.declared.report.EdgeNodeClearance.{EdgeNodeClearance}
use Rattle.clearance.proofs.Answers.{Lent, passes, fit_call}
use Rattle.clearance.proofs.WithinAllowance.{reply-within}
use Rattle.clearance.proofs.TreeLaws.{FitIndexed, indexed-fit}
use Rattle.exemptions.proofs.ExemptLaws.{exemptions-agree}
use Rattle.clearance.proofs.WalkSteps.{walk-empty}
use Rattle.clearance.proofs.UnionTrees.{rejoined, walk-all_rejoined}
use Rattle.clearance_call.proofs.LeafTrees.{build_over}
use Rattle.clearance.proofs.NodeOrder.{tree_any_nodes}
use Rattle.clearance_call.proofs.NestedTrees.{nested-tree}
use Rattle.clearance_call.proofs.TableLaws.{all-places}

-- ---- what holds of the lists after the checks
pub record Sizes (s : SegmentColumns) (n : NodeColumns) (e : ExemptionColumns) (words : ℕ) : Type 0 where
  pub segments : SegmentsAgree s
  pub nodes : NodesAgree n
  pub exemptions : ExemptionsAgree e
  pub few-segments : length s.net ≤ 4096
  pub few-nodes : length n.id ≤ 4096
  pub few-exemptions : length e.net ≤ 4096
  pub room : 32 * (length s.net + length n.id) + 64 ≤ words

long-scratch : (words a b : ℕ) → short_scratch words a b ≡ false → 32 * (a + b) + 64 ≤ words
unfolding short_scratch
long-scratch words a b h = ltb-false words (32 * (a + b) + 64) h

pub sizes : (s : SegmentColumns) (n : NodeColumns) (e : ExemptionColumns) (t : Float) (words : ℕ) → passes s n e t words → Sizes s n e words
unfolding clearance_conditions list_conditions
sizes s n e t words h =
    let a = passed_head _ _ _ h in
    let b = passed_head _ _ _ a.1 in
    let c = passed_head _ _ _ b.1 in
    let d = passed_head _ _ _ c.1 in
    let f = passed_head _ _ _ d.1 in
    let g = passed_head _ _ _ f.1 in
    let w = passed_head _ _ _ g.1 in
    record { segments = segments-agree s a.0; nodes = nodes-agree n b.0; exemptions = exemptions-agree e c.0; few-segments = few _ d.0; few-nodes = few _ f.0; few-exemptions = few _ g.0; room = long-scratch words _ _ w.0 }

-- ---- no nodes: no tree to walk
runs-empty : (ex : List Exemption) (t : ℕ → Float) (g : Figures) (ss : List Segment) → runs (λ h s. walk ex (t s.net) s empty h) g ss ≡ free g
unfolding runs
runs-empty ex t g [] = refl
runs-empty ex t g (s ∷ ss) =
    let rest = runs-empty ex t g ss in
    (λ i. after (walk-empty ex (t s.net) s g i) (λ h. runs (λ f r. walk ex (t r.net) r empty f) h ss)) ∙ (λ i. record { value = (rest i).value; cost = 0 + (rest i).cost })

no_tree : (ns : List Node) → length ns ≡ 0 → tree_of ns ≡ empty
unfolding tree_of build
no_tree ns h = ap (λ (k : ℕ). build k (map indexed (nodes_in_order ns))) h

pub walked_none : (ex : List Exemption) (t : ℕ → Float) (ss : List Segment) (n : NodeColumns) → NodesAgree n → length n.id ≡ 0 → (allowance : ℕ) (state : Walking) → state ≡ at_start allowance
    → outcome_of (Ok state) ≡ within allowance (walk_all ex t ss (nodes n))
unfolding gap_of_float outcome_of walk_all
walked_none ex t ss n a h allowance state e =
    let tree = no_tree (nodes n) (length-nodes n a ∙ h) in
    rw e (sym (ap (within allowance) (ap (λ (z : Tree). runs (λ g s. walk ex (t s.net) s z g) no_figures (segments_in_order ss)) tree ∙ runs-empty ex t no_figures (segments_in_order ss)) ∙ within-free allowance no_figures))

-- ---- no segments: nothing to walk
no_entries : {A : Type 0} (l : List A) → length l ≡ 0 → l ≡ []
no_entries [] h = refl
no_entries (x ∷ l) h = absurd (omega arith)

pub walked_no_segment : (ex : List Exemption) (t : ℕ → Float) (s : SegmentColumns) (ns : List Node) → SegmentsAgree s → length s.net ≡ 0 → (allowance : ℕ) (state : Walking) → state ≡ at_start allowance
    → outcome_of (Ok state) ≡ within allowance (walk_all ex t (segments s) ns)
unfolding gap_of_float outcome_of walk_all segments_in_order sort_by runs
walked_no_segment ex t s ns a h allowance state e =
    let none = no_entries (segments s) (length-segments s a ∙ h) in
    rw e (sym (ap (λ (l : List Segment). within allowance (walk_all ex t l ns)) none ∙ within-free allowance no_figures))

-- ---- the tree in the scratch is the definition's, with the union of the children's boxes at each branch
nodes-placed : (n : NodeColumns) → NodesAgree n → map (indexed_at n) (up_to (length n.id)) ≡ map indexed (nodes n)
nodes-placed n a = sym (map-map indexed (node_at n) (up_to (length n.id))) ∙ ap (map indexed) (up_to-placed (nodes n) (node_at n) (length n.id) (length-nodes n a) (nodes-at n a (node_at n 0)))

pub grown_tree : (n : NodeColumns) (g : List ℕ) → NodesAgree n → All FitNode (nodes n) → TreeStored n g → stored_tree (length n.id) (drop (11 * length n.id) g) 0 (length n.id) ≡ rejoined (tree_of (nodes n))
grown_tree n g a f w =
    let m = length n.id in
    let fitting : All FitIndexed (map (indexed_at n) (up_to m)) = subst (All FitIndexed) (sym (nodes-placed n a)) (indexed-fit (nodes n) f) in
    w.tree m (omega arith)
    ∙ sym (build_over n w.table_across w.table_down (record { across = w.across; down = w.down }) m (up_to m) (omega (arith, length-up_to m)) (all-places m) fitting)
    ∙ sym (tree_any_nodes (nodes n) f (perm-eq (nodes-placed n a)) ∙ ap (λ (k : ℕ). rejoined (build k (map (indexed_at n) (up_to m)))) (length-nodes n a))

-- ---- each segment of a fit list is fit
segment-fit : (s : SegmentColumns) → SegmentsAgree s → All FitSegment (segments s) → (i : ℕ) → i < length s.net → FitSegment (segment_at s i)
segment-fit s a fs i h = let e = length-segments s a in subst FitSegment (segments-at s a (segment_at s 0) i h) (all-at FitSegment (segment_at s 0) (segments s) fs i (omega arith))

-- the exemptions as they are lent, in a slice of their own
module _ (e : ExemptionColumns) (p₀ packed : List ℕ) (g : Gathered e p₀ packed) where
  abbrev pub lent : List ℕ
  lent = mid_of 0 (length e.net - 0) packed

  pub lent-length : length lent ≡ length e.net
  lent-length = length-take-le (length e.net - 0) packed (omega (arith, g.holds.rising.room, g.count)) ∙ (let k : length e.net - 0 ≡ length e.net = omega arith in k)

  pub held : Holds lent (exemptions e)
  held = record {
    rising = record { room = omega (arith, lent-length, g.count); order = λ i j a b h. rw (get_or-take (length e.net - 0) packed i 0 (omega (arith, g.count)), get_or-take (length e.net - 0) packed j 0 (omega (arith, g.count))) (g.holds.rising.order i j a b h) };
    same = subst (λ (l : List ℕ). Perm (map unpacked l) (exemptions e)) (sym (take-take (length (exemptions e)) (length e.net - 0) packed (omega (arith, g.count)))) g.holds.same;
  }

  pub held-count : length (exemptions e) ≡ length lent
  held-count = g.count ∙ sym lent-length

  pub held_of : HoldsCount lent (length lent)
  held_of = record { ex = exemptions e; holds = held; count = held-count }

-- the ids in order, in a slice of their own
grouped_front : (ids groups w : List ℕ) (m : ℕ) → Grouped ids groups w m → Grouped (take m ids) groups w m
grouped_front ids groups w m b = record {
  rising = record { room = omega (arith, length-take-le m ids b.rising.room); order = λ i j p q h. rw (get_or-take m ids i 0 (omega arith), get_or-take m ids j 0 h) (b.rising.order i j p q h) };
  few = b.few;
  whole = b.whole;
  first = λ j h. let f = b.first j h in record { from = f.from; to = f.to; below = λ i p q. rw (get_or-take m ids i 0 (omega (arith, f.to))) (f.below i p q); above = λ i p q. rw (get_or-take m ids i 0 q) (f.above i p q) };
  there = λ j h. let t = b.there j h in (t.0, rw (get_or-take m ids (get_or groups j 0) 0 t.0) t.1);
}

-- ---- the scratch: the indices of the segments in order, and after the six words for each segment the twenty for each node
module _ (s : SegmentColumns) (n : NodeColumns) (e : ExemptionColumns) (words : ℕ) (z : Sizes s n e words) (s₀ s₁ : List ℕ) (long : length s₀ ≡ words) (ord : SegmentsOrdered s s₀ s₁) where
  abbrev pub m : ℕ
  m = length n.id

  abbrev pub first : ℕ
  first = 6 * length s.net

  abbrev pub last : ℕ
  last = first + 20 * m

  inside : last ≤ length s₁
  inside = omega (arith, ord.same, z.room)

  pub part-long : length (mid_of first (last - first) s₁) ≡ 20 * m
  part-long = mid_len first last s₁ inside ∙ (let f : last - first ≡ 20 * m = omega arith in f)

  module _ (g : List ℕ) (kept : length g ≡ length (mid_of first (last - first) s₁)) where
    abbrev pub s₂ : List ℕ
    s₂ = put_mid first (last - first) s₁ g

    g-long : length g ≡ 20 * m
    g-long = kept ∙ part-long

    pub all-long : length s₂ ≡ words
    all-long = same_len_mid first (last - first) s₁ g kept ∙ ord.same ∙ long

    -- what was prepared, from its word j on
    prepared : (j : ℕ) → j ≤ 20 * m → mid_of (first + j) (last - (first + j)) s₂ ≡ drop j g
    prepared j h =
        let rest = g ++ post_of first (last - first) s₁ in
        let k : last - (first + j) ≡ 20 * m - j = omega arith in
        let l = g-long in
        ap (λ (x : ℕ). take x (drop (first + j) s₂)) k
        ∙ ap (take (20 * m - j)) (sym (drop-drop j first s₂) ∙ ap (drop j) (drop_at (take first s₁) rest first (length-take-le first s₁ (omega (arith, inside)))))
        ∙ part_same j (20 * m - j) (20 * m) rest g (take_at g (post_of first (last - first) s₁) (20 * m) g-long ∙ sym (take_all (20 * m) g (omega arith))) (omega arith)
        ∙ take_all (20 * m - j) (drop j g) (simp length-drop (omega arith))

    abbrev pub tree : List ℕ
    tree = mid_of (first + 11 * m) (last - (first + 11 * m)) s₂

    tree-words : tree ≡ drop (11 * m) g
    tree-words = prepared (11 * m) (omega arith)

    pub tree-part : 1 ≤ m → Part tree 0 m
    tree-part h = record { some = h; inside = rw tree-words (simp length-drop (let l = g-long in omega arith)) }

    -- the ids in order, and the leaves' groups
    abbrev pub groups : List ℕ
    groups = mid_of (first + m) (last - (first + m)) s₂

    abbrev pub ids : List ℕ
    ids = mid_of first (first + m - first) s₂

    ids-words : ids ≡ take m g
    ids-words =
        let k : first + m - first ≡ m = omega arith in
        let f : first ≡ first + 0 = omega arith in
        let whole : mid_of first (last - first) s₂ ≡ g = ap (λ (x : ℕ). mid_of x (last - x) s₂) f ∙ prepared 0 (omega arith) in
        ap (λ (x : ℕ). take x (drop first s₂)) k ∙ sym (take-take m (last - first) (drop first s₂) (omega arith)) ∙ ap (take m) whole

    pub ids-long : length ids ≡ m
    ids-long = ap length ids-words ∙ length-take-le m g (let l = g-long in omega arith)

    pub leaves_grouped : (k : ℕ) → (0 < k → Grouped g (drop m g) (drop (11 * m) g) m) → 0 < k → Grouped ids groups tree m
    leaves_grouped k grouped some = rw (ids-words, prepared m (omega arith), tree-words) (grouped_front g (drop m g) (drop (11 * m) g) m (grouped some))

    pub groups_long : length tree ≤ 9 * length groups
    groups_long = rw (prepared m (omega arith), tree-words) (simp length-drop (let l = g-long in omega arith))

    turns : take (length s.net) (mid_of 0 (length s₂ - 0) s₂) ≡ take (length s.net) s₁
    turns =
        ap (take (length s.net)) (tail_lent 0 s₂)
        ∙ sym (take-take (length s.net) first s₂ (omega arith))
        ∙ ap (take (length s.net)) (take_put first (last - first) s₁ g (omega (arith, inside)))
        ∙ take-take (length s.net) first s₁ (omega arith)

    pub in_turns : All FitSegment (segments s) → SegmentPlaces (mid_of 0 (length s₂ - 0) s₂) s
    in_turns fs = record {
      agree = z.segments;
      inside = rw (tail_lent 0 s₂) (let a = all-long in omega (arith, z.room));
      small = subst (All (λ i. i < length s.net)) (sym turns) ord.small;
      fit = λ i h. fit-segment (segment_at s i) (segment-fit s z.segments fs i h);
    }

    -- the box of a branch holds the boxes below it
    pub tree-nested : All FitNode (nodes n) → TreeStored n g → 1 ≤ m → Nested (stored_tree m tree 0 m)
    tree-nested f w h =
        let e = length-nodes n z.nodes in
        subst Nested (sym (ap (λ (l : List ℕ). stored_tree m l 0 m) tree-words ∙ grown_tree n g z.nodes f w)) (nested-tree (nodes n) (omega arith) f)

    pub walked_all : (t : ℕ → Float) → All FitSegment (segments s) → All FitNode (nodes n) → TreeStored n g → (allowance : ℕ) (r : Result Walking Refusal)
        → outcome_of r ≡ within allowance (all_walks (exemptions e) t tree (length ids) (mid_of 0 (length s₂ - 0) s₂) s)
        → outcome_of r ≡ within allowance (walk_all (exemptions e) t (segments s) (nodes n))
    walked_all t fs f w allowance r h =
        let ex = exemptions e in
        let grown = ap (λ (l : List ℕ). stored_tree m l 0 m) tree-words ∙ grown_tree n g z.nodes f w in
        let line = ap (map (segment_at s)) turns ∙ ord.ordered in
        h
        ∙ ap (λ (x : ℕ). within allowance (all_walks ex t tree x (mid_of 0 (length s₂ - 0) s₂) s)) ids-long
        ∙ (λ i. within allowance (runs (λ a b. walk ex (t b.net) b (grown i) a) no_figures (line i)))
        ∙ ap (within allowance) (walk-all_rejoined ex t (nodes n) f (segments s) fs)

-- ---- the call
pub refused-answer : (s : SegmentColumns) (n : NodeColumns) (e : ExemptionColumns) (t : Float) (allowance words : ℕ) (c : Result Unit Refusal) (r : Refusal) → c ≡ first_of (clearance_conditions s n e t words) → c ≡ Err r → Err r ≡ clearance_answer s n e t allowance words
unfolding clearance_answer
refused-answer s n e t allowance words c r h g = sym (rw (sym h ∙ g))

pub passed_answer : (s : SegmentColumns) (n : NodeColumns) (e : ExemptionColumns) (t : Float) (allowance words : ℕ) → passes s n e t words → Lent s n t → (w : Result Walking Refusal) → outcome_of w ≡ within allowance (walk_all (exemptions e) (λ net. t) (segments s) (nodes n)) → IfErr w (λ r. r ≡ WorkLimitExceeded)
    → (a : Result EdgeNodeClearance Refusal) → Answers w allowance a → a ≡ clearance_answer s n e t allowance words
unfolding clearance_answer
passed_answer s n e t allowance words p lent w h spent a k =
    let f = fit_call s n e t words lent p in
    rw p (answers-reply w allowance a spent k ∙ ap (reply accepted (Err WorkLimitExceeded) allowance) h ∙ reply-within (exemptions e) (λ net. t) (segments s) (nodes n) (λ net. f.threshold-fit) f.segments-fit f.nodes-fit allowance)
