-- The tight pair: the pairs in turn with the best so far, which is the least of all in the end. Assumes nothing.
use Rattle.std.specs.Prelude.{Option, Some, None, Ok, Err}
use mathlib.Core.Path.{◌≡◌, refl, sym, ap, ◌∙◌, subst}
use mathlib.Core.Bool.{Bool, true, false, not, cond}
use mathlib.Core.List.{List, [], ◌∷◌, ◌++◌, append_assoc, append-nil, map}
use Prim.Native.Nat.{ℕ, zero, suc, ◌+◌, ◌*◌, ◌≤◌, ◌<◌, zero-le}
use native.Mathlib.Nat.{zero-mul}
use native.Mathlib.Numerals.{add-one}
use native.Mathlib.Omega.{arith}
use borrow.Author.Tests.{ltb-false, le-ltb}
use lib.Ieee.{Float, nan, inf, fin, up, down, lt}
use Rattle.std.specs.List.{slice_get}
use lib.ListN.{length, get_or, drop, drop_of_length-le}
use lib.Seq.{drop-cons}
use Rattle.laws.specs.Lists.{All, put, chosen}
use Rattle.laws.proofs.Tests.{clash}
use Rattle.laws.proofs.ListLaws.{all_append}
use Rattle.floats.specs.Values.{plus_zero, lesser_of}
use Rattle.floats.proofs.Rank.{sgn}
use Rattle.floats.proofs.Gaps.{Good}
use Rattle.drawing.specs.declared.refusal.Refusal.{Refusal}
use Rattle.drawing.specs.Entries.{Segment, Node, Exemption, SegmentColumns, NodeColumns, ExemptionColumns, segments, nodes, exemptions}
use Rattle.drawing.specs.Inner.Entries.{segment_at, node_at}
use Rattle.drawing.specs.Refusals.{first_of}
use Rattle.drawing.specs.Inner.Lengths.{SegmentsAgree, NodesAgree}
use Rattle.drawing.specs.Gaps.{least_gap, lesser_gap}
use Rattle.drawing.proofs.GapLaws.{least-none, least-one, least_join}
use Rattle.drawing.proofs.EntryLaws.{length-segments, segments-at, length-nodes, nodes-at}
use Rattle.boxes.specs.declared.aabb.Aabb.{Aabb}
use Rattle.exemptions.specs.declared.Range.{Range}
use Rattle.tight_pair.specs.declared.Best.{Best}
use Rattle.tight_pair.specs.declared.TightPair.{TightPair}
use Rattle.boxes.specs.Boxes.{node_box, segment_box, distance}
use Rattle.clearance.specs.Figures.{exempt, distances}
use Rattle.clearance.specs.Tree.{indexed}
use Rattle.exemptions.specs.Inner.Exempting.{Rising, Holds, Gathered, Own, Listed}
use Rattle.tight_pair.specs.Conditions.{tight_pair_conditions}
use Rattle.tight_pair.specs.Inner.Looking.{nearer, best_with, in_turn, look_nodes, look_segments}
use Rattle.tight_pair.specs.TightPair.{Tight, pair_if_any, tight_pair_answer, Answered}
use Rattle.drawing.specs.Held.{SegmentsHeld, NodesHeld, FitSegment}
use Rattle.drawing.proofs.Fit.{FitNode}
use Rattle.boxes.proofs.BoxLaws.{fit-node, fit-segment, distance_good}
use Rattle.boxes.proofs.AnyBoxes.{any_distance_good}
use Rattle.clearance.proofs.TreeLaws.{indexed-fit}
use Rattle.clearance.proofs.Distances.{distances_of, good_distances, distances_all, distances-all}
use Rattle.tight_pair.proofs.PairInput.{pair-segments, pair-nodes}

-- ---- one pair
module _ (d : Float) (p : TightPair) (b : Option Best) where
  pub not_nearer : (x : Bool) → nearer d b ≡ false → b ≡ best_with x d p b
  unfolding best_with
  not_nearer true e = refl
  not_nearer false e = rw e

  pub passed_by : (x : Bool) → x ≡ true → b ≡ best_with x d p b
  unfolding best_with
  passed_by x e = rw e

  pub taken : (x : Bool) → nearer d b ≡ true → x ≡ false → Some (record { distance = d; pair = p }) ≡ best_with x d p b
  unfolding best_with
  taken x e f = rw (f, e)

-- ---- entries in turn: the rest after i of them
module _ {A S : Type 0} (step : ℕ → A → S → S) (l : List A) (i : ℕ) (b : S) where
  -- z is the entry at position i
  turn_next : (z : A) → get_or l i z ≡ z → i < length l → in_turn step i (drop i l) b ≡ in_turn step (i + 1) (drop (i + 1) l) (step i z b)
  unfolding in_turn
  turn_next z e h = rw (drop-cons l i z h, e, add-one i)

  turn_end : length l ≤ i → in_turn step i (drop i l) b ≡ b
  unfolding in_turn
  turn_end h = rw (drop_of_length-le l {i = i} h)

-- ---- the nodes in turn, with one segment
abbrev node_step : List Exemption → ℕ → Aabb → ℕ → ℕ → Node → Option Best → Option Best
node_step ex net box i j n b = best_with (exempt ex net n.id) (distance box (node_box n)) (record { segment = i; node = j }) b

pub record NodesLooked (words : List ℕ) (r : Range) (box : Aabb) (i : ℕ) (c : NodeColumns) (b₀ : Option Best) (j : ℕ) (b : Option Best) : Type 0 where
  pub agree : NodesAgree c
  pub small : j ≤ length c.id
  pub left : (ex : List Exemption) (net : ℕ) → Listed words ex net r → look_nodes ex net box i (nodes c) b₀ ≡ in_turn (node_step ex net box i) j (drop j (nodes c)) b

module _ (words : List ℕ) (r : Range) (box : Aabb) (i : ℕ) (c : NodeColumns) (b₀ : Option Best) where
  pub nodes-start : NodesAgree c → NodesLooked words r box i c b₀ 0 b₀
  unfolding look_nodes
  nodes-start a = record { agree = a; small = omega arith; left = λ ex net l. refl }

  module _ (j : ℕ) (b : Option Best) (p : NodesLooked words r box i c b₀ j b) where
    pub nodes_next : j < length c.id → (d : Float) → d ≡ distance box (node_box (node_at c j)) → (b' : Option Best)
        → ((ex : List Exemption) (net : ℕ) → Listed words ex net r → b' ≡ best_with (exempt ex net (get_or c.id j 0)) d (record { segment = i; node = j }) b) → NodesLooked words r box i c b₀ (j + 1) b'
    nodes_next h d e b' next = record {
      agree = p.agree;
      small = omega arith;
      left = λ ex net l.
          p.left ex net l
          ∙ turn_next (node_step ex net box i) (nodes c) j b (node_at c j) (nodes-at c p.agree (node_at c j) j h) (omega (arith, length-nodes c p.agree))
          ∙ ap (in_turn (node_step ex net box i) (j + 1) (drop (j + 1) (nodes c))) (sym (next ex net l ∙ ap (λ (f : Float). best_with (exempt ex net (get_or c.id j 0)) f (record { segment = i; node = j }) b) e));
    }

    pub nodes-end : length c.id ≤ j → (ex : List Exemption) (net : ℕ) → Listed words ex net r → b ≡ look_nodes ex net box i (nodes c) b₀
    nodes-end h ex net l = sym (p.left ex net l ∙ turn_end (node_step ex net box i) (nodes c) j b (omega (arith, length-nodes c p.agree)))

-- ---- no distance is below 0, so nothing is nearer than a pair at distance 0
none-nearer : (d m : Float) → sgn d ≡ false → lt plus_zero m ≡ false → lt d m ≡ false
unfolding lt sgn
none-nearer nan m p e = refl
none-nearer (inf s) nan p e = refl
none-nearer (inf s) (inf t) p e = rw p
none-nearer (inf s) (fin t n d) p e = p
none-nearer (fin s m k) nan p e = refl
none-nearer (fin s m k) (inf t) p e = e
none-nearer (fin s m k) (fin true n d) p e = rw p
none-nearer (fin s m k) (fin false n d) p e = rw p (le-ltb (m * up k * down d) (n * up d * down k) (nothing (n * up d) (down k) (m * up k * down d) (ltb-false (0 * 1 * down d) (n * up d * 1) e)))
  where
    nothing : (a b c : ℕ) → a * 1 ≤ 0 * 1 * down d → a * b ≤ c
    nothing a b c h = let z : a ≡ 0 = omega (arith, zero-mul (down d)) in rw z (rw (zero-mul b) zero-le)

still_best : (b : Option Best) → nearer plus_zero b ≡ false → (d : Float) → Good d → nearer d b ≡ false
unfolding nearer
still_best None e d p = clash true refl e
still_best (Some m) e d p = none-nearer d m.distance p.plus e

nodes_still : (ex : List Exemption) (net : ℕ) (box : Aabb) (i : ℕ) (b : Option Best) → nearer plus_zero b ≡ false → (ns : List Node) (j : ℕ) → in_turn (node_step ex net box i) j ns b ≡ b
unfolding in_turn
nodes_still ex net box i b e [] j = refl
nodes_still ex net box i b e (n ∷ ns) j =
    ap (in_turn (node_step ex net box i) (suc j) ns) (sym (not_nearer (distance box (node_box n)) (record { segment = i; node = j }) b (exempt ex net n.id) (still_best b e (distance box (node_box n)) (any_distance_good box (node_box n)))))
    ∙ nodes_still ex net box i b e ns (suc j)

-- ---- the segments in turn
abbrev segment_step : List Exemption → List Node → ℕ → Segment → Option Best → Option Best
segment_step ex ns i s b = look_nodes ex s.net (segment_box s) i ns b

segments_still : (ex : List Exemption) (ns : List Node) (b : Option Best) → nearer plus_zero b ≡ false → (ss : List Segment) (i : ℕ) → in_turn (segment_step ex ns) i ss b ≡ b
unfolding in_turn look_nodes
segments_still ex ns b e [] i = refl
segments_still ex ns b e (s ∷ ss) i = ap (in_turn (segment_step ex ns) (suc i) ss) (nodes_still ex s.net (segment_box s) i b e ns 0) ∙ segments_still ex ns b e ss (suc i)

pub record SegmentsLooked (words : List ℕ) (k : ℕ) (s : SegmentColumns) (ns : List Node) (i : ℕ) (b : Option Best) : Type 0 where
  pub agree : SegmentsAgree s
  pub small : i ≤ length s.net
  pub left : (ex : List Exemption) → Holds words ex → k ≡ length ex → look_segments ex (segments s) ns ≡ in_turn (segment_step ex ns) i (drop i (segments s)) b

module _ (words : List ℕ) (k : ℕ) (s : SegmentColumns) (ns : List Node) where
  pub segments-start : SegmentsAgree s → SegmentsLooked words k s ns 0 None
  unfolding look_segments
  segments-start a = record { agree = a; small = omega arith; left = λ ex h e. refl }

  module _ (i : ℕ) (b : Option Best) (p : SegmentsLooked words k s ns i b) where
    pub segments_next : i < length s.net → (r : Range) → (Rising words k → Own words k (get_or s.net i 0) r) → (box : Aabb) → box ≡ segment_box (segment_at s i) → (b' : Option Best)
        → ((ex : List Exemption) (net : ℕ) → Listed words ex net r → b' ≡ look_nodes ex net box i ns b) → SegmentsLooked words k s ns (i + 1) b'
    segments_next h r o box g b' next = record {
      agree = p.agree;
      small = omega arith;
      left = λ ex w e.
          let own = subst (λ (m : ℕ). Own words m (get_or s.net i 0) r) e (o (subst (Rising words) (sym e) w.rising)) in
          p.left ex w e
          ∙ turn_next (segment_step ex ns) (segments s) i b (segment_at s i) (segments-at s p.agree (segment_at s i) i h) (omega (arith, length-segments s p.agree))
          ∙ ap (in_turn (segment_step ex ns) (i + 1) (drop (i + 1) (segments s))) (sym (next ex (get_or s.net i 0) (record { holds = w; places = own }) ∙ ap (λ (f : Aabb). look_nodes ex (get_or s.net i 0) f i ns b) g));
    }

    pub segments_stop : nearer plus_zero b ≡ false → (ex : List Exemption) → Holds words ex → k ≡ length ex → b ≡ look_segments ex (segments s) ns
    segments_stop z ex w e = sym (p.left ex w e ∙ segments_still ex ns b z (drop i (segments s)) i)

    pub segments-end : length s.net ≤ i → (ex : List Exemption) → Holds words ex → k ≡ length ex → b ≡ look_segments ex (segments s) ns
    segments-end h ex w e = sym (p.left ex w e ∙ turn_end (segment_step ex ns) (segments s) i b (omega (arith, length-segments s p.agree)))

-- ---- what the best so far is
-- its segment and its node are not exempt, and their distance is this
record Placed (ex : List Exemption) (ss : List Segment) (ns : List Node) (b : Best) : Type 0 where
  segment : Segment
  node : Node
  segment_found : slice_get ss b.pair.segment ≡ Some segment
  node_found : slice_get ns b.pair.node ≡ Some node
  free : exempt ex segment.net node.id ≡ false
  far : b.distance ≡ distance (segment_box segment) (node_box node)

-- the entries from a position on are an entry and those after it
drop_head : {A : Type 0} (l : List A) (i : ℕ) (x : A) (r : List A) → drop i l ≡ x ∷ r → (slice_get l i ≡ Some x) × (drop (suc i) l ≡ r)
drop_head [] zero x r e = let z : ◌≡◌ {A = ℕ} 0 1 = cc in absurd (omega arith)
drop_head [] (suc i) x r e = let z : ◌≡◌ {A = ℕ} 0 1 = cc in absurd (omega arith)
drop_head (y ∷ l) zero x r e = (cc, cc)
drop_head (y ∷ l) (suc i) x r e = drop_head l i x r e

put-before : {A : Type 0} (b : Bool) (x : A) (l : List A) → put b x [] ++ l ≡ put b x l
put-before true x l = refl
put-before false x l = refl

all-put : (b : Bool) (x : Float) → Good x → All Good (put b x [])
all-put true x h = (h, tt)
all-put false x h = tt

-- the distance of the best so far
abbrev least_of : Option Best → Option Float
least_of None = None
least_of (Some b) = Some b.distance

-- `seen` are the distances of the pairs so far that are not exempt
record Looked (ex : List Exemption) (ss : List Segment) (ns : List Node) (seen : List Float) (b : Option Best) : Type 0 where
  least : least_of b ≡ least_gap seen
  place : (x : Best) → b ≡ Some x → Placed ex ss ns x

lesser-present : (m d : Float) → lesser_gap (Some m) (Some d) ≡ Some (cond (lt d m) d m)
unfolding lesser_gap lesser_of
lesser-present m d = refl

lesser_absent : (g : Option Float) → lesser_gap None g ≡ g
unfolding lesser_gap
lesser_absent g = refl

module _ (ex : List Exemption) (ss : List Segment) (ns : List Node) where
  -- one pair more, at distance d, which is not exempt
  module _ (d : Float) (p : TightPair) (good_d : Good d) (q : Placed ex ss ns (record { distance = d; pair = p })) (seen : List Float) (good : All Good seen) where
    abbrev more : Best
    more = record { distance = d; pair = p }

    here : (x : Best) → Some more ≡ Some x → Placed ex ss ns x
    here x h = let g : more ≡ x = cc in subst (Placed ex ss ns) g q

    joined : (g : Option Float) → g ≡ least_gap seen → least_gap (seen ++ d ∷ []) ≡ lesser_gap g (Some d)
    joined g e = least_join seen (d ∷ []) good (good_d, tt) ∙ ap (lesser_gap (least_gap seen)) (least-one d) ∙ ap (λ (h : Option Float). lesser_gap h (Some d)) (sym e)

    added : (b : Option Best) → Looked ex ss ns seen b → Looked ex ss ns (seen ++ d ∷ []) (cond (nearer d b) (Some more) b)
    unfolding nearer
    added None u = record { least = sym (joined None u.least ∙ lesser_absent (Some d)); place = here }
    added (Some m) u = go (lt d m.distance) (joined (Some m.distance) u.least ∙ lesser-present m.distance d)
      where
        go : (t : Bool) → least_gap (seen ++ d ∷ []) ≡ Some (cond t d m.distance) → Looked ex ss ns (seen ++ d ∷ []) (cond t (Some more) (Some m))
        go true e = record { least = sym e; place = here }
        go false e = record { least = sym e; place = u.place }

  one_more : (x : Bool) (d : Float) (p : TightPair) → Good d → (x ≡ false → Placed ex ss ns (record { distance = d; pair = p })) → (seen : List Float) → All Good seen → (b : Option Best) → Looked ex ss ns seen b
      → Looked ex ss ns (seen ++ put (not x) d []) (best_with x d p b)
  unfolding best_with
  one_more true d p good_d q seen good b u = subst (λ (l : List Float). Looked ex ss ns l b) (sym (append-nil seen)) u
  one_more false d p good_d q seen good b u = added d p good_d (q refl) seen good b u

  -- one segment, from node j on
  module _ (i : ℕ) (s : Segment) (si : slice_get ss i ≡ Some s) (fit : FitSegment s) where
    nodes_looked : (rest : List Node) (j : ℕ) → drop j ns ≡ rest → All FitNode rest → (seen : List Float) → All Good seen → (b : Option Best) → Looked ex ss ns seen b
        → Looked ex ss ns (seen ++ distances_of ex s (map indexed rest)) (in_turn (node_step ex s.net (segment_box s) i) j rest b)
    unfolding in_turn chosen indexed
    nodes_looked [] j e h seen good b p = subst (λ (l : List Float). Looked ex ss ns l b) (sym (append-nil seen)) p
    nodes_looked (n ∷ rest) j e h seen good b p =
        let x = exempt ex s.net n.id in
        let d = distance (segment_box s) (node_box n) in
        let at = drop_head ns j n rest e in
        let good_d : Good d = distance_good (segment_box s) (node_box n) (fit-segment s fit) (fit-node n h.0) in
        let pair : TightPair = record { segment = i; node = j } in
        let q : x ≡ false → Placed ex ss ns (record { distance = d; pair = pair }) = λ f. record { segment = s; node = n; segment_found = si; node_found = at.0; free = f; far = refl } in
        subst (λ (l : List Float). Looked ex ss ns l (in_turn (node_step ex s.net (segment_box s) i) (suc j) rest (best_with x d pair b)))
        (append_assoc seen (put (not x) d []) (distances_of ex s (map indexed rest)) ∙ ap (λ (l : List Float). seen ++ l) (put-before (not x) d (distances_of ex s (map indexed rest))))
        (nodes_looked rest (suc j) at.1 h.1 (seen ++ put (not x) d []) (all_append Good seen (put (not x) d []) good (all-put (not x) d good_d)) (best_with x d pair b) (one_more x d pair good_d q seen good b p))

  -- from segment i on
  segments_looked : All FitNode ns → (rest : List Segment) (i : ℕ) → drop i ss ≡ rest → All FitSegment rest → (seen : List Float) → All Good seen → (b : Option Best) → Looked ex ss ns seen b
      → Looked ex ss ns (seen ++ distances_all ex rest (map indexed ns)) (in_turn (segment_step ex ns) i rest b)
  unfolding in_turn distances_all look_nodes
  segments_looked fit [] i e h seen good b p = subst (λ (l : List Float). Looked ex ss ns l b) (sym (append-nil seen)) p
  segments_looked fit (s ∷ rest) i e h seen good b p =
      let at = drop_head ss i s rest e in
      let l = map indexed ns in
      let ds = distances_of ex s l in
      let c = look_nodes ex s.net (segment_box s) i ns b in
      subst (λ (l : List Float). Looked ex ss ns l (in_turn (segment_step ex ns) (suc i) rest c)) (append_assoc seen ds (distances_all ex rest l))
      (segments_looked fit rest (suc i) at.1 h.1 (seen ++ ds) (all_append Good seen ds good (good_distances ex s l h.0 (indexed-fit ns fit))) c (nodes_looked i s at.0 h.0 ns 0 refl fit seen good b p))

  all_looked : All FitSegment ss → All FitNode ns → Looked ex ss ns (distances ex ss ns) (look_segments ex ss ns)
  unfolding look_segments
  all_looked h fit = subst (λ (l : List Float). Looked ex ss ns l (look_segments ex ss ns)) (sym (distances-all ex ss ns)) (segments_looked fit ss 0 refl h [] tt None none)
    where
      none : Looked ex ss ns [] None
      none = record { least = sym least-none; place = λ x e. let z : ◌≡◌ {A = ℕ} 0 1 = cc in absurd (omega arith) }

-- ---- the answer
abbrev pair_of : Option Best → Option TightPair
pair_of None = None
pair_of (Some b) = Some b.pair

-- the pair that is answered where there is one
abbrev choice_of : Option Best → TightPair
choice_of None = record { segment = 0; node = 0 }
choice_of (Some b) = b.pair

chosen_pair : (b : Option Best) → pair_of b ≡ pair_if_any (least_of b) (choice_of b)
unfolding pair_if_any
chosen_pair None = refl
chosen_pair (Some b) = refl

-- what is found at the least distance of all is tight
is-tight : (ex : List Exemption) (ss : List Segment) (ns : List Node) (b : Option Best) → Looked ex ss ns (distances ex ss ns) b → (pair : TightPair) → pair_of b ≡ Some pair → Tight ex ss ns pair.segment pair.node
is-tight ex ss ns None p pair e = let z : ◌≡◌ {A = ℕ} 0 1 = cc in absurd (omega arith)
is-tight ex ss ns (Some b) p pair e =
    let q = p.place b refl in
    let u : b.pair ≡ pair = cc in
    subst (λ (x : TightPair). Tight ex ss ns x.segment x.node) u (record {
      segment = q.segment;
      node = q.node;
      segment_at = q.segment_found;
      node_at = q.node_found;
      free = q.free;
      least = ap Some (sym q.far) ∙ p.least;
    })

module _ (s : SegmentColumns) (n : NodeColumns) (e : ExemptionColumns) where
  pub answer-refused : (why : Refusal) → first_of (tight_pair_conditions s n e) ≡ Err why → Answered s n e (Err why)
  unfolding tight_pair_answer
  answer-refused why h = record { choice = choice_of None; is = rw h; tight = λ pair g. let z : ◌≡◌ {A = ℕ} 0 1 = cc in absurd (omega arith) }

  module _ (passed : first_of (tight_pair_conditions s n e) ≡ Ok tt) (held : SegmentsHeld s) (nodes_held : NodesHeld n) (before words : List ℕ) (gathered : Gathered e before words)
      (b : Option Best) (looked : (ex : List Exemption) → Holds words ex → length e.net ≡ length ex → b ≡ look_segments ex (segments s) (nodes n)) where
    abbrev LookedAtAll : Option Best → Type 0
    LookedAtAll c = Looked (exemptions e) (segments s) (nodes n) (distances (exemptions e) (segments s) (nodes n)) c

    best : LookedAtAll b
    best =
        subst LookedAtAll (sym (looked (exemptions e) gathered.holds (sym gathered.count)))
        (all_looked (exemptions e) (segments s) (nodes n) (pair-segments s n e passed held) (pair-nodes s n e passed nodes_held))

    pub answered : (o : Option TightPair) → o ≡ pair_of b → Answered s n e (Ok o)
    unfolding tight_pair_answer
    answered o is = record {
      choice = choice_of b;
      is = rw passed (ap Ok (is ∙ chosen_pair b ∙ ap (λ (g : Option Float). pair_if_any g (choice_of b)) best.least));
      tight = λ pair g. let h : o ≡ Some pair = cc in is-tight (exemptions e) (segments s) (nodes n) b best pair (sym is ∙ h);
    }
