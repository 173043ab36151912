-- The walk over the stored tree within the remaining visits, step by step. Assumes nothing.
use Rattle.drawing.specs.declared.refusal.Refusal.{Refusal}
use Rattle.std.specs.Prelude.{Result, Ok, Err}
use mathlib.Core.Path.{◌≡◌, refl, sym, ap, subst, ◌∙◌}
use mathlib.Core.Logic.{inl, inr}
use mathlib.Core.Bool.{Bool, true, false}
use mathlib.Core.List.{List}
use Prim.Native.Nat.{ℕ, zero, suc, ◌+◌, ◌-◌, ◌*◌, ◌/◌, ◌≤◌, ◌<◌}
use native.Mathlib.Omega.{arith}
use borrow.Author.Tests.{le-leb, lt-leb}
use lib.Dec.{leb}
use lib.Ieee.{Float, lt}
use Rattle.laws.specs.Charged.{Charged, free, visit}
use Rattle.laws.specs.Inner.Allowance.{Outcome, within, onward}
use Rattle.laws.proofs.Tests.{decide}
use Rattle.laws.proofs.Runs.{within-left, within-free}
use Rattle.floats.specs.TotalOrder.{key_of}
use Rattle.floats.proofs.Gaps.{Good}
use Rattle.drawing.specs.Entries.{Segment, Exemption}
use Rattle.drawing.specs.Inner.LeastFloats.{gap_of_float}
use Rattle.boxes.specs.declared.aabb.Aabb.{Aabb}
use Rattle.clearance.specs.declared.visit.Walking.{Walking}
use Rattle.clearance.specs.declared.halves.Subtree.{Subtree}
use Rattle.clearance.specs.declared.halves.Halves.{Halves}
use Rattle.boxes.specs.Boxes.{segment_box, distance}
use Rattle.clearance.specs.Figures.{Figures, exempt}
use Rattle.clearance.specs.Tree.{Tree, leaf, branch, bounds_of}
use Rattle.clearance_call.specs.Inner.Stored.{box_at, leaf_at, split_at, stored_tree}
use Rattle.clearance.specs.Walk.{contributes, with_pair, walk}
use Rattle.clearance_call.specs.Inner.Nested.{Nested}
use Rattle.clearance.specs.Inner.State.{so_far, outcome_of, nearer_first}
use Rattle.clearance_call.specs.Inner.Walking.{Part, Near, Walkable, Smaller, Halved, Walks}
use Rattle.floats.proofs.NumberKeys.{nearer-key, no_nearer_key}
use Rattle.boxes.proofs.AnyBoxes.{any_distance_good}
use Rattle.clearance.proofs.Visits.{walk-violations}
use Rattle.clearance_call.proofs.StoredBoxes.{stored-leaf, stored-branch}
use Rattle.clearance_call.proofs.NestedTrees.{nested-left, nested-right}
use Rattle.clearance.proofs.WalkSteps.{lower, walk_pruned, walk-leaf, walk-left-first, walk-right-first}

-- ---- the stored tree, case by case
module _ (w : List ℕ) (i n : ℕ) where
  one-leaf : n ≡ 1 → (k : ℕ) → n ≤ k → stored_tree k w i n ≡ leaf (leaf_at w i)
  one-leaf one zero h = absurd (omega arith)
  one-leaf one (suc k) h = stored-leaf k w i n one

  pub leaf-bounds : n ≡ 1 → (b : Aabb) → b ≡ box_at w (9 * i) → (k : ℕ) → n ≤ k → b ≡ bounds_of (stored_tree k w i n)
  unfolding bounds_of
  leaf-bounds one b e k h = e ∙ sym (ap bounds_of (one-leaf one k h))

  pub branch-bounds : 1 ≤ n → (n ≡ 1 → ⊥) → (b : Aabb) → b ≡ split_at w (i + n / 2) → (k : ℕ) → n ≤ k → b ≡ bounds_of (stored_tree k w i n)
  unfolding bounds_of
  branch-bounds some more b e zero h = absurd (omega arith)
  branch-bounds some more b e (suc k) h = e ∙ sym (ap bounds_of (stored-branch k w i n (omega arith)))

-- ---- one walk after another, as the code returns it
pub onward_stopped : (o : Outcome Figures) (f : Figures → ℕ → Outcome Figures) (r : Result Walking Refusal) (why : Refusal) → r ≡ Err why → outcome_of r ≡ o → outcome_of (Err why) ≡ onward o f
unfolding outcome_of onward
onward_stopped o f r why x e = ap (λ (z : Outcome Figures). onward z f) (ap outcome_of (sym x) ∙ e)

pub onward-went : (o : Outcome Figures) (f : Figures → ℕ → Outcome Figures) (r : Result Walking Refusal) (w : Walking) → r ≡ Ok w → outcome_of r ≡ o → f (so_far w) w.remaining ≡ onward o f
unfolding outcome_of onward
onward-went o f r w x e = ap (λ (z : Outcome Figures). onward z f) (ap outcome_of (sym x) ∙ e)

-- ---- a violation is counted only with a visit, so the sum of violations and remaining visits never grows
abbrev pub Visited : Figures → Charged Figures → Type 0
Visited g c = c.value.violations ≤ g.violations + c.cost

pub visited-room : (m : ℕ) (g : Figures) (c : Charged Figures) (v : Walking) → Visited g c → outcome_of (Ok v) ≡ within m c → v.violations + v.remaining ≤ g.violations + m
unfolding outcome_of
visited-room m g c v h e = let p = within-left m c (so_far v) v.remaining (sym e) in omega (arith, p.0, p.2, ap (λ (f : Figures). f.violations) p.1)

-- in the state after a walk this sum is no larger
pub walk-room : (ex : List Exemption) (t : Float) (s : Segment) (tree : Tree) (st : Walking) (r : Result Walking Refusal) → outcome_of r ≡ within st.remaining (walk ex t s tree (so_far st)) → (v : Walking) → r ≡ Ok v → v.violations + v.remaining ≤ st.violations + st.remaining
walk-room ex t s tree st r e v h = visited-room st.remaining (so_far st) _ v (walk-violations ex t s tree (so_far st)) (ap outcome_of (sym h) ∙ e)

-- ---- what the walk of a part returns
pub near-box : (d : Float) (p b : Aabb) (w : List ℕ) (i n : ℕ) → d ≡ distance p b → ((k : ℕ) → n ≤ k → b ≡ bounds_of (stored_tree k w i n)) → Near d p w i n
near-box d p b w i n e f k h = e ∙ ap (distance p) (f k h)

pub near_good : (d : Float) (p : Aabb) (w : List ℕ) (i n : ℕ) → Near d p w i n → Good d
near_good d p w i n e = subst Good (sym (e n (omega arith))) (any_distance_good p (bounds_of (stored_tree n w i n)))

-- the distance to a part's box is that of the segment
known : (s : Segment) (p : Aabb) → segment_box s ≡ p → (tree : Tree) (d : Float) → d ≡ distance p (bounds_of tree) → lower s tree ≡ d
known s p on tree d e = ap (λ (q : Aabb). distance q (bounds_of tree)) on ∙ sym e

module _ (ex : List Exemption) (t : Float) {w : List ℕ} {i n : ℕ} {d : Float} {p : Aabb} {st : Walking} (ready : Walkable w i n d p st) where
  pub next_room : (net : ℕ) (r : Result Walking Refusal) → Walks ex t w i n p net st r → (v : Walking) → r ≡ Ok v → v.violations + v.remaining ≤ st.violations + st.remaining
  unfolding segment_box
  next_room net r e v h =
      let s : Segment = record { net = net; orientation = ready.segment.orientation; fixed = ready.segment.fixed; start = ready.segment.start; end = ready.segment.end } in
      walk-room ex t s (stored_tree n w i n) st r (e s ready.box refl n (omega arith)) v h

  reaches : (s : Segment) → segment_box s ≡ p → (k : ℕ) → n ≤ k → (tree : Tree) → stored_tree k w i n ≡ tree → (b : Bool) → contributes d t (gap_of_float st.least) ≡ b → contributes (lower s tree) t (gap_of_float st.least) ≡ b
  reaches s on k h tree e b c = ap (λ (z : Float). contributes z t (gap_of_float st.least)) (known s p on tree d (ready.near k h ∙ ap (λ (z : Tree). distance p (bounds_of z)) e)) ∙ c

  pub walks_pruned : contributes d t (gap_of_float st.least) ≡ false → (net : ℕ) → Walks ex t w i n p net st (Ok st)
  unfolding outcome_of
  walks_pruned far net s on of k h = sym (ap (within st.remaining) (walk_pruned ex t s (stored_tree k w i n) (so_far st) (reaches s on k h (stored_tree k w i n) refl false far)) ∙ within-free st.remaining (so_far st))

  module _ (close : contributes d t (gap_of_float st.least) ≡ true) where
    pub walks_leaf : n ≡ 1 → (net : ℕ) (r : Result Walking Refusal) → outcome_of r ≡ within st.remaining (visit (free (with_pair (exempt ex net (leaf_at w i).id) t d (so_far st)))) → Walks ex t w i n p net st r
    unfolding bounds_of
    walks_leaf one net r e s on of k h =
        let x = one-leaf w i n one k h in
        let y : distance (segment_box s) (leaf_at w i).bounds ≡ d = known s p on (leaf (leaf_at w i)) d (ready.near k h ∙ ap (λ (z : Tree). distance p (bounds_of z)) x) in
        e ∙ sym (ap (within st.remaining)
        (ap (λ (z : Tree). walk ex t s z (so_far st)) x ∙ walk-leaf ex t s (leaf_at w i) (so_far st) (reaches s on k h (leaf (leaf_at w i)) x true close)
        ∙ (λ j. visit (free (with_pair (exempt ex (of j) (leaf_at w i).id) t (y j) (so_far st))))))

-- a smaller part may be walked from a state whose sum is no larger
pub half_walkable : {w : List ℕ} {i n : ℕ} {d : Float} {p : Aabb} {st : Walking} → Walkable w i n d p st → {h : Subtree} → Smaller w n p h → (v : Walking) → v.violations + v.remaining ≤ st.violations + st.remaining → Walkable w h.first h.count h.lower p v
half_walkable ready half v q = record { part = half.part; near = half.near; room = omega (arith, ready.room); segment = ready.segment; box = ready.box; fit = ready.fit; nested = half.nested }

-- ---- a part is halved: the nearer half first, the left one on a tie
module _ {w : List ℕ} {i n : ℕ} {p : Aabb} (part : Part w i n) (more : 1 < n) (nest : Nested (stored_tree n w i n)) {dl dr : Float} (near-left : Near dl p w i (n / 2)) (near-right : Near dr p w (i + n / 2) (n - n / 2)) where
  left-half : Smaller w n p (record { first = i; count = n / 2; lower = dl })
  left-half = record { part = record { some = omega arith; inside = omega (arith, part.inside) }; fewer = omega arith; near = near-left; nested = nested-left w i n (omega arith) nest }

  right-half : Smaller w n p (record { first = i + n / 2; count = n - n / 2; lower = dr })
  right-half = record { part = record { some = omega arith; inside = omega (arith, part.inside) }; fewer = omega arith; near = near-right; nested = nested-right w i n (omega arith) nest }

  module _ (s : Segment) (on : segment_box s ≡ p) (k : ℕ) (q : n ≤ suc k) where
    halved : stored_tree (suc k) w i n ≡ branch (split_at w (i + n / 2)) (stored_tree k w i (n / 2)) (stored_tree k w (i + n / 2) (n - n / 2))
    halved = stored-branch k w i n more

    sides : (c : Bool) → leb (key_of dl) (key_of dr) ≡ c → leb (key_of (lower s (stored_tree k w i (n / 2)))) (key_of (lower s (stored_tree k w (i + n / 2) (n - n / 2)))) ≡ c
    sides c e = rw (known s p on (stored_tree k w i (n / 2)) dl (near-left k (omega arith)), known s p on (stored_tree k w (i + n / 2) (n - n / 2)) dr (near-right k (omega arith))) e

    in_reach : (t : Float) (g : Figures) → contributes (distance p (bounds_of (stored_tree (suc k) w i n))) t g.least ≡ true → contributes (lower s (branch (split_at w (i + n / 2)) (stored_tree k w i (n / 2)) (stored_tree k w (i + n / 2) (n - n / 2)))) t g.least ≡ true
    in_reach t g c = (λ j. contributes (distance (on j) (bounds_of (sym halved j))) t g.least) ∙ c

  left-first : lt dr dl ≡ false → Halved w i n p (record { nearer = record { first = i; count = n / 2; lower = dl }; farther = record { first = i + n / 2; count = n - n / 2; lower = dr } })
  left-first z = record {
    nearer = left-half;
    farther = right-half;
    together = omega arith;
    half = (omega arith, omega arith);
    turn = λ ex t s on k q g c. ap (λ (u : Tree). walk ex t s u g) (halved s on k q) ∙ walk-left-first ex t s _ _ _ g (in_reach s on k q t g c) (sides s on k q true (le-leb _ _ (no_nearer_key dl dr (near_good _ _ _ _ _ near-left) (near_good _ _ _ _ _ near-right) z)));
  }

  right-first : lt dr dl ≡ true → Halved w i n p (record { nearer = record { first = i + n / 2; count = n - n / 2; lower = dr }; farther = record { first = i; count = n / 2; lower = dl } })
  right-first z = record {
    nearer = right-half;
    farther = left-half;
    together = omega arith;
    half = (omega arith, omega arith);
    turn = λ ex t s on k q g c. ap (λ (u : Tree). walk ex t s u g) (halved s on k q) ∙ walk-right-first ex t s _ _ _ g (in_reach s on k q t g c) (sides s on k q false (lt-leb _ _ (nearer-key dl dr (near_good _ _ _ _ _ near-left) (near_good _ _ _ _ _ near-right) z)));
  }

  pub halved_in_order : (h : Halves) → h ≡ nearer_first (record { first = i; count = n / 2; lower = dl }) (record { first = i + n / 2; count = n - n / 2; lower = dr }) → Halved w i n p h
  unfolding nearer_first
  halved_in_order h e = elim (decide (lt dr dl)) [
    | inl z ↦ subst (Halved w i n p) (sym (e ∙ rw z)) (right-first z)
    | inr z ↦ subst (Halved w i n p) (sym (e ∙ rw z)) (left-first z)
  ]
