-- The visits of the leaves of a part, one after another: the loop, step by step; and that they are the part's walk where its farthest edges are below the threshold. Assumes nothing.
use Rattle.drawing.specs.declared.refusal.Refusal.{Refusal}
use Rattle.std.specs.Prelude.{Result, Ok, Err}
use mathlib.Core.Path.{◌≡◌, sym, ap, subst, ◌∙◌}
use mathlib.Core.Bool.{Bool, true}
use mathlib.Core.List.{List, ◌∷◌}
use Prim.Native.Nat.{ℕ, suc, ◌+◌, ◌-◌, ◌*◌, ◌≤◌, ◌<◌, ◌^◌}
use native.Mathlib.Omega.{arith}
use lib.Dec.{T}
use lib.Ieee.{Float, nan, inf, fin, binary64, fits, is_nan, lt}
use lib.ListN.{length, get_or}
use Rattle.laws.specs.Charged.{free, visit, runs}
use Rattle.laws.specs.Inner.Allowance.{Outcome, within}
use Rattle.laws.proofs.Loops.{ComesTo, loop_next, loop_stops, loop_ends}
use Rattle.bitset.specs.Inner.Members.{member}
use Rattle.drawing.specs.Entries.{Exemption}
use Rattle.drawing.specs.Inner.LeastFloats.{Number, gap_of_float}
use Rattle.boxes.specs.declared.aabb.Aabb.{Aabb}
use Rattle.boxes.specs.Boxes.{distance}
use Rattle.boxes.specs.Inner.Fitting.{FitBox}
use Rattle.boxes.proofs.BoxLaws.{within_self}
use Rattle.boxes.proofs.AnyBoxes.{any_distance_good}
use Rattle.clearance.specs.declared.visit.Walking.{Walking}
use Rattle.clearance.specs.Figures.{Figures, exempt}
use Rattle.clearance.specs.Tree.{bounds_of}
use Rattle.clearance_call.specs.Inner.Stored.{box_at, leaf_at, stored_tree, leaves_from}
use Rattle.clearance.specs.Walk.{with_pair}
use Rattle.clearance_call.specs.Inner.Marks.{MarksOf}
use Rattle.clearance.specs.Inner.State.{so_far, outcome_of, edges_below}
use Rattle.clearance_call.specs.Inner.Nested.{Nested, TreeBelow, leaf_visit}
use Rattle.clearance_call.specs.Inner.Walking.{Part, Near, NetMarks, Walks}
use Rattle.clearance.proofs.Visits.{pair-violations}
use Rattle.clearance.proofs.Below.{below-number, above_zero}
use Rattle.clearance_call.proofs.NestedTrees.{stored_same, stored-leaves, nested-box, nested-below}
use Rattle.clearance_call.proofs.Unpruned.{NumberGap, walk_unpruned}
use Rattle.clearance_call.proofs.StoredWalk.{near_good, visited-room}

-- ---- a visit by the marks of a net is the visit by its exemptions
pub by_mark : (marks groups w : List ℕ) (ex : List Exemption) (net : ℕ) → MarksOf marks groups w ex net → (j : ℕ) → 9 * (j + 1) ≤ length w → (t d : Float) (m : ℕ) (g : Figures) (o : Outcome Figures)
    → o ≡ within m (visit (free (with_pair (member marks (get_or groups j 0)) t d g))) → o ≡ within m (visit (free (with_pair (exempt ex net (leaf_at w j).id) t d g)))
by_mark marks groups w ex net l j inside t d m g o h = h ∙ ap (λ (b : Bool). within m (visit (free (with_pair b t d g)))) (l.leaf j inside)

-- ---- the loop: the leaves before leaf j are visited
module _ (t : Float) (w : List ℕ) (i n : ℕ) (p : Aabb) (marks groups : List ℕ) (from : Walking) where
  -- the outcome of visiting all leaves of the part
  abbrev whole : List Exemption → ℕ → Outcome Figures
  whole ex net = within from.remaining (runs (leaf_visit ex t net p) (so_far from) (leaves_from w i n))

  pub record Visiting (state : Walking) (j : ℕ) : Type 0 where
    pub part : Part w i n
    pub begun : i ≤ j
    pub below : j ≤ i + n
    pub room : state.violations + state.remaining < 2 ^ 64
    pub onwards : (ex : List Exemption) (net : ℕ) → MarksOf marks groups w ex net → ComesTo (leaf_visit ex t net p) (whole ex net) (leaves_from w j (i + n - j)) (so_far state) state.remaining

  pub visiting_none : Part w i n → from.violations + from.remaining < 2 ^ 64 → Visiting from i
  visiting_none part room = record {
    part = part;
    begun = omega arith;
    below = omega arith;
    room = room;
    onwards = λ ex net l. let e : i + n - i ≡ n = omega arith in record { come = ap (λ (z : ℕ). within from.remaining (runs (leaf_visit ex t net p) (so_far from) (leaves_from w i z))) e };
  }

  module _ (state : Walking) (j : ℕ) (u : Visiting state j) (less : j < i + n) (b : Aabb) (box : b ≡ box_at w (9 * j)) (d : Float) (e : d ≡ distance p b) (r : Result Walking Refusal)
      (h : outcome_of r ≡ within state.remaining (visit (free (with_pair (member marks (get_or groups j 0)) t d (so_far state))))) where
    now_visited : (ex : List Exemption) (net : ℕ) → MarksOf marks groups w ex net → outcome_of r ≡ within state.remaining (leaf_visit ex t net p (so_far state) (leaf_at w j))
    now_visited ex net l = by_mark marks groups w ex net l j (omega (arith, u.part.inside)) t d state.remaining (so_far state) (outcome_of r) h ∙ ap (λ (z : Float). within state.remaining (visit (free (with_pair (exempt ex net (leaf_at w j).id) t z (so_far state))))) (e ∙ ap (distance p) box)

    next : leaves_from w j (i + n - j) ≡ leaf_at w j ∷ leaves_from w (j + 1) (i + n - (j + 1))
    unfolding leaves_from
    next =
        let more : i + n - j ≡ suc (i + n - (j + 1)) = omega arith in
        let place : suc j ≡ j + 1 = omega arith in
        ap (leaves_from w j) more ∙ ap (λ (z : ℕ). leaf_at w j ∷ leaves_from w z (i + n - (j + 1))) place

    pub visiting_stopped : (why : Refusal) → r ≡ Err why → (ex : List Exemption) (net : ℕ) → MarksOf marks groups w ex net → outcome_of (Err why) ≡ whole ex net
    unfolding outcome_of
    visiting_stopped why x ex net l = sym (loop_stops (u.onwards ex net l) next (sym (ap outcome_of (sym x) ∙ now_visited ex net l)))

    pub visiting_next : NetMarks marks groups w → (v : Walking) → r ≡ Ok v → Visiting v (j + 1)
    unfolding outcome_of
    visiting_next some v x = record {
      part = u.part;
      begun = omega (arith, u.begun);
      below = omega arith;
      room = omega (arith, u.room, visited-room state.remaining (so_far state) _ v (pair-violations some.ex t (exempt some.ex some.net (leaf_at w j).id) (distance p (box_at w (9 * j))) (so_far state)) (ap outcome_of (sym x) ∙ now_visited some.ex some.net some.marked));
      onwards = λ ex net l. loop_next (u.onwards ex net l) next (sym (ap outcome_of (sym x) ∙ now_visited ex net l));
    }

  pub visiting_all : (state : Walking) (j : ℕ) → Visiting state j → i + n ≤ j → (ex : List Exemption) (net : ℕ) → MarksOf marks groups w ex net → outcome_of (Ok state) ≡ whole ex net
  unfolding outcome_of leaves_from
  visiting_all state j u h ex net l = let e : i + n - j ≡ 0 = omega arith in sym (loop_ends (u.onwards ex net l) (ap (leaves_from w j) e))

pub distance-number : (d : Float) (p b : Aabb) → d ≡ distance p b → Number d
distance-number d p b e = subst Number (sym e) (any_distance_good p b).num.1

-- ---- a part whose farthest edges are below the threshold
pub tree-below : (w : List ℕ) (i n : ℕ) (d t : Float) (p b : Aabb) → T (fits binary64 t) → Near d p w i n → FitBox p → Nested (stored_tree n w i n) → ((k : ℕ) → n ≤ k → b ≡ bounds_of (stored_tree k w i n)) → lt d t ≡ true → edges_below p b t ≡ true
    → (k : ℕ) → n ≤ k → TreeBelow p t (stored_tree k w i n)
tree-below w i n d t p b h near fit nested box under all k q =
    let tree = stored_tree n w i n in
    let number = below-number d t h under in
    let e = box n (omega arith) in
    let fq = nested-box tree nested in
    rw (stored_same k n w i n q (omega arith))
    (nested-below p (bounds_of tree) t fit fq number (above_zero d t (near_good d p w i n near) number under) (rw e at all) tree nested (within_self (bounds_of tree) fq))

-- ---- the walk of such a part is the visits of its leaves
number-gap : (x : Float) → T (fits binary64 x) → NumberGap (gap_of_float x)
unfolding gap_of_float is_nan
number-gap nan h = tt
number-gap (inf s) h = (h, tt)
number-gap (fin s m e) h = (h, tt)

pub walks_unpruned : (ex : List Exemption) (t : Float) (w : List ℕ) (i n : ℕ) (p : Aabb) (net : ℕ) (st : Walking) (r : Result Walking Refusal) → T (fits binary64 st.least) → ((k : ℕ) → n ≤ k → TreeBelow p t (stored_tree k w i n))
    → outcome_of r ≡ within st.remaining (runs (leaf_visit ex t net p) (so_far st) (leaves_from w i n)) → Walks ex t w i n p net st r
walks_unpruned ex t w i n p net st r h below e s on of k q =
    e
    ∙ (λ j. within st.remaining (runs (leaf_visit ex t (sym of j) (sym on j)) (so_far st) (sym (stored-leaves k w i n q) j)))
    ∙ ap (within st.remaining) (sym (walk_unpruned ex t s (stored_tree k w i n) (rw on (below k q)) (so_far st) (number-gap st.least h)))
