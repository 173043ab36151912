-- The loop over the wires that an event's wire meets: when the indices from p on are done, the figures are those of the rows of these indices, and their counts are the new ones. Assumes nothing.
use Rattle.drawing.specs.declared.refusal.Refusal.TheVariants.{WorkLimitExceeded}
use Rattle.drawing.specs.declared.refusal.Refusal.{Refusal}
use Rattle.std.specs.Prelude.{Option, Result, Ok, Err, None}
use mathlib.Core.Path.{◌≡◌, refl, sym, ap, ap₂, ◌∙◌, subst}
use mathlib.Core.Logic.{inl, inr}
use mathlib.Core.List.{List, map, map-map}
use mathlib.Core.Bool.{Bool, true, false, not, ◌&&◌, cond, and_assoc, and-false}
use Prim.Native.Nat.{ℕ, ◌+◌, ◌-◌, ◌*◌, ◌≤◌, ◌<◌, max}
use native.Mathlib.Omega.{arith}
use lib.Dec.{leb, ltb, eqb}
use lib.Ieee.{Float}
use lib.ListN.{length, get_or, drop, set}
use lib.Seq.{get_or-take, get_or-drop, drop-drop, get_or-set_same, get_or-set_other, take-set-le, drop-set-lt}
use borrow.Author.Tests.{lt-ltb, le-ltb, le-leb, lt-leb, eq-eqb, ne_eqb}
use Rattle.laws.proofs.ListLaws.{map_same}
use Rattle.laws.specs.Lists.{bit, fold, count}
use Rattle.laws.specs.Least.{lesser}
use Rattle.laws.proofs.Tests.{le_or_lt, same_or_not, cond_true, cond_false}
use Rattle.laws.proofs.Folds.{Monoid, plus, greatest, fold-unit, fold-map}
use Rattle.sorting.specs.Inner.Sorted.{up_to}
use Rattle.sorting.proofs.Entries.{up_to-below}
use Rattle.bitset.specs.Inner.Members.{member}
use Rattle.bitset.proofs.Lasts.{NoneIn, Greatest}
use Rattle.floats.specs.Values.{gap_of}
use Rattle.floats.specs.TotalOrder.{float_at}
use Rattle.density_call.specs.declared.meet.Meeting.{Meeting}
use Rattle.congestion.specs.Wires.{Wire}
use Rattle.congestion.specs.Figures.{other}
use Rattle.congestion.specs.Walk.{WireState, State, in_range, visited, neighbor, gap, neighbors, least_here}
use Rattle.congestion.specs.Inner.Keys.{Key, Representable}
use Rattle.density_call.specs.Inner.Tables.{item_at, Tabled, wire_state_from, wire_states_from, Stored}
use Rattle.density_call.specs.Inner.Meeting.{visits_of, CountsOnly, moved, changing_count, topmost, least_float, with_gap, count_after, highest_after, with_neighbor, paid, Visits}
use Rattle.congestion.proofs.FoldLaws.{fewest}
use Rattle.density_call.proofs.GapFloats.{lesser-none, keys_join}
use Rattle.density_call.proofs.PlaceFolds.{since, since_none, since_next, since_all, since_at_most, since_below_all}

-- ---- a row under an event
-- what a neighbor whose count is k contributes to the greatest count
abbrev top : Bool → ℕ → ℕ
top true k = k + 1
top false k = 0

highest_top : (starts : Bool) (h k : ℕ) → highest_after starts h k ≡ max h (top starts k)
highest_top true h k = refl
highest_top false h k = omega arith

topmost-is : (starts : Bool) (p : WireState → Bool) (l : List WireState) → fold max 0 (λ x. cond (p x) (top starts x.neighbors) 0) l ≡ topmost starts p l
topmost-is true p l = refl
topmost-is false p l = fold-unit greatest (λ x. cond (p x) 0 0) l (λ x m. nothing (p x))
  where
    nothing : (b : Bool) → ◌≡◌ {A = ℕ} (cond b 0 0) 0
    nothing true = refl
    nothing false = refl

moved-count : (starts : Bool) (r : WireState) → (moved starts true r).neighbors ≡ count_after starts r.neighbors
moved-count true r = refl
moved-count false r = refl

moved_not : (starts : Bool) (r : WireState) → moved starts false r ≡ r
moved_not true r = refl
moved_not false r = refl

-- nothing but the count changes
moved-parts : (starts b : Bool) (r : WireState) → record { item = r.item; active = r.active; neighbors = (moved starts b r).neighbors } ≡ moved starts b r
moved-parts true true r = refl
moved-parts true false r = refl
moved-parts false true r = refl
moved-parts false false r = refl

-- ---- the invariant
module _ (starts : Bool) (n j : ℕ) (s₀ : List ℕ) (least₀ : Float) (allowance c : ℕ) (L : List Wire) where
  -- the rows at the entry
  abbrev row : ℕ → WireState
  row k = wire_state_from L (drop (8 * n) s₀) k

  abbrev wire : Wire
  wire = (item_at L j).wire

  abbrev seen : ℕ → Bool
  seen k = visited c wire (row k)

  abbrev near : ℕ → Bool
  near k = neighbor c wire (row k)

  -- the range of the wire
  abbrev lo : ℕ
  lo = get_or s₀ (6 * n + j) 0

  abbrev hi : ℕ
  hi = get_or s₀ (7 * n + j) 0

  -- what the wire at index k contributes to each figure
  abbrev turned : ℕ → Bool
  turned k = near k && eqb (row k).neighbors (changing_count starts)

  abbrev reached : ℕ → ℕ
  reached k = cond (near k) (top starts (row k).neighbors) 0

  abbrev gap_at : ℕ → Option ℕ
  gap_at k = cond (near k) (gap wire (row k).item.wire) None

  abbrev count_at : ℕ → ℕ
  count_at k = (moved starts (near k) (row k)).neighbors

  pub record Going (met : Meeting) (s : List ℕ) (p : ℕ) : Type 0 where
    pub only : CountsOnly n s₀ s
    pub within : p ≤ hi
    pub counts : (k : ℕ) → k < n → get_or (drop (8 * n) s) k 0 ≡ cond (leb p k) (count_at k) (row k).neighbors
    pub paid : met.remaining + since ◌+◌ 0 n p (λ k. bit (seen k)) ≡ allowance
    pub neighbors : met.neighbors ≡ since ◌+◌ 0 n p (λ k. bit (near k))
    pub changed : met.changed ≡ since ◌+◌ 0 n p (λ k. bit (turned k))
    pub highest : met.highest ≡ since max 0 n p reached
    pub least : (m : Option ℕ) → least₀ ≡ least_float m → Representable m → (met.least ≡ least_float (lesser ltb m (since (lesser ltb) None n p gap_at))) × Representable (lesser ltb m (since (lesser ltb) None n p gap_at))

  pub going_few : (met : Meeting) (s : List ℕ) (p : ℕ) → Going met s p → (met.neighbors ≤ n) × (met.changed ≤ n)
  going_few met s p g = let a = g.neighbors in let b = g.changed in (omega (arith, since_at_most n p near), omega (arith, since_at_most n p turned))

  -- ---- a wire that is not visited contributes nothing
  module _ (k : ℕ) (e : seen k ≡ false) where
    unseen_near : near k ≡ false
    unseen_near = sym (and_assoc (row k).active (in_range c wire (row k).item.wire) (other wire (row k).item.wire)) ∙ ap (λ (b : Bool). b && other wire (row k).item.wire) e

    unseen_turned : bit (turned k) ≡ 0
    unseen_turned = ap (λ (b : Bool). bit (b && eqb (row k).neighbors (changing_count starts))) unseen_near

    unseen_reached : reached k ≡ 0
    unseen_reached = cond_false (near k) (top starts (row k).neighbors) 0 unseen_near

    unseen_gap : gap_at k ≡ None
    unseen_gap = cond_false (near k) (gap wire (row k).item.wire) None unseen_near

    unseen_count : count_at k ≡ (row k).neighbors
    unseen_count = ap (λ (b : Bool). (moved starts b (row k)).neighbors) unseen_near ∙ ap (λ (r : WireState). r.neighbors) (moved_not starts (row k))

  -- ---- one wire more: the scratch s becomes t
  pub record Adds (met next : Meeting) (s t : List ℕ) (i : ℕ) : Type 0 where
    pub only : CountsOnly n s t
    pub count : get_or (drop (8 * n) t) i 0 ≡ count_at i
    pub counts : (k : ℕ) → (k ≡ i → ⊥) → get_or (drop (8 * n) t) k 0 ≡ get_or (drop (8 * n) s) k 0
    pub paid : next.remaining + 1 ≡ met.remaining
    pub neighbors : next.neighbors ≡ met.neighbors + bit (near i)
    pub changed : next.changed ≡ met.changed + bit (turned i)
    pub highest : next.highest ≡ max met.highest (reached i)
    pub least : (o : Option ℕ) → met.least ≡ least_float o → Representable o → (next.least ≡ least_float (lesser ltb o (gap_at i))) × Representable (lesser ltb o (gap_at i))

  -- the next index below p that is visited
  pub record Next (p i : ℕ) : Type 0 where
    pub inside : i < n
    pub below : i < p
    pub here : seen i ≡ true
    pub between : (k : ℕ) → k < n → i < k → k < p → seen k ≡ false

  module _ (met : Meeting) (s : List ℕ) (p : ℕ) (g : Going met s p) (i : ℕ) (x : Next p i) where
    paid_since : since ◌+◌ 0 n i (λ k. bit (seen k)) ≡ since ◌+◌ 0 n p (λ k. bit (seen k)) + 1
    paid_since = since_next plus n i p (λ k. bit (seen k)) x.inside x.below (λ k a b d. ap bit (x.between k a b d)) ∙ ap (λ (b : Bool). since ◌+◌ 0 n p (λ k. bit (seen k)) + bit b) x.here

    module _ (next : Meeting) (t : List ℕ) (a : Adds met next s t i) where
      new_counts : (k : ℕ) → k < n → get_or (drop (8 * n) t) k 0 ≡ cond (leb i k) (count_at k) (row k).neighbors
      new_counts k h = elim (le_or_lt i k) [
        | inr d ↦ a.counts k (λ e. omega arith) ∙ g.counts k h ∙ cond_false (leb p k) (count_at k) (row k).neighbors (lt-leb p k (omega (arith, x.below))) ∙ sym (cond_false (leb i k) (count_at k) (row k).neighbors (lt-leb i k d))
        | inl d ↦ after k h d ∙ sym (cond_true (leb i k) (count_at k) (row k).neighbors (le-leb i k d))
      ]
        where
          after : (k : ℕ) → k < n → i ≤ k → get_or (drop (8 * n) t) k 0 ≡ count_at k
          after k h d = elim (same_or_not k i) [
            | inl e ↦ ap (λ (z : ℕ). get_or (drop (8 * n) t) z 0) e ∙ a.count ∙ ap count_at (sym e)
            | inr e ↦ a.counts k e ∙ g.counts k h ∙ elim (le_or_lt p k) [
              | inl y ↦ cond_true (leb p k) (count_at k) (row k).neighbors (le-leb p k y)
              | inr y ↦ cond_false (leb p k) (count_at k) (row k).neighbors (lt-leb p k y) ∙ sym (unseen_count k (x.between k h (omega arith) y))
            ]
          ]

      new_least : (m : Option ℕ) → least₀ ≡ least_float m → Representable m → (next.least ≡ least_float (lesser ltb m (since (lesser ltb) None n i gap_at))) × Representable (lesser ltb m (since (lesser ltb) None n i gap_at))
      new_least m e h =
          let old = since (lesser ltb) None n p gap_at in
          let l = g.least m e h in
          let k = a.least (lesser ltb m old) l.0 l.1 in
          let z : lesser ltb (lesser ltb m old) (gap_at i) ≡ lesser ltb m (since (lesser ltb) None n i gap_at) = fewest.assoc m old (gap_at i) ∙ ap (lesser ltb m) (sym (since_next fewest n i p gap_at x.inside x.below (λ q u v w. unseen_gap q (x.between q u v w)))) in
          (k.0 ∙ ap least_float z, subst Representable z k.1)

      pub going_next : Going next t i
      going_next = record {
        only = record { front = a.only.front ∙ g.only.front; behind = a.only.behind ∙ g.only.behind };
        within = omega (arith, x.below, g.within);
        counts = new_counts;
        paid = let e = paid_since in let d = a.paid in let f = g.paid in omega arith;
        neighbors = a.neighbors ∙ ap (λ (z : ℕ). z + bit (near i)) g.neighbors ∙ sym (since_next plus n i p (λ k. bit (near k)) x.inside x.below (λ k u v w. ap bit (unseen_near k (x.between k u v w))));
        changed = a.changed ∙ ap (λ (z : ℕ). z + bit (turned i)) g.changed ∙ sym (since_next plus n i p (λ k. bit (turned k)) x.inside x.below (λ k u v w. unseen_turned k (x.between k u v w)));
        highest = a.highest ∙ ap (λ (z : ℕ). max z (reached i)) g.highest ∙ sym (since_next greatest n i p reached x.inside x.below (λ k u v w. unseen_reached k (x.between k u v w)));
        least = new_least;
      }

  -- ---- what the tables hold
  module _ (size : length L ≡ n) (tabled : Tabled c L s₀) (j<n : j < n) where
    in-range : (k : ℕ) → k < n → in_range c wire (item_at L k).wire ≡ (leb lo k && ltb k hi)
    in-range k h = subst (λ (z : ℕ). in_range c wire (item_at L k).wire ≡ (leb (get_or s₀ (6 * z + j) 0) k && ltb k (get_or s₀ (7 * z + j) 0))) size (tabled.ranges.range k j (omega arith) (omega arith))

    net-is : (k : ℕ) → k < n → get_or s₀ (5 * n + k) 0 ≡ (item_at L k).wire.net
    net-is k h = subst (λ (z : ℕ). get_or s₀ (5 * z + k) 0 ≡ (item_at L k).wire.net) size (tabled.nets k (omega arith))

    fixed-is : (k : ℕ) → k < n → Key (get_or s₀ (4 * n + k) 0) (item_at L k).wire.fixed
    fixed-is k h = subst (λ (z : ℕ). Key (get_or s₀ (4 * z + k) 0) (item_at L k).wire.fixed) size (tabled.fixed k (omega arith))

    hi_inside : hi ≤ n
    hi_inside = subst (λ (z : ℕ). get_or s₀ (7 * z + j) 0 ≤ z) size (tabled.ranges.inside j (omega arith))

    bits_are : drop (length L) (drop (8 * n) s₀) ≡ drop (9 * n) s₀
    bits_are = let e : 8 * n + length L ≡ 9 * n = omega arith in drop-drop (length L) (8 * n) s₀ ∙ ap (λ (z : ℕ). drop z s₀) e

    seen_is : (k : ℕ) → k < n → seen k ≡ (member (drop (9 * n) s₀) k && (leb lo k && ltb k hi))
    seen_is k h = ap₂ ◌&&◌ (ap (λ (w : List ℕ). member w k) bits_are) (in-range k h)

    is_seen : (k : ℕ) → k < n → member (drop (9 * n) s₀) k ≡ true → lo ≤ k → k < hi → seen k ≡ true
    is_seen k h m a b = seen_is k h ∙ rw (m, le-leb lo k a, lt-ltb k hi b)

    no_member : (k : ℕ) → k < n → member (drop (9 * n) s₀) k ≡ false → seen k ≡ false
    no_member k h m = seen_is k h ∙ rw m

    below-range : (k : ℕ) → k < n → k < lo → seen k ≡ false
    below-range k h a = seen_is k h ∙ rw (lt-leb lo k a) (and-false (member (drop (9 * n) s₀) k))

    past-range : (k : ℕ) → k < n → hi ≤ k → seen k ≡ false
    past-range k h a = seen_is k h ∙ rw (le-ltb k hi a, and-false (leb lo k)) (and-false (member (drop (9 * n) s₀) k))

    -- ---- before the loop
    pub going_none : (met : Meeting) → met ≡ record { neighbors = 0; changed = 0; highest = 0; least = least₀; remaining = allowance } → Going met s₀ hi
    going_none met e = subst (λ (m : Meeting). Going m s₀ hi) (sym e) (record {
      only = record { front = refl; behind = refl };
      within = omega arith;
      counts = λ k h. elim (le_or_lt hi k) [
        | inl a ↦ sym (cond_true (leb hi k) (count_at k) (row k).neighbors (le-leb hi k a) ∙ unseen_count k (past-range k h a))
        | inr a ↦ sym (cond_false (leb hi k) (count_at k) (row k).neighbors (lt-leb hi k a))
      ];
      paid = let e = since_none plus n hi (λ k. bit (seen k)) (λ k h a. ap bit (past-range k h a)) in omega arith;
      neighbors = sym (since_none plus n hi (λ k. bit (near k)) (λ k h a. ap bit (unseen_near k (past-range k h a))));
      changed = sym (since_none plus n hi (λ k. bit (turned k)) (λ k h a. unseen_turned k (past-range k h a)));
      highest = sym (since_none greatest n hi reached (λ k h a. unseen_reached k (past-range k h a)));
      least = λ m f h.
          let z : m ≡ lesser ltb m (since (lesser ltb) None n hi gap_at) = sym (lesser-none m) ∙ ap (lesser ltb m) (sym (since_none fewest n hi gap_at (λ k h a. unseen_gap k (past-range k h a)))) in
          (f ∙ ap least_float z, subst Representable z h);
    })

    -- ---- in the loop
    module _ (met : Meeting) (s : List ℕ) (p : ℕ) (g : Going met s p) where
      front-word : (k : ℕ) → k < 8 * n → get_or s k 0 ≡ get_or s₀ k 0
      front-word k h = sym (get_or-take (8 * n) s k 0 h) ∙ ap (λ (l : List ℕ). get_or l k 0) g.only.front ∙ get_or-take (8 * n) s₀ k 0 h

      pub old_count : (k : ℕ) → k < n → k < p → get_or s (8 * n + k) 0 ≡ (row k).neighbors
      old_count k h a = sym (get_or-drop (8 * n) s k 0) ∙ g.counts k h ∙ cond_false (leb p k) (count_at k) (row k).neighbors (lt-leb p k a)

      module _ (i : ℕ) (last : Greatest (drop (9 * n) s) lo p i) where
        pub next_place : Next p i
        next_place =
            let b = last.below in
            let d = g.within in
            let h : i < n = omega (arith, hi_inside) in
            record {
              inside = h;
              below = b;
              here = is_seen i h (subst (λ (w : List ℕ). member w i ≡ true) g.only.behind last.is_in) last.from_on (omega arith);
              between = λ k u v w. no_member k u (subst (λ (l : List ℕ). member l k ≡ false) g.only.behind (last.last k (omega arith) w));
            }

        near-is : near i ≡ other wire (item_at L i).wire
        near-is = sym (and_assoc (row i).active (in_range c wire (row i).item.wire) (other wire (row i).item.wire)) ∙ ap (λ (b : Bool). b && other wire (row i).item.wire) next_place.here

        module _ (net : ℕ) (of : net ≡ get_or s₀ (5 * n + j) 0) where
          net_here : get_or s (5 * n + i) 0 ≡ (item_at L i).wire.net
          net_here = front-word (5 * n + i) (omega (arith, next_place.inside)) ∙ net-is i next_place.inside

          net-wire : net ≡ wire.net
          net-wire = of ∙ net-is j j<n

          alike : get_or s (5 * n + i) 0 ≡ net → near i ≡ false
          alike e = near-is ∙ ap not (eq-eqb wire.net (item_at L i).wire.net (sym net-wire ∙ sym e ∙ net_here))

          pub differ : (get_or s (5 * n + i) 0 ≡ net → ⊥) → near i ≡ true
          differ d = near-is ∙ ap not (ne_eqb wire.net (item_at L i).wire.net (λ e. d (net_here ∙ sym e ∙ sym net-wire)))

          passing : 1 ≤ met.remaining → near i ≡ false → Adds met (paid met) s s i
          passing left e = record {
            only = record { front = refl; behind = refl };
            count = get_or-drop (8 * n) s i 0 ∙ old_count i next_place.inside next_place.below ∙ ap (λ (r : WireState). r.neighbors) (sym (moved_not starts (row i))) ∙ ap (λ (b : Bool). (moved starts b (row i)).neighbors) (sym e);
            counts = λ k d. refl;
            paid = omega arith;
            neighbors = rw e (omega arith);
            changed = rw e (omega arith);
            highest = rw e (omega arith);
            least = λ o f h. rw e (f ∙ ap least_float (sym (lesser-none o)), subst Representable (sym (lesser-none o)) h);
          }

          module _ (here : Float) (at : here ≡ float_at (get_or s₀ (4 * n + j) 0)) (room : 9 * n ≤ length s) where
            abbrev met-count : ℕ
            met-count = get_or s (8 * n + i) 0

            abbrev met-gap : Float
            met-gap = gap_of (float_at (get_or s (4 * n + i) 0)) here

            count-is : met-count ≡ (row i).neighbors
            count-is = old_count i next_place.inside next_place.below

            inside-counts : 8 * n + i < length s
            inside-counts = omega (arith, next_place.inside)

            gap_is : met-gap ≡ gap_of (float_at (get_or s₀ (4 * n + i) 0)) (float_at (get_or s₀ (4 * n + j) 0))
            gap_is = ap₂ (λ (w : ℕ) (x : Float). gap_of (float_at w) x) (front-word (4 * n + i) (omega (arith, next_place.inside))) at

            meeting : 1 ≤ met.remaining → near i ≡ true → Adds met (with_neighbor starts met-count met-gap met) s (set s (8 * n + i) (count_after starts met-count)) i
            meeting left e = record {
              only = record { front = take-set-le (8 * n) s (8 * n + i) (count_after starts met-count) (omega arith); behind = drop-set-lt (9 * n) s (8 * n + i) (count_after starts met-count) (omega (arith, next_place.inside)) };
              count = get_or-drop (8 * n) (set s (8 * n + i) (count_after starts met-count)) i 0 ∙ get_or-set_same s (8 * n + i) (count_after starts met-count) 0 inside-counts ∙ ap (count_after starts) count-is ∙ sym (moved-count starts (row i)) ∙ ap (λ (b : Bool). (moved starts b (row i)).neighbors) (sym e);
              counts = λ k d. get_or-drop (8 * n) (set s (8 * n + i) (count_after starts met-count)) k 0 ∙ get_or-set_other s (8 * n + i) (8 * n + k) (count_after starts met-count) 0 (λ q. d (omega arith)) ∙ sym (get_or-drop (8 * n) s k 0);
              paid = omega arith;
              neighbors = rw e;
              changed = rw e (ap (λ (z : ℕ). met.changed + bit (eqb z (changing_count starts))) count-is);
              highest = rw e (ap (highest_after starts met.highest) count-is ∙ highest_top starts met.highest (row i).neighbors);
              least = λ o f h.
                  let k = keys_join o (get_or s₀ (4 * n + i) 0) (get_or s₀ (4 * n + j) 0) (item_at L i).wire.fixed wire.fixed h (fixed-is i next_place.inside) (fixed-is j j<n) in
                  rw e (ap₂ with_gap f gap_is ∙ k.0, k.1);
            }

            pub visit_next : 1 ≤ met.remaining → (t : List ℕ) (next : Meeting) → Visits s t n i net here starts met next → Going next t i
            visit_next left t next v = elim (same_or_not (get_or s (5 * n + i) 0) net) [
              | inl d ↦ let q = v.passes d in arrive (paid met) s q.0 q.1 (passing left (alike d))
              | inr d ↦ let q = v.meets d in arrive (with_neighbor starts met-count met-gap met) (set s (8 * n + i) (count_after starts met-count)) q.0 q.1 (meeting left (differ d))
            ]
              where
                arrive : (m : Meeting) (l : List ℕ) → next ≡ m → t ≡ l → Adds met m s l i → Going next t i
                arrive m l e x a = subst (λ (z : Meeting). Going z t i) (sym e) (subst (λ (z : List ℕ). Going m z i) (sym x) (going_next met s p g i next_place m l a))

        pub visit_stops : met.remaining ≡ 0 → allowance < fold ◌+◌ 0 (λ k. bit (seen k)) (up_to n)
        visit_stops e =
            let a = g.paid in
            let b = paid_since met s p g i next_place in
            let d = since_below_all n i (λ k. bit (seen k)) in
            omega arith

    -- ---- after the loop
    module _ (st : State) (stored : Stored L st (drop (8 * n) s₀)) where
      over_rows : {M : Type 0} {◌⊕◌ : M → M → M} {u : M} (O : Monoid ◌⊕◌ u) (f : WireState → M) → fold ◌⊕◌ u f st.wires ≡ fold ◌⊕◌ u (λ k. f (row k)) (up_to n)
      over_rows {◌⊕◌ = ◌⊕◌} {u = u} O f = ap (fold ◌⊕◌ u f) stored.wires ∙ fold-map O f row (up_to (length L)) ∙ ap (λ (z : ℕ). fold ◌⊕◌ u (λ k. f (row k)) (up_to z)) size

      abbrev visits : ℕ
      visits = visits_of c L j st

      visits_are : visits ≡ fold ◌+◌ 0 (λ k. bit (seen k)) (up_to n)
      visits_are = over_rows plus (λ x. bit (visited c wire x))

      abbrev outcome : Option ℕ → Meeting
      outcome m = record {
        neighbors = neighbors c (item_at L j) st;
        changed = count (λ x. neighbor c wire x && eqb x.neighbors (changing_count starts)) st.wires;
        highest = topmost starts (neighbor c wire) st.wires;
        least = least_float (lesser ltb m (least_here c (item_at L j) st));
        remaining = allowance - visits;
      }

      pub spent-meets : allowance < fold ◌+◌ 0 (λ k. bit (seen k)) (up_to n) → (m : Option ℕ) (t : List ℕ) → (allowance < visits → ◌≡◌ {A = Result Meeting Refusal} (Err WorkLimitExceeded) (Err WorkLimitExceeded)) × (visits ≤ allowance → (Err WorkLimitExceeded ≡ Ok (outcome m)) × (wire_states_from L (drop (8 * n) t) ≡ map (λ x. moved starts (neighbor c wire x) x) st.wires))
      spent-meets h m t = (λ a. refl, λ a. absurd (omega (arith, visits_are)))

      module _ (met : Meeting) (s : List ℕ) (p : ℕ) (g : Going met s p) (last : NoneIn (drop (9 * n) s) lo p) where
        rest_unseen : (k : ℕ) → k < n → k < p → seen k ≡ false
        rest_unseen k h a = elim (le_or_lt lo k) [
          | inl b ↦ no_member k h (subst (λ (l : List ℕ). member l k ≡ false) g.only.behind (last k b a))
          | inr b ↦ below-range k h b
        ]

        left_is : met.remaining + visits ≡ allowance
        left_is = let e = visits_are in let d = since_all plus n p (λ k. bit (seen k)) (λ k h a. ap bit (rest_unseen k h a)) in let f = g.paid in omega arith

        met-is : (m : Option ℕ) → least₀ ≡ least_float m → Representable m → met ≡ outcome m
        met-is m e h =
            let a : met.neighbors ≡ neighbors c (item_at L j) st = g.neighbors ∙ since_all plus n p (λ k. bit (near k)) (λ k h a. ap bit (unseen_near k (rest_unseen k h a))) ∙ sym (over_rows plus (λ x. bit (neighbor c wire x))) in
            let b : met.changed ≡ count (λ x. neighbor c wire x && eqb x.neighbors (changing_count starts)) st.wires = g.changed ∙ since_all plus n p (λ k. bit (turned k)) (λ k h a. unseen_turned k (rest_unseen k h a)) ∙ sym (over_rows plus (λ x. bit (neighbor c wire x && eqb x.neighbors (changing_count starts)))) in
            let d : met.highest ≡ topmost starts (neighbor c wire) st.wires = g.highest ∙ since_all greatest n p reached (λ k h a. unseen_reached k (rest_unseen k h a)) ∙ sym (over_rows greatest (λ x. cond (neighbor c wire x) (top starts x.neighbors) 0)) ∙ topmost-is starts (neighbor c wire) st.wires in
            let k = g.least m e h in
            let f : met.least ≡ least_float (lesser ltb m (least_here c (item_at L j) st)) = k.0 ∙ ap (λ (o : Option ℕ). least_float (lesser ltb m o)) (since_all fewest n p gap_at (λ k h a. unseen_gap k (rest_unseen k h a)) ∙ sym (over_rows fewest (λ x. cond (neighbor c wire x) (gap wire x.item.wire) None))) in
            let l : met.remaining ≡ allowance - visits = omega (arith, left_is) in
            λ i. record { neighbors = a i; changed = b i; highest = d i; least = f i; remaining = l i }

        counted : (k : ℕ) → k < n → get_or (drop (8 * n) s) k 0 ≡ count_at k
        counted k h = g.counts k h ∙ elim (le_or_lt p k) [
          | inl a ↦ cond_true (leb p k) (count_at k) (row k).neighbors (le-leb p k a)
          | inr a ↦ cond_false (leb p k) (count_at k) (row k).neighbors (lt-leb p k a) ∙ sym (unseen_count k (rest_unseen k h a))
        ]

        same_bits : drop (length L) (drop (8 * n) s) ≡ drop (length L) (drop (8 * n) s₀)
        same_bits = let e : 8 * n + length L ≡ 9 * n = omega arith in drop-drop (length L) (8 * n) s ∙ ap (λ (z : ℕ). drop z s) e ∙ g.only.behind ∙ sym bits_are

        rows_are : wire_states_from L (drop (8 * n) s) ≡ map (λ x. moved starts (neighbor c wire x) x) st.wires
        rows_are =
            map_same (wire_state_from L (drop (8 * n) s)) (λ k. moved starts (near k) (row k)) (up_to (length L)) (λ k m.
            let h : k < n = omega (arith, up_to-below (length L) k m) in
            ap₂ (λ (b : Bool) (z : ℕ). record { item = item_at L k; active = b; neighbors = z }) (ap (λ (w : List ℕ). member w k) same_bits) (counted k h) ∙ moved-parts starts (near k) (row k))
            ∙ sym (map-map (λ x. moved starts (neighbor c wire x) x) row (up_to (length L)))
            ∙ ap (map (λ x. moved starts (neighbor c wire x) x)) (sym stored.wires)

        pub went-meets : (m : Option ℕ) → least₀ ≡ least_float m → Representable m → (allowance < visits → Ok met ≡ Err WorkLimitExceeded) × (visits ≤ allowance → (◌≡◌ {A = Result Meeting Refusal} (Ok met) (Ok (outcome m))) × (wire_states_from L (drop (8 * n) s) ≡ map (λ x. moved starts (neighbor c wire x) x) st.wires))
        went-meets m e h = (λ a. absurd (omega (arith, left_is)), λ a. (ap Ok (met-is m e h), rows_are))
