-- A wire's own count and its bit in the set of active wires are written: the rows that the words then hold. Assumes nothing.
use mathlib.Core.Path.{◌≡◌, refl, sym, ap, ap₂, ◌∙◌}
use mathlib.Core.Logic.{inl, inr}
use mathlib.Core.Bool.{Bool, true, false, not, ◌&&◌, ◌||◌}
use mathlib.Core.List.{List, ◌++◌, map}
use Prim.Native.Nat.{ℕ, ◌+◌, ◌-◌, ◌*◌, ◌/◌, ◌≤◌, ◌<◌}
use native.Mathlib.Omega.{arith}
use lib.Dec.{eqb}
use lib.ListN.{length, get_or, take, drop, set, length-append, length-set, length-drop, get_or-append}
use lib.Seq.{length-take-le, take-take, take-append-le, drop-drop, drop_at, get_or-take, get_or-drop, take-set-le, drop-set-lt, drop-set-add, get_or-set_same, get_or-set_other}
use borrow.Author.Tests.{eq-eqb, ne_eqb}
use borrow.Rule.Slice.PartMut.{mid_of, put_mid}
use Rattle.laws.proofs.Tests.{same_or_not}
use Rattle.laws.proofs.Parts.{tail_lent, tail_back}
use Rattle.bitset.specs.Inner.Members.{member, inserted, removed}
use Rattle.bitset.proofs.Sets.{length_inserted, length_removed, member-inserted, member-removed}
use Rattle.congestion.specs.Wires.{Wire}
use Rattle.congestion.specs.Walk.{WireState, State, neighbor, neighbors, risen, fallen, after_start, after_end}
use Rattle.density_call.specs.Inner.Tables.{item_at, wire_state_from, wire_states_from, Stored}
use Rattle.density_call.specs.Inner.Sweeping.{activated, deactivated}
use Rattle.density_call.proofs.RowPlaces.{rows_are, rows_at}

-- ---- the count k is written at j, and the set becomes v
module _ (n j k : ℕ) (t v : List ℕ) (inside : j < n) (room : 10 * n ≤ length t) where
  abbrev front : List ℕ
  front = take (9 * n) (set t (8 * n + j) k)

  abbrev marked : List ℕ
  marked = front ++ v

  front_long : length front ≡ 9 * n
  front_long = length-take-le (9 * n) (set t (8 * n + j) k) (omega (arith, length-set t (8 * n + j) k))

  marked-front : take (8 * n) marked ≡ take (8 * n) t
  marked-front = take-append-le (8 * n) front v (omega (arith, front_long)) ∙ take-take (8 * n) (9 * n) (set t (8 * n + j) k) (omega arith) ∙ take-set-le (8 * n) t (8 * n + j) k (omega arith)

  marked-long : length v ≡ length (drop (9 * n) t) → length marked ≡ length t
  marked-long e = omega (arith, length-append front v, front_long, length-drop (9 * n) t)

  set_there : drop n (drop (8 * n) marked) ≡ v
  set_there =
      let e : 8 * n + n ≡ 9 * n = omega arith in
      drop-drop n (8 * n) marked ∙ ap (λ (m : ℕ). drop m marked) e ∙ drop_at front v (9 * n) front_long

  count-there : (i : ℕ) → i < n → get_or (drop (8 * n) marked) i 0 ≡ get_or (set (drop (8 * n) t) j k) i 0
  count-there i h =
      get_or-drop (8 * n) marked i 0
      ∙ get_or-append front v 0 (8 * n + i) (omega (arith, front_long))
      ∙ get_or-take (9 * n) (set t (8 * n + j) k) (8 * n + i) 0 (omega arith)
      ∙ sym (get_or-drop (8 * n) (set t (8 * n + j) k) i 0)
      ∙ ap (λ (l : List ℕ). get_or l i 0) (drop-set-add (8 * n) t j k)

  own-count : get_or (drop (8 * n) marked) j 0 ≡ k
  own-count = count-there j inside ∙ get_or-set_same (drop (8 * n) t) j k 0 (omega (arith, length-drop (8 * n) t))

  other-count : (i : ℕ) → i < n → (i ≡ j → ⊥) → get_or (drop (8 * n) marked) i 0 ≡ get_or (drop (8 * n) t) i 0
  other-count i h d = count-there i h ∙ get_or-set_other (drop (8 * n) t) j i k 0 d

  -- ---- the rows: a function f of those of w, where those of t are a function g of them
  module _ (L : List Wire) (size : length L ≡ n) (b : Bool) (own : member v j ≡ b) (others : (i : ℕ) → (i ≡ j → ⊥) → member v i ≡ member (drop (9 * n) t) i)
      (w : List ℕ) (f g : WireState → WireState) (met : wire_states_from L (drop (8 * n) t) ≡ map g (wire_states_from L w))
      (mine : f (wire_state_from L w j) ≡ record { item = item_at L j; active = b; neighbors = k }) (rest : (i : ℕ) → (i ≡ j → ⊥) → f (wire_state_from L w i) ≡ g (wire_state_from L w i)) where
    old_set : drop (length L) (drop (8 * n) t) ≡ drop (9 * n) t
    old_set = let e : 8 * n + length L ≡ 9 * n = omega arith in drop-drop (length L) (8 * n) t ∙ ap (λ (m : ℕ). drop m t) e

    new_set : drop (length L) (drop (8 * n) marked) ≡ v
    new_set = ap (λ (m : ℕ). drop m (drop (8 * n) marked)) size ∙ set_there

    own_row : wire_state_from L (drop (8 * n) marked) j ≡ f (wire_state_from L w j)
    own_row = ap₂ (λ (a : Bool) (m : ℕ). record { item = item_at L j; active = a; neighbors = m }) (ap (λ (l : List ℕ). member l j) new_set ∙ own) own-count ∙ sym mine

    other_row : (i : ℕ) → i < n → (i ≡ j → ⊥) → wire_state_from L (drop (8 * n) marked) i ≡ wire_state_from L (drop (8 * n) t) i
    other_row i h d = ap₂ (λ (a : Bool) (m : ℕ). record { item = item_at L i; active = a; neighbors = m }) (ap (λ (l : List ℕ). member l i) new_set ∙ others i d ∙ sym (ap (λ (l : List ℕ). member l i) old_set)) (other-count i h d)

    marked-rows : wire_states_from L (drop (8 * n) marked) ≡ map f (wire_states_from L w)
    marked-rows = rows_are L w (drop (8 * n) marked) f (λ i h. elim (same_or_not i j) [
      | inl e ↦ ap (wire_state_from L (drop (8 * n) marked)) e ∙ own_row ∙ ap (λ (z : ℕ). f (wire_state_from L w z)) (sym e)
      | inr d ↦ other_row i (omega arith) d ∙ rows_at L w (drop (8 * n) t) g met i h ∙ sym (rest i d)
    ])

-- ---- wire j becomes active, or ceases to be
module _ (n j : ℕ) (t : List ℕ) (inside : j < n) (room : 10 * n ≤ length t) where
  word-there : j / 64 < length (drop (9 * n) t)
  word-there = omega (arith, length-drop (9 * n) t)

  pub activated-long : (k : ℕ) → length (activated n j k t) ≡ length t
  unfolding activated
  activated-long k = marked-long n j k t (inserted (drop (9 * n) t) j) inside room (length_inserted (drop (9 * n) t) j)

  pub deactivated-long : length (deactivated n j t) ≡ length t
  unfolding deactivated
  deactivated-long = marked-long n j 0 t (removed (drop (9 * n) t) j) inside room (length_removed (drop (9 * n) t) j)

  pub activated-front : (k : ℕ) → take (8 * n) (activated n j k t) ≡ take (8 * n) t
  unfolding activated
  activated-front k = marked-front n j k t (inserted (drop (9 * n) t) j) inside room

  pub deactivated-front : take (8 * n) (deactivated n j t) ≡ take (8 * n) t
  unfolding deactivated
  deactivated-front = marked-front n j 0 t (removed (drop (9 * n) t) j) inside room

  module _ (c : ℕ) (L : List Wire) (st : State) (w : List ℕ) (x : ℕ) (size : length L ≡ n) (rows : st.wires ≡ wire_states_from L w) (more : 10 * n + 1 ≤ length t) where
    abbrev near : WireState → Bool
    near r = neighbor c (item_at L j).wire r

    behind : (u : List ℕ) → length u ≡ length t → 2 * length L + 1 ≤ length (drop (8 * n) u)
    behind u e = omega (arith, length-drop (8 * n) u)

    pub activated-rows : wire_states_from L (drop (8 * n) t) ≡ map (λ r. risen false (near r) 0 r) st.wires → Stored L (after_start c (item_at L j) st x) (drop (8 * n) (activated n j (neighbors c (item_at L j) st) t))
    unfolding activated
    activated-rows met =
        let k = neighbors c (item_at L j) st in
        let v = inserted (drop (9 * n) t) j in
        let f : WireState → WireState = λ r. risen (eqb j r.item.index) (near r) k r in
        record {
          wires = ap (map f) rows ∙ sym (marked-rows n j k t v inside room L size true
              (member-inserted (drop (9 * n) t) j word-there j ∙ ap (λ (b : Bool). b || member (drop (9 * n) t) j) (eq-eqb j j refl))
              (λ i d. member-inserted (drop (9 * n) t) j word-there i ∙ ap (λ (b : Bool). b || member (drop (9 * n) t) i) (ne_eqb i j d))
              w f (λ r. risen false (near r) 0 r) (met ∙ ap (map (λ r. risen false (near r) 0 r)) rows)
              (ap (λ (b : Bool). risen b (near (wire_state_from L w j)) k (wire_state_from L w j)) (eq-eqb j j refl))
              (λ i d. ap (λ (b : Bool). risen b (near (wire_state_from L w i)) k (wire_state_from L w i)) (ne_eqb j i (λ e. d (sym e))) ∙ not_own (near (wire_state_from L w i)) k (wire_state_from L w i)));
          room = behind (activated n j k t) (activated-long k);
        }
      where
        not_own : (b : Bool) (k : ℕ) (r : WireState) → risen false b k r ≡ risen false b 0 r
        not_own true k r = refl
        not_own false k r = refl

    pub deactivated-rows : wire_states_from L (drop (8 * n) t) ≡ map (λ r. fallen false (near r) r) st.wires → Stored L (after_end c (item_at L j) st x) (drop (8 * n) (deactivated n j t))
    unfolding deactivated
    deactivated-rows met =
        let v = removed (drop (9 * n) t) j in
        let f : WireState → WireState = λ r. fallen (eqb j r.item.index) (near r) r in
        record {
          wires = ap (map f) rows ∙ sym (marked-rows n j 0 t v inside room L size false
              (member-removed (drop (9 * n) t) j word-there j ∙ ap (λ (b : Bool). not b && member (drop (9 * n) t) j) (eq-eqb j j refl))
              (λ i d. member-removed (drop (9 * n) t) j word-there i ∙ ap (λ (b : Bool). not b && member (drop (9 * n) t) i) (ne_eqb i j d))
              w f (λ r. fallen false (near r) r) (met ∙ ap (map (λ r. fallen false (near r) r)) rows)
              (ap (λ (b : Bool). fallen b (near (wire_state_from L w j)) (wire_state_from L w j)) (eq-eqb j j refl))
              (λ i d. ap (λ (b : Bool). fallen b (near (wire_state_from L w i)) (wire_state_from L w i)) (ne_eqb j i (λ e. d (sym e)))));
          room = behind (deactivated n j t) deactivated-long;
        }

-- ---- as the code writes them: the word of the count, and then the set, which is lent and comes back as e
module _ (n j k : ℕ) (s : List ℕ) (inside : j < n) (room : 10 * n ≤ length s) where
  abbrev stored : List ℕ
  stored = set s (8 * n + j) k

  set_room : 9 * n ≤ length stored
  set_room = omega (arith, length-set s (8 * n + j) k)

  lent-set : mid_of (9 * n) (length stored - 9 * n) stored ≡ drop (9 * n) s
  lent-set = tail_lent (9 * n) stored ∙ drop-set-lt (9 * n) s (8 * n + j) k (omega arith)

  written : (f : List ℕ → List ℕ) (e : List ℕ) → e ≡ f (mid_of (9 * n) (length stored - 9 * n) stored) → put_mid (9 * n) (length stored - 9 * n) stored e ≡ take (9 * n) stored ++ f (drop (9 * n) s)
  written f e h = tail_back (9 * n) stored e set_room ∙ ap (λ (l : List ℕ). take (9 * n) stored ++ l) (h ∙ ap f lent-set)

  pub activates : (e : List ℕ) → e ≡ inserted (mid_of (9 * n) (length stored - 9 * n) stored) j → put_mid (9 * n) (length stored - 9 * n) stored e ≡ activated n j k s
  unfolding activated
  activates e h = written (λ l. inserted l j) e h

module _ (n j : ℕ) (s : List ℕ) (inside : j < n) (room : 10 * n ≤ length s) where
  abbrev blank : List ℕ
  blank = set s (8 * n + j) 0

  pub deactivates : (e : List ℕ) → e ≡ removed (mid_of (9 * n) (length blank - 9 * n) blank) j → put_mid (9 * n) (length blank - 9 * n) blank e ≡ deactivated n j s
  unfolding deactivated
  deactivates e h = written n j 0 s inside room (λ l. removed l j) e h
