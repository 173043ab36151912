-- The rows that the words after the tables hold, index by index, and that the tables stay when only those words change. Assumes nothing.
use mathlib.Core.Path.{◌≡◌, sym, ap, ap₂, ◌∙◌, subst}
use mathlib.Core.Logic.{inl, inr}
use mathlib.Core.Bool.{Bool, not, ◌&&◌}
use mathlib.Core.List.{List, [], ◌∷◌, map, map-map}
use Prim.Native.Nat.{ℕ, zero, suc, ◌+◌, ◌*◌, ◌≤◌, ◌<◌}
use native.Mathlib.Omega.{arith}
use lib.Dec.{eqb, leb, ltb}
use lib.ListN.{length, get_or, take, length-map}
use lib.Seq.{get_or-take, take-take}
use borrow.Author.Tests.{eq-eqb, ne_eqb}
use Rattle.laws.specs.Lists.{Mem, All, bit, fold, count}
use Rattle.laws.proofs.Tests.{same_or_not}
use Rattle.laws.proofs.ListLaws.{append_left, append_right, mem_map, map_mem, map_same}
use Rattle.laws.proofs.Folds.{plus, fold-append, fold-map, fold-unit}
use Rattle.sorting.specs.Inner.Sorted.{up_to}
use Rattle.sorting.proofs.Entries.{length-up_to, up_to-below}
use Rattle.congestion.specs.Wires.{Wire}
use Rattle.congestion.specs.Walk.{WireState, State, was_congested}
use Rattle.congestion.specs.Inner.Keys.{Key}
use Rattle.density_call.specs.Inner.Tables.{item_at, event_at, Tabled, wire_state_from, wire_states_from}

-- ---- indices
pub up_to_mem : (n i : ℕ) → i < n → Mem i (up_to n)
unfolding up_to
up_to_mem zero i h = absurd (omega arith)
up_to_mem (suc n) i h = elim (same_or_not i n) [
  | inl e ↦ append_right i (up_to n) (n ∷ []) (inl e)
  | inr e ↦ append_left i (up_to n) (n ∷ []) (up_to_mem n i (omega arith))
]

-- of the indices only j counts
count-one : (p : ℕ → Bool) (n j : ℕ) → j < n → count (λ i. eqb j i && p i) (up_to n) ≡ bit (p j)
unfolding up_to fold
count-one p zero j h = absurd (omega arith)
count-one p (suc n) j h = fold-append plus (λ i. bit (eqb j i && p i)) (up_to n) (n ∷ []) ∙ elim (same_or_not j n) [
  | inl e ↦
      let none : count (λ i. eqb j i && p i) (up_to n) ≡ 0 = fold-unit plus (λ i. bit (eqb j i && p i)) (up_to n) (λ i m. ap (λ (b : Bool). bit (b && p i)) (ne_eqb j i (λ q. omega (arith, up_to-below n i m)))) in
      let one : bit (eqb j n && p n) ≡ bit (p j) = ap (λ (b : Bool). bit (b && p n)) (eq-eqb j n e) ∙ ap (λ (i : ℕ). bit (p i)) (sym e) in
      omega arith
  | inr e ↦
      let more : count (λ i. eqb j i && p i) (up_to n) ≡ bit (p j) = count-one p n j (omega arith) in
      let none : bit (eqb j n && p n) ≡ 0 = ap (λ (b : Bool). bit (b && p n)) (ne_eqb j n e) in
      omega arith
]

-- two functions that agree along a list agree on its entries
along : {A B : Type 0} (f g : A → B) (l : List A) → map f l ≡ map g l → (x : A) → Mem x l → f x ≡ g x
along f g [] e x m = elim m [ ]
along f g (y ∷ l) e x (inl q) = let h : f y ≡ g y = cc in ap f q ∙ h ∙ sym (ap g q)
along f g (y ∷ l) e x (inr m) = let h : map f l ≡ map g l = cc in along f g l h x m

-- ---- rows
module _ (L : List Wire) where
  pub row-there : (w : List ℕ) (i : ℕ) → i < length L → Mem (wire_state_from L w i) (wire_states_from L w)
  row-there w i h = map_mem (wire_state_from L w) (up_to (length L)) i (up_to_mem (length L) i h)

  pub row-place : (w : List ℕ) (r : WireState) → Mem r (wire_states_from L w) → (i : ℕ) × (i < length L) × (r ≡ wire_state_from L w i)
  row-place w r m = let k = mem_map (wire_state_from L w) (up_to (length L)) r m in (k.0, up_to-below (length L) k.0 k.1, k.2)

  pub rows-length : (w : List ℕ) → length (wire_states_from L w) ≡ length L
  rows-length w = length-map (up_to (length L)) (wire_state_from L w) ∙ length-up_to (length L)

  -- the words v hold the rows of w under a function f, where they do so at each index
  module _ (w v : List ℕ) (f : WireState → WireState) where
    pub rows_are : ((i : ℕ) → i < length L → wire_state_from L v i ≡ f (wire_state_from L w i)) → wire_states_from L v ≡ map f (wire_states_from L w)
    rows_are h = map_same (wire_state_from L v) (λ i. f (wire_state_from L w i)) (up_to (length L)) (λ i m. h i (up_to-below (length L) i m)) ∙ sym (map-map f (wire_state_from L w) (up_to (length L)))

    pub rows_at : wire_states_from L v ≡ map f (wire_states_from L w) → (i : ℕ) → i < length L → wire_state_from L v i ≡ f (wire_state_from L w i)
    rows_at e i h = along (wire_state_from L v) (λ i. f (wire_state_from L w i)) (up_to (length L)) (e ∙ map-map f (wire_state_from L w) (up_to (length L))) i (up_to_mem (length L) i h)

  -- a wire's own count says whether it was congested
  pub own-congested : (c j : ℕ) (st : State) (w : List ℕ) → st.wires ≡ wire_states_from L w → j < length L → was_congested c (item_at L j) st ≡ bit (not (eqb (get_or w j 0) 0))
  own-congested c j st w e h =
      ap (count (λ r. eqb j r.item.index && not (eqb r.neighbors 0))) e
      ∙ fold-map plus (λ r. bit (eqb j r.item.index && not (eqb r.neighbors 0))) (wire_state_from L w) (up_to (length L))
      ∙ count-one (λ i. not (eqb (get_or w i 0) 0)) (length L) j h

-- ---- the tables stay
front-word : (n : ℕ) (s t : List ℕ) → take n t ≡ take n s → (i : ℕ) → i < n → get_or s i 0 ≡ get_or t i 0
front-word n s t e i h = sym (get_or-take n s i 0 h) ∙ sym (ap (λ (l : List ℕ). get_or l i 0) e) ∙ get_or-take n t i 0 h

pub tables_stay : (c : ℕ) (L : List Wire) (s t : List ℕ) → take (8 * length L) t ≡ take (8 * length L) s → Tabled c L s → Tabled c L t
tables_stay c L s t e a = record {
  small = subst (All (λ e. e < 2 * length L)) first a.small;
  ordered = ap (map (event_at L)) (sym first) ∙ a.ordered;
  ends = λ j h. subst (λ (x : ℕ). Key x (item_at L j).wire.end) (word (2 * length L + j) (omega arith)) (a.ends j h);
  starts = λ j h. subst (λ (x : ℕ). Key x (item_at L j).wire.start) (word (3 * length L + j) (omega arith)) (a.starts j h);
  fixed = λ j h. subst (λ (x : ℕ). Key x (item_at L j).wire.fixed) (word (4 * length L + j) (omega arith)) (a.fixed j h);
  nets = λ j h. sym (word (5 * length L + j) (omega arith)) ∙ a.nets j h;
  ranges = record {
    inside = λ j h. subst (λ (x : ℕ). x ≤ length L) (word (7 * length L + j) (omega arith)) (a.ranges.inside j h);
    range = λ i j h k. a.ranges.range i j h k ∙ ap₂ (λ (x y : ℕ). leb x i && ltb i y) (word (6 * length L + j) (omega arith)) (word (7 * length L + j) (omega arith));
  };
}
  where
    word : (i : ℕ) → i < 8 * length L → get_or s i 0 ≡ get_or t i 0
    word i h = front-word (8 * length L) s t e i h

    first : take (2 * length L) s ≡ take (2 * length L) t
    first = sym (take-take (2 * length L) (8 * length L) s (omega arith)) ∙ ap (take (2 * length L)) (sym e) ∙ take-take (2 * length L) (8 * length L) t (omega arith)
