-- The sweep's state is a function of the active set: its rows, its congested items and its close pairs. Assumes nothing.
use mathlib.Core.Path.{◌≡◌, refl, sym, ap, ap₂, ◌∙◌, subst}
use mathlib.Core.List.{List, map, map-map}
use mathlib.Core.Bool.{Bool, true, false, not, ◌&&◌, ◌||◌, cond, and_comm}
use Prim.Native.Nat.{ℕ, ◌+◌, ◌-◌, ◌≤◌, max, zero-le}
use native.Mathlib.Omega.{arith}
use native.Mathlib.Nat.{le_trans, le_of_eq}
use lib.Dec.{T, ltb, eqb, eqb→eq, eqb_refl}
use lib.Ieee.Fits.{eq→eqb}
use Rattle.laws.proofs.ListLaws.{map_same}
use Rattle.laws.specs.Lists.{Mem, fold, bit, count}
use Rattle.laws.proofs.Tests.{clash, is_true, same_test}
use Rattle.laws.proofs.Folds.{Monoid, plus, greatest, fold_same, fold-map, greatest_at_most, at_most_greatest}
use Rattle.congestion.specs.Figures.{other}
use Rattle.congestion.specs.Walk.{Item, WireState, State, same, in_range, neighbor, risen, fallen, neighbors, was_congested, highest, after_start, after_end}
use Rattle.congestion.proofs.Sets.{Rising, is_same, neighbors_in, congested_in, pairs_in, neighbors-same, congested-same, pairs-same, gone, out, own_out, change, own-count, congested-add, pairs-add, pick}

-- ---- which active items count as neighbors
abbrev pub facing : ℕ → Item → Item → Bool
facing c i j = in_range c i.wire j.wire && other i.wire j.wire

pub eqb_turn : (m n : ℕ) → eqb m n ≡ eqb n m
eqb_turn m n = same_test (eqb m n) (eqb n m) (λ t. eq→eqb (sym (eqb→eq m n t))) (λ t. eq→eqb (sym (eqb→eq n m t)))

pub facing_sym : (c : ℕ) (i j : Item) → facing c i j ≡ facing c j i
facing_sym c i j = ap₂ ◌&&◌ (and_comm (ltb i.wire.fixed (j.wire.fixed + c)) (ltb j.wire.fixed (i.wire.fixed + c))) (ap not (eqb_turn i.wire.net j.wire.net))

pub facing_irr : (c : ℕ) (i : Item) → facing c i i ≡ false
facing_irr c i = ap (λ (b : Bool). in_range c i.wire i.wire && not b) (is_true (eqb i.wire.net i.wire.net) (eqb_refl i.wire.net)) ∙ and_comm (in_range c i.wire i.wire) false

-- ---- a state in which the items of the set w are active
abbrev pub row : Item → Bool → ℕ → WireState
row i b n = record { item = i; active = b; neighbors = n }

abbrev pub row_in : ℕ → List Item → (Item → Bool) → Item → WireState
row_in c l w i = row i (w i) (cond (w i) (neighbors_in (facing c) l w i) 0)

pub record Tracks (c : ℕ) (l : List Item) (w : Item → Bool) (st : State) : Type 0 where
  pub rows_are : st.wires ≡ map (row_in c l w) l
  pub active-is : st.congested_active ≡ congested_in (facing c) l w
  pub pairs_are : st.close_pairs ≡ pairs_in (facing c) l w
  pub peaks : (i : Item) → Mem i l → T (w i) → neighbors_in (facing c) l w i ≤ st.peak_close_neighbors

pub tracks_same : (c : ℕ) (l : List Item) (v w : Item → Bool) (st : State) → ((j : Item) → Mem j l → v j ≡ w j) → Tracks c l v st → Tracks c l w st
tracks_same c l v w st eq t = record {
  rows_are = t.rows_are ∙ map_same (row_in c l v) (row_in c l w) l (λ i m. ap₂ (λ (b : Bool) (n : ℕ). row i b (cond b n 0)) (eq i m) (neighbors-same (facing c) l v w eq i));
  active-is = t.active-is ∙ congested-same (facing c) l v w eq;
  pairs_are = t.pairs_are ∙ pairs-same (facing c) l v w eq;
  peaks = λ i m h. le_trans (le_of_eq (sym (neighbors-same (facing c) l v w eq i))) (t.peaks i m (subst T (sym (eq i m)) h));
}

-- a fold over the rows is a fold over the items
pub over_rows : {M : Type 0} {◌⊕◌ : M → M → M} {u : M} (L : Monoid ◌⊕◌ u) (c : ℕ) (l : List Item) (w : Item → Bool) (st : State) → Tracks c l w st → (f : WireState → M) → fold ◌⊕◌ u f st.wires ≡ fold ◌⊕◌ u (λ i. f (row_in c l w i)) l
over_rows {◌⊕◌ = ◌⊕◌} {u = u} L c l w st t f = ap (fold ◌⊕◌ u f) t.rows_are ∙ fold-map L f (row_in c l w) l

-- one row: b is a or m, where m marks the item itself and r a neighbor
rise_row : (i : Item) (a b m r : Bool) (n p q : ℕ) → b ≡ (a || m) → (T m → a ≡ false) → (T m → p ≡ q) → p ≡ n + bit r → risen m (a && r) q (row i a (cond a n 0)) ≡ row i b (cond b p 0)
rise_row i true b true r n p q e f h k = clash true refl (f tt)
rise_row i false b true r n p q e f h k = ap₂ (row i) (sym e) (sym (ap (λ (z : Bool). cond z p 0) e ∙ h tt))
rise_row i true b false true n p q e f h k = ap (λ (z : Bool). row i z (cond z (n + 1) 0)) (sym e) ∙ ap (λ (z : ℕ). row i b (cond b z 0)) (sym k)
rise_row i true b false false n p q e f h k = let z : n ≡ p = omega arith in ap (λ (z : Bool). row i z (cond z n 0)) (sym e) ∙ ap (λ (z : ℕ). row i b (cond b z 0)) z
rise_row i false b false r n p q e f h k = ap (λ (z : Bool). row i z (cond z p 0)) (sym e)

fall_row : (i : Item) (a b m r : Bool) (n p : ℕ) → b ≡ (a || m) → (T m → a ≡ false) → p ≡ n + bit r → fallen m (b && r) (row i b (cond b p 0)) ≡ row i a (cond a n 0)
fall_row i a b true r n p e f k = ap (λ (z : Bool). row i z (cond z n 0)) (sym (f tt))
fall_row i true b false true n p e f k = let z : p - 1 ≡ n = omega arith in ap (λ (z : Bool). fallen false (z && true) (row i z (cond z p 0))) e ∙ ap (row i true) z
fall_row i true b false false n p e f k = let z : p ≡ n = omega arith in ap (λ (z : Bool). fallen false (z && false) (row i z (cond z p 0))) e ∙ ap (row i true) z
fall_row i false b false r n p e f k = ap (λ (z : Bool). fallen false (z && r) (row i z (cond z p 0))) e

-- ---- v is w with s added: what a start of s, and an end of s, do
module _ (c : ℕ) (l : List Item) (rise : Rising l) (s : Item) (s∈ : Mem s l) (w v : Item → Bool) (new : w s ≡ false) (adds : (j : Item) → Mem j l → v j ≡ (w j || same s j)) (x : ℕ) (st : State) where
  itself : (j : Item) → Mem j l → T (same s j) → j ≡ s
  itself = gone (facing c) (facing_sym c) (facing_irr c) l rise s s∈ w v new adds

  not_in : (j : Item) → Mem j l → T (same s j) → w j ≡ false
  not_in = out (facing c) (facing_sym c) (facing_irr c) l rise s s∈ w v new adds

  pub grows : (j : Item) → neighbors_in (facing c) l v j ≡ neighbors_in (facing c) l w j + bit (facing c s j)
  grows = change (facing c) (facing_sym c) (facing_irr c) l rise s s∈ w v new adds

  own_same : neighbors_in (facing c) l v s ≡ neighbors_in (facing c) l w s
  own_same = own-count (facing c) (facing_sym c) (facing_irr c) l rise s s∈ w v new adds

  in_now : v s ≡ true
  in_now = adds s s∈ ∙ ap (λ (b : Bool). b || same s s) new ∙ is_true (same s s) (is_same s s refl)

  -- ---- a start
  module _ (t : Tracks c l w st) where
    neighbors-start : neighbors c s st ≡ neighbors_in (facing c) l w s
    neighbors-start = over_rows plus c l w st t (λ r. bit (neighbor c s.wire r))

    rows_start : (after_start c s st x).wires ≡ map (row_in c l v) l
    rows_start =
        ap (map (λ r. risen (same s r.item) (neighbor c s.wire r) (neighbors c s st) r)) t.rows_are
        ∙ map-map (λ r. risen (same s r.item) (neighbor c s.wire r) (neighbors c s st) r) (row_in c l w) l
        ∙ map_same (λ i. risen (same s i) (w i && facing c s i) (neighbors c s st) (row_in c l w i)) (row_in c l v) l
        (λ i m. rise_row i (w i) (v i) (same s i) (facing c s i) (neighbors_in (facing c) l w i) (neighbors_in (facing c) l v i) (neighbors c s st) (adds i m) (not_in i m) (λ q. ap (neighbors_in (facing c) l v) (itself i m q) ∙ own_same ∙ sym neighbors-start) (grows i))

    fresh : count (λ r. neighbor c s.wire r && eqb r.neighbors 0) st.wires ≡ count (λ j. (w j && facing c s j) && eqb (neighbors_in (facing c) l w j) 0) l
    fresh =
        over_rows plus c l w st t (λ r. bit (neighbor c s.wire r && eqb r.neighbors 0))
        ∙ fold_same plus (λ i. bit ((w i && facing c s i) && eqb (cond (w i) (neighbors_in (facing c) l w i) 0) 0)) (λ j. bit ((w j && facing c s j) && eqb (neighbors_in (facing c) l w j) 0)) l (λ i m. go (w i) (facing c s i) (neighbors_in (facing c) l w i))
      where
        go : (a r : Bool) (n : ℕ) → bit ((a && r) && eqb (cond a n 0) 0) ≡ bit ((a && r) && eqb n 0)
        go true r n = refl
        go false r n = refl

    active-start : (after_start c s st x).congested_active ≡ congested_in (facing c) l v
    active-start =
        ap (λ (n : ℕ). st.congested_active + bit (not (eqb n 0)) + count (λ r. neighbor c s.wire r && eqb r.neighbors 0) st.wires) neighbors-start
        ∙ ap₂ (λ (a b : ℕ). a + bit (not (eqb (neighbors_in (facing c) l w s) 0)) + b) t.active-is fresh
        ∙ sym (congested-add (facing c) (facing_sym c) (facing_irr c) l rise s s∈ w v new adds)

    pairs_start : (after_start c s st x).close_pairs ≡ pairs_in (facing c) l v
    pairs_start = ap₂ ◌+◌ t.pairs_are neighbors-start ∙ sym (pairs-add (facing c) (facing_sym c) (facing_irr c) l rise s s∈ w v new adds)

    -- the greatest count among the neighbors, this item included
    abbrev raised : ℕ
    raised = fold max 0 (λ r. cond (neighbor c s.wire r) (r.neighbors + 1) 0) st.wires

    abbrev raised_at : Item → ℕ
    raised_at i = cond (w i && facing c s i) (cond (w i) (neighbors_in (facing c) l w i) 0 + 1) 0

    raised_is : raised ≡ fold max 0 raised_at l
    raised_is = over_rows greatest c l w st t (λ r. cond (neighbor c s.wire r) (r.neighbors + 1) 0)

    peaks_start : (i : Item) → Mem i l → T (v i) → neighbors_in (facing c) l v i ≤ (after_start c s st x).peak_close_neighbors
    peaks_start i m h = go (same s i) (w i) (facing c s i) refl refl refl
      where
        go : (q a r : Bool) → same s i ≡ q → w i ≡ a → facing c s i ≡ r → neighbors_in (facing c) l v i ≤ max st.peak_close_neighbors (max raised (neighbors c s st))
        go true a r p1 p2 p3 = let z : neighbors_in (facing c) l v i ≡ neighbors c s st = ap (neighbors_in (facing c) l v) (itself i m (subst T (sym p1) tt)) ∙ own_same ∙ sym neighbors-start in omega arith
        go false false r p1 p2 p3 = absurd (subst T (adds i m ∙ ap₂ ◌||◌ p2 p1) h)
        go false true false p1 p2 p3 = let z : neighbors_in (facing c) l v i ≡ neighbors_in (facing c) l w i + 0 = grows i ∙ ap (λ (b : Bool). neighbors_in (facing c) l w i + bit b) p3 in let o = t.peaks i m (subst T (sym p2) tt) in omega arith
        go false true true p1 p2 p3 =
            let z : neighbors_in (facing c) l v i ≡ neighbors_in (facing c) l w i + 1 = grows i ∙ ap (λ (b : Bool). neighbors_in (facing c) l w i + bit b) p3 in
            let o : neighbors_in (facing c) l w i + 1 ≤ raised = le_trans (le_of_eq (sym (ap₂ (λ (a b : Bool). cond (a && b) (cond a (neighbors_in (facing c) l w i) 0 + 1) 0) p2 p3))) (le_trans (at_most_greatest raised_at l i m) (le_of_eq (sym raised_is))) in
            omega arith

    pub tracks_start : Tracks c l v (after_start c s st x)
    tracks_start = record { rows_are = rows_start; active-is = active-start; pairs_are = pairs_start; peaks = peaks_start }

    -- and the peak is no more than the counts
    pub peak-start : (b : ℕ) → ((i : Item) → Mem i l → T (v i) → neighbors_in (facing c) l v i ≤ b) → highest c s st ≤ b
    peak-start b h =
        let p : raised ≤ b = le_trans (le_of_eq raised_is) (greatest_at_most raised_at b l (λ i m. go i m (w i) (facing c s i) refl refl)) in
        let q : neighbors c s st ≤ b = le_trans (le_of_eq (neighbors-start ∙ sym own_same)) (h s s∈ (subst T (sym in_now) tt)) in
        omega arith
      where
        go : (i : Item) → Mem i l → (a r : Bool) → w i ≡ a → facing c s i ≡ r → cond (a && r) (cond a (neighbors_in (facing c) l w i) 0 + 1) 0 ≤ b
        go i m false r p q = zero-le
        go i m true false p q = zero-le
        go i m true true p q = le_trans (le_of_eq (sym (grows i ∙ ap (λ (z : Bool). neighbors_in (facing c) l w i + bit z) q))) (h i m (subst T (sym (adds i m ∙ ap (λ (z : Bool). z || same s i) p)) tt))

  -- ---- an end
  module _ (t : Tracks c l v st) where
    pub neighbors-end : neighbors c s st ≡ neighbors_in (facing c) l w s
    neighbors-end = over_rows plus c l v st t (λ r. bit (neighbor c s.wire r)) ∙ own_same

    rows_end : (after_end c s st x).wires ≡ map (row_in c l w) l
    rows_end =
        ap (map (λ r. fallen (same s r.item) (neighbor c s.wire r) r)) t.rows_are
        ∙ map-map (λ r. fallen (same s r.item) (neighbor c s.wire r) r) (row_in c l v) l
        ∙ map_same (λ i. fallen (same s i) (v i && facing c s i) (row_in c l v i)) (row_in c l w) l (λ i m. fall_row i (w i) (v i) (same s i) (facing c s i) (neighbors_in (facing c) l w i) (neighbors_in (facing c) l v i) (adds i m) (not_in i m) (grows i))

    pub congested-end : was_congested c s st ≡ bit (not (eqb (neighbors_in (facing c) l w s) 0))
    congested-end =
        over_rows plus c l v st t (λ r. bit (same s r.item && not (eqb r.neighbors 0)))
        ∙ fold_same plus (λ i. bit (same s i && not (eqb (cond (v i) (neighbors_in (facing c) l v i) 0) 0))) (λ i. cond (same s i) (bit (not (eqb (cond (v i) (neighbors_in (facing c) l v i) 0) 0))) 0) l (λ i m. go (same s i) (not (eqb (cond (v i) (neighbors_in (facing c) l v i) 0) 0)))
        ∙ pick plus (λ i. bit (not (eqb (cond (v i) (neighbors_in (facing c) l v i) 0) 0))) l rise s s∈
        ∙ ap₂ (λ (b : Bool) (n : ℕ). bit (not (eqb (cond b n 0) 0))) in_now own_same
      where
        go : (m b : Bool) → bit (m && b) ≡ cond m (bit b) 0
        go true b = refl
        go false b = refl

    pub stale : count (λ r. neighbor c s.wire r && eqb r.neighbors 1) st.wires ≡ count (λ j. (w j && facing c s j) && eqb (neighbors_in (facing c) l w j) 0) l
    stale =
        over_rows plus c l v st t (λ r. bit (neighbor c s.wire r && eqb r.neighbors 1))
        ∙ fold_same plus (λ i. bit ((v i && facing c s i) && eqb (cond (v i) (neighbors_in (facing c) l v i) 0) 1)) (λ j. bit ((w j && facing c s j) && eqb (neighbors_in (facing c) l w j) 0)) l
        (λ i m. go (w i) (v i) (same s i) (facing c s i) (neighbors_in (facing c) l w i) (neighbors_in (facing c) l v i) (adds i m) (own_out (facing c) (facing_sym c) (facing_irr c) l rise s s∈ w v new adds i m) (grows i))
      where
        one_less : (n : ℕ) → eqb (n + 1) 1 ≡ eqb n 0
        one_less n = same_test (eqb (n + 1) 1) (eqb n 0) (λ q. let e = eqb→eq (n + 1) 1 q in eq→eqb {a = n} {b = 0} (omega arith)) (λ q. let e = eqb→eq n 0 q in eq→eqb {a = n + 1} {b = 1} (omega arith))

        none_of : (a b : Bool) → ((a && false) && b) ≡ false
        none_of true b = refl
        none_of false b = refl

        go : (a b m r : Bool) (n p : ℕ) → b ≡ (a || m) → (T m → r ≡ false) → p ≡ n + bit r → bit ((b && r) && eqb (cond b p 0) 1) ≡ bit ((a && r) && eqb n 0)
        go a b m false n p e g k = ap bit (none_of b (eqb (cond b p 0) 1)) ∙ ap bit (sym (none_of a (eqb n 0)))
        go a b true true n p e g k = clash true refl (g tt)
        go true b false true n p e g k = ap₂ (λ (y : Bool) (z : ℕ). bit ((y && true) && eqb (cond y z 0) 1)) e k ∙ ap bit (one_less n)
        go false b false true n p e g k = ap (λ (y : Bool). bit ((y && true) && eqb (cond y p 0) 1)) e

    -- the count before an end is what remains plus what the end subtracts, so that no subtraction goes below 0
    pub active-before : st.congested_active ≡ congested_in (facing c) l w + was_congested c s st + count (λ r. neighbor c s.wire r && eqb r.neighbors 1) st.wires
    active-before = t.active-is ∙ congested-add (facing c) (facing_sym c) (facing_irr c) l rise s s∈ w v new adds ∙ ap₂ (λ (a b : ℕ). congested_in (facing c) l w + a + b) (sym congested-end) (sym stale)

    pub pairs-before : st.close_pairs ≡ pairs_in (facing c) l w + neighbors c s st
    pairs-before = t.pairs_are ∙ pairs-add (facing c) (facing_sym c) (facing_irr c) l rise s s∈ w v new adds ∙ ap (λ (z : ℕ). pairs_in (facing c) l w + z) (sym neighbors-end)

    peaks_end : (i : Item) → Mem i l → T (w i) → neighbors_in (facing c) l w i ≤ st.peak_close_neighbors
    peaks_end i m h = let e = grows i in let p = t.peaks i m (subst T (sym (adds i m ∙ ap (λ (b : Bool). b || same s i) (is_true (w i) h))) tt) in omega arith

    pub tracks_end : Tracks c l w (after_end c s st x)
    tracks_end = record {
      rows_are = rows_end;
      active-is = let e = active-before in omega arith;
      pairs_are = let e = pairs-before in omega arith;
      peaks = peaks_end;
    }
