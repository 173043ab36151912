-- The sweep of one orientation finds the figures over all pairs. Assumes nothing.
use Rattle.std.specs.Prelude.{Option, None}
use mathlib.Core.Path.{◌≡◌, refl, sym, ap, ap₂, ◌∙◌, subst}
use mathlib.Core.List.{List}
use mathlib.Core.Bool.{Bool, true, false, not, ◌&&◌, beq, cond, and_comm}
use Prim.Native.Nat.{ℕ, ◌+◌, ◌-◌, ◌*◌, ◌≤◌, ◌<◌, min, max}
use native.Mathlib.Omega.{arith}
use native.Mathlib.Nat.{le_of_lt, mul-one, max_comm, min_comm}
use lib.Dec.{T, ltb, eqb, ltb→lt, lt→ltb}
use lib.Ieee.Fits.{and_l, and_r, and_i}
use lib.ListN.{length}
use borrow.Author.Tests.{lt-ltb}
use Rattle.laws.specs.Lists.{Mem, some_of, fold, bit, sum, pairs}
use Rattle.laws.specs.Least.{lesser}
use Rattle.laws.proofs.Tests.{is_true, is_false, same_test}
use Rattle.laws.proofs.ListLaws.{mem_pairs, of_pair, both, pairs-map}
use Rattle.laws.proofs.Folds.{Monoid, plus, greatest, idr, exchange, fold_same, fold_both, fold-unit, fold-map, fold-fold, fold_square, at_most_greatest}
use Rattle.congestion.specs.Wires.{Wire}
use Rattle.congestion.specs.Cells.{cells_from, cells, covers}
use Rattle.congestion.specs.Figures.{apart, near, overlaps, overlap, close, other, close_other, stretches, congested, close_other_pairs, pair_overlap, neighbors_on, peak}
use Rattle.congestion.specs.Walk.{Item, numbered, wire_events, in_order, in_range, gap_unless_zero, gap, begin, sweep}
use Rattle.congestion.proofs.UnitVisits.{close_pairs}
use Rattle.congestion.proofs.FoldLaws.{fewest, lesser-same, fold-chosen, sum_const, some-count}
use Rattle.congestion.proofs.CellLaws.{covers-from, covers-to, is_covered, length-cells, cells-unit, cells-within}
use Rattle.congestion.proofs.Sets.{neighbors_in, congested_in, pairs_in, congested-same, pairs-same, none-congested, none_paired}
use Rattle.congestion.proofs.Tracking.{facing, facing_sym, facing_irr, eqb_turn}
use Rattle.congestion.proofs.Moments.{Fit, start_key, end_key, active_at, off_before, on-before}
use Rattle.congestion.proofs.Passing.{on, congested-stepped, overlap-stepped, run_sum, run_cost, run_least}
use Rattle.congestion.proofs.Peaks.{tops, run_peak}
use Rattle.congestion.proofs.Beginning.{Sound, wires-of, of-numbered, fit-numbered, fold-events, pending, tracks, from_first, at_bound}
use Rattle.congestion.proofs.Meetings.{ends_once, starts_once}

-- the open range is a gap below the cutoff
range-is : (c : ℕ) (s t : Wire) → in_range c s t ≡ ltb (apart s.fixed t.fixed) c
range-is c s t = same_test (in_range c s t) (ltb (apart s.fixed t.fixed) c)
    (λ h. lt→ltb (apart s.fixed t.fixed) c (within s.fixed t.fixed (ltb→lt s.fixed (t.fixed + c) (and_l (ltb s.fixed (t.fixed + c)) (ltb t.fixed (s.fixed + c)) h)) (ltb→lt t.fixed (s.fixed + c) (and_r (ltb s.fixed (t.fixed + c)) (ltb t.fixed (s.fixed + c)) h))))
    (λ h. let k = ltb→lt (apart s.fixed t.fixed) c h in and_i (ltb s.fixed (t.fixed + c)) (ltb t.fixed (s.fixed + c)) (lt→ltb s.fixed (t.fixed + c) (left s.fixed t.fixed k)) (lt→ltb t.fixed (s.fixed + c) (right s.fixed t.fixed k)))
  where
    within : (a b : ℕ) → a < b + c → b < a + c → apart a b < c
    within a b p q = omega arith

    left : (a b : ℕ) → apart a b < c → a < b + c
    left a b p = omega arith

    right : (a b : ℕ) → apart a b < c → b < a + c
    right a b p = omega arith

-- a gap does not depend on which coordinate comes first
pub apart-turn : (a b : ℕ) → apart a b ≡ apart b a
apart-turn a b = ap₂ (λ (m n : ℕ). m - n) (max_comm a b) (min_comm a b)

pub gap-turn : (s t : Wire) → gap s t ≡ gap t s
gap-turn s t = ap₂ gap_unless_zero (eqb_turn s.fixed t.fixed) (apart-turn s.fixed t.fixed)

-- the least nonzero gap of close pairs of different nets, as a number
abbrev pub least_units : ℕ → List Wire → Option ℕ
least_units c l = fold (lesser ltb) None (λ p. cond (close_other c p.0 p.1) (gap p.0 p.1) None) (pairs l)

-- a wire's stretches are the cells on which it has neighbors
pub stretches_are : (c : ℕ) (l : List Wire) (s : Wire) → stretches c l s ≡ sum (λ k. bit (not (eqb (neighbors_on c l s k) 0))) (cells s)
unfolding stretches
stretches_are c l s = fold_same plus (λ k. bit (some_of (λ t. close_other c s t && covers k t) l)) (λ k. bit (not (eqb (neighbors_on c l s k) 0))) (cells s) (λ k m. ap bit (some-count (λ t. close_other c s t && covers k t) l))

-- ---- the wires of a numbered list
module _ {M : Type 0} {◌⊕◌ : M → M → M} {u : M} (W : Monoid ◌⊕◌ u) where
  fold-numbered : (f : Wire → M) (l : List Wire) → fold ◌⊕◌ u f l ≡ fold ◌⊕◌ u (λ (i : Item). f i.wire) (numbered 0 l)
  fold-numbered f l = ap (fold ◌⊕◌ u f) (sym (wires-of 0 l)) ∙ fold-map W f (λ (i : Item). i.wire) (numbered 0 l)

  pairs-numbered : (f : Wire × Wire → M) (l : List Wire) → fold ◌⊕◌ u f (pairs l) ≡ fold ◌⊕◌ u (λ (p : Item × Item). f (p.0.wire, p.1.wire)) (pairs (numbered 0 l))
  pairs-numbered f l =
      ap (λ (m : List Wire). fold ◌⊕◌ u f (pairs m)) (sym (wires-of 0 l))
      ∙ ap (fold ◌⊕◌ u f) (pairs-map (λ (i : Item). i.wire) (numbered 0 l))
      ∙ fold-map W f (both (λ (i : Item). i.wire)) (pairs (numbered 0 l))

late : (a b : ℕ) → a ≤ b → b < a → ⊥
late a b p q = omega arith

zero_bit : (b : Bool) → (T b → ⊥) → bit b ≡ 0
zero_bit b h = ap bit (is_false b h)

module _ (c : ℕ) (L : List Wire) (sound : Sound L) (alike : (s t : Wire) → Mem s L → Mem t L → beq s.horizontal t.horizontal ≡ true) where
  abbrev l : List Item
  l = numbered 0 L

  fit : Fit (numbered 0 L)
  fit = fit-numbered L sound

  near-is : (i j : Item) → Mem i l → Mem j l → near c i.wire j.wire ≡ in_range c i.wire j.wire
  near-is i j m n = ap (λ (b : Bool). b && ltb (apart i.wire.fixed j.wire.fixed) c) (alike i.wire j.wire (of-numbered i 0 L m).wire∈ (of-numbered j 0 L n).wire∈) ∙ sym (range-is c i.wire j.wire)

  abbrev lo : ℕ
  lo = (begin l).previous

  abbrev hi : ℕ
  hi = fold max 0 (λ (i : Item). i.wire.end) l

  ended : (i : Item) → Mem i l → i.wire.end ≤ hi
  ended i m = at_most_greatest (λ (i : Item). i.wire.end) l i m

  -- the neighbors over a cell of a wire
  neighbors-on-is : (i : Item) → Mem i l → (k : ℕ) → i.wire.start ≤ k → k < i.wire.end → neighbors_on c L i.wire k ≡ neighbors_in (facing c) l (on k) i
  neighbors-on-is i m k a b =
      fold-numbered plus (λ t. bit (close_other c i.wire t && covers k t)) L
      ∙ fold_same plus (λ j. bit (close_other c i.wire j.wire && on k j)) (λ j. bit (on k j && facing c i j)) l
      (λ j n. ap bit (ap (λ (x : Bool). ((x && overlaps i.wire j.wire) && other i.wire j.wire) && on k j) (near-is i j m n) ∙ go (in_range c i.wire j.wire) (overlaps i.wire j.wire) (other i.wire j.wire) (on k j) (meet j)))
    where
      go : (n v o d : Bool) → (T d → v ≡ true) → (((n && v) && o) && d) ≡ (d && (n && o))
      go n v o true h = ap (λ (x : Bool). ((n && x) && o) && true) (h tt) ∙ both_in n o
        where
          both_in : (n o : Bool) → (((n && true) && o) && true) ≡ (n && o)
          both_in true true = refl
          both_in true false = refl
          both_in false o = refl
      go n v o false h = and_comm ((n && v) && o) false

      meet : (j : Item) → T (on k j) → overlaps i.wire j.wire ≡ true
      meet j t = let x = covers-from k j.wire t in let y = covers-to k j.wire t in lt-ltb (max i.wire.start j.wire.start) (min i.wire.end j.wire.end) (omega arith)

  -- a fold over the cells of the whole sweep that is u off one wire is the fold over that wire's cells
  own-cells : {M : Type 0} {◌⊕◌ : M → M → M} {u : M} (W : Monoid ◌⊕◌ u) (i : Item) → Mem i l → (f : Bool → ℕ → M) (g : ℕ → M) → ((k : ℕ) → f false k ≡ u) → ((k : ℕ) → i.wire.start ≤ k → k < i.wire.end → f true k ≡ g k) → fold ◌⊕◌ u (λ k. f (on k i) k) (cells_from lo (hi - lo)) ≡ fold ◌⊕◌ u g (cells i.wire)
  own-cells W i m f g p q =
      cells-within W (λ k. f (on k i) k) g lo hi i.wire.start i.wire.end (from_first c l fit i m) (le_of_lt (fit.long i m)) (ended i m)
      (λ k x. ap (λ (z : Bool). f z k) (is_false (on k i) (λ t. late i.wire.start k (covers-from k i.wire t) x)) ∙ p k)
      (λ k x. ap (λ (z : Bool). f z k) (is_false (on k i) (λ t. late i.wire.end k x (covers-to k i.wire t))) ∙ p k)
      (λ k x y. ap (λ (z : Bool). f z k) (is_true (on k i) (is_covered k i.wire x y)) ∙ q k x y)

  pub congested-is : (sweep c L).value.congested_length ≡ congested c L
  unfolding sweep congested
  congested-is =
      run_sum c l fit (congested_in (facing c) l) (congested-same (facing c) l) (none-congested (facing c) l) (λ st. st.congested_length) (λ st. st.congested_active) (congested-stepped c) (λ t st tr. tr.active-is) hi 0 (in_order (wire_events l)) (begin l) (pending c l fit) (tracks c l fit) (at_bound c l fit hi ended)
      ∙ plus.idl _
      ∙ sym (fold-fold plus (λ i k. bit (on k i && not (eqb (neighbors_in (facing c) l (on k) i) 0))) l (cells_from lo (hi - lo)))
      ∙ fold_same plus (λ i. fold ◌+◌ 0 (λ k. bit (on k i && not (eqb (neighbors_in (facing c) l (on k) i) 0))) (cells_from lo (hi - lo))) (λ i. stretches c L i.wire) l
      (λ i m. own-cells plus i m (λ b k. bit (b && not (eqb (neighbors_in (facing c) l (on k) i) 0))) (λ k. bit (not (eqb (neighbors_on c L i.wire k) 0))) (λ k. refl) (λ k x y. ap (λ (n : ℕ). bit (not (eqb n 0))) (sym (neighbors-on-is i m k x y))) ∙ sym (stretches_are c L i.wire))
      ∙ sym (fold-numbered plus (stretches c L) L)

  -- the greatest of any count N over all cells is the greatest wire by wire, where g is the count on a cell of a wire
  pub tops_are : (N : (Item → Bool) → Item → ℕ) (g : Wire → ℕ → ℕ) → ((i : Item) → Mem i l → (k : ℕ) → i.wire.start ≤ k → k < i.wire.end → g i.wire k ≡ N (on k) i) → tops l N hi lo ≡ fold max 0 (λ s. fold max 0 (g s) (cells s)) L
  tops_are N g on-cell =
      sym (fold-fold greatest (λ i k. cond (on k i) (N (on k) i) 0) l (cells_from lo (hi - lo)))
      ∙ fold_same greatest (λ i. fold max 0 (λ k. cond (on k i) (N (on k) i) 0) (cells_from lo (hi - lo))) (λ i. fold max 0 (g i.wire) (cells i.wire)) l
      (λ i m. own-cells greatest i m (λ b k. cond b (N (on k) i) 0) (g i.wire) (λ k. refl) (λ k x y. sym (on-cell i m k x y)))
      ∙ sym (fold-numbered greatest (λ s. fold max 0 (g s) (cells s)) L)

  pub peak-is : (sweep c L).value.peak_close_neighbors ≡ peak c L
  unfolding sweep peak
  peak-is =
      run_peak c l fit hi ended 0 (in_order (wire_events l)) (begin l) (pending c l fit) (tracks c l fit)
      ∙ greatest.idl _
      ∙ tops_are (neighbors_in (facing c) l) (neighbors_on c L) neighbors-on-is

  -- ---- a pair: n says whether it is in range, o whether the nets differ, v whether it overlaps
  shared : (i j : Item) → Mem i l → (n o v : Bool) → overlaps i.wire j.wire ≡ v → sum (λ k. bit (on k i && (on k j && (n && o)))) (cells_from lo (hi - lo)) ≡ cond ((n && v) && o) (overlap i.wire j.wire) 0
  shared i j m false o v e = cells-unit plus (λ k. bit (on k i && (on k j && false))) lo (hi - lo) (λ k x y. zero_bit (on k i && (on k j && false)) (λ t. and_r (on k j) false (and_r (on k i) (on k j && false) t)))
  shared i j m true false v e = cells-unit plus (λ k. bit (on k i && (on k j && false))) lo (hi - lo) (λ k x y. zero_bit (on k i && (on k j && false)) (λ t. and_r (on k j) false (and_r (on k i) (on k j && false) t))) ∙ sym (ap (λ (b : Bool). cond b (overlap i.wire j.wire) 0) (and_comm v false))
  shared i j m true true v e = go v e
    where
      in_first : (k : ℕ) → T (on k i && (on k j && true)) → T (on k i)
      in_first k t = and_l (on k i) (on k j && true) t

      in_second : (k : ℕ) → T (on k i && (on k j && true)) → T (on k j)
      in_second k t = and_l (on k j) true (and_r (on k i) (on k j && true) t)

      larger : (k : ℕ) → T (on k i && (on k j && true)) → max i.wire.start j.wire.start ≤ k
      larger k t = let p = covers-from k i.wire (in_first k t) in let q = covers-from k j.wire (in_second k t) in omega arith

      smaller : (k : ℕ) → T (on k i && (on k j && true)) → k < min i.wire.end j.wire.end
      smaller k t = let p = covers-to k i.wire (in_first k t) in let q = covers-to k j.wire (in_second k t) in omega arith

      go : (v : Bool) → overlaps i.wire j.wire ≡ v → sum (λ k. bit (on k i && (on k j && true))) (cells_from lo (hi - lo)) ≡ cond (v && true) (overlap i.wire j.wire) 0
      go false e = cells-unit plus (λ k. bit (on k i && (on k j && true))) lo (hi - lo)
          (λ k x y. zero_bit (on k i && (on k j && true)) (λ t. subst T e (lt→ltb (max i.wire.start j.wire.start) (min i.wire.end j.wire.end) (let p = larger k t in let q = smaller k t in omega arith))))
      go true e =
          let S = max i.wire.start j.wire.start in
          let E = min i.wire.end j.wire.end in
          let h : S < E = ltb→lt S E (subst T (sym e) tt) in
          let a : lo ≤ i.wire.start = from_first c l fit i m in
          let b : i.wire.end ≤ hi = ended i m in
          cells-within plus (λ k. bit (on k i && (on k j && true))) (λ k. 1) lo hi S E (below lo i.wire.start j.wire.start a) (le_of_lt h) (above i.wire.end j.wire.end hi b)
          (λ k x. zero_bit (on k i && (on k j && true)) (λ t. late S k (larger k t) x))
          (λ k x. zero_bit (on k i && (on k j && true)) (λ t. late E k x (smaller k t)))
          (λ k x y. ap bit (is_true (on k i && (on k j && true)) (and_i (on k i) (on k j && true) (is_covered k i.wire (omega arith) (omega arith)) (and_i (on k j) true (is_covered k j.wire (omega arith) (omega arith)) tt))))
          ∙ sum_const 1 (cells_from S (E - S))
          ∙ mul-one (length (cells_from S (E - S)))
          ∙ length-cells S (E - S)
        where
          below : (p a u : ℕ) → p ≤ a → p ≤ max a u
          below p a u h = omega arith

          above : (b v h : ℕ) → b ≤ h → min b v ≤ h
          above b v h p = omega arith

  pub overlap-is : (sweep c L).value.pair_overlap_length ≡ pair_overlap c L
  unfolding sweep pair_overlap close_other_pairs
  overlap-is =
      run_sum c l fit (pairs_in (facing c) l) (pairs-same (facing c) l) (none_paired (facing c) l) (λ st. st.pair_overlap_length) (λ st. st.close_pairs) (overlap-stepped c) (λ t st tr. tr.pairs_are) hi 0 (in_order (wire_events l)) (begin l) (pending c l fit) (tracks c l fit) (at_bound c l fit hi ended)
      ∙ plus.idl _
      ∙ sym (fold-fold plus (λ p k. bit (on k p.0 && (on k p.1 && facing c p.0 p.1))) (pairs l) (cells_from lo (hi - lo)))
      ∙ fold_same plus (λ p. sum (λ k. bit (on k p.0 && (on k p.1 && facing c p.0 p.1))) (cells_from lo (hi - lo))) (λ p. cond (close_other c p.0.wire p.1.wire) (overlap p.0.wire p.1.wire) 0) (pairs l)
      (λ p k. let h = mem_pairs p l k in shared p.0 p.1 h.0 (in_range c p.0.wire p.1.wire) (other p.0.wire p.1.wire) (overlaps p.0.wire p.1.wire) refl ∙ ap (λ (b : Bool). cond ((b && overlaps p.0.wire p.1.wire) && other p.0.wire p.1.wire) (overlap p.0.wire p.1.wire) 0) (sym (near-is p.0 p.1 h.0 h.1)))
      ∙ sym (pairs-numbered plus (λ p. cond (close_other c p.0 p.1) (overlap p.0 p.1) 0) L)
      ∙ sym (fold-chosen plus (λ p. overlap p.0 p.1) (λ p. close_other c p.0 p.1) (λ p. p) (pairs L))

  -- ---- the two ends of each pair
  module _ (i j : Item) (m : Mem i l) (n : Mem j l) (d : i.index < j.index) where
    once_end : bit (active_at (end_key i) j) + bit (active_at (end_key j) i) ≡ bit (overlaps i.wire j.wire)
    once_end = ends_once i j (fit.long i m) (fit.long j n) (fit.small i m) (fit.small j n) (λ e. omega arith)

    once_start : bit (active_at (start_key i) j) + bit (active_at (start_key j) i) ≡ bit (overlaps i.wire j.wire)
    once_start = starts_once i j (fit.long i m) (fit.long j n) (fit.small i m) (fit.small j n) (λ e. omega arith)

  -- a fold over what each event finds among the items: each item with itself, and each pair both ways
  at-events : {M : Type 0} {◌⊕◌ : M → M → M} {u : M} (W : Monoid ◌⊕◌ u) (f : ℕ → Item → Item → M) (own : M) (g : Item × Item → M)
      → ((i : Item) → Mem i l → ◌⊕◌ (f (end_key i) i i) (f (start_key i) i i) ≡ own)
      → ((i j : Item) → Mem i l → Mem j l → i.index < j.index → ◌⊕◌ (◌⊕◌ (f (end_key i) i j) (f (start_key i) i j)) (◌⊕◌ (f (end_key j) j i) (f (start_key j) j i)) ≡ g (i, j))
      → fold ◌⊕◌ u (λ e. fold ◌⊕◌ u (f (cond e.ends (end_key e.item) (start_key e.item)) e.item) l) (in_order (wire_events l)) ≡ ◌⊕◌ (fold ◌⊕◌ u (λ i. own) l) (fold ◌⊕◌ u g (pairs l))
  at-events {◌⊕◌ = ◌⊕◌} {u = u} W f own g h k =
      fold-events W (λ e. fold ◌⊕◌ u (f (cond e.ends (end_key e.item) (start_key e.item)) e.item) l) l
      ∙ fold_same W (λ i. ◌⊕◌ (fold ◌⊕◌ u (f (end_key i) i) l) (fold ◌⊕◌ u (f (start_key i) i) l)) (λ i. fold ◌⊕◌ u (λ j. ◌⊕◌ (f (end_key i) i j) (f (start_key i) i j)) l) l (λ i m. sym (fold_both W (f (end_key i) i) (f (start_key i) i) l))
      ∙ fold_square W (λ i j. ◌⊕◌ (f (end_key i) i j) (f (start_key i) i j)) l
      ∙ ap₂ ◌⊕◌ (fold_same W (λ i. ◌⊕◌ (f (end_key i) i i) (f (start_key i) i i)) (λ i. own) l h)
      (fold_same W (λ p. ◌⊕◌ (◌⊕◌ (f (end_key p.0) p.0 p.1) (f (start_key p.0) p.0 p.1)) (◌⊕◌ (f (end_key p.1) p.1 p.0) (f (start_key p.1) p.1 p.0))) g (pairs l)
      (λ p n. let q = mem_pairs p l n in k p.0 p.1 q.0 q.1 (of_pair (λ x y. x.index < y.index) l fit.rise p n)))

  range-turn : (i j : Item) → in_range c j.wire i.wire ≡ in_range c i.wire j.wire
  range-turn i j = and_comm (ltb j.wire.fixed (i.wire.fixed + c)) (ltb i.wire.fixed (j.wire.fixed + c))

  -- ---- visits
  pub cost-is : 0 < c → (sweep c L).cost ≡ length L + 2 * close_pairs c L
  unfolding sweep close_pairs
  cost-is pos =
      run_cost c l fit 0 (in_order (wire_events l)) (begin l) (pending c l fit) (tracks c l fit)
      ∙ at-events plus (λ t i j. bit (active_at t j && in_range c i.wire j.wire)) 1 (λ p. bit (close c p.0.wire p.1.wire) + bit (close c p.0.wire p.1.wire)) own pair
      ∙ ap₂ ◌+◌ (sym (fold-numbered plus (λ s. 1) L) ∙ sum_const 1 L ∙ mul-one (length L))
      (fold_both plus (λ p. bit (close c p.0.wire p.1.wire)) (λ p. bit (close c p.0.wire p.1.wire)) (pairs l)
      ∙ ap (λ (z : ℕ). z + z) (sym (pairs-numbered plus (λ p. bit (close c p.0 p.1)) L))
      ∙ twice (sum (λ p. bit (close c p.0 p.1)) (pairs L)))
    where
      twice : (n : ℕ) → n + n ≡ 2 * n
      twice n = omega arith

      own : (i : Item) → Mem i l → bit (active_at (end_key i) i && in_range c i.wire i.wire) + bit (active_at (start_key i) i && in_range c i.wire i.wire) ≡ 1
      own i m = ap₂ (λ (a b : Bool). bit (a && in_range c i.wire i.wire) + bit (b && in_range c i.wire i.wire)) (on-before l fit i m) (off_before l fit i m) ∙ ap (λ (b : Bool). bit b + 0) (range-is c i.wire i.wire ∙ lt-ltb (apart i.wire.fixed i.wire.fixed) c (itself i.wire.fixed))
        where
          itself : (a : ℕ) → apart a a < c
          itself a = omega arith

      sums : (p q r s x y o : Bool) → y ≡ x → bit p + bit r ≡ bit o → bit q + bit s ≡ bit o → (bit (p && x) + bit (q && x)) + (bit (r && y) + bit (s && y)) ≡ bit (x && o) + bit (x && o)
      sums p q r s true y o e f g = ap (λ (z : Bool). (bit (p && true) + bit (q && true)) + (bit (r && z) + bit (s && z))) e ∙ rw (and_comm p true, and_comm q true, and_comm r true, and_comm s true) (omega arith)
      sums p q r s false y o e f g = ap (λ (z : Bool). (bit (p && false) + bit (q && false)) + (bit (r && z) + bit (s && z))) e ∙ rw (and_comm p false, and_comm q false, and_comm r false, and_comm s false)

      pair : (i j : Item) → Mem i l → Mem j l → i.index < j.index
          → (bit (active_at (end_key i) j && in_range c i.wire j.wire) + bit (active_at (start_key i) j && in_range c i.wire j.wire)) + (bit (active_at (end_key j) i && in_range c j.wire i.wire) + bit (active_at (start_key j) i && in_range c j.wire i.wire)) ≡ bit (close c i.wire j.wire) + bit (close c i.wire j.wire)
      pair i j m n d =
          sums (active_at (end_key i) j) (active_at (start_key i) j) (active_at (end_key j) i) (active_at (start_key j) i) (in_range c i.wire j.wire) (in_range c j.wire i.wire) (overlaps i.wire j.wire) (range-turn i j) (once_end i j m n d) (once_start i j m n d)
          ∙ ap (λ (b : Bool). bit (b && overlaps i.wire j.wire) + bit (b && overlaps i.wire j.wire)) (sym (near-is i j m n))

  -- ---- the least gap
  pub least-is : (sweep c L).value.minimum_positive ≡ least_units c L
  unfolding sweep lesser
  least-is =
      run_least c l fit 0 (in_order (wire_events l)) (begin l) (pending c l fit) (tracks c l fit)
      ∙ at-events fewest (λ t i j. cond (active_at t j && facing c i j) (gap i.wire j.wire) None) None (λ p. cond (close_other c p.0.wire p.1.wire) (gap p.0.wire p.1.wire) None) own pair
      ∙ ap (λ (z : Option ℕ). lesser ltb z (fold (lesser ltb) None (λ p. cond (close_other c p.0.wire p.1.wire) (gap p.0.wire p.1.wire) None) (pairs l))) (fold-unit fewest (λ (i : Item). None) l (λ i m. refl))
      ∙ sym (pairs-numbered fewest (λ p. cond (close_other c p.0 p.1) (gap p.0 p.1) None) L)
    where
      own : (i : Item) → Mem i l → lesser ltb (cond (active_at (end_key i) i && facing c i i) (gap i.wire i.wire) None) (cond (active_at (start_key i) i && facing c i i) (gap i.wire i.wire) None) ≡ None
      own i m = ap (λ (b : Bool). lesser ltb (cond (active_at (end_key i) i && b) (gap i.wire i.wire) None) (cond (active_at (start_key i) i && b) (gap i.wire i.wire) None)) (facing_irr c i) ∙ rw (and_comm (active_at (end_key i) i) false, and_comm (active_at (start_key i) i) false)

      -- of two one counts where o holds, and none where it does not
      two : (x : Bool → Option ℕ) → x false ≡ None → (a b o : Bool) → bit a + bit b ≡ bit o → lesser ltb (x a) (x b) ≡ x o
      two x z true true true e = lesser-same (x true)
      two x z true false true e = ap (lesser ltb (x true)) z ∙ idr fewest (x true)
      two x z false true true e = ap (λ (y : Option ℕ). lesser ltb y (x true)) z
      two x z false false true e = absurd (omega arith)
      two x z true true false e = absurd (omega arith)
      two x z true false false e = absurd (omega arith)
      two x z false true false e = absurd (omega arith)
      two x z false false false e = lesser-same (x false)

      order : (o x y : Bool) → (o && (x && y)) ≡ ((x && o) && y)
      order true true y = refl
      order true false y = refl
      order false true y = refl
      order false false y = refl

      pair : (i j : Item) → Mem i l → Mem j l → i.index < j.index
          → lesser ltb (lesser ltb (cond (active_at (end_key i) j && facing c i j) (gap i.wire j.wire) None) (cond (active_at (start_key i) j && facing c i j) (gap i.wire j.wire) None)) (lesser ltb (cond (active_at (end_key j) i && facing c j i) (gap j.wire i.wire) None) (cond (active_at (start_key j) i && facing c j i) (gap j.wire i.wire) None))
          ≡ cond (close_other c i.wire j.wire) (gap i.wire j.wire) None
      pair i j m n d =
          ap₂ (λ (b : Bool) (z : Option ℕ). lesser ltb (lesser ltb (here (active_at (end_key i) j)) (here (active_at (start_key i) j))) (lesser ltb (cond (active_at (end_key j) i && b) z None) (cond (active_at (start_key j) i && b) z None))) (facing_sym c j i) (gap-turn j.wire i.wire)
          ∙ exchange fewest (here (active_at (end_key i) j)) (here (active_at (start_key i) j)) (here (active_at (end_key j) i)) (here (active_at (start_key j) i))
          ∙ ap₂ (lesser ltb) (two here refl (active_at (end_key i) j) (active_at (end_key j) i) (overlaps i.wire j.wire) (once_end i j m n d)) (two here refl (active_at (start_key i) j) (active_at (start_key j) i) (overlaps i.wire j.wire) (once_start i j m n d))
          ∙ lesser-same (here (overlaps i.wire j.wire))
          ∙ ap (λ (b : Bool). cond b (gap i.wire j.wire) None) (order (overlaps i.wire j.wire) (in_range c i.wire j.wire) (other i.wire j.wire) ∙ ap (λ (b : Bool). (b && overlaps i.wire j.wire) && other i.wire j.wire) (sym (near-is i j m n)))
        where
          here : Bool → Option ℕ
          here b = cond (b && facing c i j) (gap i.wire j.wire) None
