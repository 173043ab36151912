-- The sweep of a numbered list before its first event. Assumes nothing.
use mathlib.Core.Path.{◌≡◌, refl, sym, ap, ap₂, ◌∙◌, subst}
use mathlib.Core.Logic.{inl, inr}
use mathlib.Core.List.{List, [], ◌∷◌, map}
use mathlib.Core.Bool.{Bool, true, false, ◌&&◌, cond}
use Prim.Native.Nat.{ℕ, suc, ◌+◌, ◌≤◌, ◌<◌, zero-le}
use native.Mathlib.Omega.{arith}
use native.Mathlib.Nat.{le_of_eq}
use lib.Dec.{T, leb}
use lib.ListN.{length}
use borrow.Author.Tests.{le-ltb}
use Rattle.laws.specs.Lists.{Mem, fold, Pairwise}
use Rattle.laws.proofs.Perms.{perm_sym, perm_mem}
use Rattle.laws.proofs.Folds.{Monoid, fold-perm}
use Rattle.congestion.specs.Wires.{Wire}
use Rattle.congestion.specs.Walk.{Item, WireEvent, numbered, at, wire_events, in_order, first_at, begin}
use Rattle.congestion.proofs.Sets.{Rising, neighbors_in, congested-same, pairs-same, none-congested, none_paired}
use Rattle.congestion.proofs.Tracking.{facing, row, row_in, Tracks}
use Rattle.congestion.proofs.Moments.{Fit, Pending, event, start_key, end_key, key, active_at, at-order, head_first}
use Rattle.congestion.proofs.EventOrder.{in_order-perm, in_list, rising-events}

-- ---- a numbered list
pub wires-of : (n : ℕ) (l : List Wire) → map (λ (i : Item). i.wire) (numbered n l) ≡ l
wires-of n [] = refl
wires-of n (s ∷ l) = ap (◌∷◌ s) (wires-of (suc n) l)

pub record Numbered (i : Item) (n : ℕ) (l : List Wire) : Type 0 where
  pub least : n ≤ i.index
  pub below : i.index < n + length l
  pub wire∈ : Mem i.wire l

pub of-numbered : (i : Item) (n : ℕ) (l : List Wire) → Mem i (numbered n l) → Numbered i n l
of-numbered i n [] m = elim m [ ]
of-numbered i n (s ∷ l) (inl p) = let q : i.index ≡ n = ap (λ (z : Item). z.index) p in record { least = le_of_eq (sym q); below = omega arith; wire∈ = inl (ap (λ (z : Item). z.wire) p) }
of-numbered i n (s ∷ l) (inr m) = let h = of-numbered i (suc n) l m in record { least = omega (arith, h.least); below = omega (arith, h.below); wire∈ = inr h.wire∈ }

rising-numbered : (n : ℕ) (l : List Wire) → Rising (numbered n l)
rising-numbered n [] = tt
rising-numbered n (s ∷ l) = (λ y m. (of-numbered y (suc n) l m).least, rising-numbered (suc n) l)

-- SCOPE 7.3, 7.5: "A list holds more than 4,096 entries" and "start not below end" do not apply
pub record Sound (l : List Wire) : Type 0 where
  pub few : length l ≤ 4096
  pub ordered : (s : Wire) → Mem s l → s.start < s.end

pub fit-numbered : (l : List Wire) → Sound l → Fit (numbered 0 l)
fit-numbered l v = record {
  rise = rising-numbered 0 l;
  small = λ i m. let h = of-numbered i 0 l m in omega (arith, h.below, v.few);
  long = λ i m. v.ordered i.wire (of-numbered i 0 l m).wire∈;
}

-- ---- its events
has_start : (l : List Item) (i : Item) → Mem i l → Mem (event false i) (wire_events l)
has_start [] i m = elim m [ ]
has_start (x ∷ l) i (inl p) = inr (inl (ap (event false) p))
has_start (x ∷ l) i (inr m) = inr (inr (has_start l i m))

has_end : (l : List Item) (i : Item) → Mem i l → Mem (event true i) (wire_events l)
has_end [] i m = elim m [ ]
has_end (x ∷ l) i (inl p) = inl (ap (event true) p)
has_end (x ∷ l) i (inr m) = inr (inr (has_end l i m))

-- a fold over the events in order is one over the items
pub fold-events : {M : Type 0} {◌⊕◌ : M → M → M} {u : M} (L : Monoid ◌⊕◌ u) (f : WireEvent → M) (l : List Item) → fold ◌⊕◌ u f (in_order (wire_events l)) ≡ fold ◌⊕◌ u (λ i. ◌⊕◌ (f (event true i)) (f (event false i))) l
unfolding fold
fold-events {◌⊕◌ = ◌⊕◌} {u = u} L f l = fold-perm L f (in_order-perm (wire_events l)) ∙ go l
  where
    go : (l : List Item) → fold ◌⊕◌ u f (wire_events l) ≡ fold ◌⊕◌ u (λ i. ◌⊕◌ (f (event true i)) (f (event false i))) l
    go [] = refl
    go (i ∷ l) = ap (λ z. ◌⊕◌ (f (event true i)) (◌⊕◌ (f (event false i)) z)) (go l) ∙ sym (L.assoc (f (event true i)) (f (event false i)) (fold ◌⊕◌ u (λ i. ◌⊕◌ (f (event true i)) (f (event false i))) l))

module _ (c : ℕ) (l : List Item) (fit : Fit l) where
  first-least : (q : List WireEvent) → Pairwise (λ x y. key x < key y) q → ((e : WireEvent) → Mem e q → Mem e.item l) → (e : WireEvent) → Mem e q → first_at q ≤ at e
  first-least [] u h e m = elim m [ ]
  first-least (x ∷ q) u h e m = at-order x e (fit.small e.item (h e m)) (head_first x e q u m)

  listed : (e : WireEvent) → Mem e (wire_events l) → Mem e (in_order (wire_events l))
  listed e m = perm_mem e (perm_sym (in_order-perm (wire_events l))) m

  pub pending : Pending l 0 (begin l).previous (in_order (wire_events l))
  pending = record {
    rising = rising-events l fit;
    from = λ e m. zero-le;
    past = first-least (in_order (wire_events l)) (rising-events l fit) (in_list l fit);
    inside = in_list l fit;
    starts = λ i m. inr (listed (event false i) (has_start l i m));
    stops = λ i m. inr (listed (event true i) (has_end l i m));
    high = zero-le;
  }

  inactive : (i : Item) → Mem i l → false ≡ active_at 0 i
  inactive i m = sym (ap (λ (b : Bool). b && leb 0 (end_key i)) (le-ltb (start_key i) 0 zero-le))

  pub tracks : Tracks c l (active_at 0) (begin l)
  tracks = record {
    rows_are = rows l (λ i m. m);
    active-is = sym (none-congested (facing c) l) ∙ congested-same (facing c) l (λ i. false) (active_at 0) inactive;
    pairs_are = sym (none_paired (facing c) l) ∙ pairs-same (facing c) l (λ i. false) (active_at 0) inactive;
    peaks = λ i m h. absurd (subst T (sym (inactive i m)) h);
  }
    where
      rows : (m : List Item) → ((i : Item) → Mem i m → Mem i l) → map (λ i. row i false 0) m ≡ map (row_in c l (active_at 0)) m
      rows [] h = refl
      rows (i ∷ m) h = ap₂ ◌∷◌ (ap (λ (b : Bool). row i b (cond b (neighbors_in (facing c) l (active_at 0) i) 0)) (inactive i (h i (inl refl)))) (rows m (λ j n. h j (inr n)))

  -- the first coordinate is no later than any start, and no event is later than all ends
  pub from_first : (i : Item) → Mem i l → (begin l).previous ≤ i.wire.start
  from_first i m = pending.past (event false i) (listed (event false i) (has_start l i m))

  pub at_bound : (hi : ℕ) → ((i : Item) → Mem i l → i.wire.end ≤ hi) → (e : WireEvent) → Mem e (in_order (wire_events l)) → at e ≤ hi
  at_bound hi h e m = go e.ends e.item (in_list l fit e m)
    where
      go : (b : Bool) (i : Item) → Mem i l → at (event b i) ≤ hi
      go true i n = h i n
      go false i n = let a = fit.long i n in let b = h i n in omega arith
