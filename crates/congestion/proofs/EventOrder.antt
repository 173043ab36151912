-- The order of events is the order of their keys, and the events of a numbered list come in rising order. Assumes nothing.
use mathlib.Core.Path.{◌≡◌, refl, sym, ap, ap₂, ◌∙◌}
use mathlib.Core.Logic.{inl, inr}
use mathlib.Core.List.{List, [], ◌∷◌}
use mathlib.Core.Bool.{Bool, true, false, cond}
use Prim.Native.Nat.{ℕ, ◌+◌, ◌*◌, ◌≤◌, ◌<◌}
use native.Mathlib.Omega.{arith}
use native.Mathlib.Nat.{le_antisymm, mul-le-mul_right}
use lib.Dec.{leb}
use borrow.Author.Tests.{le-leb, lt-leb, leb-true}
use Rattle.laws.specs.Lists.{Mem, Pairwise}
use Rattle.laws.specs.Perm.{Perm}
use Rattle.laws.specs.Rows.{row_le}
use Rattle.laws.specs.Inner.Sort.{Sorted}
use Rattle.laws.proofs.Tests.{le_or_lt}
use Rattle.laws.proofs.Perms.{perm_sym, perm_mem, perm_pairwise}
use Rattle.laws.proofs.RowLaws.{row_less, row_more, row_next, by_rows}
use Rattle.laws.proofs.Sorting.{sort_perm, sort_sorted}
use Rattle.congestion.specs.Walk.{Item, WireEvent, at, event_row, wire_events, in_order}
use Rattle.congestion.proofs.Moments.{Fit, event, key, starts-differ, ends-differ, kinds_differ}

-- ---- "(coordinate, 0 for an end and 1 for a start, index)" as one number
-- the first word is multiplied by W, where what follows is below W
word : (W a x b y : ℕ) (r s : List ℕ) → x < W → y < W → row_le r s ≡ leb x y → row_le (a ∷ r) (b ∷ s) ≡ leb (a * W + x) (b * W + y)
word W a x b y r s hx hy e = elim (le_or_lt b a) [
  | inr h ↦ row_less a b r s h ∙ sym (le-leb (a * W + x) (b * W + y) (omega (arith, mul-le-mul_right W h)))
  | inl h ↦ elim (le_or_lt a b) [
    | inr g ↦ row_more a b r s g ∙ sym (lt-leb (a * W + x) (b * W + y) (omega (arith, mul-le-mul_right W g)))
    | inl g ↦ row_next a b r s (le_antisymm g h) ∙ e ∙ shift (a * W) (b * W) (ap (λ (z : ℕ). z * W) (le_antisymm g h))
  ]
]
  where
    shift : (u v : ℕ) → u ≡ v → leb x y ≡ leb (u + x) (v + y)
    shift u v h = elim (le_or_lt x y) [
      | inl k ↦ le-leb x y k ∙ sym (le-leb (u + x) (v + y) (omega arith))
      | inr k ↦ lt-leb x y k ∙ sym (lt-leb (u + x) (v + y) (omega arith))
    ]

row_number : (a k n b m p : ℕ) → k ≤ 1 → m ≤ 1 → n < 4096 → p < 4096 → row_le (a ∷ k ∷ n ∷ []) (b ∷ m ∷ p ∷ []) ≡ leb (a * 8192 + (k * 4096 + n)) (b * 8192 + (m * 4096 + p))
unfolding row_le
row_number a k n b m p hk hm hn hp = word 8192 a (k * 4096 + n) b (m * 4096 + p) (k ∷ n ∷ []) (m ∷ p ∷ []) (omega arith) (omega arith) (word 4096 k n m p (n ∷ []) (p ∷ []) hn hp (word 1 n 0 p 0 [] [] (omega arith) (omega arith) refl ∙ ap₂ leb (alone n) (alone p)))
  where
    alone : (n : ℕ) → n * 1 + 0 ≡ n
    alone n = omega arith

pub key-order : (x y : WireEvent) → x.item.index < 4096 → y.item.index < 4096 → row_le (event_row x) (event_row y) ≡ leb (key x) (key y)
key-order x y hx hy = row_number (at x) (kind x) x.item.index (at y) (kind y) y.item.index (small x.ends) (small y.ends) hx hy ∙ ap₂ leb (split x.ends x.item) (split y.ends y.item)
  where
    kind : WireEvent → ℕ
    kind e = cond e.ends 0 1

    small : (b : Bool) → cond b 0 1 ≤ 1
    small true = omega arith
    small false = omega arith

    split : (b : Bool) (i : Item) → at (event b i) * 8192 + (kind (event b i) * 4096 + i.index) ≡ key (event b i)
    split true i = omega arith
    split false i = omega arith

-- ---- no two events have one key
pub events-inside : (l : List Item) (e : WireEvent) → Mem e (wire_events l) → Mem e.item l
events-inside [] e m = elim m [ ]
events-inside (i ∷ l) e (inl p) = inl (ap (λ (z : WireEvent). z.item) p)
events-inside (i ∷ l) e (inr (inl p)) = inl (ap (λ (z : WireEvent). z.item) p)
events-inside (i ∷ l) e (inr (inr m)) = inr (events-inside l e m)

keys_differ : (b c : Bool) (i j : Item) → i.index < 4096 → j.index < 4096 → i.index < j.index → key (event b i) ≡ key (event c j) → ⊥
keys_differ true true i j p q r e = ends-differ i.wire.end i.index j.wire.end j.index p q (λ z. omega arith) e
keys_differ true false i j p q r e = kinds_differ i.wire.end i.index j.wire.start j.index p q e
keys_differ false true i j p q r e = kinds_differ j.wire.end j.index i.wire.start i.index q p (sym e)
keys_differ false false i j p q r e = starts-differ i.wire.start i.index j.wire.start j.index p q (λ z. omega arith) e

distinct : (l : List Item) → Fit l → Pairwise (λ x y. key x ≡ key y → ⊥) (wire_events l)
distinct [] f = tt
distinct (i ∷ l) f = (ends-first, (later false, distinct l (record { rise = f.rise.1; small = λ j m. f.small j (inr m); long = λ j m. f.long j (inr m) })))
  where
    later : (b : Bool) (y : WireEvent) → Mem y (wire_events l) → key (event b i) ≡ key y → ⊥
    later b y m = let n = events-inside l y m in keys_differ b y.ends i y.item (f.small i (inl refl)) (f.small y.item (inr n)) (f.rise.0 y.item n)

    ends-first : (y : WireEvent) → Mem y (event false i ∷ wire_events l) → key (event true i) ≡ key y → ⊥
    ends-first y (inl p) e = kinds_differ i.wire.end i.index i.wire.start i.index (f.small i (inl refl)) (f.small i (inl refl)) (e ∙ ap key p)
    ends-first y (inr m) e = later true y m e

-- ---- so they come in rising order
pub in_order-perm : (l : List WireEvent) → Perm (in_order l) l
unfolding in_order
in_order-perm l = sort_perm (λ a b. row_le (event_row a) (event_row b)) l

pub in_order-sorted : (l : List WireEvent) → Sorted (λ a b. row_le (event_row a) (event_row b)) (in_order l)
unfolding in_order
in_order-sorted l = sort_sorted (λ a b. row_le (event_row a) (event_row b)) (by_rows event_row) l

rising-of : (q : List WireEvent) → ((e : WireEvent) → Mem e q → e.item.index < 4096) → Sorted (λ a b. row_le (event_row a) (event_row b)) q → Pairwise (λ x y. key x ≡ key y → ⊥) q → Pairwise (λ x y. key x < key y) q
rising-of [] s o d = tt
rising-of (x ∷ q) s o d = (
  λ y m. strict (key x) (key y) (leb-true (key x) (key y) (sym (key-order x y (s x (inl refl)) (s y (inr m))) ∙ o.0 y m)) (d.0 y m),
  rising-of q (λ e m. s e (inr m)) o.1 d.1,
)
  where
    strict : (a b : ℕ) → a ≤ b → (a ≡ b → ⊥) → a < b
    strict a b h k = omega arith

module _ (l : List Item) (fit : Fit l) where
  pub in_list : (e : WireEvent) → Mem e (in_order (wire_events l)) → Mem e.item l
  in_list e m = events-inside l e (perm_mem e (in_order-perm (wire_events l)) m)

  pub rising-events : Pairwise (λ x y. key x < key y) (in_order (wire_events l))
  rising-events = rising-of (in_order (wire_events l)) (λ e m. fit.small e.item (in_list e m)) (in_order-sorted (wire_events l)) (perm_pairwise (λ x y h e. h (sym e)) (perm_sym (in_order-perm (wire_events l))) (distinct l fit))
