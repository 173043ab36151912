-- The sweep compares each overlapping pair of different nets at the later start, or one that is no further apart, and nothing else. Assumes nothing.
use mathlib.Core.Path.{◌≡◌, refl, sym, ap, ◌∙◌, subst}
use mathlib.Core.Logic.{◌⊎◌, inl, inr}
use mathlib.Core.List.{List, [], ◌∷◌, ◌++◌}
use mathlib.Core.Bool.{Bool, true, false}
use Prim.Native.Nat.{ℕ, suc, ◌+◌, ◌^◌, ◌≤◌, ◌<◌}
use native.Mathlib.Omega.{arith}
use lib.ListN.{length}
use Rattle.laws.specs.Lists.{Mem, fold, bit, count}
use Rattle.laws.specs.Rows.{row_le}
use Rattle.laws.specs.Sort.{sort_by}
use Rattle.laws.specs.Inner.Sort.{Sorted}
use Rattle.laws.proofs.Tests.{clash, le_or_lt}
use Rattle.laws.proofs.ListLaws.{mem_append, append_left, append_right}
use Rattle.laws.proofs.Perms.{perm_mem, perm_sym, perm-count}
use Rattle.laws.proofs.RowLaws.{row_more, row_next, by_rows}
use Rattle.laws.proofs.Sorting.{sort_perm, sort_sorted}
use Rattle.rows.specs.Rows.{Row, rows_in_order, Event, ends, starts, moment, events_in_order, events_from, events}
use Rattle.separation.specs.Lines.{lines, levels}
use Rattle.separation.specs.Walk.{same, remove}
use Rattle.separation.proofs.Lines.{Rising, first_word, lines-rising, line_mem, levels-enough}
use Rattle.separation.proofs.ActiveRows.{mem_count, count_mem, same→, same_refl, remove_mem, mem_remove, remove-count}
use Rattle.separation.proofs.NearestLines.{meets, Closer, closer_sym, meets_sound, meets_complete}

-- ---- the pairs of lines that a sweep over the events compares
unfoldable pub sights : List ℕ → ℕ → List Row → List Event → List (ℕ × ℕ)
sights ls h active [] = []
sights ls h active (ends i x ∷ es) = sights ls h (remove x active) es
sights ls h active (starts i x ∷ es) = meets ls h active x ++ sights ls h (x ∷ active) es

unfoldable pub sweep_sights : List Row → List (ℕ × ℕ)
sweep_sights l = sights (lines l) (levels (length (lines l))) [] (events l)

-- ---- events
abbrev pub row_at : Event → Row
row_at (ends i r) = r
row_at (starts i r) = r

abbrev when : Event → ℕ
when (ends i r) = r.end
when (starts i r) = r.start

abbrev closes : Row → Event → Bool
closes r (ends i x) = same r x
closes r (starts i x) = false

abbrev opens : Row → Event → Bool
opens r (ends i x) = false
opens r (starts i x) = same r x

moment-le : (d e : Event) → events_in_order d e ≡ true → when d ≤ when e
unfolding moment
moment-le (ends i r) (ends j s) t = first_word r.end s.end _ _ t
moment-le (ends i r) (starts j s) t = first_word r.end s.start _ _ t
moment-le (starts i r) (ends j s) t = first_word r.start s.end _ _ t
moment-le (starts i r) (starts j s) t = first_word r.start s.start _ _ t

-- a start that comes before an end is strictly before it: ends come first
start-end : (i j : ℕ) (r s : Row) → events_in_order (starts i r) (ends j s) ≡ true → r.start < s.end
unfolding moment
start-end i j r s t = elim (le_or_lt s.end r.start) [
  | inr h ↦ h
  | inl h ↦
      let k = first_word r.start s.end (1 ∷ i ∷ []) (0 ∷ j ∷ []) t in
      clash (row_le (1 ∷ i ∷ []) (0 ∷ j ∷ [])) (sym (row_next r.start s.end (1 ∷ i ∷ []) (0 ∷ j ∷ []) (omega arith)) ∙ t) (row_more 1 0 (i ∷ []) (j ∷ []) (omega arith))
]

abbrev StartsIn : Row → List Event → Type 0
StartsIn r es = (i : ℕ) × Mem (starts i r) es

-- two segments of different nets that overlap
pub record Meet (a b : Row) : Type 0 where
  pub nets : a.net ≡ b.net → ⊥
  pub before-end : a.start < b.end
  pub after-start : b.start < a.end

apart : (i j : ℕ) (r s : Row) → starts i r ≡ ends j s → ⊥
apart i j r s e = let z : ◌≡◌ {A = ℕ} 0 1 = cc in omega arith

not_ended : (r x : Row) (i : ℕ) (es : List Event) → StartsIn r (ends i x ∷ es) → StartsIn r es
not_ended r x i es (j, inl e) = absurd (apart j i r x e)
not_ended r x i es (j, inr m) = (j, m)

now_or_later : (r x : Row) (i : ℕ) (es : List Event) → StartsIn r (starts i x ∷ es) → (r ≡ x) ⊎ StartsIn r es
now_or_later r x i es (j, inl e) = inl (ap row_at e)
now_or_later r x i es (j, inr m) = inr (j, m)

-- a state of the sweep: the remaining events, and which of the rows l are active
pub record State (l : List Row) (active : List Row) (es : List Event) : Type 0 where
  pub sorted : Sorted events_in_order es
  pub from : (a : Row) → Mem a active → Mem a l
  pub still : (e : Event) → Mem e es → Mem (row_at e) l
  pub begun : (a : Row) → Mem a active → (e : Event) → Mem e es → a.start ≤ when e
  pub balance : (r : Row) → count (closes r) es ≡ count (same r) active + count (opens r) es

-- two rows of l that meet, by their lines
pub record Pair (l : List Row) (c : ℕ × ℕ) : Type 0 where
  pub one : Row
  pub other : Row
  pub one_in : Mem one l
  pub other_in : Mem other l
  pub meet : Meet one other
  pub first : c.0 ≡ one.line
  pub second : c.1 ≡ other.line

-- some lines of cs are no further apart than those of a and b
abbrev pub Covered : Row → Row → List (ℕ × ℕ) → Type 0
Covered a b cs = (c : ℕ × ℕ) × Mem c cs × Closer c a.line b.line

-- a pair that is not compared yet
data Waiting (a b : Row) (active : List Row) (es : List Event) : Type 0 where
  first_on : Mem a active → StartsIn b es → Waiting a b active es
  second-on : Mem b active → StartsIn a es → Waiting a b active es
  neither_on : StartsIn a es → StartsIn b es → Waiting a b active es

-- ---- the sweep over a list l of rows with start < end
module _ (l : List Row) (proper : (r : Row) → Mem r l → r.start < r.end) where
  -- an active segment has yet to end
  ends_later : (active : List Row) (i : ℕ) (x : Row) (es : List Event) → State l active (starts i x ∷ es) → (a : Row) → Mem a active → x.start < a.end
  unfolding fold
  ends_later active i x es s a m = found (count_mem (closes a) es (omega (arith, s.balance a, mem_count (same a) a active m (same_refl a))))
    where
      found : (e : Event) × Mem e es × (closes a e ≡ true) → x.start < a.end
      found (ends j y, k, t) = subst (λ (z : Row). x.start < z.end) (sym (same→ a y t)) (start-end i j x y (s.sorted.0 (ends j y) k))
      found (starts j y, k, t) = clash false t refl

  -- one that ends is active
  pub is-active : (active : List Row) (i : ℕ) (x : Row) (es : List Event) → State l active (ends i x ∷ es) → Mem x active
  unfolding fold
  is-active active i x es s = let g = count_mem (same x) active (go (le_or_lt (count (opens x) es) 0)) in subst (λ (z : Row). Mem z active) (sym (same→ x g.0 g.2)) g.1
    where
      late : (e : Event) × Mem e es × (opens x e ≡ true) → ⊥
      late (ends j y, k, t) = clash false t refl
      late (starts j y, k, t) =
          let q = moment-le (ends i x) (starts j y) (s.sorted.0 (starts j y) k) in
          omega (arith, ap (λ (z : Row). z.start) (same→ x y t), proper x (s.still (ends i x) (inl refl)))

      go : (count (opens x) es ≤ 0) ⊎ (0 < count (opens x) es) → 0 < count (same x) active
      go (inl z) = omega (arith, ap bit (same_refl x), s.balance x)
      go (inr z) = absurd (late (count_mem (opens x) es z))

  pub after-end : (active : List Row) (i : ℕ) (x : Row) (es : List Event) → State l active (ends i x ∷ es) → State l (remove x active) es
  unfolding fold
  after-end active i x es s = record {
    sorted = s.sorted.1;
    from = λ a m. s.from a (remove_mem x a active m);
    still = λ e m. s.still e (inr m);
    begun = λ a m e n. s.begun a (remove_mem x a active m) e (inr n);
    balance = λ r. omega (arith, s.balance r, remove-count (same r) x active (is-active active i x es s));
  }

  pub after-start : (active : List Row) (i : ℕ) (x : Row) (es : List Event) → State l active (starts i x ∷ es) → State l (x ∷ active) es
  unfolding fold
  after-start active i x es s = record {
    sorted = s.sorted.1;
    from = λ a m. go a m;
    still = λ e m. s.still e (inr m);
    begun = λ a m e n. start a m e n;
    balance = λ r. omega (arith, s.balance r);
  }
    where
      go : (a : Row) → Mem a (x ∷ active) → Mem a l
      go a (inl e) = subst (λ (z : Row). Mem z l) (sym e) (s.still (starts i x) (inl refl))
      go a (inr m) = s.from a m

      start : (a : Row) → Mem a (x ∷ active) → (e : Event) → Mem e es → a.start ≤ when e
      start a (inl k) e n = subst (λ (z : Row). z.start ≤ when e) (sym k) (moment-le (starts i x) e (s.sorted.0 e n))
      start a (inr m) e n = s.begun a m e (inr n)

-- ---- the comparisons made, over rising lines ls that hold those of l
module _ (l : List Row) (ls : List ℕ) (h : ℕ) (rising : Rising ls) (room : length ls ≤ 2 ^ h) (lined : (r : Row) → Mem r l → Mem r.line ls) (proper : (r : Row) → Mem r l → r.start < r.end) where
  -- ---- nothing else is compared
  sound : (active : List Row) (es : List Event) → State l active es → (c : ℕ × ℕ) → Mem c (sights ls h active es) → Pair l c
  unfolding sights
  sound active [] s c m = absurd m
  sound active (ends i x ∷ es) s c m = sound (remove x active) es (after-end l proper active i x es s) c m
  sound active (starts i x ∷ es) s c m = go (mem_append c (meets ls h active x) (sights ls h (x ∷ active) es) m) (sound (x ∷ active) es (after-start l proper active i x es s) c)
    where
      here : Mem x l
      here = s.still (starts i x) (inl refl)

      go : Mem c (meets ls h active x) ⊎ Mem c (sights ls h (x ∷ active) es) → (Mem c (sights ls h (x ∷ active) es) → Pair l c) → Pair l c
      go (inr n) k = k n
      go (inl n) k =
          let g = meets_sound ls h rising room active x (λ a p. lined a (s.from a p)) (lined x here) c n in
          let a = g.other in
          let b : a.start ≤ x.start = s.begun a g.there (starts i x) (inl refl) in
          record {
            one = a;
            other = x;
            one_in = s.from a g.there;
            other_in = here;
            meet = record { nets = g.nets; before-end = omega (arith, proper x here); after-start = ends_later l proper active i x es s a g.there };
            first = g.first;
            second = g.second;
          }

  -- ---- every pair is compared, or one that is no further apart
  complete : (active : List Row) (es : List Event) → State l active es → (a b : Row) → Meet a b → Waiting a b active es → Covered a b (sights ls h active es)
  unfolding sights
  complete active [] s a b k (first_on m (i, n)) = absurd n
  complete active [] s a b k (second-on m (i, n)) = absurd n
  complete active [] s a b k (neither_on (i, n) y) = absurd n
  complete active (ends i x ∷ es) s a b k w = complete (remove x active) es (after-end l proper active i x es s) a b k (go w)
    where
      over : (r t : Row) → Mem r active → StartsIn t es → t.start < r.end → Mem r (remove x active)
      over r t m n q = elim (mem_remove x r active m) [
        | inr p ↦ p
        | inl e ↦ absurd (omega (arith, ap (λ (z : Row). z.end) e, moment-le (ends i x) (starts n.0 t) (s.sorted.0 (starts n.0 t) n.1)))
      ]

      go : Waiting a b active (ends i x ∷ es) → Waiting a b (remove x active) es
      go (first_on m n) = let p = not_ended b x i es n in first_on (over a b m p k.after-start) p
      go (second-on m n) = let p = not_ended a x i es n in second-on (over b a m p k.before-end) p
      go (neither_on m n) = neither_on (not_ended a x i es m) (not_ended b x i es n)
  complete active (starts i x ∷ es) s a b k w = go w (complete (x ∷ active) es (after-start l proper active i x es s) a b k)
    where
      later : Covered a b (sights ls h (x ∷ active) es) → Covered a b (meets ls h active x ++ sights ls h (x ∷ active) es)
      later g = (g.0, append_right g.0 (meets ls h active x) (sights ls h (x ∷ active) es) g.1, g.2)

      met : (r : Row) → Mem r active → (r.net ≡ x.net → ⊥) → Covered r x (meets ls h active x ++ sights ls h (x ∷ active) es)
      met r m n =
          let g = meets_complete ls h rising room active x (λ y p. lined y (s.from y p)) (lined x (s.still (starts i x) (inl refl))) r m n in
          (g.0, append_left g.0 (meets ls h active x) (sights ls h (x ∷ active) es) g.1, g.2)

      one : (Waiting a b (x ∷ active) es → Covered a b (sights ls h (x ∷ active) es)) → Mem a active → (b ≡ x) ⊎ StartsIn b es → Covered a b (meets ls h active x ++ sights ls h (x ∷ active) es)
      one f m (inl e) =
          let g = met a m (λ q. k.nets (q ∙ ap (λ (z : Row). z.net) (sym e))) in
          (g.0, g.1, subst (λ (z : Row). Closer g.0 a.line z.line) (sym e) g.2)
      one f m (inr n) = later (f (first_on (inr m) n))

      two : (Waiting a b (x ∷ active) es → Covered a b (sights ls h (x ∷ active) es)) → Mem b active → (a ≡ x) ⊎ StartsIn a es → Covered a b (meets ls h active x ++ sights ls h (x ∷ active) es)
      two f m (inl e) =
          let g = met b m (λ q. k.nets (ap (λ (z : Row). z.net) e ∙ sym q)) in
          (g.0, g.1, closer_sym g.0 b.line a.line (subst (λ (z : Row). Closer g.0 b.line z.line) (sym e) g.2))
      two f m (inr n) = later (f (second-on (inr m) n))

      three : (Waiting a b (x ∷ active) es → Covered a b (sights ls h (x ∷ active) es)) → (a ≡ x) ⊎ StartsIn a es → (b ≡ x) ⊎ StartsIn b es → Covered a b (meets ls h active x ++ sights ls h (x ∷ active) es)
      three f (inl e) (inl g) = absurd (k.nets (ap (λ (z : Row). z.net) (e ∙ sym g)))
      three f (inl e) (inr n) = later (f (first_on (inl e) n))
      three f (inr m) (inl e) = later (f (second-on (inl e) m))
      three f (inr m) (inr n) = later (f (neither_on m n))

      go : Waiting a b active (starts i x ∷ es) → (Waiting a b (x ∷ active) es → Covered a b (sights ls h (x ∷ active) es)) → Covered a b (meets ls h active x ++ sights ls h (x ∷ active) es)
      go (first_on m n) f = one f m (now_or_later b x i es n)
      go (second-on m n) f = two f m (now_or_later a x i es n)
      go (neither_on m n) f = three f (now_or_later a x i es m) (now_or_later b x i es n)

-- ---- from the beginning
from_mem : (k : ℕ) (l : List Row) (e : Event) → Mem e (events_from k l) → Mem (row_at e) l
unfolding events_from
from_mem k [] e m = absurd m
from_mem k (r ∷ l) e (inl p) = inl (ap row_at p)
from_mem k (r ∷ l) e (inr (inl p)) = inl (ap row_at p)
from_mem k (r ∷ l) e (inr (inr m)) = inr (from_mem (suc k) l e m)

mem_from : (k : ℕ) (l : List Row) (r : Row) → Mem r l → StartsIn r (events_from k l)
unfolding events_from
mem_from k [] r m = elim m [ ]
mem_from k (x ∷ l) r (inl e) = (k, inr (inl (ap (λ (z : Row). starts k z) e)))
mem_from k (x ∷ l) r (inr m) = let g = mem_from (suc k) l r m in (g.0, inr (inr g.1))

from_balance : (k : ℕ) (l : List Row) (r : Row) → count (closes r) (events_from k l) ≡ count (opens r) (events_from k l)
unfolding events_from fold
from_balance k [] r = refl
from_balance k (x ∷ l) r = omega (arith, from_balance (suc k) l r)

pub enough : (l : List Row) → length (lines l) ≤ 2 ^ levels (length (lines l))
enough l = levels-enough (length (lines l))

pub begin : (l : List Row) → State l [] (events l)
unfolding events fold
begin l = record {
  sorted = sort_sorted events_in_order (by_rows moment) (events_from 0 l);
  from = λ a m. absurd m;
  still = λ e m. from_mem 0 l e (perm_mem e (sort_perm events_in_order (events_from 0 l)) m);
  begun = λ a m. absurd m;
  balance = λ r. omega (arith, perm-count (closes r) (sort_perm events_in_order (events_from 0 l)), perm-count (opens r) (sort_perm events_in_order (events_from 0 l)), from_balance 0 l r);
}

module _ (l : List Row) (sorted : Sorted rows_in_order l) (proper : (r : Row) → Mem r l → r.start < r.end) where
  -- what the sweep compares is a pair that counts
  pub sweep_sound : (c : ℕ × ℕ) → Mem c (sweep_sights l) → Pair l c
  unfolding sweep_sights
  sweep_sound c m = sound l (lines l) (levels (length (lines l))) (lines-rising l sorted) (enough l) (λ r n. line_mem r l n) proper [] (events l) (begin l) c m

  -- and every pair that counts has one compared that is no further apart
  pub sweep_complete : (a b : Row) → Mem a l → Mem b l → Meet a b → Covered a b (sweep_sights l)
  unfolding sweep_sights events
  sweep_complete a b m n k = complete l (lines l) (levels (length (lines l))) (lines-rising l sorted) (enough l) (λ r n. line_mem r l n) proper [] (events l) (begin l) a b k (neither_on (starting a m) (starting b n))
    where
      starting : (r : Row) → Mem r l → StartsIn r (sort_by events_in_order (events_from 0 l))
      starting r m = let g = mem_from 0 l r m in (g.0, perm_mem (starts g.0 r) (perm_sym (sort_perm events_in_order (events_from 0 l))) g.1)
