-- The event numbers sorted by their keys are the sorted events. Assumes nothing.
use mathlib.Core.Path.{◌≡◌, refl, sym, ap, ◌∙◌, subst}
use mathlib.Core.List.{List, [], ◌∷◌, ◌++◌, map}
use Prim.Native.Nat.{ℕ, suc, ◌+◌, ◌*◌, ◌≤◌, ◌<◌}
use native.Mathlib.Nat.{mul-le-mul_right}
use native.Mathlib.Omega.{arith}
use borrow.Author.Tests.{le-leb, lt-leb}
use lib.Dec.{leb}
use lib.ListN.{length, get_or, take, drop, length-drop}
use lib.Seq.{get_or-drop}
use Rattle.laws.specs.Lists.{All}
use Rattle.laws.specs.Sort.{sort_by}
use Rattle.laws.proofs.Tests.{cond_true, cond_false}
use Rattle.laws.proofs.Parts.{drop_past}
use Rattle.sorting.specs.Inner.Sorted.{up_to, sorted}
use Rattle.sorting.proofs.Entries.{Ordered, all-ordered}
use Rattle.sorting.proofs.Events.{both, events-ordered}
use Rattle.rows.specs.Rows.{Row, Event, ends, starts, moment, events_in_order, events_from, events}
use Rattle.rows.specs.Inner.Placed.{events_placed}
use Rattle.rows.specs.Inner.Tables.{no_row, event_from, column}
use Rattle.rows.proofs.ColumnParts.{row_word}

events_both : (i : ℕ) (l : List Row) → both ends starts i l ≡ events_from i l
unfolding events_from
events_both i [] = refl
events_both i (r ∷ l) = ap (λ (t : List Event). ends i r ∷ starts i r ∷ t) (events_both (suc i) l)

module _ (s o : List ℕ) (l : List Row) where
  events-of : Ordered s (2 * length l) (2 * length l) 1 o → 4 * length l ≤ length s → column (length l) 2 s ≡ map (λ r. r.end) l → column (length l) 3 s ≡ map (λ r. r.start) l → map (event_from l) (take (2 * length l) o) ≡ events l
  unfolding events moment
  events-of h room e b =
      let n = length l in
      let k = drop (2 * n) s in
      let long : 2 * n ≤ length k = omega (arith, length-drop (2 * n) s) in
      ap (map (event_from l)) h.column
      ∙ events-ordered ends starts no_row l moment k long
      (λ j q. λ i. (sym (row_word l 2 j s (λ r. r.end) e q) ∙ sym (get_or-drop (2 * n) s j 0)) i ∷ 0 ∷ j ∷ [])
      (λ j q.
      let at : 3 * n + j ≡ 2 * n + (n + j) = omega arith in
      λ i. (sym (row_word l 3 j s (λ r. r.start) b q) ∙ ap (λ (p : ℕ). get_or s p 0) at ∙ sym (get_or-drop (2 * n) s (n + j) 0)) i ∷ 1 ∷ j ∷ [])
      ∙ ap (sort_by events_in_order) (events_both 0 l)

-- the first words of r are the numbers of the sorted events, by the keys of ends and starts in s; after them r equals s
pub record EventsOrdered (n : ℕ) (s r : List ℕ) : Type 0 where
  pub rest : drop (2 * n) r ≡ drop (2 * n) s
  pub small : All (λ e. e < 2 * n) (take (2 * n) r)
  pub ordered : (l : List Row) → length l ≡ n → column n 2 s ≡ map (λ r. r.end) l → column n 3 s ≡ map (λ r. r.start) l → map (event_from l) (take (2 * n) r) ≡ events l

-- the columns from the keys on are as they were
pub later_column : (n : ℕ) (s r : List ℕ) → EventsOrdered n s r → (k : ℕ) → 2 ≤ k → column n k r ≡ column n k s
later_column n s r o k h = ap (take n) (drop_past (2 * n) (k * n) r s o.rest (mul-le-mul_right n h))

-- r is s with all numbers at the front, and o is r with the numbers sorted
events_are : (s r o : List ℕ) (n : ℕ) → 4 * n ≤ length s → r ≡ up_to (2 * n) ++ drop (2 * n) s → o ≡ sorted r (2 * n) (2 * n) 1 → EventsOrdered n s o
events_are s r o n room e g =
    let h = all-ordered s r o (2 * n) (2 * n) 1 (omega arith) (omega arith) e g in
    record {
      rest = h.rest;
      small = h.small;
      ordered = λ l q. subst (λ (n : ℕ). Ordered s (2 * n) (2 * n) 1 o → 4 * n ≤ length s → column n 2 s ≡ map (λ r. r.end) l → column n 3 s ≡ map (λ r. r.start) l → map (event_from l) (take (2 * n) o) ≡ events l) q (events-of s o l) h room;
    }

module _ (s : List ℕ) (n : ℕ) where
  placed : 4 * n ≤ length s → events_placed n s ≡ sorted (up_to (2 * n) ++ drop (2 * n) s) (2 * n) (2 * n) 1
  unfolding events_placed
  placed h = cond_true (leb (4 * n) (length s)) (sorted (up_to (2 * n) ++ drop (2 * n) s) (2 * n) (2 * n) 1) s (le-leb (4 * n) (length s) h)

  pub events-refused : length s < 4 * n → s ≡ events_placed n s
  unfolding events_placed
  events-refused h = sym (cond_false (leb (4 * n) (length s)) (sorted (up_to (2 * n) ++ drop (2 * n) s) (2 * n) (2 * n) 1) s (lt-leb (4 * n) (length s) h))

  pub events_done : (r o : List ℕ) → 4 * n ≤ length s → r ≡ up_to (2 * n) ++ drop (2 * n) s → o ≡ sorted r (2 * n) (2 * n) 1 → o ≡ events_placed n s
  events_done r o h e g = g ∙ ap (λ (l : List ℕ). sorted l (2 * n) (2 * n) 1) e ∙ sym (placed h)

  -- what callers use
  pub events-placed : (o : List ℕ) → o ≡ events_placed n s → 4 * n ≤ length s → EventsOrdered n s o
  events-placed o e h = events_are s (up_to (2 * n) ++ drop (2 * n) s) o n h refl (e ∙ placed h)
