-- From rows in order to the tables that the sweep reads, and the words after them cleared: the sweep may begin. Assumes nothing.
use Rattle.drawing.specs.declared.refusal.Refusal.{Refusal}
use Rattle.std.specs.Prelude.{Result}
use mathlib.Core.Path.{◌≡◌, refl, sym, ap, ◌∙◌, subst}
use mathlib.Core.Logic.{inl, inr}
use mathlib.Core.List.{List, [], map}
use Prim.Native.Nat.{ℕ, zero, suc, ◌+◌, ◌-◌, ◌*◌, ◌^◌, ◌≤◌, ◌<◌}
use native.Mathlib.Nat.{pow-succ'}
use native.Mathlib.Omega.{arith}
use borrow.Rule.Slice.PartMut.{mid_of, put_mid, mid_len, take_put, same_len_mid}
use lib.ListN.{length, get_or, take, drop, replicate, length-replicate, get_or-replicate, length-drop, get_or-append}
use lib.Seq.{take-take, get_or-drop, length-take-le, get_or-append-add}
use Rattle.laws.specs.Lists.{Mem, All}
use Rattle.laws.specs.Inner.Sort.{Sorted}
use Rattle.laws.specs.Inner.Allowance.{within}
use Rattle.laws.proofs.Tests.{le_or_lt}
use Rattle.laws.proofs.ListLaws.{mem_all, mem_map}
use Rattle.rows.specs.Rows.{Row, rows_in_order}
use Rattle.rows.specs.Inner.Placed.{rows_spread, events_placed}
use Rattle.rows.specs.Inner.Tables.{event_from, column, RowsOrdered}
use Rattle.rows.proofs.ColumnParts.{column-same}
use Rattle.rows.proofs.SpreadTables.{Spread, rows-spread}
use Rattle.rows.proofs.EventTables.{EventsOrdered, later_column, events-placed}
use Rattle.separation.specs.declared.summary.NetSummary.TheVariants.{Nothing}
use Rattle.separation.specs.Lines.{lines, levels}
use Rattle.separation.specs.Walk.{sweep}
use Rattle.separation.specs.Inner.Summaries.{summary_of_word}
use Rattle.separation.proofs.Lines.{levels-enough, levels-least}
use Rattle.separation_call.specs.Inner.ActiveTree.{summary_at}
use Rattle.separation_call.specs.Inner.Prepared.{Prepared}
use Rattle.separation_call.specs.Inner.Numbered.{Numbered, LinesNumbered, Slottable, SlotsAssigned}
use Rattle.separation.specs.declared.found.Found.{Found}
use Rattle.separation.specs.Inner.States.{swept_of}
use Rattle.separation_call.specs.Inner.Sweeping.{Gapped, Ready, AtFirst, AtTables, AtRows}
use Rattle.separation_call.proofs.Trees.{nothing_covers}
use Rattle.separation_call.proofs.ActiveNets.{counted_none}
use Rattle.separation_call.proofs.LineNumbering.{lines-few, lines-some, places-below}
use Rattle.separation_call.proofs.SlotLaws.{slots-of-rows}

-- ---- the tables, step by step: spread over columns, the events in order, the lines numbered, the slots assigned
module _ (l : List Row) (sorted : Sorted rows_in_order l) (s₁ s₂ s₃ : List ℕ) (many : ℕ) (spread : Spread l s₁) (ordered : EventsOrdered (length l) s₁ s₂) (numbered : LinesNumbered (length l) s₂ s₃ many) where
  abbrev n : ℕ
  n = length l

  lines_are : Numbered l s₃ many
  lines_are = numbered.numbered l refl sorted (later_column n s₁ s₂ ordered 4 (omega arith) ∙ spread.keys)

  nets_are : column n 5 s₃ ≡ map (λ r. r.net) l
  nets_are = numbered.nets ∙ later_column n s₁ s₂ ordered 5 (omega arith) ∙ spread.nets

  slottable : n ≤ 4096 → 9 * n ≤ length s₃ → ((r : Row) → Mem r l → r.net < 2 ^ 32) → Slottable n s₃
  slottable few room small = record {
    room = room;
    few = few;
    lines = subst (All (λ i. i < n)) (sym lines_are.places) (places-below l);
    nets = subst (All (λ m. m < 2 ^ 32)) (sym nets_are) (mem_all (λ m. m < 2 ^ 32) (map (λ (r : Row). r.net) l) (λ m i. let g = mem_map (λ (r : Row). r.net) l m i in subst (λ (z : ℕ). z < 2 ^ 32) (sym g.2) (small g.0 g.1)));
  }

  tables_are : (s₄ : List ℕ) → SlotsAssigned n s₃ s₄ → Prepared l s₄
  tables_are s₄ assigned =
      let kept : (k : ℕ) → k * n + n ≤ 7 * n → column n k s₄ ≡ column n k s₃ = λ k h. column-same n k (7 * n) s₄ s₃ h assigned.front in
      let front : take (2 * n) s₄ ≡ take (2 * n) s₂ = sym (take-take (2 * n) (7 * n) s₄ (omega arith)) ∙ ap (take (2 * n)) assigned.front ∙ take-take (2 * n) (7 * n) s₃ (omega arith) ∙ sym (take-take (2 * n) (4 * n) s₃ (omega arith)) ∙ ap (take (2 * n)) numbered.front ∙ take-take (2 * n) (4 * n) s₂ (omega arith) in
      let places = kept 4 (omega arith) ∙ lines_are.places in
      let nets = kept 5 (omega arith) ∙ nets_are in
      record {
        small = subst (All (λ e. e < 2 * n)) (sym front) ordered.small;
        ordered = ap (map (event_from l)) front ∙ ordered.ordered l refl spread.ends spread.starts;
        places = places;
        nets = nets;
        fixed = ap (take (length (lines l))) (kept 6 (omega arith)) ∙ lines_are.fixed;
        slots = slots-of-rows l s₄ places nets assigned.slots;
      }

-- the same for n rows
module _ (n from table : ℕ) (s s₁ s₂ s₃ : List ℕ) (many : ℕ) (a : AtRows s n from table) (same : length s₁ ≡ length s)
    (spread_is : s₁ ≡ rows_spread n from table s) (ordered-is : s₂ ≡ events_placed n s₁) (numbered : LinesNumbered n s₂ s₃ many) where
  spread : (l : List Row) → length l ≡ n → RowsOrdered l table (drop from s) → Spread l s₁
  spread = rows-spread n from table s s₁ spread_is (omega (arith, a.front)) a.apart a.room

  ordered : EventsOrdered n s₁ s₂
  ordered = events-placed s₁ n s₂ ordered-is (omega (arith, a.room))

  pub at-rows_slottable : length s₃ ≡ length s₁ → Slottable n s₃
  at-rows_slottable long =
      let h = a.front in
      let r = a.room in
      let d = spread a.l a.size a.ordered in
      go a.l a.size a.sorted d a.nets a.few (omega arith)
    where
      go : (l : List Row) → length l ≡ n → Sorted rows_in_order l → Spread l s₁ → ((r : Row) → Mem r l → r.net < 2 ^ 32) → n ≤ 4096 → 9 * n ≤ length s₃ → Slottable n s₃
      go l e sorted d nets = subst (λ (m : ℕ). EventsOrdered m s₁ s₂ → LinesNumbered m s₂ s₃ many → m ≤ 4096 → 9 * m ≤ length s₃ → Slottable m s₃) e (λ o b few room. slottable l sorted s₁ s₂ s₃ many d o b few room nets) ordered numbered

  pub tables_made : (s₄ : List ℕ) → SlotsAssigned n s₃ s₄ → (l : List Row) → length l ≡ n → Sorted rows_in_order l → ((a : Row) → Mem a l → a.net < 2 ^ 32) → RowsOrdered l table (drop from s) → Prepared l s₄ × (many ≡ length (lines l))
  tables_made s₄ assigned l e sorted nets rows =
      let d = spread l e rows in
      subst (λ (m : ℕ). EventsOrdered m s₁ s₂ → LinesNumbered m s₂ s₃ many → SlotsAssigned m s₃ s₄ → Prepared l s₄ × (many ≡ length (lines l))) e
      (λ o b g. (tables_are l sorted s₁ s₂ s₃ many d o b s₄ g, (lines_are l sorted s₁ s₂ s₃ many d o b).many_is)) ordered numbered assigned

-- ---- the leaf count is at most twice the lines, so that the tree has room
levels-few : (m : ℕ) → 1 ≤ m → 2 ^ levels m ≤ 2 * m
levels-few m h = go (levels m) refl
  where
    go : (k : ℕ) → levels m ≡ k → 2 ^ k ≤ 2 * m
    go zero e = omega arith
    go (suc k) e = elim (le_or_lt m (2 ^ k)) [
      | inl g ↦ absurd (omega (arith, levels-least m k g))
      | inr g ↦ omega (arith, pow-succ' 2 k)
    ]

nothing_at : (t : List ℕ) (k : ℕ) → get_or t k 0 ≡ 0 → summary_at t k ≡ Nothing
unfolding summary_of_word
nothing_at t k e = rw e

-- ---- the words after the tables are cleared: t is s with zeros from 9 n up to the end of the tree
module _ (l : List Row) (s e : List ℕ) (leaves : ℕ) (count : leaves ≡ 2 ^ levels (length (lines l))) (some : 1 ≤ length l) (room : 20 * length l ≤ length s) (clear : e ≡ replicate {A = ℕ} (length (mid_of (9 * length l) (12 * length l + 2 * leaves - 9 * length l) s)) 0) where
  abbrev m : ℕ
  m = length l

  abbrev end : ℕ
  end = 12 * m + 2 * leaves

  abbrev t : List ℕ
  t = put_mid (9 * m) (end - 9 * m) s e

  fewer : leaves ≤ 2 * m
  fewer = omega (arith, levels-few (length (lines l)) (lines-some l some), lines-few l)

  cleared-length : length (mid_of (9 * m) (end - 9 * m) s) ≡ end - 9 * m
  cleared-length = mid_len (9 * m) end s (omega (arith, fewer))

  same_length : length t ≡ length s
  same_length = same_len_mid (9 * m) (end - 9 * m) s e (ap length clear ∙ length-replicate (length (mid_of (9 * m) (end - 9 * m) s)) 0)

  zero-at : (i : ℕ) → i < end - 9 * m → get_or t (9 * m + i) 0 ≡ 0
  zero-at i h =
      let front : length (take (9 * m) s) ≡ 9 * m = length-take-le (9 * m) s (omega arith) in
      let z = length (mid_of (9 * m) (end - 9 * m) s) in
      let long : i < length e = omega (arith, ap length clear ∙ length-replicate z 0, cleared-length) in
      ap (λ (k : ℕ). get_or t (k + i) 0) (sym front)
      ∙ get_or-append-add (take (9 * m) s) _ i 0
      ∙ get_or-append e _ 0 i long
      ∙ ap (λ (c : List ℕ). get_or c i 0) clear
      ∙ get_or-replicate z i 0 0 (omega (arith, cleared-length))

  zero-behind : (i : ℕ) → i < end - 9 * m → get_or (drop (9 * m) t) i 0 ≡ 0
  zero-behind i h = get_or-drop (9 * m) t i 0 ∙ zero-at i h

  ready-first : Prepared l s → Sorted rows_in_order l → ((r : Row) → Mem r l → r.net < 2 ^ 32) → Gapped (lines l) → m ≤ 4096 → Ready l s (levels (length (lines l))) 0 [] t
  ready-first prepared sorted nets gaps few = record {
    front = take_put (9 * m) (end - 9 * m) s e (omega arith);
    prepared = prepared;
    sorted = sorted;
    nets = nets;
    working = record {
      counted = counted_none m (lines l) _ _ _ (drop (9 * m) t) (omega (arith, length-drop (9 * m) t, same_length)) (λ i h. zero-behind i (omega arith)) prepared.slots.inside;
      covers = nothing_covers (lines l) (levels (length (lines l))) (summary_at (drop (3 * m) (drop (9 * m) t))) (λ k a b. nothing_at (drop (3 * m) (drop (9 * m) t)) k (get_or-drop (3 * m) (drop (9 * m) t) k 0 ∙ zero-behind (3 * m + k) (omega arith)));
    };
    enough = levels-enough (length (lines l));
    fewer = omega (arith, fewer);
    few = few;
    room = omega (arith, same_length);
    from = λ a x. absurd x;
    gaps = gaps;
  }

-- ---- what the calls require, and what the sweep gives
module _ (s : List ℕ) (n many : ℕ) where
  pub tables_leaves : AtTables s n many → (1 ≤ many) × (many ≤ 4096)
  tables_leaves a = let p = a.some in let q = a.few in let e = a.size in let k = a.count in (omega (arith, lines-some a.l (omega arith)), omega (arith, lines-few a.l))

  module _ (leaves : ℕ) (count : leaves ≡ 2 ^ levels many) where
    pub tables_end : AtTables s n many → (12 * n + 2 * leaves ≤ length s) × (leaves ≤ 8192)
    tables_end a =
        let p = a.some in let q = a.few in let e = a.size in let k = a.count in let r = a.room in
        let g : 2 ^ levels many ≤ 2 * many = levels-few many (tables_leaves a).0 in
        let f = lines-few a.l in
        (omega arith, omega arith)

    module _ (e : List ℕ) (clear : e ≡ replicate {A = ℕ} (length (mid_of (9 * n) (12 * n + 2 * leaves - 9 * n) s)) 0) where
      cleared : (l : List Row) → length l ≡ n → many ≡ length (lines l) → Prepared l s → Sorted rows_in_order l → ((r : Row) → Mem r l → r.net < 2 ^ 32) → Gapped (lines l) → 1 ≤ n → n ≤ 4096 → 20 * n ≤ length s
          → Ready l s (levels many) 0 [] (put_mid (9 * n) (12 * n + 2 * leaves - 9 * n) s e)
      cleared l size k prepared sorted nets gaps =
          subst (λ (h : ℕ). 1 ≤ n → n ≤ 4096 → 20 * n ≤ length s → Ready l s (levels h) 0 [] (put_mid (9 * n) (12 * n + 2 * leaves - 9 * n) s e)) (sym k)
          (subst (λ (m : ℕ). e ≡ replicate {A = ℕ} (length (mid_of (9 * m) (12 * m + 2 * leaves - 9 * m) s)) 0 → 1 ≤ m → m ≤ 4096 → 20 * m ≤ length s → Ready l s (levels (length (lines l))) 0 [] (put_mid (9 * m) (12 * m + 2 * leaves - 9 * m) s e)) size
          (λ c some few room. ready-first l s e leaves (count ∙ ap (λ (h : ℕ). 2 ^ levels h) k) some room c prepared sorted nets gaps few) clear)

      pub tables_first : AtTables s n many → AtFirst (put_mid (9 * n) (12 * n + 2 * leaves - 9 * n) s e) n leaves
      tables_first a = record {
        l = a.l;
        F = s;
        H = levels many;
        size = a.size;
        count = count;
        ready = cleared a.l a.size a.count a.prepared a.sorted (λ r m. (a.proper r m).0) a.gaps a.some a.few a.room;
        proper = λ r m. (a.proper r m).1;
      }

      pub tables_swept : AtTables s n many → (allowance : ℕ) (r : Result Found Refusal)
          → ((l : List Row) (F : List ℕ) (H : ℕ) → length l ≡ n → leaves ≡ 2 ^ H → Ready l F H 0 [] (put_mid (9 * n) (12 * n + 2 * leaves - 9 * n) s e) → ((a : Row) → Mem a l → a.start < a.end) → H ≡ levels (length (lines l)) → r ≡ swept_of (within allowance (sweep l)))
          → (l : List Row) → length l ≡ n → many ≡ length (lines l) → Prepared l s → Sorted rows_in_order l → ((a : Row) → Mem a l → (a.net < 2 ^ 32) × (a.start < a.end)) → Gapped (lines l) → r ≡ swept_of (within allowance (sweep l))
      tables_swept a allowance r f l size k prepared sorted proper gaps = f l s (levels many) size count (cleared l size k prepared sorted (λ r m. (proper r m).0) gaps a.some a.few a.room) (λ r m. (proper r m).1) (ap levels k)
