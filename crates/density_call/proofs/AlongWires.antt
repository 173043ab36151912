-- One orientation, from rows in order to the tables, with the words after them cleared: the sweep may begin. Assumes nothing.
use Rattle.drawing.specs.declared.refusal.Refusal.{Refusal}
use Rattle.std.specs.Prelude.{None, Result, Ok}
use mathlib.Core.Path.{◌≡◌, refl, sym, ap, ◌∙◌, subst}
use mathlib.Core.Logic.{inl, inr}
use mathlib.Core.List.{List, [], map}
use mathlib.Core.Bool.{Bool, true, false, beq}
use Prim.Native.Nat.{ℕ, ◌+◌, ◌-◌, ◌*◌, ◌≤◌, ◌<◌}
use native.Mathlib.Nat.{le_refl}
use native.Mathlib.Omega.{arith}
use borrow.Author.Tests.{lt-ltb, le-ltb}
use borrow.Rule.Slice.PartMut.{mid_of, put_mid, mid_len, take_put, same_len_mid}
use lib.Dec.{ltb}
use lib.Ieee.{Float}
use lib.ListN.{length, get_or, take, replicate, length-map, length-replicate, get_or-replicate, get_or-append}
use lib.Seq.{take-take, length-take-le, get_or-append-add}
use Rattle.laws.specs.Lists.{Mem, All}
use Rattle.laws.specs.Inner.Sort.{Sorted}
use Rattle.laws.specs.Charged.{free}
use Rattle.laws.specs.Inner.Allowance.{within}
use Rattle.laws.proofs.Tests.{clash, le_or_lt, cond_true, cond_false}
use Rattle.laws.proofs.ListLaws.{mem_map}
use Rattle.laws.proofs.Places.{at_mem}
use Rattle.laws.proofs.RowLaws.{row_more}
use Rattle.laws.proofs.SortedLists.{sorted-at}
use Rattle.laws.proofs.Runs.{within-free}
use Rattle.drawing.specs.Entries.{SegmentColumns, segments}
use Rattle.rows.specs.Rows.{Row, words, rows_in_order}
use Rattle.rows.specs.Rows as rows
use Rattle.rows.specs.Inner.Placed.{row_count, rows_placed, rows_spread, events_placed}
use Rattle.rows.specs.Inner.Tables.{no_row, row_from, event_from, column}
use Rattle.rows.proofs.ColumnParts.{get_d_map, column-at, column-same}
use Rattle.rows.proofs.Oriented.{oriented-sorted}
use Rattle.rows.proofs.LentRows.{rows-count, rows_few, rows_behind, rows-kept}
use Rattle.rows.proofs.SpreadTables.{Spread, rows-spread}
use Rattle.rows.proofs.EventTables.{EventsOrdered, later_column, events-placed}
use Rattle.congestion.specs.declared.found.Found.{Found}
use Rattle.congestion.specs.Wires.{Wire, cutoff_of}
use Rattle.congestion.specs.Walk.{begin, sweep, along}
use Rattle.congestion.specs.Inner.Keys.{Key}
use Rattle.density_call.specs.Inner.Tables.{item_at, Tabled}
use Rattle.density_call.specs.Inner.Ranges.{Rangeable, RangesOnly, FillsRanges}
use Rattle.density_call.specs.Inner.Sweeping.{AtFirst, swept_of}
use Rattle.congestion.proofs.RoundedSums.{zero_units}
use Rattle.density_call.specs.Inner.Measuring.{wire_of_row, Proper, Cutoff, AtRows, AtColumns, none_of}
use Rattle.density_call.proofs.RowPlaces.{tables_stay}
use Rattle.density_call.proofs.RowTabled.{coordinate-key, tabled}

-- ---- rows in order have ascending lines
line-le : (a b : Row) → rows_in_order a b ≡ true → a.line ≤ b.line
unfolding words
line-le a b e = elim (le_or_lt a.line b.line) [ inl h ↦ h | inr h ↦ clash (rows_in_order a b) e (row_more a.line b.line _ _ h) ]

lines_rise : (l : List Row) → Sorted rows_in_order l → (i k : ℕ) → i ≤ k → k < length l → (row_from l i).line ≤ (row_from l k).line
lines_rise l s = sorted-at rows_in_order (λ a b. a.line ≤ b.line) (λ r. le_refl r.line) line-le no_row l s

-- ---- the tables, step by step: spread over columns, the events in order, the ranges
module _ (h : Bool) (l : List Row) (sorted : Sorted rows_in_order l) (proper : (r : Row) → Mem r l → Proper r) (s₁ s₂ : List ℕ) (spread : Spread l s₁) (ordered : EventsOrdered (length l) s₁ s₂) where
  abbrev n : ℕ
  n = length l

  abbrev L : List Wire
  L = map (wire_of_row h) l

  key-at : (j : ℕ) → j < n → get_or s₂ (4 * n + j) 0 ≡ (row_from l j).line
  key-at j b = sym (column-at n 4 s₂ j b) ∙ ap (λ (c : List ℕ). get_or c j 0) (later_column n s₁ s₂ ordered 4 (omega arith) ∙ spread.keys) ∙ get_d_map (λ (r : Row). r.line) l j no_row 0 b

  rangeable : 8 * n ≤ length s₂ → Rangeable s₂ n
  rangeable room = record { room = room; ascending = λ i k a b. let p = lines_rise l sorted i k a b in omega (arith, key-at i (omega arith), key-at k b) }

  module _ (s₃ : List ℕ) (cutoff : Float) (cut : Cutoff cutoff) (only : RangesOnly n s₂ s₃) (fills : FillsRanges s₂ s₃ n cutoff) where
    kept : (k : ℕ) → 2 ≤ k → k * n + n ≤ 6 * n → column n k s₃ ≡ column n k s₁
    kept k a b = column-same n k (6 * n) s₃ s₂ b only.front ∙ later_column n s₁ s₂ ordered k a

    front : take (2 * n) s₃ ≡ take (2 * n) s₂
    front = sym (take-take (2 * n) (6 * n) s₃ (omega arith)) ∙ ap (take (2 * n)) only.front ∙ take-take (2 * n) (6 * n) s₂ (omega arith)

    fixed-key : (j : ℕ) → j < n → Key (get_or s₂ (4 * n + j) 0) (item_at L j).wire.fixed
    fixed-key j b =
        let r = row_from l j in
        let k = coordinate-key r.line (proper r (at_mem l j no_row b)).line in
        let w : (item_at L j).wire.fixed ≡ (wire_of_row h r).fixed = ap (λ (z : Wire). z.fixed) (get_d_map (wire_of_row h) l j no_row _ b) in
        subst (λ (z : ℕ). Key z (item_at L j).wire.fixed) (sym (key-at j b)) (subst (Key r.line) (sym w) k)

    tables_are : Tabled (cutoff_of cutoff) L s₃
    tables_are = tabled h l proper (cutoff_of cutoff) s₃
        (record { ends = kept 2 (omega arith) (omega arith) ∙ spread.ends; starts = kept 3 (omega arith) (omega arith) ∙ spread.starts; keys = kept 4 (omega arith) (omega arith) ∙ spread.keys; nets = kept 5 (omega arith) (omega arith) ∙ spread.nets })
        (subst (All (λ e. e < 2 * n)) (sym front) ordered.small)
        (ap (map (event_from l)) front ∙ ordered.ordered l refl spread.ends spread.starts)
        (fills (cutoff_of cutoff) L (length-map l (wire_of_row h)) refl cut.some cut.grid fixed-key)

    -- ---- the words after the tables are cleared: t is s₃ with zeros from 8 n up to 10 n + 1
    module _ (e : List ℕ) (room : 10 * n + 1 ≤ length s₃) (clear : e ≡ replicate {A = ℕ} (length (mid_of (8 * n) (10 * n + 1 - 8 * n) s₃)) 0) where
      abbrev end : ℕ
      end = 10 * n + 1

      abbrev t : List ℕ
      t = put_mid (8 * n) (end - 8 * n) s₃ e

      zeros : ℕ
      zeros = length (mid_of (8 * n) (end - 8 * n) s₃)

      cleared-length : zeros ≡ end - 8 * n
      unfolding zeros
      cleared-length = mid_len (8 * n) end s₃ room

      zero-at : (i : ℕ) → i < 2 * n → get_or t (8 * n + i) 0 ≡ 0
      unfolding zeros
      zero-at i b =
          let long : i < length e = omega (arith, ap length clear ∙ length-replicate zeros 0, cleared-length) in
          ap (λ (k : ℕ). get_or t (k + i) 0) (sym (length-take-le (8 * n) s₃ (omega arith)))
          ∙ get_or-append-add (take (8 * n) s₃) _ i 0
          ∙ get_or-append e _ 0 i long
          ∙ ap (λ (c : List ℕ). get_or c i 0) clear
          ∙ get_or-replicate zeros i 0 0 (omega (arith, cleared-length))

      at_first : n ≤ 4096 → 1 ≤ n → AtFirst t n
      unfolding zeros
      at_first few some =
          let as_many = length-map l (wire_of_row h) in
          record {
            c = cutoff_of cutoff;
            L = L;
            size = as_many;
            some = some;
            few = few;
            room = omega (arith, same_len_mid (8 * n) (end - 8 * n) s₃ e (ap length clear ∙ length-replicate zeros 0));
            tabled = tables_stay (cutoff_of cutoff) L s₃ t (ap (λ (m : ℕ). take (8 * m) t) as_many ∙ take_put (8 * n) (end - 8 * n) s₃ e (omega arith) ∙ ap (λ (m : ℕ). take (8 * m) s₃) (sym as_many)) tables_are;
            cleared = zero-at;
            ordered = λ w m. let g = mem_map (wire_of_row h) l w m in subst (λ (z : Wire). z.start < z.end) (sym g.2) (proper g.0 g.1).rises;
            alike = λ v w p q. let x = mem_map (wire_of_row h) l v p in let y = mem_map (wire_of_row h) l w q in subst (λ (z : Wire). beq z.horizontal w.horizontal ≡ true) (sym x.2) (subst (λ (z : Wire). beq h z.horizontal ≡ true) (sym y.2) (itself h));
          }
        where
          itself : (b : Bool) → beq b b ≡ true
          itself true = refl
          itself false = refl

      first-wires : (few : n ≤ 4096) (some : 1 ≤ n) → sweep (at_first few some).c (at_first few some).L ≡ sweep (cutoff_of cutoff) L
      unfolding at_first
      first-wires few some = refl

-- ---- the same for n rows, whichever they are
module _ (s s₁ s₂ : List ℕ) (n from table : ℕ) (spread_is : s₁ ≡ rows_spread n from table s) (same : length s₁ ≡ length s) (ordered-is : s₂ ≡ events_placed n s₁) (long : length s₂ ≡ length s) where
  spread : (a : AtRows s n from table) → Spread a.l s₁
  spread a = rows-spread n from table s s₁ spread_is (omega (arith, a.front)) a.apart a.room a.l a.size a.ordered

  ordered : AtRows s n from table → EventsOrdered n s₁ s₂
  ordered a = events-placed s₁ n s₂ ordered-is (omega (arith, a.front, a.room))

  pub rows_rangeable : AtRows s n from table → Rangeable s₂ n
  rows_rangeable a =
      let d = spread a in
      let f = a.front in
      let r = a.room in
      subst (λ (m : ℕ). EventsOrdered m s₁ s₂ → 8 * m ≤ length s₂ → Rangeable s₂ m) a.size (λ o b. rangeable a.across a.l a.sorted a.proper s₁ s₂ d o b) (ordered a) (omega arith)

  module _ (s₃ : List ℕ) (kept : length s₃ ≡ length s₂) (cutoff : Float) (cut : Cutoff cutoff) (only : RangesOnly n s₂ s₃) (fills : FillsRanges s₂ s₃ n cutoff) (e : List ℕ) (clear : e ≡ replicate {A = ℕ} (length (mid_of (8 * n) (10 * n + 1 - 8 * n) s₃)) 0) where
    -- the record that the sweep requires, with the wires of the known rows
    pub rows-first : (a : AtRows s n from table) → (b : AtFirst (put_mid (8 * n) (10 * n + 1 - 8 * n) s₃ e) n) × (sweep b.c b.L ≡ sweep (cutoff_of cutoff) (map (wire_of_row a.across) a.l))
    rows-first a =
        let d = spread a in
        let f = a.front in
        let r = a.room in
        let q = a.many in
        let p = a.few in
        subst (λ (m : ℕ). EventsOrdered m s₁ s₂ → RangesOnly m s₂ s₃ → FillsRanges s₂ s₃ m cutoff → e ≡ replicate {A = ℕ} (length (mid_of (8 * m) (10 * m + 1 - 8 * m) s₃)) 0 → 10 * m + 1 ≤ length s₃ → m ≤ 4096 → 1 ≤ m
        → (b : AtFirst (put_mid (8 * m) (10 * m + 1 - 8 * m) s₃ e) m) × (sweep b.c b.L ≡ sweep (cutoff_of cutoff) (map (wire_of_row a.across) a.l))) a.size
        (λ o x y z room few some. (at_first a.across a.l a.sorted a.proper s₁ s₂ d o s₃ cutoff cut x y e room z few some, first-wires a.across a.l a.sorted a.proper s₁ s₂ d o s₃ cutoff cut x y e room z few some))
        (ordered a) only fills clear (omega arith) p (omega arith)

-- ---- the columns of one orientation; e is what the words after the first 16 for each segment became when the rows were ordered there
module _ (s e : List ℕ) (o n : ℕ) (c : SegmentColumns) (a : AtColumns (length s) o c)
    (orders : (n ≡ row_count o c (length (mid_of (16 * length c.net) (length s - 16 * length c.net) s))) × (e ≡ rows_placed o c (mid_of (16 * length c.net) (length s - 16 * length c.net) s))) where
  abbrev l : List Row
  l = rows.oriented o (segments c)

  abbrev from : ℕ
  from = 16 * length c.net

  narrow : 21 * length c.net ≤ length s
  narrow = let r = a.room in omega arith

  count : n ≡ length l
  count = rows-count s e o n c a.agree narrow orders

  -- fewer than two wires cost nothing
  pub few_swept : (b : Bool) (cut allowance : ℕ) → n < 2 → Ok (none_of allowance) ≡ swept_of (within allowance (along cut (map (wire_of_row b) l)))
  unfolding along swept_of
  few_swept b cut allowance h =
      let k : length (map (wire_of_row b) l) < 2 = omega (arith, length-map l (wire_of_row b), count) in
      (λ i. Ok (record { congested_length = sym zero_units i; pair_overlap_length = sym zero_units i; peak_close_neighbors = 0; minimum_positive = None; remaining = allowance }))
      ∙ sym (ap swept_of (within-free allowance (begin [])))
      ∙ ap (λ r. swept_of (within allowance r)) (sym (cond_true (ltb (length (map (wire_of_row b) l)) 2) (free (begin [])) (sweep cut (map (wire_of_row b) l)) (lt-ltb (length (map (wire_of_row b) l)) 2 k)))

  module _ (kept : length e ≡ length (mid_of from (length s - from) s)) (many : 2 ≤ n) where
    abbrev u : List ℕ
    u = put_mid from (length s - from) s e

    pub at_rows : (b : Bool) → AtRows u n from (length c.net)
    at_rows b =
        let f = rows_few s e o n c a.agree narrow orders in
        let r = a.room in
        let p = a.few in
        let k = count in
        record {
          l = l;
          across = b;
          size = sym count;
          many = many;
          few = omega arith;
          sorted = oriented-sorted o (segments c);
          proper = a.proper;
          ordered = rows_behind s e o n c a.agree narrow orders kept;
          front = omega arith;
          apart = omega arith;
          room = omega (arith, rows-kept s e o n c a.agree narrow orders kept);
        }

    pub more_swept : (b : Bool) (cut allowance : ℕ) (r : Result Found Refusal) → ((x : AtRows u n from (length c.net)) → r ≡ swept_of (within allowance (sweep cut (map (wire_of_row x.across) x.l)))) → r ≡ swept_of (within allowance (along cut (map (wire_of_row b) l)))
    unfolding along at_rows
    more_swept b cut allowance r g =
        let k : 2 ≤ length (map (wire_of_row b) l) = omega (arith, length-map l (wire_of_row b), count) in
        g (at_rows b) ∙ ap (λ z. swept_of (within allowance z)) (sym (cond_false (ltb (length (map (wire_of_row b) l)) 2) (free (begin [])) (sweep cut (map (wire_of_row b) l)) (le-ltb (length (map (wire_of_row b) l)) 2 k)))
