-- The sorted rows are copied into columns. Assumes nothing.
use mathlib.Core.Path.{◌≡◌, refl, sym, ap, ◌∙◌}
use mathlib.Core.Logic.{inl, inr}
use mathlib.Core.Bool.{true, false, ◌&&◌}
use mathlib.Core.List.{List, ◌++◌, map}
use Prim.Native.Nat.{ℕ, suc, ◌+◌, ◌-◌, ◌*◌, ◌/◌, ◌≤◌, ◌<◌}
use native.Mathlib.Nat.{zero-mul, suc-mul, mul-le-mul_right}
use native.Mathlib.Omega.{arith}
use borrow.Author.Tests.{leb-true, le-leb}
use borrow.Rule.Slice.PartMut.{mid_of}
use lib.Dec.{leb}
use lib.ListN.{length, get_or, set, take, drop, length-append, length-drop, length-map, length-set}
use lib.Seq.{paste, length-paste, drop-paste, take_at, drop_at, take_all, drop-drop, drop-set-lt, get_or-take, get_or-drop, ext_get_or, length-take-le}
use Rattle.laws.proofs.Tests.{decide, clash, cond_true, cond_false, and_left, and_right, and_both}
use Rattle.laws.proofs.Columns.{Written, written_none, written_next, written_all}
use Rattle.laws.proofs.Places.{at_first}
use Rattle.laws.proofs.Parts.{tail_lent, drop_past, get_d_past, part_same}
use Rattle.sorting.specs.Inner.Sorted.{has_row, sortable}
use Rattle.sorting.proofs.Fitting.{fits_of, is-sortable, row_at}
use Rattle.sorting.proofs.Tables.{row-there}
use Rattle.rows.specs.Rows.{Row, words}
use Rattle.rows.specs.Inner.Placed.{row_column, spreadable, rows_spread}
use Rattle.rows.specs.Inner.Tables.{no_row, column, RowsOrdered, Spreadable}
use Rattle.rows.proofs.ColumnParts.{get_d_map}
use Rattle.rows.proofs.Pastes.{paste_before}

-- ---- what is tested before any work
-- the indices and their rows are lent, as the part of the slice from word `from` on
module _ (n from table : ℕ) (s : List ℕ) where
  lent : sortable (mid_of from (length s - from) s) n table 4 ≡ sortable (drop from s) n table 4
  lent = ap (λ (l : List ℕ). sortable l n table 4) (tail_lent from s)

  facts : 6 * n ≤ from → from ≤ length s → sortable (drop from s) n table 4 ≡ true → Spreadable n from table s
  facts h k e =
      let f = fits_of (drop from s) n table 4 e in
      let long = length-drop from s in
      record {
        room = omega arith;
        apart = f.apart;
        inside = omega (arith, f.long);
        rows = λ j b.
            let w = leb-true (get_or (drop from s) j 0 * 4 + 4) (length (drop table (drop from s))) (row_at (drop from s) n table 4 f j b) in
            omega (arith, f.long, get_or-drop from s j 0, length-drop table (drop from s));
      }

  pub to_spread : n ≤ from / 6 → from ≤ length s → sortable (mid_of from (length s - from) s) n table 4 ≡ true → Spreadable n from table s
  to_spread h k e = facts (omega arith) k (sym lent ∙ e)

  pub no_columns : from / 6 < n → Spreadable n from table s → ⊥
  no_columns h f = omega (arith, f.room)

  pub no_places : length s < from → Spreadable n from table s → ⊥
  no_places h f = omega (arith, f.inside)

  fitting : Spreadable n from table s → sortable (drop from s) n table 4 ≡ true
  fitting f =
      let a = f.apart in
      let b = f.inside in
      let long = length-drop from s in
      let row : (j : ℕ) → j < n → has_row (drop table (drop from s)) 4 (get_or (drop from s) j 0) ≡ true = λ j h.
      le-leb (get_or (drop from s) j 0 * 4 + 4) (length (drop table (drop from s))) (omega (arith, f.rows j h, get_or-drop from s j 0, length-drop table (drop from s))) in
      is-sortable (drop from s) n table 4 (record { apart = a; long = omega arith; rows = at_first (λ i. has_row (drop table (drop from s)) 4 i ≡ true) 0 n (drop from s) (omega arith) row })

  pub no_rows : sortable (mid_of from (length s - from) s) n table 4 ≡ false → Spreadable n from table s → ⊥
  no_rows e f = clash (sortable (drop from s) n table 4) (fitting f) (sym lent ∙ e)

  abbrev columns : List ℕ
  columns = let k = drop from s in row_column n table 2 k ++ (row_column n table 1 k ++ (row_column n table 0 k ++ row_column n table 3 k))

  -- nothing is done where the slice does not fit
  pub not_spread : (Spreadable n from table s → ⊥) → s ≡ rows_spread n from table s
  unfolding rows_spread spreadable
  not_spread h = elim (decide (spreadable n from table s)) [
    | inr e ↦ sym (cond_false (spreadable n from table s) (paste s (2 * n) columns (4 * n)) s e)
    | inl e ↦
        let g = and_right (leb (6 * n) from) (leb from (length s) && sortable (drop from s) n table 4) e in
        absurd (h (facts (leb-true (6 * n) from (and_left (leb (6 * n) from) (leb from (length s) && sortable (drop from s) n table 4) e)) (leb-true from (length s) (and_left (leb from (length s)) (sortable (drop from s) n table 4) g)) (and_right (leb from (length s)) (sortable (drop from s) n table 4) g)))
  ]

  spread_is : Spreadable n from table s → rows_spread n from table s ≡ paste s (2 * n) columns (4 * n)
  unfolding rows_spread spreadable
  spread_is f = cond_true (spreadable n from table s) (paste s (2 * n) columns (4 * n)) s
      (and_both (leb (6 * n) from) (leb from (length s) && sortable (drop from s) n table 4) (le-leb (6 * n) from f.room) (and_both (leb from (length s)) (sortable (drop from s) n table 4) (le-leb from (length s) (omega (arith, f.inside))) (fitting f)))

-- a slice with the sorted rows from word `from` on fits
ordered-spreadable : (l : List Row) (n from table : ℕ) (s : List ℕ) → n ≡ length l → RowsOrdered l table (drop from s) → 6 * n ≤ from → n ≤ table → from + table + 4 * n ≤ length s → Spreadable n from table s
ordered-spreadable l n from table s e o room apart long = record {
  room = room;
  apart = apart;
  inside = omega arith;
  rows = λ j h. let b = o.small j (omega arith) in omega (arith, get_or-drop from s j 0);
}

-- ---- column by column
column-long : (n table word from : ℕ) (s : List ℕ) → from + n ≤ length s → length (row_column n table word (drop from s)) ≡ n
column-long n table word from s h = length-map (take n (drop from s)) (λ i. get_or (drop from s) (table + 4 * i + word) 0) ∙ length-take-le n (drop from s) (simp length-drop (omega arith))

-- r is s with the first j words of a column; the next row is in the slice
pub record Spreading (n from table word to : ℕ) (s r : List ℕ) (j : ℕ) : Type 0 where
  pub small : j ≤ n
  pub same : length r ≡ length s
  pub inside : j < n → from + table + 4 * get_or r (from + j) 0 + 4 ≤ length r
  pub past : drop from r ≡ drop from s
  pub written : Written s to (row_column n table word (drop from s)) r j

module _ (n from table word to : ℕ) (s : List ℕ) (f : Spreadable n from table s) (front : to + n ≤ from) where
  abbrev value : ℕ → ℕ
  value i = get_or (drop from s) (table + 4 * i + word) 0

  many : length (take n (drop from s)) ≡ n
  many = length-take-le n (drop from s) (let a = f.inside in let b = f.apart in simp length-drop (omega arith))

  pub spread_start : Spreading n from table word to s s 0
  spread_start =
      let a = f.inside in
      record {
        small = omega arith;
        same = refl;
        inside = f.rows 0;
        past = refl;
        written = written_none value s to (take n (drop from s)) (omega (arith, many));
      }

  pub spread_next : (r : List ℕ) (j : ℕ) → Spreading n from table word to s r j → j < n → Spreading n from table word to s (set r (to + j) (get_or r (from + table + 4 * get_or r (from + j) 0 + word) 0)) (j + 1)
  spread_next r j v h =
      let i = get_or r (from + j) 0 in
      let x = get_or r (from + table + 4 * i + word) 0 in
      let q = set r (to + j) x in
      let long : length q ≡ length s = length-set r (to + j) x ∙ v.same in
      let past : drop from q ≡ drop from s = drop-set-lt from r (to + j) x (omega arith) ∙ v.past in
      let place : get_or (take n (drop from s)) j 0 ≡ i = get_or-take n (drop from s) j 0 h ∙ ap (λ (l : List ℕ). get_or l j 0) (sym v.past) ∙ get_or-drop from r j 0 in
      let at : from + table + 4 * i + word ≡ from + (table + 4 * i + word) = omega arith in
      let is : x ≡ value (get_or (take n (drop from s)) j 0) =
      ap (λ (p : ℕ). get_or r p 0) at
      ∙ sym (get_or-drop from r (table + 4 * i + word) 0)
      ∙ ap (λ (l : List ℕ). get_or l (table + 4 * i + word) 0) v.past
      ∙ ap value (sym place) in
      record {
        small = omega arith;
        same = long;
        inside = λ b. let w = f.rows (j + 1) b in rw (get_d_past from (from + (j + 1)) q s 0 past (omega arith)) (omega arith);
        past = past;
        written = written_next value s to (take n (drop from s)) 0 r j x v.written (omega (arith, many)) is;
      }

  pub spread_end : (r : List ℕ) (j : ℕ) → Spreading n from table word to s r j → n ≤ j → r ≡ paste s to (row_column n table word (drop from s)) n
  spread_end r j v h = written_all value s to (take n (drop from s)) r j v.written (omega (arith, many)) ∙ ap (paste s to (row_column n table word (drop from s))) many

-- ---- the four columns
-- r is s with m words written before the indices: these and their rows are as they were
module _ (n from table to m : ℕ) (s r w : List ℕ) (f : Spreadable n from table s) (front : to + m ≤ from) (long : length w ≡ m) (e : r ≡ paste s to w m) where
  spread_past : drop from r ≡ drop from s
  spread_past = let a = f.inside in drop_past (to + m) from r s (ap (drop (to + m)) e ∙ drop-paste s to w m (omega arith) (omega arith)) front

  spread_still : Spreadable n from table r
  spread_still =
      let a = f.inside in
      let same : length r ≡ length s = ap length e ∙ length-paste s to w m (omega arith) (omega arith) in
      record {
        room = f.room;
        apart = f.apart;
        inside = omega arith;
        rows = λ k b. let w = f.rows k b in rw (get_d_past from (from + k) r s 0 spread_past (omega arith)) (omega arith);
      }

-- one column
module _ (n from table word k : ℕ) (s r : List ℕ) (f : Spreadable n from table s) (low : k < 6) (e : r ≡ paste s (k * n) (row_column n table word (drop from s)) n) where
  low-enough : k * n + n ≤ 6 * n
  low-enough = let g : suc k * n ≤ 6 * n = mul-le-mul_right n low in omega (arith, suc-mul k n)

  long : length (row_column n table word (drop from s)) ≡ n
  long = column-long n table word from s (omega (arith, f.apart, f.inside))

  pub column_still : Spreadable n from table r
  column_still = spread_still n from table (k * n) n s r (row_column n table word (drop from s)) f (omega (arith, low-enough, f.room)) long e

  column-past : drop from r ≡ drop from s
  column-past = spread_past n from table (k * n) n s r (row_column n table word (drop from s)) f (omega (arith, low-enough, f.room)) long e

pub four_columns : (n from table : ℕ) (s a b c r : List ℕ) → Spreadable n from table s
    → a ≡ paste s (5 * n) (row_column n table 3 (drop from s)) n → b ≡ paste a (4 * n) (row_column n table 0 (drop from a)) n → c ≡ paste b (3 * n) (row_column n table 1 (drop from b)) n → r ≡ paste c (2 * n) (row_column n table 2 (drop from c)) n
    → r ≡ rows_spread n from table s
four_columns n from table s a b c r f ea eb ec er =
    let k = drop from s in
    let fa = column_still n from table 3 5 s a f (omega arith) ea in
    let fb = column_still n from table 0 4 a b fa (omega arith) eb in
    let past-a : drop from a ≡ k = column-past n from table 3 5 s a f (omega arith) ea in
    let past-b : drop from b ≡ k = column-past n from table 0 4 a b fa (omega arith) eb ∙ past-a in
    let past-c : drop from c ≡ k = column-past n from table 1 3 b c fb (omega arith) ec ∙ past-b in
    let many : (word : ℕ) → length (row_column n table word k) ≡ n = λ word. column-long n table word from s (omega (arith, f.apart, f.inside)) in
    let room : 6 * n ≤ length s = omega (arith, f.room, f.inside) in
    let nets = row_column n table 3 k in
    let lines = row_column n table 0 k in
    let starts = row_column n table 1 k in
    let ends = row_column n table 2 k in
    let two = paste_before s a b lines nets (4 * n) n n (2 * n) (omega arith) (omega arith) (many 0) (many 3) (5 * n) (omega arith) ea (eb ∙ ap (λ (l : List ℕ). paste a (4 * n) (row_column n table 0 l) n) past-a) in
    let long-two : length (lines ++ nets) ≡ 2 * n = omega (arith, length-append lines nets, many 0, many 3) in
    let three = paste_before s b c starts (lines ++ nets) (3 * n) n (2 * n) (3 * n) (omega arith) (omega arith) (many 1) long-two (4 * n) (omega arith) two (ec ∙ ap (λ (l : List ℕ). paste b (3 * n) (row_column n table 1 l) n) past-b) in
    let long-three : length (starts ++ (lines ++ nets)) ≡ 3 * n = omega (arith, length-append starts (lines ++ nets), many 1) in
    paste_before s c r ends (starts ++ (lines ++ nets)) (2 * n) n (3 * n) (4 * n) (omega arith) (omega arith) (many 2) long-three (3 * n) (omega arith) three (er ∙ ap (λ (l : List ℕ). paste c (2 * n) (row_column n table 2 l) n) past-c)
    ∙ sym (spread_is n from table s f)

-- ---- what callers use
-- the sorted rows, column by column
pub record Spread (l : List Row) (s : List ℕ) : Type 0 where
  pub ends : column (length l) 2 s ≡ map (λ r. r.end) l
  pub starts : column (length l) 3 s ≡ map (λ r. r.start) l
  pub keys : column (length l) 4 s ≡ map (λ r. r.line) l
  pub nets : column (length l) 5 s ≡ map (λ r. r.net) l

-- the k-th of consecutive columns of n words
column-first : (n : ℕ) (a b : List ℕ) → length a ≡ n → column n 0 (a ++ b) ≡ a
column-first n a b e = ap (λ (j : ℕ). take n (drop j (a ++ b))) (zero-mul n) ∙ take_at a b n e

column_next : (n k : ℕ) (a b : List ℕ) → length a ≡ n → column n (suc k) (a ++ b) ≡ column n k b
column_next n k a b e =
    let h : suc k * n ≡ n + k * n = omega (arith, suc-mul k n) in
    ap (λ (j : ℕ). take n (drop j (a ++ b))) h ∙ ap (take n) (sym (drop-drop (k * n) n (a ++ b)) ∙ ap (drop (k * n)) (drop_at a b n e))

-- a column holds one word of each row
column-words : (n table word : ℕ) (k : List ℕ) (l : List Row) → length l ≡ n → word < 4 → n ≤ length k → RowsOrdered l table k → row_column n table word k ≡ map (λ x. get_or (words x) word 0) l
column-words n table word k l e w long o =
    let places = take n k in
    let value : ℕ → ℕ = λ i. get_or k (table + 4 * i + word) 0 in
    let many : length places ≡ n = length-take-le n k long in
    let one = length-map places value in
    let two = length-map l (λ x. get_or (words x) word 0) in
    ext_get_or 0 (map value places) (map (λ x. get_or (words x) word 0) l) (omega arith) (λ j h.
    let i = get_or k j 0 in
    get_d_map value places j 0 0 (omega arith)
    ∙ ap value (get_or-take n k j 0 (omega arith))
    ∙ sym (get_or-take 4 (drop (table + 4 * i) k) word 0 w ∙ get_or-drop (table + 4 * i) k word 0)
    ∙ ap (λ (r : List ℕ). get_or r word 0) (o.rows j (omega arith))
    ∙ sym (get_d_map (λ x. get_or (words x) word 0) l j no_row 0 (omega arith)))

pub rows-spread : (n from table : ℕ) (s r : List ℕ) → r ≡ rows_spread n from table s → 6 * n ≤ from → n ≤ table → from + table + 4 * n ≤ length s → (l : List Row) → length l ≡ n → RowsOrdered l table (drop from s) → Spread l r
unfolding words
rows-spread n from table s r g room apart wide l e o =
    let f = ordered-spreadable l n from table s (sym e) o room apart wide in
    let k = drop from s in
    let nets = row_column n table 3 k in
    let lines = row_column n table 0 k in
    let starts = row_column n table 1 k in
    let ends = row_column n table 2 k in
    let inside : n ≤ length k = omega (arith, f.apart, f.inside, length-drop from s) in
    let many : (word : ℕ) → length (row_column n table word k) ≡ n = λ word. column-long n table word from s (omega (arith, f.apart, f.inside)) in
    let all = ends ++ (starts ++ (lines ++ nets)) in
    let long : length all ≡ 4 * n = omega (arith, length-append ends (starts ++ (lines ++ nets)), length-append starts (lines ++ nets), length-append lines nets, many 0, many 1, many 2, many 3) in
    let there : take (4 * n) (drop (2 * n) r) ≡ all = row-there s r all (2 * n) (4 * n) (omega (arith, f.room, f.inside)) long (g ∙ spread_is n from table s f) in
    let at : (j m : ℕ) → m * n ≡ 2 * n + j * n → j * n + n ≤ 4 * n → column (length l) m r ≡ column n j all = λ j m h q.
    ap (λ (i : ℕ). column i m r) e
    ∙ ap (λ (i : ℕ). take n (drop i r)) h
    ∙ ap (take n) (sym (drop-drop (j * n) (2 * n) r))
    ∙ part_same (j * n) n (4 * n) (drop (2 * n) r) all (there ∙ sym (take_all (4 * n) all (omega arith))) q in
    record {
      ends = at 0 2 (omega arith) (omega arith) ∙ column-first n ends (starts ++ (lines ++ nets)) (many 2) ∙ column-words n table 2 k l e (omega arith) inside o;
      starts = at 1 3 (omega arith) (omega arith) ∙ column_next n 0 ends (starts ++ (lines ++ nets)) (many 2) ∙ column-first n starts (lines ++ nets) (many 1) ∙ column-words n table 1 k l e (omega arith) inside o;
      keys = at 2 4 (omega arith) (omega arith) ∙ column_next n 1 ends (starts ++ (lines ++ nets)) (many 2) ∙ column_next n 0 starts (lines ++ nets) (many 1) ∙ column-first n lines nets (many 0) ∙ column-words n table 0 k l e (omega arith) inside o;
      nets = at 3 5 (omega arith) (omega arith) ∙ column_next n 2 ends (starts ++ (lines ++ nets)) (many 2) ∙ column_next n 1 starts (lines ++ nets) (many 1) ∙ column_next n 0 lines nets (many 0) ∙ ap (λ (i : ℕ). take n (drop i nets)) (zero-mul n) ∙ take_all n nets (omega (arith, many 3)) ∙ column-words n table 3 k l e (omega arith) inside o;
    }
