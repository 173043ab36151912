-- The rows of one orientation are gathered in a table and sorted. Assumes nothing.
use mathlib.Core.Path.{◌≡◌, refl, sym, ap, ◌∙◌}
use mathlib.Core.Bool.{Bool, true, false, not, ◌&&◌, and-false}
use mathlib.Core.List.{List, [], ◌∷◌, ◌++◌, append_assoc, append-nil, map}
use Prim.Native.Nat.{ℕ, zero, suc, ◌+◌, ◌*◌, ◌/◌, ◌≤◌, ◌<◌}
use native.Mathlib.Numerals.{add-one}
use native.Mathlib.Omega.{arith}
use borrow.Author.Tests.{eq-eqb, ne_eqb, le-leb, lt-leb}
use lib.Dec.{eqb}
use lib.ListN.{length, get_or, set, take, drop, length-append}
use lib.Seq.{paste, paste-zero, sets-eq, length-paste, take_at, drop_at, take-suc, take_all, drop-drop, get_or-take, length-take-le}
use Rattle.laws.specs.Lists.{chosen, put}
use Rattle.laws.specs.Sort.{sort_by}
use Rattle.laws.proofs.Tests.{cond_true, cond_false}
use Rattle.laws.proofs.ListLaws.{mem_all, chosen-append}
use Rattle.laws.proofs.Folds.{count-chosen, count-at_most}
use Rattle.laws.proofs.Places.{first-at}
use Rattle.laws.proofs.Parts.{drop_past, part_same}
use Rattle.laws.proofs.Perms.{perm-length}
use Rattle.laws.proofs.Sorting.{sort_perm}
use Rattle.sorting.specs.Inner.Sorted.{up_to, sorted}
use Rattle.sorting.proofs.Entries.{Ordered, all-ordered, sorted_entries, up_to-below, up_to-entries}
use Rattle.sorting.proofs.Tables.{row-there}
use Rattle.floats.specs.TotalOrder.{key_of}
use Rattle.floats.specs.Values.{canonical_zero}
use Rattle.drawing.specs.Entries.{Segment, SegmentColumns, segments}
use Rattle.drawing.specs.Inner.Entries.{segment_at}
use Rattle.drawing.specs.Checks.{segments_differ}
use Rattle.drawing.specs.Inner.Lengths.{SegmentsAgree}
use Rattle.drawing.proofs.EntryLaws.{length-segments, segments-at}
use Rattle.drawing.proofs.FirstRefusal.{segments-agree}
use Rattle.drawing.proofs.AnyOrder.{same-segments}
use Rattle.rows.specs.Rows.{Row, fixed_of, start_of, end_of, row_of, words, rows_in_order, oriented}
use Rattle.rows.specs.Inner.Placed.{rows_of, all_words, orderable, row_count, rows_placed}
use Rattle.rows.specs.Inner.Tables.{no_row, row_from, Orderable, RowsOrdered, RowAdded, Gathered}
use Rattle.rows.proofs.Oriented.{words-one, list_order_idle, oriented-few}
use Rattle.rows.proofs.ColumnParts.{get_d_map}
use Rattle.rows.proofs.Pastes.{paste_behind}

-- ---- what is tested before any work
pub to-order : (c : SegmentColumns) (m : ℕ) → segments_differ c ≡ false → length c.net ≤ m / 5 → Orderable c m
to-order c m e h = record { agree = segments-agree c e; room = omega arith }

module _ (o : ℕ) (c : SegmentColumns) (s : List ℕ) where
  abbrev k : List Row
  k = rows_of o (segments c)

  abbrev whole : List ℕ
  whole = sorted (up_to (length k) ++ drop (length k) (paste s (length c.net) (all_words k) (4 * length k))) (length k) (length c.net) 4

  -- nothing is done where the columns differ or the slice is short
  refused : orderable c (length s) ≡ false → (0 ≡ row_count o c (length s)) × (s ≡ rows_placed o c s)
  unfolding row_count rows_placed
  refused e = (sym (cond_false (orderable c (length s)) (length k) 0 e), sym (cond_false (orderable c (length s)) whole s e))

  pub unequal : segments_differ c ≡ true → (0 ≡ row_count o c (length s)) × (s ≡ rows_placed o c s)
  unfolding orderable
  unequal e = refused (rw e)

  pub short : length s / 5 < length c.net → (0 ≡ row_count o c (length s)) × (s ≡ rows_placed o c s)
  unfolding orderable
  short h = refused (ap (λ (b : Bool). not (segments_differ c) && b) (lt-leb (5 * length c.net) (length s) (omega arith)) ∙ and-false (not (segments_differ c)))

  module _ (h : Orderable c (length s)) where
    passed : orderable c (length s) ≡ true
    unfolding orderable
    passed = rw (same-segments c h.agree) (le-leb (5 * length c.net) (length s) h.room)

    count-is : row_count o c (length s) ≡ length k
    unfolding row_count
    count-is = cond_true (orderable c (length s)) (length k) 0 passed

    placed-is : rows_placed o c s ≡ whole
    unfolding rows_placed
    placed-is = cond_true (orderable c (length s)) whole s passed

-- ---- one row
words_wide : (r : Row) → length (words r) ≡ 4
unfolding words
words_wide r = refl

pub four_stores : (s : List ℕ) (at line start end net : ℕ) (r : Row) → at + 4 ≤ length s → line ≡ r.line → start ≡ r.start → end ≡ r.end → net ≡ r.net
    → set (set (set (set s at line) (at + 1) start) (at + 2) end) (at + 3) net ≡ paste s at (words r) 4
unfolding words
four_stores s at line start end net r h a b c d =
    let one : at + 1 ≡ suc at = omega arith in
    let two : at + 2 ≡ suc (suc at) = omega arith in
    let three : at + 3 ≡ suc (suc (suc at)) = omega arith in
    (λ i. set (set (set (set s at (a i)) (one i) (b i)) (two i) (c i)) (three i) (d i)) ∙ sets-eq (r.line ∷ r.start ∷ r.end ∷ r.net ∷ []) s at h

-- ---- the words of rows
words_long : (l : List Row) → length (all_words l) ≡ 4 * length l
unfolding all_words
words_long [] = refl
words_long (r ∷ l) = omega (arith, length-append (words r) (all_words l), words_wide r, words_long l)

words_append : (l r : List Row) → all_words (l ++ r) ≡ all_words l ++ all_words r
unfolding all_words
words_append [] r = refl
words_append (x ∷ l) r = ap (λ (z : List ℕ). words x ++ z) (words_append l r) ∙ sym (append_assoc (words x) (all_words l) (all_words r))

words-at : (l : List Row) (i : ℕ) → i < length l → take 4 (drop (4 * i) (all_words l)) ≡ words (row_from l i)
unfolding all_words
words-at [] i h = absurd (omega arith)
words-at (x ∷ l) zero h = take_at (words x) (all_words l) 4 (words_wide x)
words-at (x ∷ l) (suc i) h =
    let e : 4 * suc i ≡ 4 + 4 * i = omega arith in
    ap (λ (j : ℕ). take 4 (drop j (words x ++ all_words l))) e
    ∙ ap (take 4) (sym (drop-drop (4 * i) 4 (words x ++ all_words l)) ∙ ap (drop (4 * i)) (drop_at (words x) (all_words l) 4 (words_wide x)))
    ∙ words-at l i (omega arith)

-- s has these rows in a table from word t on
record RowsAt (t : ℕ) (l : List Row) (s : List ℕ) : Type 0 where
  pub rows : (i : ℕ) → i < length l → take 4 (drop (t + 4 * i) s) ≡ words (row_from l i)

rows_at : (t : ℕ) (l : List Row) (s r : List ℕ) → t + 4 * length l ≤ length s → r ≡ paste s t (all_words l) (4 * length l) → RowsAt t l r
rows_at t l s r h e = record {
  rows = λ i b.
      let there : take (4 * length l) (drop t r) ≡ take (4 * length l) (all_words l) = row-there s r (all_words l) t (4 * length l) h (words_long l) e ∙ sym (take_all (4 * length l) (all_words l) (omega (arith, words_long l))) in
      ap (take 4) (sym (drop-drop (4 * i) t r)) ∙ part_same (4 * i) 4 (4 * length l) (drop t r) (all_words l) there (omega arith) ∙ words-at l i b;
}

-- the row that a segment adds to those of orientation o
rows_none : (o : ℕ) (x : Segment) → (x.orientation ≡ o → ⊥) → rows_of o (x ∷ []) ≡ []
unfolding chosen
rows_none o x h = ap (λ (b : Bool). put b (row_of x) []) (ne_eqb x.orientation o h)

rows-one : (o : ℕ) (x : Segment) → x.orientation ≡ o → rows_of o (x ∷ []) ≡ row_of x ∷ []
unfolding chosen
rows-one o x h = ap (λ (b : Bool). put b (row_of x) []) (eq-eqb x.orientation o h)

pub row_passed : (t n o : ℕ) (x : Segment) (s : List ℕ) → (x.orientation ≡ o → ⊥) → RowAdded t n o x s s n
unfolding all_words
row_passed t n o x s h =
    let e = rows_none o x h in
    record {
      same = refl;
      count = omega (arith, ap length e);
      is = paste-zero s (t + 4 * n) [] ∙ sym (ap (λ (l : List Row). paste s (t + 4 * n) (all_words l) (4 * length l)) e);
    }

pub row_added : (t n o : ℕ) (x : Segment) (s r : List ℕ) → x.orientation ≡ o → t + 4 * n + 4 ≤ length s
    → r ≡ paste s (t + 4 * n) (words (record { net = x.net; line = key_of (canonical_zero x.fixed); start = key_of (canonical_zero x.start); end = key_of (canonical_zero x.end) })) 4 → RowAdded t n o x s r (n + 1)
unfolding row_of fixed_of start_of end_of all_words
row_added t n o x s r h room e =
    let one = rows-one o x h in
    record {
      same = ap length e ∙ length-paste s (t + 4 * n) (words (row_of x)) 4 room (omega (arith, words_wide (row_of x)));
      count = omega (arith, ap length one);
      is = e ∙ ap (λ (w : List ℕ). paste s (t + 4 * n) w 4) (sym (append-nil (words (row_of x)))) ∙ sym (ap (λ (l : List Row). paste s (t + 4 * n) (all_words l) (4 * length l)) one);
    }

-- ---- all rows of one orientation: after i segments there are n
pub record Gathering (t o : ℕ) (c : SegmentColumns) (s r : List ℕ) (n i : ℕ) : Type 0 where
  pub small : i ≤ length c.net
  pub same : length r ≡ length s
  pub few : n ≤ i
  pub count : n ≡ length (rows_of o (take i (segments c)))
  pub is : r ≡ paste s t (all_words (rows_of o (take i (segments c)))) (4 * n)

pub gather_none : (t o : ℕ) (c : SegmentColumns) (s : List ℕ) → Gathering t o c s s 0 0
unfolding chosen
gather_none t o c s = record { small = omega arith; same = refl; few = omega arith; count = refl; is = paste-zero s t (all_words []) }

pub gather_next : (t o : ℕ) (c : SegmentColumns) (s r q : List ℕ) (n m i : ℕ) → SegmentsAgree c → t + 4 * length c.net ≤ length s → Gathering t o c s r n i → i < length c.net → RowAdded t n o (segment_at c i) r q m → Gathering t o c s q m (i + 1)
gather_next t o c s r q n m i a room g h u =
    let x = segment_at c i in
    let own : Segment → Bool = λ z. eqb z.orientation o in
    let l = rows_of o (take i (segments c)) in
    let more : take (i + 1) (segments c) ≡ take i (segments c) ++ x ∷ [] =
    ap (λ (k : ℕ). take k (segments c)) (add-one i)
    ∙ take-suc (segments c) i x (omega (arith, length-segments c a))
    ∙ ap (λ (z : Segment). take i (segments c) ++ z ∷ []) (segments-at c a x i h) in
    let all : rows_of o (take (i + 1) (segments c)) ≡ l ++ rows_of o (x ∷ []) = ap (rows_of o) more ∙ chosen-append own row_of (take i (segments c)) (x ∷ []) in
    let single : length (rows_of o (x ∷ [])) ≤ 1 = omega (arith, count-chosen own row_of (x ∷ []), count-at_most own (x ∷ [])) in
    record {
      small = omega arith;
      same = u.same ∙ g.same;
      few = omega (arith, u.count, g.few);
      count = omega (arith, u.count, g.count, ap length all, length-append l (rows_of o (x ∷ [])));
      is =
          let y = rows_of o (x ∷ []) in
          paste_behind s r q (all_words l) (all_words y) t (4 * n) (4 * length y) (4 * m) (omega (arith, u.count)) (omega (arith, u.count, g.few)) (omega (arith, words_long l, g.count)) (words_long y) g.is u.is
          ∙ ap (λ (w : List ℕ). paste s t w (4 * m)) (sym (words_append l y) ∙ ap all_words (sym all));
    }

pub gather_all : (t o : ℕ) (c : SegmentColumns) (s r : List ℕ) (n i : ℕ) → SegmentsAgree c → Gathering t o c s r n i → length c.net ≤ i → Gathered t o c s r n
gather_all t o c s r n i a g h =
    let all : take i (segments c) ≡ segments c = take_all i (segments c) (omega (arith, length-segments c a)) in
    record {
      same = g.same;
      few = omega (arith, g.few, g.small);
      count = g.count ∙ ap (λ (l : List Segment). length (rows_of o l)) all;
      is = g.is ∙ ap (λ (l : List Segment). paste s t (all_words (rows_of o l)) (4 * n)) all;
    }

-- ---- sorted
-- o is s with the indices of the rows k sorted, and l is k sorted
module _ (k l : List Row) (t : ℕ) (s o : List ℕ) (is : l ≡ sort_by rows_in_order k) (u : RowsAt t k s) (h : Ordered s (length k) t 4 o) (apart : length k ≤ t) (room : t ≤ length s) where
  stand_for : map (row_from k) (take (length k) o) ≡ l
  stand_for =
      ap (map (row_from k)) h.column
      ∙ sorted_entries (drop t s) 4 (up_to (length k)) (row_from k) words words_wide
      (λ i m.
      let at : t + i * 4 ≡ t + 4 * i = omega arith in
      ap (take 4) (drop-drop (i * 4) t s ∙ ap (λ (p : ℕ). drop p s) at) ∙ u.rows i (up_to-below (length k) i m))
      (λ r. Unit {0}) (λ a b p q. words-one a b) (mem_all (λ r. Unit {0}) (map (row_from k) (up_to (length k))) (λ r m. tt))
      ∙ ap (sort_by rows_in_order) (up_to-entries k no_row)
      ∙ sym is

  rows-ordered : RowsOrdered l t o
  rows-ordered =
      let many : length l ≡ length k = ap length is ∙ perm-length (sort_perm rows_in_order k) in
      let long : length k ≤ length o = omega (arith, h.same) in
      let small : (j : ℕ) → j < length l → get_or o j 0 < length k = λ j b. first-at (λ i. i < length k) 0 (length k) o long h.small j (omega arith) in
      let row : (j : ℕ) → j < length l → row_from k (get_or o j 0) ≡ row_from l j = λ j b.
      ap (row_from k) (sym (get_or-take (length k) o j 0 (omega arith)))
      ∙ sym (get_d_map (row_from k) (take (length k) o) j 0 no_row (omega (arith, length-take-le (length k) o long)))
      ∙ ap (λ (m : List Row). row_from m j) stand_for in
      record {
        small = λ j b. rw many (small j b);
        rows = λ j b.
            let i = get_or o j 0 in
            ap (take 4) (drop_past (length k) (t + 4 * i) o s h.rest (omega arith)) ∙ u.rows i (small j b) ∙ ap words (row j b);
      }

module _ (o : ℕ) (c : SegmentColumns) (s : List ℕ) (orders : Orderable c (length s)) where
  -- r has the rows, q is r with all indices at the front, and p is q with the indices sorted
  pub rows_done : (r q p : List ℕ) (n : ℕ) → Gathered (length c.net) o c s r n → q ≡ up_to n ++ drop n r → p ≡ sorted q n (length c.net) 4 → (n ≡ row_count o c (length s)) × (p ≡ rows_placed o c s)
  rows_done r q p n g e f =
      let t = length c.net in
      let w = all_words (rows_of o (segments c)) in (
        g.count ∙ sym (count-is o c s orders),
        f ∙ ap (λ (l : List ℕ). sorted l n t 4) (e ∙ ap (λ (l : List ℕ). up_to n ++ drop n l) g.is) ∙ ap (λ (m : ℕ). sorted (up_to m ++ drop m (paste s t w (4 * m))) m t 4) g.count ∙ sym (placed-is o c s orders),
      )

  -- what callers use
  pub rows-placed : (p : List ℕ) (n : ℕ) → (n ≡ row_count o c (length s)) × (p ≡ rows_placed o c s) → (n ≡ length (oriented o (segments c))) × RowsOrdered (oriented o (segments c)) (length c.net) p
  rows-placed p n h =
      let k = rows_of o (segments c) in
      let m = length k in
      let t = length c.net in
      let r = paste s t (all_words k) (4 * m) in
      let is : oriented o (segments c) ≡ sort_by rows_in_order k = list_order_idle o (segments c) in
      let many : length (oriented o (segments c)) ≡ m = ap length is ∙ perm-length (sort_perm rows_in_order k) in
      let few : m ≤ t = omega (arith, many, oriented-few o c orders.agree) in
      let room : t + 4 * m ≤ length s = omega (arith, orders.room) in
      let same : length r ≡ length s = length-paste s t (all_words k) (4 * m) room (omega (arith, words_long k)) in
      let order : Ordered r m t 4 p = all-ordered r (up_to m ++ drop m r) p m t 4 few (omega arith) refl (h.1 ∙ placed-is o c s orders) in
      (h.0 ∙ count-is o c s orders ∙ sym many, rows-ordered k (oriented o (segments c)) t r p is (rows_at t k s r room refl) order few (omega arith))
