-- The rows of one orientation: they are sorted, each is that of a segment, and the order of the list decides nothing. Assumes nothing.
use mathlib.Core.Path.{◌≡◌, sym, ◌∙◌}
use mathlib.Core.List.{List}
use Prim.Native.Nat.{ℕ, ◌≤◌}
use native.Mathlib.Omega.{arith}
use borrow.Author.Tests.{eqb-true, eq-eqb}
use lib.Dec.{eqb}
use lib.ListN.{length, get_or}
use Rattle.laws.specs.Lists.{Mem, chosen, count}
use Rattle.laws.specs.Perm.{Perm}
use Rattle.laws.specs.Sort.{sort_by}
use Rattle.laws.specs.Inner.Sort.{Sorted}
use Rattle.laws.proofs.ListLaws.{mem_all, mem_chosen, chosen_mem}
use Rattle.laws.proofs.Folds.{count-chosen, count-at_most}
use Rattle.laws.proofs.Perms.{perm_mem, perm_sym, perm-length, perm-count, perm-chosen}
use Rattle.laws.proofs.RowLaws.{row_antisym, by_rows}
use Rattle.laws.proofs.Sorting.{sort_perm, sort_sorted, sort_same}
use Rattle.drawing.specs.Entries.{Segment, SegmentColumns, segments}
use Rattle.drawing.specs.Inner.Lengths.{SegmentsAgree}
use Rattle.drawing.specs.Orders.{segments_in_order}
use Rattle.drawing.proofs.EntryLaws.{length-segments}
use Rattle.drawing.proofs.ListOrders.{segments-in_order-perm}
use Rattle.rows.specs.Rows.{Row, row_of, words, rows_in_order, oriented}

-- ---- the order of the list
-- the order of the rows compares all their words, so rows that tie are equal
pub words-one : (a b : Row) → words a ≡ words b → a ≡ b
unfolding words
words-one a b e = λ i. record { net = get_or (e i) 3 0; line = get_or (e i) 0 0; start = get_or (e i) 1 0; end = get_or (e i) 2 0 }

rows-one-order : {l r : List Row} → Perm l r → sort_by rows_in_order l ≡ sort_by rows_in_order r
rows-one-order {l} p = sort_same rows_in_order (by_rows words) (λ r. Unit {0}) (λ a b x y h k. words-one a b (row_antisym (words a) (words b) h k)) p (mem_all (λ r. Unit {0}) l (λ r m. tt))

-- the list order of SCOPE 9.4 decides nothing here
pub list_order_idle : (o : ℕ) (l : List Segment) → oriented o l ≡ sort_by rows_in_order (chosen (λ (s : Segment). eqb s.orientation o) row_of l)
unfolding oriented
list_order_idle o l = rows-one-order (perm-chosen (λ (s : Segment). eqb s.orientation o) row_of (segments-in_order-perm l))

pub oriented_any : (o : ℕ) {l r : List Segment} → Perm l r → oriented o l ≡ oriented o r
oriented_any o {l} {r} p = list_order_idle o l ∙ rows-one-order (perm-chosen (λ (s : Segment). eqb s.orientation o) row_of p) ∙ sym (list_order_idle o r)

-- ---- the rows
pub oriented-sorted : (o : ℕ) (l : List Segment) → Sorted rows_in_order (oriented o l)
unfolding oriented
oriented-sorted o l = sort_sorted rows_in_order (by_rows words) (chosen (λ (s : Segment). eqb s.orientation o) row_of (segments_in_order l))

oriented-perm : (o : ℕ) (l : List Segment) → Perm (oriented o l) (chosen (λ (s : Segment). eqb s.orientation o) row_of (segments_in_order l))
unfolding oriented
oriented-perm o l = sort_perm rows_in_order (chosen (λ (s : Segment). eqb s.orientation o) row_of (segments_in_order l))

-- a row of the orientation, by its segment
pub record RowOf (o : ℕ) (l : List Segment) (r : Row) : Type 0 where
  pub segment : Segment
  pub there : Mem segment l
  pub orientation : segment.orientation ≡ o
  pub is : r ≡ row_of segment

pub mem_oriented : (o : ℕ) (l : List Segment) (r : Row) → Mem r (oriented o l) → RowOf o l r
mem_oriented o l r m =
    let g = mem_chosen (λ (s : Segment). eqb s.orientation o) row_of r (segments_in_order l) (perm_mem r (oriented-perm o l) m) in
    record { segment = g.0; there = perm_mem g.0 (segments-in_order-perm l) g.1; orientation = eqb-true g.0.orientation o g.2; is = g.3 }

pub oriented_mem : (o : ℕ) (l : List Segment) (s : Segment) → Mem s l → s.orientation ≡ o → Mem (row_of s) (oriented o l)
oriented_mem o l s m e = perm_mem (row_of s) (perm_sym (oriented-perm o l)) (chosen_mem (λ (t : Segment). eqb t.orientation o) row_of s (segments_in_order l) (perm_mem s (perm_sym (segments-in_order-perm l)) m) (eq-eqb s.orientation o e))

-- one for each segment of the orientation
pub oriented-length : (o : ℕ) (l : List Segment) → length (oriented o l) ≡ count (λ (s : Segment). eqb s.orientation o) l
oriented-length o l =
    perm-length (oriented-perm o l)
    ∙ sym (count-chosen (λ (s : Segment). eqb s.orientation o) row_of (segments_in_order l))
    ∙ perm-count (λ (s : Segment). eqb s.orientation o) (segments-in_order-perm l)

-- so that there are no more rows than segments
pub oriented-few : (o : ℕ) (c : SegmentColumns) → SegmentsAgree c → length (oriented o (segments c)) ≤ length c.net
oriented-few o c a = omega (arith, oriented-length o (segments c), count-at_most (λ (s : Segment). eqb s.orientation o) (segments c), length-segments c a)
