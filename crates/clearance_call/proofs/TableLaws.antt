-- Tables of rows of five words, filled row by row, and the indices of the segments put in order by theirs. Assumes nothing.
use mathlib.Core.Path.{◌≡◌, refl, sym, ap, subst, ◌∙◌}
use mathlib.Core.Bool.{Bool, true, false}
use mathlib.Core.List.{List, [], ◌∷◌, ◌++◌, map}
use Prim.Native.Nat.{ℕ, zero, suc, ◌+◌, ◌*◌, ◌≤◌, ◌<◌}
use native.Mathlib.Omega.{arith}
use borrow.Author.Count.{below_more}
use lib.ListN.{length, get_or, take, drop, set}
use lib.Seq.{paste, sets-eq, length-paste, drop-paste, length_front, take_at, drop_at, drop-drop, length-take-le}
use Rattle.laws.specs.Lists.{All}
use Rattle.laws.specs.Perm.{Perm}
use Rattle.laws.specs.Sort.{sort_by}
use Rattle.laws.proofs.ListLaws.{mem_all, mem_map}
use Rattle.laws.proofs.Parts.{drop_past, part_same}
use Rattle.laws.proofs.Perms.{perm-all, perm_sym}
use Rattle.laws.proofs.Sorting.{sort_perm}
use Rattle.sorting.specs.Inner.Sorted.{up_to, sortable, sorted, before}
use Rattle.sorting.proofs.Entries.{sorted-length, sorted_rest, sorted-column, sorted_entries, up_to-below, up_to-placed, up_to-sortable, length-up_to}
use Rattle.sorting.proofs.Tables.{row-front, row-there}
use Rattle.floats.specs.TotalOrder.{key_of}
use Rattle.drawing.specs.Entries.{Segment, SegmentColumns, NodeColumns, segments}
use Rattle.drawing.specs.Inner.Entries.{segment_at, node_at}
use Rattle.drawing.specs.Inner.Lengths.{SegmentsAgree}
use Rattle.drawing.specs.Orders.{segment_row, segments_in_order}
use Rattle.drawing.proofs.EntryLaws.{length-segments, segments-at}
use Rattle.drawing.specs.Held.{SegmentHeld}
use Rattle.drawing.proofs.ListOrders.{segment-row-one}
use Rattle.boxes.specs.declared.aabb.Aabb.{Aabb}
use Rattle.boxes.specs.Boxes.{node_box}
use Rattle.clearance.specs.Tree.{IndexedNode, indexed, indexed_row}
use Rattle.clearance_call.specs.Inner.LeafOrder.{indexed_at}
use Rattle.clearance_call.specs.Inner.Tables.{node_row_at, segment_row_at, Filled, NodesFilled, SegmentsOrdered}

-- ---- one row
pub five_stores : (s : List ℕ) (at a b c d e : ℕ) → at + 5 ≤ length s → set (set (set (set (set s at a) (at + 1) b) (at + 2) c) (at + 3) d) (at + 4) e ≡ paste s at (a ∷ b ∷ c ∷ d ∷ e ∷ []) 5
five_stores s at a b c d e h =
    let one : at + 1 ≡ suc at = omega arith in
    let two : at + 2 ≡ suc (suc at) = omega arith in
    let three : at + 3 ≡ suc (suc (suc at)) = omega arith in
    let four : at + 4 ≡ suc (suc (suc (suc at))) = omega arith in
    (λ i. set (set (set (set (set s at a) (one i) b) (two i) c) (three i) d) (four i) e) ∙ sets-eq (a ∷ b ∷ c ∷ d ∷ e ∷ []) s at h

-- ---- a table, row by row
take_same : (m n : ℕ) (r s : List ℕ) → take n r ≡ take n s → m ≤ n → take m r ≡ take m s
take_same m n r s e h = part_same zero m n r s e (omega arith)

-- a row of a table that lies within the first n words
row_kept : (t i n : ℕ) (r s : List ℕ) → take n r ≡ take n s → t + 5 * i + 5 ≤ n → take 5 (drop (i * 5) (drop t r)) ≡ take 5 (drop (i * 5) (drop t s))
row_kept t i n r s e h = ap (take 5) (drop-drop (i * 5) t r) ∙ part_same (t + i * 5) 5 n r s e (omega arith) ∙ sym (ap (take 5) (drop-drop (i * 5) t s))

-- r is s with a row from `at` on
module _ (s r row : List ℕ) (at : ℕ) (h : at + 5 ≤ length s) (wide : length row ≡ 5) (e : r ≡ paste s at row 5) where
  row-length : length r ≡ length s
  row-length = ap length e ∙ length-paste s at row 5 h (omega arith)

  row-behind : drop (at + 5) r ≡ drop (at + 5) s
  row-behind = ap (drop (at + 5)) e ∙ drop-paste s at row 5 (omega arith) (omega arith)

module _ (f : ℕ → List ℕ) (t : ℕ) (s : List ℕ) where
  pub filled_none : Filled f t 0 s s
  filled_none = record { same = refl; front = refl; behind = refl; rows = λ i h. absurd (omega arith) }

  pub filled_next : (n : ℕ) (r q row : List ℕ) → Filled f t n s r → t + 5 * n + 5 ≤ length s → length row ≡ 5 → row ≡ f n → q ≡ paste r (t + 5 * n) row 5 → Filled f t (n + 1) s q
  filled_next n r q row u h wide g e =
      let at = t + 5 * n in
      let room : at + 5 ≤ length r = omega (arith, u.same) in
      let next : t + 5 * (n + 1) ≡ at + 5 = omega arith in
      let past : drop (at + 5) r ≡ drop (at + 5) s = drop_past at (at + 5) r s u.behind (omega arith) in
      record {
        same = row-length r q row at room wide e ∙ u.same;
        front = take_same t at q r (row-front r q row at 5 room wide e) (omega arith) ∙ u.front;
        behind = ap (λ (k : ℕ). drop k q) next ∙ row-behind r q row at room wide e ∙ past ∙ ap (λ (k : ℕ). drop k s) (sym next);
        rows = below_more _ n
            (λ k b. row_kept t k at q r (row-front r q row at 5 room wide e) (omega arith) ∙ u.rows k b)
            (let there : t + n * 5 ≡ at = omega arith in ap (take 5) (drop-drop (n * 5) t q ∙ ap (λ (k : ℕ). drop k q) there) ∙ row-there r q row at 5 room wide e ∙ g);
      }

pub filled_all : (f : ℕ → List ℕ) (t : ℕ) (s : List ℕ) (i n : ℕ) (r : List ℕ) → i ≤ n → n ≤ i → Filled f t i s r → Filled f t n s r
filled_all f t s i n r a b u = let e : i ≡ n = omega arith in subst (λ (k : ℕ). Filled f t k s r) e u

-- ---- the tables of nodes
module _ (s q : List ℕ) (at id : ℕ) (b : Aabb) (left right top bottom : ℕ) (l : left ≡ key_of b.left) (r : right ≡ key_of b.right) (t : top ≡ key_of b.top) (d : bottom ≡ key_of b.bottom) where
  pub across-row : (horizontal : Bool) → horizontal ≡ true → q ≡ paste s at (left ∷ right ∷ top ∷ bottom ∷ id ∷ []) 5 → q ≡ paste s at (indexed_row horizontal (record { id = id; bounds = b })) 5
  unfolding indexed_row
  across-row horizontal h e = e ∙ (λ i. paste s at (l i ∷ r i ∷ t i ∷ d i ∷ id ∷ []) 5) ∙ ap (λ (z : Bool). paste s at (indexed_row z (record { id = id; bounds = b })) 5) (sym h)

  pub down-row : (horizontal : Bool) → horizontal ≡ false → q ≡ paste s at (top ∷ bottom ∷ left ∷ right ∷ id ∷ []) 5 → q ≡ paste s at (indexed_row horizontal (record { id = id; bounds = b })) 5
  unfolding indexed_row
  down-row horizontal h e = e ∙ (λ i. paste s at (t i ∷ d i ∷ l i ∷ r i ∷ id ∷ []) 5) ∙ ap (λ (z : Bool). paste s at (indexed_row z (record { id = id; bounds = b })) 5) (sym h)

pub node_wide : (horizontal : Bool) (n : IndexedNode) → length (indexed_row horizontal n) ≡ 5
unfolding indexed_row
node_wide true n = refl
node_wide false n = refl

pub node_next : (horizontal : Bool) (c : NodeColumns) (t : ℕ) (s : List ℕ) (n : ℕ) (r q : List ℕ) (b : Aabb) → Filled (node_row_at horizontal c) t n s r → t + 5 * length c.id ≤ length s → n < length c.id
    → b ≡ (indexed_at c n).bounds → q ≡ paste r (t + 5 * n) (indexed_row horizontal (record { id = (node_at c n).id; bounds = b })) 5 → Filled (node_row_at horizontal c) t (n + 1) s q
unfolding indexed node_box
node_next horizontal c t s n r q b u h m e g =
    filled_next (node_row_at horizontal c) t s n r q (indexed_row horizontal (record { id = (node_at c n).id; bounds = b })) u (omega arith) (node_wide horizontal (record { id = (node_at c n).id; bounds = b }))
    (ap (λ (z : Aabb). indexed_row horizontal (record { id = (node_at c n).id; bounds = z })) e) g

-- the second table leaves the first as it is
pub both_tables : (c : NodeColumns) (t : ℕ) (s r q : List ℕ) → Filled (node_row_at true c) t (length c.id) s r → Filled (node_row_at false c) (t + 5 * length c.id) (length c.id) r q → NodesFilled c t s q
both_tables c t s r q u v =
    let m = length c.id in
    let end : t + 5 * m + 5 * m ≡ t + 10 * m = omega arith in
    record {
      same = v.same ∙ u.same;
      front = take_same t (t + 5 * m) q r v.front (omega arith) ∙ u.front;
      behind = ap (λ (k : ℕ). drop k q) (sym end) ∙ v.behind ∙ ap (λ (k : ℕ). drop k r) end ∙ drop_past (t + 5 * m) (t + 10 * m) r s u.behind (omega arith);
      across = λ i b. row_kept t i (t + 5 * m) q r v.front (omega arith) ∙ u.rows i b;
      down = v.rows;
    }

-- ---- the table of segments
pub segment_next : (c : SegmentColumns) (t : ℕ) (s : List ℕ) (n : ℕ) (r q : List ℕ) (a o f b e : ℕ) → Filled (segment_row_at c) t n s r → t + 5 * length c.net ≤ length s → n < length c.net
    → a ≡ (segment_at c n).net → o ≡ (segment_at c n).orientation → f ≡ key_of (segment_at c n).fixed → b ≡ key_of (segment_at c n).start → e ≡ key_of (segment_at c n).end → q ≡ paste r (t + 5 * n) (a ∷ o ∷ f ∷ b ∷ e ∷ []) 5 → Filled (segment_row_at c) t (n + 1) s q
unfolding segment_row
segment_next c t s n r q a o f b e u h m v w x y z g =
    filled_next (segment_row_at c) t s n r q (a ∷ o ∷ f ∷ b ∷ e ∷ []) u (omega arith) refl (λ i. v i ∷ w i ∷ x i ∷ y i ∷ z i ∷ []) g

-- ---- the segments in order
pub all-places : (n : ℕ) → All (λ i. i < n) (up_to n)
all-places n = mem_all (λ i. i < n) (up_to n) (up_to-below n)

-- what holds at every index of n entries holds of every entry
pub all_placed : {A : Type 0} (entries : List A) (entry : ℕ → A) (n : ℕ) → length entries ≡ n → ((i : ℕ) → i < n → get_or entries i (entry 0) ≡ entry i) → (P : A → Type 0) → ((i : ℕ) → P (entry i)) → All P entries
all_placed entries entry n whole at P h = subst (All P) (up_to-placed entries entry n whole at) (mem_all P (map entry (up_to n)) (λ x m. let r = mem_map entry (up_to n) x m in subst P (sym r.2) (h r.0)))

segments-placed : (c : SegmentColumns) → SegmentsAgree c → map (segment_at c) (up_to (length c.net)) ≡ segments c
segments-placed c a = up_to-placed (segments c) (segment_at c) (length c.net) (length-segments c a) (segments-at c a (segment_at c 0))

segment_wide : (s : Segment) → length (segment_row s) ≡ 5
unfolding segment_row
segment_wide s = refl

-- r is s with the indices in its first words, q is r with the rows after them, and o is q with the indices in order
pub segments-ordered : (c : SegmentColumns) (s r q o : List ℕ) → SegmentsAgree c → 6 * length c.net ≤ length s → All SegmentHeld (segments c)
    → r ≡ up_to (length c.net) ++ drop (length c.net) s → Filled (segment_row_at c) (length c.net) (length c.net) r q → o ≡ sorted q (length c.net) (length c.net) 5 → SegmentsOrdered c s o
unfolding segments_in_order
segments-ordered c s r q o a h held e u g =
    let n = length c.net in
    let long : length r ≡ length s = ap length e ∙ length_front s (up_to n) n (length-up_to n ∙ sym (length-take-le n s (omega arith))) in
    let places : take n q ≡ up_to n = u.front ∙ ap (take n) e ∙ take_at (up_to n) (drop n s) n (length-up_to n) in
    let fit : sortable q n n 5 ≡ true = up_to-sortable q n n 5 places (omega arith) (omega (arith, u.same)) in
    let end : n + 5 * n ≡ 6 * n = omega arith in
    let rest : drop n r ≡ drop n s = ap (drop n) e ∙ drop_at (up_to n) (drop n s) n (length-up_to n) in
    let column : take n o ≡ sort_by (before (drop n q) 5) (up_to n) = ap (take n) g ∙ sorted-column q n n 5 fit ∙ ap (sort_by (before (drop n q) 5)) places in
    record {
      same = ap length g ∙ sorted-length q n n 5 ∙ u.same ∙ long;
      behind = drop_past n (6 * n) o q (ap (drop n) g ∙ sorted_rest q n n 5 fit) (omega arith) ∙ subst (λ (k : ℕ). drop k q ≡ drop k r) end u.behind ∙ drop_past n (6 * n) r s rest (omega arith);
      small = perm-all (λ i. i < n) (perm_sym (subst (λ (l : List ℕ). Perm l (up_to n)) (sym column) (sort_perm (before (drop n q) 5) (up_to n)))) (all-places n);
      ordered = ap (map (segment_at c)) column
          ∙ sorted_entries (drop n q) 5 (up_to n) (segment_at c) segment_row segment_wide (λ i m. u.rows i (up_to-below n i m)) SegmentHeld segment-row-one (subst (All SegmentHeld) (sym (segments-placed c a)) held)
          ∙ ap segments_in_order (segments-placed c a);
    }
