-- The table of the pieces, and their places in order. Assumes nothing.
use mathlib.Core.Path.{◌≡◌, refl, sym, ap, ◌∙◌, subst}
use mathlib.Core.Bool.{true}
use mathlib.Core.List.{List, [], ◌∷◌, ◌++◌, map}
use mathlib.Core.Logic.{◌⊎◌, inl, inr}
use Prim.Native.Nat.{ℕ, zero, suc, ◌+◌, ◌-◌, ◌*◌, ◌≤◌, ◌<◌}
use native.Mathlib.Numerals.{add-one}
use native.Mathlib.Omega.{arith}
use lib.ListN.{length, get_or, set, take, drop, length-map, get_or-map}
use lib.Seq.{sets-eq, paste, length-paste, get_or-take, get_or-drop, drop-cons, drop-drop}
use Rattle.laws.specs.Lists.{Mem, All}
use Rattle.laws.specs.Rows.{row_le}
use Rattle.laws.specs.Sort.{sort_by}
use Rattle.laws.proofs.Tests.{clash, le_or_lt, same_or_not}
use Rattle.laws.proofs.ListLaws.{all_mem, map_same}
use Rattle.laws.proofs.Parts.{part_same, drop_past}
use Rattle.laws.proofs.Perms.{perm-eq}
use Rattle.laws.proofs.Places.{first-at}
use Rattle.laws.proofs.RowLaws.{row_less, row_more, row_next}
use Rattle.laws.proofs.Sorting.{own}
use Rattle.sorting.specs.Inner.Sorted.{before, sorted, up_to}
use Rattle.sorting.proofs.Entries.{Ordered, all-ordered, agreeing_entries, up_to-below, up_to-placed}
use Rattle.sorting.proofs.Tables.{row-front, row-there}
use Rattle.floats.specs.TotalOrder.{key_of}
use Rattle.drawing.specs.declared.lists.Segment.{Segment}
use Rattle.drawing.specs.Entries.{SegmentColumns, segments}
use Rattle.drawing.specs.Inner.Entries.{segment_at}
use Rattle.drawing.proofs.EntryLaws.{length-segments, segments-at}
use Rattle.joining.specs.declared.piece.Piece.{Piece}
use Rattle.joining.specs.Joined.{canonical_zeros, piece_row, is_in_order}
use Rattle.joining.specs.Inner.Pieces.{piece_of}
use Rattle.join_call.specs.Inner.Table.{piece_words, piece_from, placed, entries_from, Lists, Gathered, TableInOrder}
use Rattle.joining.proofs.LineRows.{Under, lead}
use Rattle.joining.proofs.Canonical.{Canonical}
use Rattle.joining.proofs.Merging.{rows-order}
use Rattle.joining.proofs.JoinedLists.{piece_of-row, canonical_all}

-- ---- one row
pub words_wide : (p : Piece) → length (piece_words p) ≡ 4
unfolding piece_words
words_wide p = refl

pub four_stores : (s : List ℕ) (at : ℕ) (p : Piece) → at + 4 ≤ length s → set (set (set (set s at p.net_and_orientation) (at + 1) p.fixed) (at + 2) p.start) (at + 3) p.end ≡ paste s at (piece_words p) 4
unfolding piece_words
four_stores s at p h =
    let one : at + 1 ≡ suc at = omega arith in
    let two : at + 2 ≡ suc (suc at) = omega arith in
    let three : at + 3 ≡ suc (suc (suc at)) = omega arith in
    (λ i. set (set (set (set s at p.net_and_orientation) (one i) p.fixed) (two i) p.start) (three i) p.end) ∙ sets-eq (p.net_and_orientation ∷ p.fixed ∷ p.start ∷ p.end ∷ []) s at h

-- ---- one row after the other
pub gathered_none : (c : SegmentColumns) (s : List ℕ) → Gathered c 0 s s
gathered_none c s = record { same = refl; rows = λ j h. absurd (omega arith) }

pub gathered_next : (c : SegmentColumns) (i : ℕ) (s r q : List ℕ) (p : Piece) → Gathered c i s r → length c.net + 4 * i + 4 ≤ length s → p ≡ piece_of (canonical_zeros (segment_at c i)) → q ≡ paste r (length c.net + 4 * i) (piece_words p) 4 → Gathered c (i + 1) s q
gathered_next c i s r q p g h e w =
    let room : length c.net + 4 * i + 4 ≤ length r = omega (arith, g.same) in
    record { same = ap length w ∙ length-paste r (length c.net + 4 * i) (piece_words p) 4 room (omega (arith, words_wide p)) ∙ g.same; rows = rows room }
  where
    rows : length c.net + 4 * i + 4 ≤ length r → (j : ℕ) → j < i + 1 → take 4 (drop (length c.net + 4 * j) q) ≡ piece_words (piece_of (canonical_zeros (segment_at c j)))
    rows room j k = elim (le_or_lt i j) [
      | inl l ↦ let same : j ≡ i = omega arith in ap (λ (z : ℕ). take 4 (drop (length c.net + 4 * z) q)) same ∙ row-there r q (piece_words p) (length c.net + 4 * i) 4 room (words_wide p) w ∙ ap piece_words e ∙ ap (λ (z : ℕ). piece_words (piece_of (canonical_zeros (segment_at c z)))) (sym same)
      | inr l ↦ part_same (length c.net + 4 * j) 4 (length c.net + 4 * i) q r (row-front r q (piece_words p) (length c.net + 4 * i) 4 room (words_wide p) w) (omega arith) ∙ g.rows j l
    ]

-- ---- the words of a piece in a slice
pub piece-from : (a : List ℕ) (at : ℕ) (p : Piece) → take 4 (drop at a) ≡ piece_words p → piece_from a at ≡ p
unfolding piece_words
piece-from a at p e = (λ i. record { net_and_orientation = (first ∙ word 0 (omega arith)) i; fixed = word 1 (omega arith) i; start = word 2 (omega arith) i; end = word 3 (omega arith) i })
  where
    first : get_or a at 0 ≡ get_or a (at + 0) 0
    first = let z : at ≡ at + 0 = omega arith in ap (λ (j : ℕ). get_or a j 0) z

    word : (j : ℕ) → j < 4 → get_or a (at + j) 0 ≡ get_or (piece_words p) j 0
    word j h = sym (get_or-drop at a j 0) ∙ sym (get_or-take 4 (drop at a) j 0 h) ∙ ap (λ (l : List ℕ). get_or l j 0) e

entries-map : (t : ℕ) (a : List ℕ) (n k : ℕ) → k + n ≤ length a → entries_from t a k n ≡ map (λ i. piece_from a (t + 4 * i)) (take n (drop k a))
unfolding entries_from
entries-map t a zero k h = refl
entries-map t a (suc n) k h =
    ap (λ (l : List Piece). placed t a k ∷ l) (entries-map t a n (k + 1) (omega arith) ∙ ap (λ (j : ℕ). map (λ i. piece_from a (t + 4 * i)) (take n (drop j a))) (add-one k))
    ∙ ap (λ (l : List ℕ). map (λ i. piece_from a (t + 4 * i)) (take (suc n) l)) (sym (drop-cons a k 0 (omega arith)))

-- ---- the list of the pieces
pub entries-length : (n : ℕ) (a : List ℕ) (k m : ℕ) → length (entries_from n a k m) ≡ m
unfolding entries_from
entries-length n a k zero = refl
entries-length n a k (suc m) = ap suc (entries-length n a (k + 1) m)

pub entries-at : (n : ℕ) (a : List ℕ) (k m i : ℕ) (x : Piece) (j : ℕ) → i < m → j ≡ k + i → get_or (entries_from n a k m) i x ≡ placed n a j
unfolding entries_from
entries-at n a k zero i x j h e = absurd (omega arith)
entries-at n a k (suc m) zero x j h e = let p : k ≡ j = omega arith in ap (placed n a) p
entries-at n a k (suc m) (suc i) x j h e = entries-at n a (k + 1) m i x j (omega arith) (omega arith)

-- ---- the order of the rows is that of the pieces: the first word decides as net and orientation do
unpacked : (n v m w : ℕ) (a b : List ℕ) → v ≤ 1 → w ≤ 1 → row_le ((2 * n + v) ∷ a) ((2 * m + w) ∷ b) ≡ true → row_le (n ∷ v ∷ a) (m ∷ w ∷ b) ≡ true
unpacked n v m w a b p q h = elim (le_or_lt m n) [
  | inr k ↦ row_less n m (v ∷ a) (w ∷ b) k
  | inl k ↦ elim (same_or_not n m) [
    | inr d ↦ clash (row_le ((2 * n + v) ∷ a) ((2 * m + w) ∷ b)) h (row_more (2 * n + v) (2 * m + w) a b (above k d))
    | inl e ↦ row_next n m (v ∷ a) (w ∷ b) e ∙ (elim (le_or_lt w v) [
      | inr j ↦ row_less v w a b j
      | inl j ↦ elim (same_or_not v w) [
        | inl f ↦ row_next v w a b f ∙ sym (row_next (2 * n + v) (2 * m + w) a b (omega arith)) ∙ h
        | inr g ↦ clash (row_le ((2 * n + v) ∷ a) ((2 * m + w) ∷ b)) h (row_more (2 * n + v) (2 * m + w) a b (later e j g))
      ]
    ])
  ]
]
  where
    above : m ≤ n → (n ≡ m → ⊥) → 2 * m + w < 2 * n + v
    above k d = omega arith

    later : n ≡ m → w ≤ v → (v ≡ w → ⊥) → 2 * m + w < 2 * n + v
    later e j g = omega arith

abbrev words_of : Segment → List ℕ
words_of s = piece_words (piece_of s)

words-order : (s t : Segment) (i j : ℕ) → row_le (words_of s ++ (i ∷ [])) (words_of t ++ (j ∷ [])) ≡ true → row_le (piece_row s) (piece_row t) ≡ true
unfolding piece_words piece_of piece_row
words-order s t i j h = unpacked s.net (1 - s.orientation) t.net (1 - t.orientation) (rest s) (rest t) (omega arith) (omega arith) (go (lead (words_of s) (words_of t) (i ∷ []) (j ∷ []) refl h))
  where
    rest : Segment → List ℕ
    rest z = key_of z.fixed ∷ key_of z.start ∷ key_of z.end ∷ []

    go : ((words_of s ≡ words_of t) × (row_le (i ∷ []) (j ∷ []) ≡ true)) ⊎ Under (words_of s) (words_of t) → row_le (words_of s) (words_of t) ≡ true
    go (inl e) = ap (λ (r : List ℕ). row_le r (words_of t)) e.0 ∙ own row_le rows-order (words_of t)
    go (inr u) = (u [] []).0

-- ---- r has the rows, q is r with all places in front, and o is q with the places in order
module _ (c : SegmentColumns) (s r q o : List ℕ) (l : Lists c (length s)) (g : Gathered c (length c.net) s r) (e : q ≡ up_to (length c.net) ++ drop (length c.net) r) (f : o ≡ sorted q (length c.net) (length c.net) 4) where
  abbrev n : ℕ
  n = length c.net

  abbrev entry : ℕ → Segment
  entry i = canonical_zeros (segment_at c i)

  long : 5 * n ≤ length r
  long = omega (arith, g.same, l.room)

  order : Ordered r n n 4 o
  order = let u = long in all-ordered r q o n n 4 (omega arith) (omega arith) e f

  row_at : (i : ℕ) → i < n → take 4 (drop (i * 4) (drop n r)) ≡ words_of (entry i)
  row_at i h = let z : n + i * 4 ≡ n + 4 * i = omega arith in ap (take 4) (drop-drop (i * 4) n r ∙ ap (λ (j : ℕ). drop j r) z) ∙ g.rows i h

  agree : (i j : ℕ) → Mem i (up_to n) → Mem j (up_to n) → before (drop n r) 4 i j ≡ true → row_le (piece_row (entry i)) (piece_row (entry j)) ≡ true
  unfolding before
  agree i j p q h = words-order (entry i) (entry j) i j (rw (row_at i (up_to-below n i p), row_at j (up_to-below n j q)) at h)

  entries : map entry (up_to n) ≡ map canonical_zeros (segments c)
  entries = up_to-placed (map canonical_zeros (segments c)) entry n (length-map (segments c) canonical_zeros ∙ length-segments c l.agree) (λ i h. get_or-map canonical_zeros (segments c) i (segment_at c 0) ∙ ap canonical_zeros (segments-at c l.agree (segment_at c 0) i h))

  in_place : map entry (take n o) ≡ sort_by is_in_order (map canonical_zeros (segments c))
  in_place =
      ap (map entry) order.column
      ∙ agreeing_entries (drop n r) 4 (up_to n) entry piece_row agree Canonical piece_of-row (subst (All Canonical) (sym entries) (canonical_all (segments c) l.fit)) (map canonical_zeros (segments c)) (perm-eq entries)

  pub ordered : TableInOrder c o
  ordered =
      let many : 5 * n ≤ length o = omega (arith, order.same, long) in
      let small : (k : ℕ) → k < n → get_or o k 0 < n = λ k h. first-at (λ i. i < n) 0 n o (omega (arith, many)) order.small k h in
      let same : (i : ℕ) → Mem i (take n o) → piece_from o (n + 4 * i) ≡ piece_of (entry i) = λ i m.
      piece-from o (n + 4 * i) (piece_of (entry i)) (ap (take 4) (drop_past n (n + 4 * i) o r order.rest (omega arith)) ∙ g.rows i (all_mem (λ k. k < n) (take n o) order.small i m)) in
      record {
        tabled = record { few = l.few; long = many; small = small };
        entries =
            entries-map n o n 0 (omega (arith, many))
            ∙ map_same (λ i. piece_from o (n + 4 * i)) (λ i. piece_of (entry i)) (take n o) same
            ∙ sym (map-map (take n o))
            ∙ ap (map piece_of) in_place;
      }
    where
      map-map : (k : List ℕ) → map piece_of (map entry k) ≡ map (λ i. piece_of (entry i)) k
      map-map [] = refl
      map-map (x ∷ k) = ap (λ (z : List Piece). piece_of (entry x) ∷ z) (map-map k)
