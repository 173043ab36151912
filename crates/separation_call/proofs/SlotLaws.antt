-- A slot for each line and net: a word for each segment, the words in order, and the index of each group's first word assigned to its segments. Assumes nothing.
use mathlib.Core.Path.{◌≡◌, refl, sym, ap, ◌∙◌, subst}
use mathlib.Core.Logic.{inl, inr}
use mathlib.Core.Bool.{true}
use mathlib.Core.List.{List, [], ◌∷◌, ◌++◌, map}
use Prim.Native.Nat.{ℕ, zero, suc, ◌+◌, ◌-◌, ◌*◌, ◌^◌, ◌≤◌, ◌<◌, suc-le-suc}
use native.Mathlib.Nat.{le_refl, not-suc-le-zero, le_of_suc-le-suc}
use native.Mathlib.Omega.{arith}
use borrow.Author.Count.{below_more}
use borrow.Author.Tests.{leb-true, le-leb, eq-eqb, ne_eqb}
use borrow.Rule.Slice.PartMut.{mid_of, put_mid}
use lib.Dec.{leb}
use lib.ListN.{length, get_or, take, drop, set, length-append, length-set, length-drop, length-map}
use lib.Seq.{take_at, drop_at, take-take, drop-drop, length-take-le, take-set-le, drop-set-lt, get_or-drop, get_or-set_same, get_or-set_other}
use Rattle.laws.specs.Lists.{Mem, All}
use Rattle.laws.specs.Perm.{Perm}
use Rattle.laws.specs.Sort.{sort_by}
use Rattle.laws.specs.Inner.Sort.{Sorted}
use Rattle.laws.proofs.Tests.{le_or_lt, same_or_not}
use Rattle.laws.proofs.ListLaws.{map_mem}
use Rattle.laws.proofs.Parts.{tail_lent, tail_back, drop_past, get_d_past}
use Rattle.laws.proofs.Perms.{perm_sym, perm_mem}
use Rattle.laws.proofs.Places.{at_mem, mem_at, first-at}
use Rattle.laws.proofs.Sorting.{sort_sorted}
use Rattle.laws.proofs.SortedLists.{sorted-at, sorted-map}
use Rattle.sorting.specs.Inner.Sorted.{before, sortable, sorted}
use Rattle.sorting.proofs.Entries.{sorted-length, sorted-column, sorted-perm, sorted_rest}
use Rattle.sorting.proofs.Fitting.{no_rows}
use Rattle.sorting.proofs.RowOrder.{before-order}
use Rattle.rows.specs.Rows.{Row}
use Rattle.rows.specs.Inner.Tables.{row_from, column}
use Rattle.rows.proofs.ColumnParts.{get_d_map, front_same, column-length, column-at, row_word}
use Rattle.separation.specs.Lines.{lines, index}
use Rattle.separation.proofs.Lines.{first_word, index_here, index-past, index-lt}
use Rattle.separation_call.specs.Inner.ActiveNets.{Slots}
use Rattle.separation_call.specs.Inner.Numbered.{Slottable, slot_word, WordsFilled, place_of, group_of, WordsInOrder, slot_of, SlotsPut, SlotsAssigned}

-- ---- the first index of a value in a list in order
index_at : (l : List ℕ) (k p : ℕ) → k < length l → ((i : ℕ) → i < k → get_or l i 0 < p) → p ≤ get_or l k 0 → index l p ≡ k
index_at [] k p b f h = absurd (not-suc-le-zero b)
index_at (q ∷ l) zero p b f h = index_here q p l h
index_at (q ∷ l) (suc k) p b f h = index-past q p l (f 0 (omega arith)) ∙ ap suc (index_at l k p (le_of_suc-le-suc b) (λ i g. f (suc i) (suc-le-suc g)) h)

-- the value is there
index-value : (l : List ℕ) (p : ℕ) → Sorted leb l → Mem p l → get_or l (index l p) 0 ≡ p
index-value [] p s m = elim m [ ]
index-value (q ∷ l) p s m = elim (le_or_lt p q) [
  | inl h ↦ rw (index_here q p l h) (first h m)
  | inr h ↦ rw (index-past q p l h) (index-value l p s.1 (later h m))
]
  where
    first : p ≤ q → Mem p (q ∷ l) → q ≡ p
    first h (inl e) = sym e
    first h (inr n) = let k = leb-true q p (s.0 p n) in omega arith

    later : q < p → Mem p (q ∷ l) → Mem p l
    later h (inl e) = absurd (omega arith)
    later h (inr n) = n

-- ---- the words
column-all : (P : ℕ → Type 0) (n k : ℕ) (s : List ℕ) → k * n + n ≤ length s → All P (column n k s) → (j : ℕ) → j < n → P (get_or s (k * n + j) 0)
column-all P n k s h a j b = subst P (get_or-drop (k * n) s j 0) (first-at P 0 n (drop (k * n) s) (simp length-drop (omega arith)) a j b)

-- a line number and a net that fit
pub record Fitting (line net : ℕ) : Type 0 where
  pub low : line < 4096
  pub small : net < 2 ^ 32

fitting : (n : ℕ) (s : List ℕ) → Slottable n s → (j : ℕ) → j < n → Fitting (get_or s (4 * n + j) 0) (get_or s (5 * n + j) 0)
fitting n s g j b = record {
  low = omega (arith, column-all (λ (i : ℕ). i < n) n 4 s (omega (arith, g.room)) g.lines j b, g.few);
  small = column-all (λ (m : ℕ). m < 2 ^ 32) n 5 s (omega (arith, g.room)) g.nets j b;
}

-- j words of column 8 are written
pub record Filling (n : ℕ) (s₀ s : List ℕ) (j : ℕ) : Type 0 where
  pub given : Slottable n s₀
  pub small : j ≤ n
  pub len : length s ≡ length s₀
  pub front : take (8 * n) s ≡ take (8 * n) s₀
  pub words : (i : ℕ) → i < j → get_or s (8 * n + i) 0 ≡ slot_word s₀ n i
  pub behind : drop (9 * n) s ≡ drop (9 * n) s₀

module _ (n : ℕ) (s₀ s : List ℕ) (j : ℕ) (v : Filling n s₀ s j) (h : j < n) where
  filling_room : 9 * n ≤ length s
  filling_room = omega (arith, v.len, v.given.room)

  line_kept : get_or s (4 * n + j) 0 ≡ get_or s₀ (4 * n + j) 0
  line_kept = front_same (8 * n) s s₀ v.front (4 * n + j) (omega arith)

  net-kept : get_or s (5 * n + j) 0 ≡ get_or s₀ (5 * n + j) 0
  net-kept = front_same (8 * n) s s₀ v.front (5 * n + j) (omega arith)

  pub filling_fits : Fitting (get_or s (4 * n + j) 0) (get_or s (5 * n + j) 0)
  filling_fits = rw (line_kept, net-kept) (fitting n s₀ v.given j h)

  pub filling_next : Filling n s₀ (set s (8 * n + j) (slot_word s n j)) (j + 1)
  filling_next =
      let w = slot_word s n j in
      record {
        given = v.given;
        small = omega arith;
        len = length-set s (8 * n + j) w ∙ v.len;
        front = take-set-le (8 * n) s (8 * n + j) w (omega arith) ∙ v.front;
        words = below_more (λ (i : ℕ). get_or (set s (8 * n + j) w) (8 * n + i) 0 ≡ slot_word s₀ n i) j
            (λ i b. get_or-set_other s (8 * n + j) (8 * n + i) w 0 (λ q. omega arith) ∙ v.words i b)
            (get_or-set_same s (8 * n + j) w 0 (omega (arith, filling_room)) ∙ (λ i. line_kept i * 2 ^ 44 + net-kept i * 2 ^ 12 + j));
        behind = drop-set-lt (9 * n) s (8 * n + j) w (omega arith) ∙ v.behind;
      }

pub filling_end : (n : ℕ) (s₀ s : List ℕ) (j : ℕ) → Filling n s₀ s j → n ≤ j → WordsFilled n s₀ s
filling_end n s₀ s j v h = record { front = v.front; words = λ i b. v.words i (omega arith); behind = v.behind }

-- ---- the slots are assigned
pub slot_same : (k slot last group : ℕ) → group ≡ last → slot_of k slot last group ≡ slot
unfolding slot_of
slot_same k slot last group e = rw (eq-eqb group last e)

pub slot_other : (k slot last group : ℕ) → (group ≡ last → ⊥) → slot_of k slot last group ≡ k
unfolding slot_of
slot_other k slot last group n = rw (ne_eqb group last n)

-- k words of column 8 have their slots
pub record Handing (n : ℕ) (s₀ s : List ℕ) (slot last k : ℕ) : Type 0 where
  pub room : 9 * n ≤ length s₀
  pub words : WordsInOrder n (column n 8 s₀)
  pub small : k ≤ n
  pub len : length s ≡ length s₀
  pub none : k ≡ 0 → slot ≡ 0
  pub before : 0 < k → last ≡ group_of (get_or (column n 8 s₀) (k - 1) 0)
  pub own : 0 < k → slot ≡ index (map group_of (column n 8 s₀)) last
  pub front : take (7 * n) s ≡ take (7 * n) s₀
  pub slots : (i : ℕ) → i < k → get_or s (7 * n + place_of (get_or (column n 8 s₀) i 0)) 0 ≡ index (map group_of (column n 8 s₀)) (group_of (get_or (column n 8 s₀) i 0))
  pub behind : drop (8 * n) s ≡ drop (8 * n) s₀

-- the slot of the k-th group of a list in order, where the slot of the one before it is known
slot_first : (G : List ℕ) (k slot last : ℕ) → Sorted leb G → k < length G → (k ≡ 0 → slot ≡ 0) → (0 < k → last ≡ get_or G (k - 1) 0) → (0 < k → slot ≡ index G last) → slot_of k slot last (get_or G k 0) ≡ index G (get_or G k 0)
slot_first G zero slot last s b z e o = elim (same_or_not (get_or G 0 0) last) [
  | inl q ↦ slot_same 0 slot last (get_or G 0 0) q ∙ z refl ∙ sym (index_at G 0 (get_or G 0 0) b (λ i h. absurd (omega arith)) (omega arith))
  | inr q ↦ slot_other 0 slot last (get_or G 0 0) q ∙ sym (index_at G 0 (get_or G 0 0) b (λ i h. absurd (omega arith)) (omega arith))
]
slot_first G (suc k) slot last s b z e o =
    let one : suc k - 1 ≡ k = omega arith in
    let was : last ≡ get_or G k 0 = e (omega arith) ∙ ap (λ (i : ℕ). get_or G i 0) one in
    elim (same_or_not (get_or G (suc k) 0) last) [
      | inl q ↦ slot_same (suc k) slot last (get_or G (suc k) 0) q ∙ o (omega arith) ∙ ap (index G) (sym q)
      | inr q ↦ slot_other (suc k) slot last (get_or G (suc k) 0) q ∙ sym (index_at G (suc k) (get_or G (suc k) 0) b (λ i h. below was q i h) (omega arith))
    ]
  where
    below : last ≡ get_or G k 0 → (get_or G (suc k) 0 ≡ last → ⊥) → (i : ℕ) → i < suc k → get_or G i 0 < get_or G (suc k) 0
    below was q i h =
        let a = sorted-at leb ◌≤◌ le_refl leb-true 0 G s i k (omega arith) (omega arith) in
        let c = sorted-at leb ◌≤◌ le_refl leb-true 0 G s k (suc k) (omega arith) b in
        omega arith

groups_sorted : (l : List ℕ) → Sorted leb l → Sorted leb (map group_of l)
groups_sorted l s = sorted-map leb leb group_of l (λ x y p q e. let h = leb-true x y e in le-leb (group_of x) (group_of y) (omega arith)) s

-- the k-th word
module _ (n : ℕ) (s₀ s : List ℕ) (slot last k : ℕ) (v : Handing n s₀ s slot last k) (h : k < n) where
  word-is : get_or s (8 * n + k) 0 ≡ get_or (column n 8 s₀) k 0
  word-is = get_d_past (8 * n) (8 * n + k) s s₀ 0 v.behind (omega arith) ∙ sym (column-at n 8 s₀ k h)

  inside : k < length (column n 8 s₀)
  inside = omega (arith, column-length n 8 s₀ (omega (arith, v.room)))

  there : Mem (get_or (column n 8 s₀) k 0) (column n 8 s₀)
  there = at_mem (column n 8 s₀) k 0 inside

  pub place_inside : place_of (get_or s (8 * n + k) 0) < n
  place_inside = rw word-is (v.words.inside (get_or (column n 8 s₀) k 0) there)

  handing_room : 9 * n ≤ length s
  handing_room = omega (arith, v.len, v.room)

  slot_is : slot_of k slot last (group_of (get_or (column n 8 s₀) k 0)) ≡ index (map group_of (column n 8 s₀)) (group_of (get_or (column n 8 s₀) k 0))
  slot_is =
      let W = column n 8 s₀ in
      let G = map group_of W in
      let long : k < length G = omega (arith, length-map W group_of, inside) in
      let group : (i : ℕ) → i < length W → get_or G i 0 ≡ group_of (get_or W i 0) = λ i b. get_d_map group_of W i 0 0 b in
      subst (λ (g : ℕ). slot_of k slot last g ≡ index G g) (group k inside)
      (slot_first G k slot last (groups_sorted W v.words.sorted) long v.none (λ b. v.before b ∙ sym (group (k - 1) (omega (arith, inside)))) v.own)

  pub handing_next : (next : ℕ) → next ≡ slot_of k slot last (group_of (get_or s (8 * n + k) 0))
      → Handing n s₀ (set s (7 * n + place_of (get_or s (8 * n + k) 0)) next) next (group_of (get_or s (8 * n + k) 0)) (k + 1)
  handing_next next e =
      let W = column n 8 s₀ in
      let G = map group_of W in
      let at = 7 * n + place_of (get_or s (8 * n + k) 0) in
      let is : next ≡ index G (group_of (get_or W k 0)) = e ∙ ap (λ (w : ℕ). slot_of k slot last (group_of w)) word-is ∙ slot_is in
      let p = place_inside in
      record {
        room = v.room;
        words = v.words;
        small = omega arith;
        len = length-set s at next ∙ v.len;
        none = λ z. absurd (omega arith);
        before = λ b. let z : k ≡ k + 1 - 1 = omega arith in ap group_of (word-is ∙ ap (λ (i : ℕ). get_or W i 0) z);
        own = λ b. is ∙ ap (λ (w : ℕ). index G (group_of w)) (sym word-is);
        front = take-set-le (7 * n) s at next (omega arith) ∙ v.front;
        slots = below_more (λ (i : ℕ). get_or (set s at next) (7 * n + place_of (get_or W i 0)) 0 ≡ index G (group_of (get_or W i 0))) k (λ i b. earlier next is i b) (own_slot next is);
        behind = drop-set-lt (8 * n) s at next (omega arith) ∙ v.behind;
      }
    where
      own_slot : (next : ℕ) → next ≡ index (map group_of (column n 8 s₀)) (group_of (get_or (column n 8 s₀) k 0))
          → get_or (set s (7 * n + place_of (get_or s (8 * n + k) 0)) next) (7 * n + place_of (get_or (column n 8 s₀) k 0)) 0 ≡ index (map group_of (column n 8 s₀)) (group_of (get_or (column n 8 s₀) k 0))
      own_slot next is =
          ap (λ (w : ℕ). get_or (set s (7 * n + place_of w) next) (7 * n + place_of (get_or (column n 8 s₀) k 0)) 0) word-is
          ∙ get_or-set_same s (7 * n + place_of (get_or (column n 8 s₀) k 0)) next 0 (omega (arith, v.words.inside (get_or (column n 8 s₀) k 0) there, handing_room))
          ∙ is

      -- a word of the same segment would be the same word
      earlier : (next : ℕ) → next ≡ index (map group_of (column n 8 s₀)) (group_of (get_or (column n 8 s₀) k 0)) → (i : ℕ) → i < k
          → get_or (set s (7 * n + place_of (get_or s (8 * n + k) 0)) next) (7 * n + place_of (get_or (column n 8 s₀) i 0)) 0 ≡ index (map group_of (column n 8 s₀)) (group_of (get_or (column n 8 s₀) i 0))
      earlier next is i b =
          let W = column n 8 s₀ in
          elim (same_or_not (place_of (get_or W i 0)) (place_of (get_or W k 0))) [
            | inl q ↦ subst (λ (w : ℕ). get_or (set s (7 * n + place_of (get_or s (8 * n + k) 0)) next) (7 * n + place_of w) 0 ≡ index (map group_of W) (group_of w))
                (v.words.one (get_or W k 0) (get_or W i 0) there (at_mem W i 0 (omega (arith, inside))) (sym q)) (own_slot next is)
            | inr q ↦ ap (λ (w : ℕ). get_or (set s (7 * n + place_of w) next) (7 * n + place_of (get_or W i 0)) 0) word-is
                ∙ get_or-set_other s (7 * n + place_of (get_or W k 0)) (7 * n + place_of (get_or W i 0)) next 0 (λ z. q (omega arith))
                ∙ v.slots i b
          ]

pub handing_end : (n : ℕ) (s₀ s : List ℕ) (slot last k : ℕ) → Handing n s₀ s slot last k → n ≤ k → SlotsPut n s₀ s
handing_end n s₀ s slot last k v h = record {
  front = v.front;
  slots = λ w m.
      let W = column n 8 s₀ in
      let g = mem_at w W 0 m in
      let b : g.0 < k = omega (arith, g.1, column-length n 8 s₀ (omega (arith, v.room))) in
      subst (λ (x : ℕ). get_or s (7 * n + place_of x) 0 ≡ index (map group_of W) (group_of x)) (sym g.2) (v.slots g.0 b);
  behind = v.behind;
}

-- ---- the whole: a is s with its words, p is the part that was lent to the sort, b is a with the words in order, and e has the slots
words-sorted : (k l : List ℕ) → Sorted (before k 0) l → Sorted leb l
unfolding before
words-sorted k [] s = tt
words-sorted k (x ∷ l) s = (λ y m. le-leb x y (first_word x y [] [] (s.0 y m)), words-sorted k l s.1)

-- the line and the net of segment j in one number
abbrev pair : List ℕ → ℕ → ℕ → ℕ
pair s n j = get_or s (4 * n + j) 0 * 2 ^ 32 + get_or s (5 * n + j) 0

word-place : (line net j : ℕ) → Fitting line net → j < 4096 → place_of (line * 2 ^ 44 + net * 2 ^ 12 + j) ≡ j
word-place line net j f h = omega arith

word_group : (line net j : ℕ) → Fitting line net → j < 4096 → group_of (line * 2 ^ 44 + net * 2 ^ 12 + j) ≡ line * 2 ^ 32 + net
word_group line net j f h = omega arith

pair_parts : (a b c d : ℕ) → Fitting a b → Fitting c d → a * 2 ^ 32 + b ≡ c * 2 ^ 32 + d → (a ≡ c) × (b ≡ d)
pair_parts a b c d f g e = let q : a ≡ c = omega (arith, f.small, g.small) in (q, omega arith)

module _ (n : ℕ) (s a p : List ℕ) (g : Slottable n s) (len : length a ≡ length s) (f : WordsFilled n s a) (is : p ≡ sorted (mid_of (8 * n) (length a - 8 * n) a) n n 0) where
  abbrev b : List ℕ
  b = put_mid (8 * n) (length a - 8 * n) a p

  room : 8 * n + n ≤ length a
  room = omega (arith, g.room)

  fits : sortable (drop (8 * n) a) n n 0 ≡ true
  fits = sym (no_rows (drop (8 * n) a) n n 0 (omega arith) (simp length-drop (omega (arith, room))) refl)

  b-is : b ≡ take (8 * n) a ++ sorted (drop (8 * n) a) n n 0
  b-is = tail_back (8 * n) a p (omega (arith, room)) ∙ ap (λ (l : List ℕ). take (8 * n) a ++ l) (is ∙ ap (λ (l : List ℕ). sorted l n n 0) (tail_lent (8 * n) a))

  front_long : length (take (8 * n) a) ≡ 8 * n
  front_long = length-take-le (8 * n) a (omega (arith, room))

  b-front : take (8 * n) b ≡ take (8 * n) a
  b-front = ap (take (8 * n)) b-is ∙ take_at (take (8 * n) a) (sorted (drop (8 * n) a) n n 0) (8 * n) front_long

  b_rest : drop (8 * n) b ≡ sorted (drop (8 * n) a) n n 0
  b_rest = ap (drop (8 * n)) b-is ∙ drop_at (take (8 * n) a) (sorted (drop (8 * n) a) n n 0) (8 * n) front_long

  b-behind : drop (9 * n) b ≡ drop (9 * n) a
  b-behind =
      let e : 9 * n ≡ 8 * n + n = omega arith in
      ap (λ (k : ℕ). drop k b) e ∙ sym (drop-drop n (8 * n) b) ∙ ap (drop n) b_rest ∙ sorted_rest (drop (8 * n) a) n n 0 fits ∙ drop-drop n (8 * n) a ∙ ap (λ (k : ℕ). drop k a) (sym e)

  b-perm : Perm (column n 8 b) (column n 8 a)
  b-perm = subst (λ (l : List ℕ). Perm (take n l) (column n 8 a)) (sym b_rest) (sorted-perm (drop (8 * n) a) n n 0 fits)

  -- the words that are sorted are those of the segments
  word_at : (j : ℕ) → j < n → get_or (column n 8 a) j 0 ≡ slot_word s n j
  word_at j h = column-at n 8 a j h ∙ f.words j h

  mem_word : (w : ℕ) → Mem w (column n 8 b) → (j : ℕ) × (j < n) × (w ≡ slot_word s n j)
  mem_word w m =
      let x = mem_at w (column n 8 a) 0 (perm_mem w b-perm m) in
      let h : x.0 < n = omega (arith, x.1, column-length n 8 a room) in
      (x.0, h, x.2 ∙ word_at x.0 h)

  word_mem : (j : ℕ) → j < n → Mem (slot_word s n j) (column n 8 b)
  word_mem j h = perm_mem (slot_word s n j) (perm_sym b-perm) (subst (λ (w : ℕ). Mem w (column n 8 a)) (word_at j h) (at_mem (column n 8 a) j 0 (omega (arith, column-length n 8 a room))))

  place_is : (j : ℕ) → j < n → place_of (slot_word s n j) ≡ j
  place_is j h = word-place (get_or s (4 * n + j) 0) (get_or s (5 * n + j) 0) j (fitting n s g j h) (omega (arith, g.few))

  group_is : (j : ℕ) → j < n → group_of (slot_word s n j) ≡ pair s n j
  group_is j h = word_group (get_or s (4 * n + j) 0) (get_or s (5 * n + j) 0) j (fitting n s g j h) (omega (arith, g.few))

  b-sorted : Sorted leb (column n 8 b)
  b-sorted =
      let t = drop (8 * n) a in
      subst (Sorted leb) (sym (ap (take n) b_rest ∙ sorted-column t n n 0 fits)) (words-sorted (drop n t) (sort_by (before (drop n t) 0) (take n t)) (sort_sorted (before (drop n t) 0) (before-order (drop n t) 0) (take n t)))

  b-long : length b ≡ length a
  b-long = ap length b-is ∙ length-append (take (8 * n) a) (sorted (drop (8 * n) a) n n 0) ∙ omega (arith, sorted-length (drop (8 * n) a) n n 0, length-drop (8 * n) a, front_long, room)

  pub words-in_order : (9 * n ≤ length (put_mid (8 * n) (length a - 8 * n) a p)) × WordsInOrder n (column n 8 (put_mid (8 * n) (length a - 8 * n) a p))
  words-in_order = (
    omega (arith, b-long, room),
    record {
      sorted = b-sorted;
      inside = λ w m. let x = mem_word w m in omega (arith, ap place_of x.2 ∙ place_is x.0 x.1, x.1);
      one = λ v w k m.
          let x = mem_word v k in
          let y = mem_word w m in
          λ q.
          let e : x.0 ≡ y.0 = sym (ap place_of x.2 ∙ place_is x.0 x.1) ∙ q ∙ ap place_of y.2 ∙ place_is y.0 y.1 in
          x.2 ∙ ap (slot_word s n) e ∙ sym y.2;
    },
  )

  module _ (e : List ℕ) (h : SlotsPut n (put_mid (8 * n) (length a - 8 * n) a p) e) where
    front : take (7 * n) e ≡ take (7 * n) s
    front = h.front ∙ fewer b a b-front ∙ fewer a s f.front
      where
        fewer : (l r : List ℕ) → take (8 * n) l ≡ take (8 * n) r → take (7 * n) l ≡ take (7 * n) r
        fewer l r q = sym (take-take (7 * n) (8 * n) l (omega arith)) ∙ ap (take (7 * n)) q ∙ take-take (7 * n) (8 * n) r (omega arith)

    line_same : (j : ℕ) → j < n → get_or e (4 * n + j) 0 ≡ get_or s (4 * n + j) 0
    line_same j q = front_same (7 * n) e s front (4 * n + j) (omega arith)

    net-same : (j : ℕ) → j < n → get_or e (5 * n + j) 0 ≡ get_or s (5 * n + j) 0
    net-same j q = front_same (7 * n) e s front (5 * n + j) (omega arith)

    slot-of : (j : ℕ) → j < n → get_or e (7 * n + j) 0 ≡ index (map group_of (column n 8 b)) (pair s n j)
    slot-of j q = ap (λ (k : ℕ). get_or e (7 * n + k) 0) (sym (place_is j q)) ∙ h.slots (slot_word s n j) (word_mem j q) ∙ ap (index (map group_of (column n 8 b))) (group_is j q)

    pair_mem : (j : ℕ) → j < n → Mem (pair s n j) (map group_of (column n 8 b))
    pair_mem j q = subst (λ (w : ℕ). Mem w (map group_of (column n 8 b))) (group_is j q) (map_mem group_of (column n 8 b) (slot_word s n j) (word_mem j q))

    -- the value at the slot is the line and the net
    pair_back : (j : ℕ) → j < n → get_or (map group_of (column n 8 b)) (get_or e (7 * n + j) 0) 0 ≡ pair s n j
    pair_back j q = ap (λ (k : ℕ). get_or (map group_of (column n 8 b)) k 0) (slot-of j q) ∙ index-value (map group_of (column n 8 b)) (pair s n j) (groups_sorted (column n 8 b) b-sorted) (pair_mem j q)

    pub slots_assigned : SlotsAssigned n s e
    slots_assigned = record {
      front = front;
      slots = record {
        inside = λ j q. omega (arith, slot-of j q, index-lt (map group_of (column n 8 b)) (pair s n j) (pair_mem j q), length-map (column n 8 b) group_of, column-length n 8 b (omega (arith, b-long, room)));
        apart = λ i j x y q.
            let same : pair s n i ≡ pair s n j = sym (pair_back i x) ∙ ap (λ (k : ℕ). get_or (map group_of (column n 8 b)) k 0) q ∙ pair_back j y in
            let r = pair_parts (get_or s (4 * n + i) 0) (get_or s (5 * n + i) 0) (get_or s (4 * n + j) 0) (get_or s (5 * n + j) 0) (fitting n s g i x) (fitting n s g j y) same in
            (line_same i x ∙ r.0 ∙ sym (line_same j y), net-same i x ∙ r.1 ∙ sym (net-same j y));
        alike = λ i j x y q r.
            let l : get_or s (4 * n + i) 0 ≡ get_or s (4 * n + j) 0 = sym (line_same i x) ∙ q ∙ line_same j y in
            let m : get_or s (5 * n + i) 0 ≡ get_or s (5 * n + j) 0 = sym (net-same i x) ∙ r ∙ net-same j y in
            slot-of i x ∙ (λ t. index (map group_of (column n 8 b)) (l t * 2 ^ 32 + m t)) ∙ sym (slot-of j y);
      };
      behind = drop_past (8 * n) (9 * n) e b h.behind (omega arith) ∙ b-behind ∙ f.behind;
    }

-- the slots of the rows, whose line numbers and nets the columns hold
pub slots-of-rows : (l : List Row) (e : List ℕ) → column (length l) 4 e ≡ map (λ r. index (lines l) r.line) l → column (length l) 5 e ≡ map (λ r. r.net) l
    → Slots (length l) (λ j. get_or e (4 * length l + j) 0) (λ j. get_or e (5 * length l + j) 0) (λ j. get_or e (7 * length l + j) 0)
    → Slots (length l) (λ j. index (lines l) (row_from l j).line) (λ j. (row_from l j).net) (λ j. get_or e (7 * length l + j) 0)
slots-of-rows l e p q t = record {
  inside = t.inside;
  apart = λ i j x y z. let g = t.apart i j x y z in (sym (line i x) ∙ g.0 ∙ line j y, sym (net i x) ∙ g.1 ∙ net j y);
  alike = λ i j x y a b. t.alike i j x y (line i x ∙ a ∙ sym (line j y)) (net i x ∙ b ∙ sym (net j y));
}
  where
    line : (j : ℕ) → j < length l → get_or e (4 * length l + j) 0 ≡ index (lines l) (row_from l j).line
    line j h = row_word l 4 j e (λ r. index (lines l) r.line) p h

    net : (j : ℕ) → j < length l → get_or e (5 * length l + j) 0 ≡ (row_from l j).net
    net j h = row_word l 5 j e (λ r. r.net) q h
