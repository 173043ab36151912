-- The lines of keys in order, numbered in one pass. Assumes nothing.
use mathlib.Core.Path.{◌≡◌, refl, sym, ap, ◌∙◌, subst}
use mathlib.Core.Logic.{inl, inr}
use mathlib.Core.Bool.{Bool, true, false, not}
use mathlib.Core.List.{List, [], ◌∷◌, ◌++◌, map}
use Prim.Native.Nat.{ℕ, zero, suc, ◌+◌, ◌-◌, ◌*◌, ◌≤◌, ◌<◌}
use native.Mathlib.Numerals.{add-one}
use native.Mathlib.Omega.{arith}
use borrow.Author.Count.{below_more}
use borrow.Author.Tests.{lt-ltb, le-ltb, eq-eqb, ne_eqb, eqb-true}
use lib.Dec.{eqb}
use lib.ListN.{length, get_or, take, drop, set, length-append, length-set, length-drop, length-map}
use lib.Seq.{take-suc, take-suc-set, take-take, take_all, split_at, append_snoc, drop-set-lt, drop-set-add, take-set-le, get_or-set_same, get_or-set_other, ext_get_or}
use Rattle.laws.specs.Lists.{All, put}
use Rattle.laws.specs.Inner.Sort.{Sorted}
use Rattle.laws.specs.Different.{differs, distinct}
use Rattle.laws.proofs.Tests.{same_or_not}
use Rattle.laws.proofs.ListLaws.{mem_all, mem_map, append_right}
use Rattle.laws.proofs.Differents.{distinct-few}
use Rattle.rows.specs.Rows.{Row, rows_in_order}
use Rattle.rows.specs.Inner.Tables.{no_row, column}
use Rattle.rows.proofs.ColumnParts.{get_d_map, column-length, column-at, column-set}
use Rattle.separation.specs.Lines.{lines, index}
use Rattle.separation.proofs.Lines.{Rising, lines-rising, line_mem, index-lt}
use Rattle.separation_call.specs.Inner.Numbered.{line_of, Numbered, LinesNumbered}

-- ---- the different keys, up to a key
-- the keys of the lines before that of x, where the keys p come before x
pub firsts : List ℕ → ℕ → List ℕ
firsts [] x = []
firsts (y ∷ p) x = put (differs y (p ++ x ∷ [])) y (firsts p x)

-- they do not depend on what comes after x
distinct_split : (p : List ℕ) (x : ℕ) (t : List ℕ) → distinct (p ++ x ∷ t) ≡ firsts p x ++ distinct (x ∷ t)
unfolding distinct firsts
distinct_split [] x t = refl
distinct_split (y ∷ p) x t = (λ i. put (next p i) y (distinct_split p x t i)) ∙ joined (differs y (p ++ x ∷ []))
  where
    next : (p : List ℕ) → differs y (p ++ x ∷ t) ≡ differs y (p ++ x ∷ [])
    next [] = refl
    next (z ∷ p) = refl

    joined : (b : Bool) → put b y (firsts p x ++ distinct (x ∷ t)) ≡ put b y (firsts p x) ++ distinct (x ∷ t)
    joined true = refl
    joined false = refl

distinct-one : (x : ℕ) → distinct (x ∷ []) ≡ x ∷ []
unfolding distinct
distinct-one x = refl

distinct-end : (p : List ℕ) (x : ℕ) → distinct (p ++ x ∷ []) ≡ firsts p x ++ (x ∷ [])
distinct-end p x = distinct_split p x [] ∙ ap (λ (l : List ℕ). firsts p x ++ l) (distinct-one x)

distinct_head : (x : ℕ) (t : List ℕ) → (r : List ℕ) × (distinct (x ∷ t) ≡ x ∷ r)
unfolding distinct
distinct_head x [] = ([], refl)
distinct_head x (y ∷ t) = go (eqb x y) refl (distinct_head y t)
  where
    go : (b : Bool) → eqb x y ≡ b → (r : List ℕ) × (distinct (y ∷ t) ≡ y ∷ r) → (r : List ℕ) × (put (not b) x (distinct (y ∷ t)) ≡ x ∷ r)
    go true e g = (g.0, g.1 ∙ ap (λ (z : ℕ). z ∷ g.0) (sym (eqb-true x y e)))
    go false e g = (distinct (y ∷ t), refl)

-- they are the first ones of those of p
firsts_in : (p : List ℕ) (x : ℕ) → take (length (firsts p x)) (distinct p) ≡ firsts p x
unfolding distinct firsts
firsts_in [] x = refl
firsts_in (y ∷ []) x = one (differs y (x ∷ []))
  where
    one : (b : Bool) → take (length (put b y [])) (y ∷ []) ≡ put b y []
    one true = refl
    one false = refl
firsts_in (y ∷ z ∷ p) x = more (differs y (z ∷ p)) (firsts_in (z ∷ p) x)
  where
    more : (b : Bool) → take (length (firsts (z ∷ p) x)) (distinct (z ∷ p)) ≡ firsts (z ∷ p) x → take (length (put b y (firsts (z ∷ p) x))) (put b y (distinct (z ∷ p))) ≡ put b y (firsts (z ∷ p) x)
    more true h = ap (λ (l : List ℕ). y ∷ l) h
    more false h = h

-- ---- the number of a key's line
pub line-none : (m last key : ℕ) → m ≡ 0 → line_of m last key ≡ 0
unfolding line_of
line-none m last key e = rw (eq-eqb m 0 e)

pub line_same : (m last key : ℕ) → (m ≡ 0 → ⊥) → key ≡ last → line_of m last key ≡ m - 1
unfolding line_of
line_same m last key n e = rw (ne_eqb m 0 n, eq-eqb key last e)

pub line_other : (m last key : ℕ) → (m ≡ 0 → ⊥) → (key ≡ last → ⊥) → line_of m last key ≡ m
unfolding line_of
line_other m last key n d = rw (ne_eqb m 0 n, ne_eqb key last d)

two-same : (x k : ℕ) → k ≡ x → length (distinct (x ∷ k ∷ [])) ≡ 1
unfolding distinct
two-same x k e = rw (eq-eqb x k (sym e))

two-other : (x k : ℕ) → (k ≡ x → ⊥) → length (distinct (x ∷ k ∷ [])) ≡ 2
unfolding distinct
two-other x k n = rw (ne_eqb x k (λ e. n (sym e)))

line-two : (p : List ℕ) (x k : ℕ) → line_of (length (distinct (p ++ x ∷ []))) x k ≡ length (firsts (p ++ x ∷ []) k)
line-two p x k =
    let one : length (distinct (p ++ x ∷ [])) ≡ length (firsts p x) + 1 = ap length (distinct-end p x) ∙ length-append (firsts p x) (x ∷ []) in
    let two : length (distinct ((p ++ (x ∷ [])) ++ k ∷ [])) ≡ length (firsts (p ++ x ∷ []) k) + 1 = ap length (distinct-end (p ++ x ∷ []) k) ∙ length-append (firsts (p ++ x ∷ []) k) (k ∷ []) in
    let both : length (distinct ((p ++ (x ∷ [])) ++ k ∷ [])) ≡ length (firsts p x) + length (distinct (x ∷ k ∷ [])) = ap (λ (l : List ℕ). length (distinct l)) (append_snoc p x (k ∷ [])) ∙ ap length (distinct_split p x (k ∷ [])) ∙ length-append (firsts p x) (distinct (x ∷ k ∷ [])) in
    elim (same_or_not k x) [
      | inl e ↦ line_same (length (distinct (p ++ x ∷ []))) x k (λ z. omega arith) e ∙ omega (arith, two-same x k e)
      | inr n ↦ line_other (length (distinct (p ++ x ∷ []))) x k (λ z. omega arith) n ∙ omega (arith, two-other x k n)
    ]

-- the number that the pass gives to the key at j
line_next : (K : List ℕ) (j last : ℕ) → j < length K → (0 < j → last ≡ get_or K (j - 1) 0) → line_of (length (distinct (take j K))) last (get_or K j 0) ≡ length (firsts (take j K) (get_or K j 0))
unfolding distinct firsts
line_next K zero last h e = line-none _ last (get_or K 0 0) refl
line_next K (suc j) last h e =
    let one : suc j - 1 ≡ j = omega arith in
    let x : last ≡ get_or K j 0 = e (omega arith) ∙ ap (λ (i : ℕ). get_or K i 0) one in
    rw (x, take-suc K j 0 (omega arith)) (line-two (take j K) (get_or K j 0) (get_or K (suc j) 0))

-- it is the index of the key among all of them, where they rise
index-behind : (q : List ℕ) (x : ℕ) (r : List ℕ) → Rising (q ++ x ∷ r) → index (q ++ x ∷ r) x ≡ length q
unfolding index
index-behind [] x r h = rw (le-ltb x x (omega arith))
index-behind (y ∷ q) x r h = rw (lt-ltb y x (h.0 x (append_right x q (x ∷ r) (inl refl)))) (ap suc (index-behind q x r h.1))

number_is : (K : List ℕ) (i : ℕ) → Rising (distinct K) → i < length K → index (distinct K) (get_or K i 0) ≡ length (firsts (take i K) (get_or K i 0))
number_is K i h b =
    let x = get_or K i 0 in
    let g = distinct_head x (drop (suc i) K) in
    let e : distinct K ≡ firsts (take i K) x ++ x ∷ g.0 = ap distinct (split_at K i 0 b) ∙ distinct_split (take i K) x (drop (suc i) K) ∙ ap (λ (l : List ℕ). firsts (take i K) x ++ l) g.1 in
    ap (λ (l : List ℕ). index l x) e ∙ index-behind (firsts (take i K) x) x g.0 (subst Rising e h)

-- ---- how many lines there are
pub lines-few : (l : List Row) → length (lines l) ≤ length l
unfolding lines
lines-few l = omega (arith, distinct-few (map (λ (r : Row). r.line) l), length-map l (λ (r : Row). r.line))

pub lines-some : (l : List Row) → 1 ≤ length l → 1 ≤ length (lines l)
unfolding lines
lines-some [] h = absurd (omega arith)
lines-some (r ∷ l) h = omega (arith, ap length (distinct_head r.line (map (λ (t : Row). t.line) l)).1)

-- the number of a row's line is below the number of rows
pub places-below : (l : List Row) → All (λ i. i < length l) (map (λ r. index (lines l) r.line) l)
places-below l = mem_all (λ (i : ℕ). i < length l) (map (λ (r : Row). index (lines l) r.line) l) (λ i m.
    let g = mem_map (λ (r : Row). index (lines l) r.line) l i m in
    omega (arith, g.2, index-lt (lines l) g.0.line (line_mem g.0 l g.1), lines-few l))

-- ---- the pass
-- j keys of column 4 have their numbers, and the keys of their m lines are in column 6
pub record Numbering (n : ℕ) (s₀ s : List ℕ) (m last j : ℕ) : Type 0 where
  pub room : 7 * n ≤ length s₀
  pub small : j ≤ n
  pub len : length s ≡ length s₀
  pub few : m ≤ j
  pub many : m ≡ length (distinct (take j (column n 4 s₀)))
  pub before : 0 < j → last ≡ get_or (column n 4 s₀) (j - 1) 0
  pub done : (i : ℕ) → i < j → get_or s (4 * n + i) 0 ≡ length (firsts (take i (column n 4 s₀)) (get_or (column n 4 s₀) i 0))
  pub left : (i : ℕ) → j ≤ i → i < n → get_or s (4 * n + i) 0 ≡ get_or (column n 4 s₀) i 0
  pub keys : take m (drop (6 * n) s) ≡ distinct (take j (column n 4 s₀))
  pub front : take (4 * n) s ≡ take (4 * n) s₀
  pub nets : column n 5 s ≡ column n 5 s₀
  pub behind : drop (7 * n) s ≡ drop (7 * n) s₀

pub numbering_start : (n : ℕ) (s : List ℕ) → 7 * n ≤ length s → Numbering n s s 0 0 0
unfolding distinct
numbering_start n s h = record {
  room = h;
  small = omega arith;
  len = refl;
  few = omega arith;
  many = refl;
  before = λ b. absurd (omega arith);
  done = λ i b. absurd (omega arith);
  left = λ i a b. sym (column-at n 4 s i b);
  keys = refl;
  front = refl;
  nets = refl;
  behind = refl;
}

-- a line's number is at most the number of lines before it
line_small : (m last key : ℕ) → line_of m last key ≤ m
line_small m last key = elim (same_or_not m 0) [
  | inl e ↦ omega (arith, line-none m last key e)
  | inr n ↦ elim (same_or_not key last) [
    | inl e ↦ omega (arith, line_same m last key n e)
    | inr d ↦ omega (arith, line_other m last key n d)
  ]
]

-- the key at j and its line
module _ (n : ℕ) (s₀ s : List ℕ) (m last j line : ℕ) (v : Numbering n s₀ s m last j) (h : j < n) (is : line ≡ line_of m last (get_or s (4 * n + j) 0)) where
  inside : j < length (column n 4 s₀)
  inside = omega (arith, column-length n 4 s₀ (omega (arith, v.room)))

  key-is : get_or s (4 * n + j) 0 ≡ get_or (column n 4 s₀) j 0
  key-is = v.left j (omega arith) h

  line-is : line ≡ length (firsts (take j (column n 4 s₀)) (get_or (column n 4 s₀) j 0))
  line-is = is ∙ rw (key-is, v.many) (line_next (column n 4 s₀) j last inside v.before)

  pub line_low : line ≤ m
  line_low = omega (arith, line_small m last (get_or s (4 * n + j) 0))

  keys_next : distinct (take (j + 1) (column n 4 s₀)) ≡ firsts (take j (column n 4 s₀)) (get_or (column n 4 s₀) j 0) ++ (get_or (column n 4 s₀) j 0 ∷ [])
  keys_next = rw (add-one j, take-suc (column n 4 s₀) j 0 inside) (distinct-end (take j (column n 4 s₀)) (get_or (column n 4 s₀) j 0))

  keys_stored : take (line + 1) (set (drop (6 * n) s) line (get_or s (4 * n + j) 0)) ≡ distinct (take (j + 1) (column n 4 s₀))
  keys_stored =
      let K = column n 4 s₀ in
      let room : line < length (drop (6 * n) s) = omega (arith, length-drop (6 * n) s, line_low, v.len, v.room, v.few) in
      let low : take line (drop (6 * n) s) ≡ firsts (take j K) (get_or K j 0) =
      sym (take-take line m (drop (6 * n) s) line_low) ∙ ap (take line) v.keys ∙ ap (λ (z : ℕ). take z (distinct (take j K))) line-is ∙ firsts_in (take j K) (get_or K j 0) in
      ap (λ (z : ℕ). take z (set (drop (6 * n) s) line (get_or s (4 * n + j) 0))) (add-one line)
      ∙ take-suc-set (drop (6 * n) s) line (get_or s (4 * n + j) 0) room
      ∙ (λ i. low i ++ (key-is i ∷ []))
      ∙ sym keys_next

  pub numbering_next : Numbering n s₀ (set (set s (6 * n + line) (get_or s (4 * n + j) 0)) (4 * n + j) line) (line + 1) (get_or s (4 * n + j) 0) (j + 1)
  numbering_next =
      let K = column n 4 s₀ in
      let key = get_or s (4 * n + j) 0 in
      let u = set s (6 * n + line) key in
      let len : length u ≡ length s₀ = length-set s (6 * n + line) key ∙ v.len in
      record {
        room = v.room;
        small = omega arith;
        len = length-set u (4 * n + j) line ∙ len;
        few = omega (arith, line_low, v.few);
        many = ap (λ (z : ℕ). z + 1) line-is ∙ sym (ap length keys_next ∙ length-append (firsts (take j K) (get_or K j 0)) (get_or K j 0 ∷ []));
        before = λ b. let e : j ≡ j + 1 - 1 = omega arith in key-is ∙ ap (λ (i : ℕ). get_or K i 0) e;
        done = below_more (λ (i : ℕ). get_or (set u (4 * n + j) line) (4 * n + i) 0 ≡ length (firsts (take i K) (get_or K i 0))) j
            (λ i b. get_or-set_other u (4 * n + j) (4 * n + i) line 0 (λ q. omega arith) ∙ get_or-set_other s (6 * n + line) (4 * n + i) key 0 (λ q. omega arith) ∙ v.done i b)
            (get_or-set_same u (4 * n + j) line 0 (omega (arith, v.room)) ∙ line-is);
        left = λ i a b. get_or-set_other u (4 * n + j) (4 * n + i) line 0 (λ q. omega arith) ∙ get_or-set_other s (6 * n + line) (4 * n + i) key 0 (λ q. omega arith) ∙ v.left i (omega arith) b;
        keys = ap (take (line + 1)) (drop-set-lt (6 * n) u (4 * n + j) line (omega arith) ∙ drop-set-add (6 * n) s line key) ∙ keys_stored;
        front = take-set-le (4 * n) u (4 * n + j) line (omega arith) ∙ take-set-le (4 * n) s (6 * n + line) key (omega arith) ∙ v.front;
        nets = column-set n 5 u (4 * n + j) line (inl (omega arith)) ∙ column-set n 5 s (6 * n + line) key (inr (omega arith)) ∙ v.nets;
        behind = drop-set-lt (7 * n) u (4 * n + j) line (omega arith) ∙ drop-set-lt (7 * n) s (6 * n + line) key (omega (arith, line_low, v.few)) ∙ v.behind;
      }

numbering_rows : (l : List Row) (s₀ s : List ℕ) (m last j : ℕ) → Numbering (length l) s₀ s m last j → length l ≤ j → Sorted rows_in_order l → column (length l) 4 s₀ ≡ map (λ (r : Row). r.line) l → Numbered l s m
unfolding lines
numbering_rows l s₀ s m last j v b o k =
    let n = length l in
    let K = column n 4 s₀ in
    let long : length K ≡ n = column-length n 4 s₀ (omega (arith, v.room)) in
    let whole : distinct K ≡ lines l = ap distinct k in
    let all : distinct (take j K) ≡ lines l = ap distinct (take_all j K (omega arith)) ∙ whole in
    let many : m ≡ length (lines l) = v.many ∙ ap length all in
    record {
      many_is = many;
      fixed = take-take (length (lines l)) n (drop (6 * n) s) (lines-few l) ∙ ap (λ (z : ℕ). take z (drop (6 * n) s)) (sym many) ∙ v.keys ∙ all;
      places = ext_get_or 0 (column n 4 s) (map (λ (r : Row). index (lines l) r.line) l) (column-length n 4 s (omega (arith, v.room, v.len)) ∙ sym (length-map l (λ (r : Row). index (lines l) r.line))) (λ i h.
          let c = column-length n 4 s (omega (arith, v.room, v.len)) in
          let q : i < n = omega arith in
          let key : get_or K i 0 ≡ (get_or l i no_row).line = ap (λ (t : List ℕ). get_or t i 0) k ∙ get_d_map (λ (r : Row). r.line) l i no_row 0 q in
          column-at n 4 s i q
          ∙ v.done i (omega arith)
          ∙ sym (number_is K i (subst Rising (sym whole) (lines-rising l o)) (omega arith))
          ∙ (λ t. index (whole t) (key t))
          ∙ sym (get_d_map (λ (r : Row). index (lines l) r.line) l i no_row 0 q));
    }

pub numbering_end : (n : ℕ) (s₀ s : List ℕ) (m last j : ℕ) → Numbering n s₀ s m last j → n ≤ j → LinesNumbered n s₀ s m
numbering_end n s₀ s m last j v h = record {
  few = omega (arith, v.few, v.small);
  numbered = λ l e o k. numbering_rows l s₀ s m last j (subst (λ (z : ℕ). Numbering z s₀ s m last j) (sym e) v) (omega arith) o (subst (λ (z : ℕ). column z 4 s₀ ≡ map (λ (r : Row). r.line) l) (sym e) k);
  front = v.front;
  nets = v.nets;
  behind = v.behind;
}
