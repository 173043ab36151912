-- The different fixed values rise, each at its index; and what it means that another net is active on a range of them. Assumes nothing.
use mathlib.Core.Path.{◌≡◌, sym, ap, ◌∙◌}
use mathlib.Core.Logic.{◌⊎◌, inl, inr}
use mathlib.Core.List.{List, [], ◌∷◌, map}
use mathlib.Core.Bool.{true, not, ◌&&◌, ◌||◌}
use Prim.Native.Nat.{ℕ, suc, ◌-◌, ◌+◌, ◌*◌, ◌^◌, ◌≤◌, ◌<◌}
use native.Mathlib.Nat.{le_refl, le_antisymm, pow-succ'}
use native.Mathlib.Omega.{arith}
use borrow.Author.Tests.{lt-ltb, le-ltb, ltb-true, leb-true, le-leb, eqb-false, ne_eqb, not-true}
use lib.Dec.{ltb, leb, eqb}
use lib.ListN.{length, get_or}
use lib.Ieee.Digits.{size-lt, size-le}
use lib.Pow.{pow_pos, pow_mono}
use lib.Count.{count_leading_zeros, leading_length}
use lib.Ieee.{size}
use Rattle.laws.specs.Lists.{Mem, some_of, Pairwise}
use Rattle.laws.specs.Rows.{row_le}
use Rattle.laws.specs.Inner.Sort.{Sorted}
use Rattle.laws.proofs.Tests.{clash, and_left, and_right, and_both, le_or_lt, or_elim, or_left, or_right}
use Rattle.laws.proofs.ListLaws.{mem_map, map_mem, some_mem, mem_some}
use Rattle.laws.proofs.RowLaws.{row_more}
use Rattle.laws.proofs.Differents.{distinct_mem, mem_distinct, distinct-rising}
use Rattle.rows.specs.Rows.{Row, words, rows_in_order}
use Rattle.separation.specs.Lines.{lines, index, levels}
use Rattle.separation.specs.Searches.{other_in}
use Rattle.separation.proofs.Summaries.{other_than, both}

-- ---- the next power of two
pub levels-enough : (n : ℕ) → n ≤ 2 ^ levels n
unfolding levels
levels-enough n = omega (arith, size-lt (n - 1))

pub levels-least : (n k : ℕ) → n ≤ 2 ^ k → levels n ≤ k
unfolding levels
levels-least n k h = size-le (n - 1) k (omega (arith, pow_pos k))

-- SCOPE 15.4: "leading_zeros of count minus one gives levels"
pub levels-zeros : (n : ℕ) → n ≤ 2 ^ 64 → 64 - count_leading_zeros 64 (n - 1) ≡ levels n
unfolding levels
levels-zeros n h =
    let g = leading_length 64 (n - 1) (omega arith) in
    let low : size (n - 1) ≤ g.0 = size-le (n - 1) g.0 g.2 in
    let high : g.0 ≤ size (n - 1) = elim (le_or_lt g.0 (size (n - 1))) [ inl k ↦ k | inr k ↦ absurd (over (size (n - 1)) g.0 (n - 1) (pow-succ' 2 (size (n - 1))) (pow_mono k) (size-lt (n - 1)) g.3) ] in
    omega (arith, g.1)
  where
    over : (z m a : ℕ) → 2 ^ suc z ≡ 2 * 2 ^ z → 2 ^ suc z ≤ 2 ^ m → a < 2 ^ z → 2 ^ m ≤ 2 * a + 1 → ⊥
    over z m a e p q r = omega arith

-- ---- rows in order have first words in order
pub first_word : (x y : ℕ) (a b : List ℕ) → row_le (x ∷ a) (y ∷ b) ≡ true → x ≤ y
first_word x y a b e = elim (le_or_lt x y) [ inl h ↦ h | inr h ↦ clash (row_le (x ∷ a) (y ∷ b)) e (row_more x y a b h) ]

lines-in_order : (l : List Row) → Sorted rows_in_order l → Sorted leb (map (λ (r : Row). r.line) l)
unfolding words
lines-in_order [] s = tt
lines-in_order (r ∷ l) s = (λ p m. let g = mem_map (λ (t : Row). t.line) l p m in le-leb r.line p (rw g.2 (first_word r.line g.0.line _ _ (s.0 g.0 g.1))), lines-in_order l s.1)

-- ---- of values in order the different ones rise
abbrev pub Rising : List ℕ → Type 0
Rising l = Pairwise (λ q p. q < p) l

pub lines-rising : (l : List Row) → Sorted rows_in_order l → Rising (lines l)
unfolding lines
lines-rising l s = distinct-rising (map (λ (r : Row). r.line) l) (lines-in_order l s)

pub line_mem : (r : Row) (l : List Row) → Mem r l → Mem r.line (lines l)
unfolding lines
line_mem r l m = mem_distinct r.line (map (λ (t : Row). t.line) l) (map_mem (λ (t : Row). t.line) l r m)

pub line-of-row : (p : ℕ) (l : List Row) → Mem p (lines l) → (r : Row) × Mem r l × (p ≡ r.line)
unfolding lines
line-of-row p l m = mem_map (λ (t : Row). t.line) l p (distinct_mem p (map (λ (t : Row). t.line) l) m)

-- ---- the index of a value among rising ones
pub index-past : (q p : ℕ) (l : List ℕ) → q < p → index (q ∷ l) p ≡ suc (index l p)
unfolding index
index-past q p l h = rw (lt-ltb q p h)

pub index_here : (q p : ℕ) (l : List ℕ) → p ≤ q → index (q ∷ l) p ≡ 0
unfolding index
index_here q p l h = rw (le-ltb q p h)

later : (q p : ℕ) (l : List ℕ) → q < p → Mem p (q ∷ l) → Mem p l
later q p l h (inl e) = absurd (omega arith)
later q p l h (inr n) = n

first_one : (q p : ℕ) (l : List ℕ) → Rising (q ∷ l) → p ≤ q → Mem p (q ∷ l) → p ≡ q
first_one q p l r h (inl e) = e
first_one q p l r h (inr n) = absurd (omega (arith, r.0 p n))

pub index-lt : (ls : List ℕ) (p : ℕ) → Mem p ls → index ls p < length ls
index-lt [] p m = elim m [ ]
index-lt (q ∷ l) p m = elim (le_or_lt p q) [
  | inl h ↦ omega (arith, index_here q p l h)
  | inr h ↦ omega (arith, index-past q p l h, index-lt l p (later q p l h m))
]

pub at-index : (ls : List ℕ) (p : ℕ) → Rising ls → Mem p ls → get_or ls (index ls p) 0 ≡ p
at-index [] p r m = elim m [ ]
at-index (q ∷ l) p r m = elim (le_or_lt p q) [
  | inl h ↦ rw (index_here q p l h) (sym (first_one q p l r h m))
  | inr h ↦ rw (index-past q p l h) (at-index l p r.1 (later q p l h m))
]

-- a value below another one has an index below the other's
pub index_strict : (ls : List ℕ) (p t : ℕ) → Rising ls → Mem p ls → p < t → index ls p < index ls t
index_strict [] p t r m k = elim m [ ]
index_strict (q ∷ l) p t r m k = elim (le_or_lt p q) [
  | inl h ↦ let e = first_one q p l r h m in omega (arith, index_here q p l h, index-past q t l (omega arith))
  | inr h ↦ omega (arith, index-past q p l h, index-past q t l (omega arith), index_strict l p t r.1 (later q p l h m) k)
]

pub index_back : (ls : List ℕ) (p t : ℕ) → Rising ls → Mem t ls → index ls p ≤ index ls t → p ≤ t
index_back ls p t r m h = elim (le_or_lt p t) [ inl k ↦ k | inr k ↦ absurd (omega (arith, index_strict ls t p r m k)) ]

-- ---- another net on the lines from a up to b
module _ (ls : List ℕ) (active : List Row) (n : ℕ) where
  abbrev pub OtherAt : ℕ → ℕ → Row → Type 0
  OtherAt a b r = (r.net ≡ n → ⊥) × (a ≤ index ls r.line) × (index ls r.line < b)

  pub other→ : (a b : ℕ) → other_in ls active n a b ≡ true → (r : Row) × Mem r active × OtherAt a b r
  unfolding other_in
  other→ a b t =
      let g = some_mem (λ (r : Row). not (eqb r.net n) && (leb a (index ls r.line) && ltb (index ls r.line) b)) active t in
      let i = index ls g.0.line in
      let x = not (eqb g.0.net n) in
      let y = and_right x (leb a i && ltb i b) g.2 in
      (g.0, g.1, (eqb-false g.0.net n (not-true (eqb g.0.net n) (and_left x (leb a i && ltb i b) g.2)), leb-true a i (and_left (leb a i) (ltb i b) y), ltb-true i b (and_right (leb a i) (ltb i b) y)))

  pub →other : (a b : ℕ) (r : Row) → Mem r active → OtherAt a b r → other_in ls active n a b ≡ true
  unfolding other_in
  →other a b r m o =
      let i = index ls r.line in
      mem_some (λ (t : Row). not (eqb t.net n) && (leb a (index ls t.line) && ltb (index ls t.line) b)) r active m
      (and_both (not (eqb r.net n)) (leb a i && ltb i b) (ap not (ne_eqb r.net n o.0)) (and_both (leb a i) (ltb i b) (le-leb a i o.1) (lt-ltb i b o.2)))

  pub other_splits : (a b c : ℕ) → other_in ls active n a c ≡ true → (other_in ls active n a b ≡ true) ⊎ (other_in ls active n b c ≡ true)
  other_splits a b c t =
      let g = other→ a c t in
      elim (le_or_lt b (index ls g.0.line)) [
        | inl h ↦ inr (→other b c g.0 g.1 (g.2.0, h, g.2.2))
        | inr h ↦ inl (→other a b g.0 g.1 (g.2.0, g.2.1, h))
      ]

  pub other_widen : (a b c d : ℕ) → c ≤ a → b ≤ d → other_in ls active n a b ≡ true → other_in ls active n c d ≡ true
  other_widen a b c d h k t = let g = other→ a b t in →other c d g.0 g.1 (g.2.0, omega (arith, g.2.1), omega (arith, g.2.2))

-- ---- two neighbouring ranges
module _ (ls : List ℕ) (active : List Row) where
  pub other_join : (n a b c : ℕ) → a ≤ b → b ≤ c → (other_in ls active n a b || other_in ls active n b c) ≡ other_in ls active n a c
  other_join n a b c h k =
      let x = other_in ls active n a b in
      let y = other_in ls active n b c in
      both (x || y) (other_in ls active n a c)
      (λ t. elim (or_elim x y t) [ inl u ↦ other_widen ls active n a b a c (le_refl a) k u | inr u ↦ other_widen ls active n b c a c h (le_refl c) u ])
      (λ t. elim (other_splits ls active n a b c t) [ inl u ↦ or_left x y u | inr u ↦ or_right x y u ])

  -- a leaf: any list of the nets that are active on its line, in any order, one net once or more often
  module _ (i : ℕ) (l : List ℕ) (f : (m : ℕ) → Mem m l → (r : Row) × Mem r active × (index ls r.line ≡ i) × (r.net ≡ m)) (g : (r : Row) → Mem r active → index ls r.line ≡ i → Mem r.net l) where
    pub leaf-nets : (n : ℕ) → some_of (other_than n) l ≡ other_in ls active n i (i + 1)
    leaf-nets n = both (some_of (other_than n) l) (other_in ls active n i (i + 1)) to from
      where
        to : some_of (other_than n) l ≡ true → other_in ls active n i (i + 1) ≡ true
        to t =
            let x = some_mem (other_than n) l t in
            let r = f x.0 x.1 in
            →other ls active n i (i + 1) r.0 r.1 ((λ e. eqb-false x.0 n (not-true (eqb x.0 n) x.2) (sym r.3 ∙ e)), omega (arith, r.2), omega (arith, r.2))

        from : other_in ls active n i (i + 1) ≡ true → some_of (other_than n) l ≡ true
        from t =
            let x = other→ ls active n i (i + 1) t in
            mem_some (other_than n) x.0.net l (g x.0 x.1 (le_antisymm (omega (arith, x.2.2)) x.2.1)) (ap not (ne_eqb x.0.net n x.2.0))
