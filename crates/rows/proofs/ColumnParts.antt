-- Columns of words in one slice: a column's words by index, and what a store leaves as it was. Assumes nothing.
use mathlib.Core.Path.{◌≡◌, refl, sym, ap, ◌∙◌}
use mathlib.Core.Logic.{◌⊎◌, inl, inr}
use mathlib.Core.List.{List, [], ◌∷◌, map}
use Prim.Native.Nat.{ℕ, zero, suc, ◌+◌, ◌-◌, ◌*◌, ◌≤◌, ◌<◌}
use native.Mathlib.Nat.{not-suc-le-zero, le_of_suc-le-suc}
use native.Mathlib.Omega.{arith}
use lib.ListN.{length, get_or, take, drop, set, length-drop}
use lib.Seq.{length-take-le, take-take, get_or-take, get_or-drop, take-set-le, drop-set-lt, drop-set-add}
use Rattle.rows.specs.Rows.{Row}
use Rattle.rows.specs.Inner.Tables.{no_row, row_from, column}

pub get_d_map : {A B : Type 0} (f : A → B) (l : List A) (i : ℕ) (d : A) (b : B) → i < length l → get_or (map f l) i b ≡ f (get_or l i d)
get_d_map f [] i d b h = absurd (not-suc-le-zero h)
get_d_map f (x ∷ l) zero d b h = refl
get_d_map f (x ∷ l) (suc i) d b h = get_d_map f l i d b (le_of_suc-le-suc h)

pub front_same : (n : ℕ) (s r : List ℕ) → take n s ≡ take n r → (i : ℕ) → i < n → get_or s i 0 ≡ get_or r i 0
front_same n s r e i h = sym (get_or-take n s i 0 h) ∙ ap (λ (l : List ℕ). get_or l i 0) e ∙ get_or-take n r i 0 h

-- a column that lies within the first m words
pub column-same : (n k m : ℕ) (s r : List ℕ) → k * n + n ≤ m → take m s ≡ take m r → column n k s ≡ column n k r
column-same n k m s r h e = sym (part (k * n) n m s h) ∙ ap (column n k) e ∙ part (k * n) n m r h
  where
    part : (a n m : ℕ) (l : List ℕ) → a + n ≤ m → take n (drop a (take m l)) ≡ take n (drop a l)
    part zero n m l h = take-take n m l (omega arith)
    part (suc a) n zero l h = absurd (omega arith)
    part (suc a) n (suc m) [] h = refl
    part (suc a) n (suc m) (x ∷ l) h = part a n m l (omega arith)

module _ (n k : ℕ) (s : List ℕ) where
  pub column-length : k * n + n ≤ length s → length (column n k s) ≡ n
  column-length h = length-take-le n (drop (k * n) s) (simp length-drop (omega arith))

  pub column-at : (i : ℕ) → i < n → get_or (column n k s) i 0 ≡ get_or s (k * n + i) 0
  column-at i h = get_or-take n (drop (k * n) s) i 0 h ∙ get_or-drop (k * n) s i 0

  -- a store before the column or after it
  pub column-set : (i v : ℕ) → (i < k * n) ⊎ (k * n + n ≤ i) → column n k (set s i v) ≡ column n k s
  column-set i v (inl h) = ap (take n) (drop-set-lt (k * n) s i v h)
  column-set i v (inr h) =
      let e : i ≡ k * n + (i - k * n) = omega arith in
      ap (λ (j : ℕ). column n k (set s j v)) e ∙ ap (take n) (drop-set-add (k * n) s (i - k * n) v) ∙ take-set-le n (drop (k * n) s) (i - k * n) v (omega arith)

-- a word of a column that holds f of the rows
pub row_word : (l : List Row) (k j : ℕ) (s : List ℕ) (f : Row → ℕ) → column (length l) k s ≡ map f l → j < length l → get_or s (k * length l + j) 0 ≡ f (row_from l j)
row_word l k j s f e h = sym (column-at (length l) k s j h) ∙ ap (λ (c : List ℕ). get_or c j 0) e ∙ get_d_map f l j no_row 0 h
