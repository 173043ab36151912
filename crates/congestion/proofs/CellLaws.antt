-- Runs of cells: which cells they hold, and folds over a run within a longer one. Assumes nothing.
use mathlib.Core.Path.{◌≡◌, refl, ap, ap₂, ◌∙◌}
use mathlib.Core.Logic.{inl, inr}
use mathlib.Core.List.{List, ◌∷◌, ◌++◌}
use Prim.Native.Nat.{ℕ, zero, suc, ◌+◌, ◌-◌, ◌≤◌, ◌<◌}
use native.Mathlib.Omega.{arith}
use lib.Dec.{T, leb, ltb, ltb→lt, lt→ltb, leb→le, le→leb}
use lib.Ieee.Fits.{and_l, and_r, and_i}
use lib.ListN.{length}
use Rattle.laws.specs.Lists.{Mem, fold}
use Rattle.laws.proofs.Folds.{Monoid, idr, fold_same, fold-unit, fold-append}
use Rattle.congestion.specs.Wires.{Wire}
use Rattle.congestion.specs.Cells.{cells_from, covers}

-- ---- the cells of a wire
pub covers-from : (k : ℕ) (s : Wire) → T (covers k s) → s.start ≤ k
covers-from k s t = leb→le s.start k (and_l (leb s.start k) (ltb k s.end) t)

pub covers-to : (k : ℕ) (s : Wire) → T (covers k s) → k < s.end
covers-to k s t = ltb→lt k s.end (and_r (leb s.start k) (ltb k s.end) t)

pub is_covered : (k : ℕ) (s : Wire) → s.start ≤ k → k < s.end → T (covers k s)
is_covered k s p q = and_i (leb s.start k) (ltb k s.end) (le→leb s.start k p) (lt→ltb k s.end q)

-- ---- a run of cells
pub mem_cells : (k a n : ℕ) → Mem k (cells_from a n) → (a ≤ k) × (k < a + n)
unfolding cells_from
mem_cells k a zero m = elim m [ ]
mem_cells k a (suc n) (inl e) = (omega arith, omega arith)
mem_cells k a (suc n) (inr m) = let h = mem_cells k (suc a) n m in (omega (arith, h.0), omega (arith, h.1))

pub length-cells : (a n : ℕ) → length (cells_from a n) ≡ n
unfolding cells_from
length-cells a zero = refl
length-cells a (suc n) = ap suc (length-cells (suc a) n)

pub cells_split : (a m n : ℕ) → cells_from a (m + n) ≡ cells_from a m ++ cells_from (a + m) n
unfolding cells_from
cells_split a zero n = ap₂ cells_from none-a none_n
  where
    none-a : a ≡ a + zero
    none-a = omega arith

    none_n : zero + n ≡ n
    none_n = omega arith
cells_split a (suc m) n = ap (cells_from a) one_more ∙ ap (◌∷◌ a) (cells_split (suc a) m n ∙ ap (λ (z : ℕ). cells_from (suc a) m ++ cells_from z n) moved)
  where
    one_more : suc m + n ≡ suc (m + n)
    one_more = omega arith

    moved : suc a + m ≡ a + suc m
    moved = omega arith

-- up to x, and from x on
pub cells_at : (p x h : ℕ) → p ≤ x → x ≤ h → cells_from p (h - p) ≡ cells_from p (x - p) ++ cells_from x (h - x)
cells_at p x h a b = ap (cells_from p) len ∙ cells_split p (x - p) (h - x) ∙ ap (λ (z : ℕ). cells_from p (x - p) ++ cells_from z (h - x)) back
  where
    len : h - p ≡ (x - p) + (h - x)
    len = omega arith

    back : p + (x - p) ≡ x
    back = omega arith

module _ {M : Type 0} {◌⊕◌ : M → M → M} {u : M} (L : Monoid ◌⊕◌ u) where
  infixl 65 ◌⊕◌
  pub cells_same : (f g : ℕ → M) (a n : ℕ) → ((k : ℕ) → a ≤ k → k < a + n → f k ≡ g k) → fold ◌⊕◌ u f (cells_from a n) ≡ fold ◌⊕◌ u g (cells_from a n)
  cells_same f g a n h = fold_same L f g (cells_from a n) (λ k m. let b = mem_cells k a n m in h k b.0 b.1)

  pub cells-unit : (f : ℕ → M) (a n : ℕ) → ((k : ℕ) → a ≤ k → k < a + n → f k ≡ u) → fold ◌⊕◌ u f (cells_from a n) ≡ u
  cells-unit f a n h = fold-unit L f (cells_from a n) (λ k m. let b = mem_cells k a n m in h k b.0 b.1)

  -- a run within a longer one, where f is u outside it
  pub cells-within : (f g : ℕ → M) (p h s e : ℕ) → p ≤ s → s ≤ e → e ≤ h → ((k : ℕ) → k < s → f k ≡ u) → ((k : ℕ) → e ≤ k → f k ≡ u) → ((k : ℕ) → s ≤ k → k < e → f k ≡ g k)
      → fold ◌⊕◌ u f (cells_from p (h - p)) ≡ fold ◌⊕◌ u g (cells_from s (e - s))
  cells-within f g p h s e a b d low high eq =
      ap (fold ◌⊕◌ u f) (cells_at p s h a (omega arith) ∙ ap (λ (l : List ℕ). cells_from p (s - p) ++ l) (cells_at s e h b d))
      ∙ fold-append L f (cells_from p (s - p)) (cells_from s (e - s) ++ cells_from e (h - e))
      ∙ ap₂ ◌⊕◌ (cells-unit f p (s - p) (λ k x y. low k (omega arith))) (fold-append L f (cells_from s (e - s)) (cells_from e (h - e)))
      ∙ L.idl _
      ∙ ap₂ ◌⊕◌ (cells_same f g s (e - s) (λ k x y. eq k x (omega arith))) (cells-unit f e (h - e) (λ k x y. high k x))
      ∙ idr L _
