-- What holds of each entry of a list holds at each index, and conversely. Assumes nothing.
use mathlib.Core.Path.{◌≡◌, refl, sym, subst}
use mathlib.Core.Logic.{inl, inr}
use mathlib.Core.List.{List, [], ◌∷◌}
use Prim.Native.Nat.{ℕ, zero, suc, ◌≤◌, ◌<◌, suc-le-suc, zero-le}
use native.Mathlib.Nat.{not-suc-le-zero, le_of_suc-le-suc}
use native.Mathlib.Omega.{arith}
use lib.ListN.{length, get_or, take}
use lib.Seq.{get_or-take, length-take-le}
use Rattle.laws.specs.Lists.{Mem, All}

module _ {A : Type 0} where
  -- what is at an index is an entry of the list
  pub at_mem : (l : List A) (i : ℕ) (d : A) → i < length l → Mem (get_or l i d) l
  at_mem [] i d h = absurd (not-suc-le-zero h)
  at_mem (x ∷ l) zero d h = inl refl
  at_mem (x ∷ l) (suc i) d h = inr (at_mem l i d (le_of_suc-le-suc h))

  -- and each entry is at some index
  pub mem_at : (x : A) (l : List A) (d : A) → Mem x l → (i : ℕ) × (i < length l) × (x ≡ get_or l i d)
  mem_at x [] d x'' = elim x'' [ ]
  mem_at x (y ∷ l) d (inl e) = (0, omega arith, e)
  mem_at x (y ∷ l) d (inr m) = let g = mem_at x l d m in (suc g.0, omega (arith, g.1), g.2)

module _ {A : Type 0} (P : A → Type 0) (d : A) where
  pub all-at : (l : List A) → All P l → (k : ℕ) → k < length l → P (get_or l k d)
  all-at [] h k b = absurd (not-suc-le-zero b)
  all-at (x ∷ l) h zero b = h.0
  all-at (x ∷ l) h (suc k) b = all-at l h.1 k (le_of_suc-le-suc b)

  pub at_all : (l : List A) → ((k : ℕ) → k < length l → P (get_or l k d)) → All P l
  at_all [] h = tt
  at_all (x ∷ l) h = (h zero (suc-le-suc zero-le), at_all l (λ k b. h (suc k) (suc-le-suc b)))

  -- of the first n entries
  pub first-at : (n : ℕ) (l : List A) → n ≤ length l → All P (take n l) → (k : ℕ) → k < n → P (get_or l k d)
  first-at n l b h k kn = let e = length-take-le n l b in subst P (get_or-take n l k d kn) (all-at (take n l) h k (omega arith))

  pub at_first : (n : ℕ) (l : List A) → n ≤ length l → ((k : ℕ) → k < n → P (get_or l k d)) → All P (take n l)
  at_first n l b h = let e = length-take-le n l b in at_all (take n l) (λ k kn. let q : k < n = omega arith in subst P (sym (get_or-take n l k d q)) (h k q))
