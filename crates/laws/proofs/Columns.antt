-- A loop that writes a column of values into a slice from an offset on: its invariant. Assumes nothing.
use mathlib.Core.Path.{◌≡◌, refl, sym, ap, ◌∙◌}
use mathlib.Core.List.{List, map}
use Prim.Native.Nat.{ℕ, ◌+◌, ◌≤◌, ◌<◌}
use native.Mathlib.Numerals.{add-one}
use native.Mathlib.Omega.{arith}
use lib.ListN.{length, get_or, set, length-set, length-map, get_or-map}
use lib.Seq.{paste, paste-zero, paste-suc}

-- the first i values of the column `col` are in s, from index b on; the rest of s is that of s₀
pub record Written {A : Type 0} (s₀ : List A) (b : ℕ) (col s : List A) (i : ℕ) : Type 0 where
  pub small : i ≤ length col
  pub fits : b + length col ≤ length s₀
  pub len : length s ≡ length s₀
  pub is : s ≡ paste s₀ b col i

-- the column is f of each entry of xs
module _ {A X : Type 0} (f : X → A) (s₀ : List A) (b : ℕ) (xs : List X) where
  pub written_none : b + length xs ≤ length s₀ → Written s₀ b (map f xs) s₀ 0
  written_none h = let l = length-map xs f in record { small = omega arith; fits = omega arith; len = refl; is = paste-zero s₀ b (map f xs) }

  pub written_next : (d : X) (s : List A) (i : ℕ) (v : A) → Written s₀ b (map f xs) s i → i < length xs → v ≡ f (get_or xs i d) → Written s₀ b (map f xs) (set s (b + i) v) (i + 1)
  written_next d s i v p h e =
      let l = length-map xs f in
      let at : v ≡ get_or (map f xs) i (f d) = e ∙ sym (get_or-map f xs i d) in
      record {
        small = omega arith;
        fits = p.fits;
        len = length-set s (b + i) v ∙ p.len;
        is = rw (p.is, at, add-one i) (paste-suc s₀ b (map f xs) i (f d) (omega (arith, p.fits)) (omega arith));
      }

  pub written_all : (s : List A) (i : ℕ) → Written s₀ b (map f xs) s i → length xs ≤ i → s ≡ paste s₀ b (map f xs) (length xs)
  written_all s i p h = let l = length-map xs f in let e : i ≡ length xs = omega (arith, p.small) in p.is ∙ ap (paste s₀ b (map f xs)) e
