-- The loops over a list's entries: a column that is filled, and a search for a byte. Assumes nothing.
use mathlib.Core.Path.{◌≡◌, sym, ap, ◌∙◌}
use mathlib.Core.Bool.{Bool, ◌||◌}
use mathlib.Core.List.{List, [], ◌∷◌, ◌++◌, map}
use Prim.Native.Nat.{ℕ, zero, suc, ◌+◌, ◌*◌, ◌≤◌, ◌<◌}
use native.Mathlib.Nat.{mul-suc, mul-le-mul_left}
use native.Mathlib.Numerals.{add-one}
use native.Mathlib.Omega.{arith}
use lib.ListN.{length, get_or, take, drop, set, length-map}
use lib.Seq.{take_all, drop-cons, drop-drop}
use Rattle.laws.specs.Lists.{some_of}
use Rattle.laws.proofs.Columns.{Written, written_none, written_next, written_all}
use Rattle.laws.proofs.ListLaws.{scan_end}
use Rattle.std.specs.List.{list_any, range_with_len}
use Rattle.file.specs.Reading.{big_endian}
use Rattle.file.specs.Inner.Places.{places}
use Rattle.file.proofs.FixedPlaces.{places-at}

-- the bytes from a field of an entry on
pub field_at : (w n : ℕ) (l : List ℕ) (at i o : ℕ) → i < n → drop o (get_or (places w n (drop at l)) i []) ≡ drop (at + w * i + o) l
field_at w n l at i o h = ap (drop o) (places-at w n (drop at l) i h ∙ drop-drop (w * i) at l) ∙ drop-drop o (at + w * i) l

-- none of its bytes is missing
pub field_room : (w n m at i o k : ℕ) → at + w * n ≤ m → i < n → o + k ≤ w → at + w * i + o + k ≤ m
field_room w n m at i o k h b g = within (mul-le-mul_left w b)
  where
    within : w * suc i ≤ w * n → at + w * i + o + k ≤ m
    within e = omega (arith, mul-suc w i)

-- the byte at an index is the number of one byte from there on
pub byte_is : (at : ℕ) (l : List ℕ) → at < length l → get_or l at 0 ≡ big_endian 0 (take 1 (drop at l))
unfolding big_endian
byte_is at l h = rw (drop-cons l at 0 h) (omega arith)

-- ---- i values of the column are written
pub record Filled {A : Type 0} (f : List ℕ → A) (s₀ : List A) (xs : List (List ℕ)) (s : List A) (i : ℕ) : Type 0 where
  pub written : Written s₀ 0 (map f xs) s i

module _ {A : Type 0} (f : List ℕ → A) (s₀ : List A) (xs : List (List ℕ)) where
  pub filled_none : length xs ≤ length s₀ → Filled f s₀ xs s₀ 0
  filled_none h = record { written = written_none f s₀ 0 xs (omega arith) }

  pub filled_next : (s : List A) (i : ℕ) (v : A) → Filled f s₀ xs s i → i < length xs → v ≡ f (get_or xs i []) → Filled f s₀ xs (set s i v) (i + 1)
  filled_next s i v p h e =
      let z : 0 + i ≡ i = omega arith in
      record { written = rw z at (written_next f s₀ 0 xs [] s i v p.written h e) }

  pub filled_all : (s : List A) (i n : ℕ) → Filled f s₀ xs s i → length xs ≡ n → n ≤ i → s ≡ map f xs ++ drop n s₀
  filled_all s i n p e h =
      let z : 0 + length xs ≡ n = omega arith in
      written_all f s₀ 0 xs s i p.written (omega arith) ∙ (λ j. take_all (length xs) (map f xs) (omega (arith, length-map xs f)) j ++ drop (z j) s₀)

-- ---- a test on the entry at each index from a on is one on the entries themselves
pub any_entry : (p : List ℕ → Bool) (xs : List (List ℕ)) (a n : ℕ) → a + n ≡ length xs → list_any (λ (i : ℕ). p (get_or xs i [])) (range_with_len a n) ≡ some_of p (drop a xs)
unfolding some_of
any_entry p xs a zero h = sym (scan_end p xs a (omega arith))
any_entry p xs a (suc n) h =
    let first : drop a xs ≡ get_or xs a [] ∷ drop (a + 1) xs = drop-cons xs a [] (omega arith) ∙ ap (λ (k : ℕ). get_or xs a [] ∷ drop k xs) (sym (add-one a)) in
    ap (λ (r : Bool). p (get_or xs a []) || r) (any_entry p xs (a + 1) n (omega arith)) ∙ sym (ap (some_of p) first)
