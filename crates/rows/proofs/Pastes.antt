-- Two adjacent runs of words that are written into a slice are one run. Assumes nothing.
use mathlib.Core.Path.{◌≡◌, sym, ap, ◌∙◌}
use mathlib.Core.List.{List, ◌++◌, append_assoc}
use Prim.Native.Nat.{ℕ, ◌+◌, ◌≤◌}
use native.Mathlib.Omega.{arith}
use lib.ListN.{length, take, drop, length-append}
use lib.Seq.{paste, take-paste, drop-paste, take_all, drop_at, length-take-le}
use Rattle.laws.proofs.Parts.{drop_past, part_same}
use Rattle.sorting.proofs.Tables.{row-front}

-- r is s with n words a and then m words b, from `at` on
both : (s a b : List ℕ) (at n m whole : ℕ) → whole ≡ n + m → length a ≡ n → length b ≡ m → ((take at s ++ take n a) ++ take m b) ++ drop (at + n + m) s ≡ paste s at (a ++ b) whole
both s a b at n m whole w p q =
    let i : at + n + m ≡ at + whole = omega arith in
    let one : take n a ++ take m b ≡ take whole (a ++ b) = (λ j. take_all n a (omega arith) j ++ take_all m b (omega arith) j) ∙ sym (take_all whole (a ++ b) (omega (arith, length-append a b))) in
    (λ j. append_assoc (take at s) (take n a) (take m b) j ++ drop (i j) s) ∙ ap (λ (z : List ℕ). (take at s ++ z) ++ drop (at + whole) s) one

module _ (s r q a b : List ℕ) (at n m whole : ℕ) (w : whole ≡ n + m) (room : at + whole ≤ length s) (p : length a ≡ n) (k : length b ≡ m) where
  -- the second run is written after the first
  pub paste_behind : r ≡ paste s at a n → q ≡ paste r (at + n) b m → q ≡ paste s at (a ++ b) whole
  paste_behind e f =
      let front : take (at + n) r ≡ take at s ++ take n a = ap (take (at + n)) e ∙ take-paste s at a n (omega arith) (omega arith) in
      let past : drop (at + n) r ≡ drop (at + n) s = ap (drop (at + n)) e ∙ drop-paste s at a n (omega arith) (omega arith) in
      let rest : drop (at + n + m) r ≡ drop (at + n + m) s = drop_past (at + n) (at + n + m) r s past (omega arith) in
      f ∙ (λ i. (front i ++ take m b) ++ rest i) ∙ both s a b at n m whole w p k

  -- the second run is written before the first
  pub paste_before : (back : ℕ) → back ≡ at + n → r ≡ paste s back b m → q ≡ paste r at a n → q ≡ paste s at (a ++ b) whole
  paste_before back g e f =
      let d : r ≡ paste s (at + n) b m = e ∙ ap (λ (j : ℕ). paste s j b m) g in
      let front : take at r ≡ take at s = part_same 0 at (at + n) r s (row-front s r b (at + n) m (omega arith) k d) (omega arith) in
      let split : r ≡ take (at + n) s ++ (take m b ++ drop (at + n + m) s) = d ∙ append_assoc (take (at + n) s) (take m b) (drop (at + n + m) s) in
      let rest : drop (at + n) r ≡ take m b ++ drop (at + n + m) s = ap (drop (at + n)) split ∙ drop_at (take (at + n) s) (take m b ++ drop (at + n + m) s) (at + n) (length-take-le (at + n) s (omega arith)) in
      f ∙ (λ i. (front i ++ take n a) ++ rest i) ∙ sym (append_assoc (take at s ++ take n a) (take m b) (drop (at + n + m) s)) ∙ both s a b at n m whole w p k
