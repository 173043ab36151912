-- How many segments are swept: counted from the orientation bytes, it is the number of rows in orientations with at least two of them. Assumes nothing.
use mathlib.Core.Path.{◌≡◌, refl, sym, ap, ap₂, ◌∙◌}
use mathlib.Core.List.{List, [], ◌∷◌, map}
use mathlib.Core.Bool.{Bool, true, false, cond}
use Prim.Native.Nat.{ℕ, suc, ◌+◌, ◌≤◌, ◌<◌, zero-le}
use native.Mathlib.Nat.{le_refl}
use native.Mathlib.Omega.{arith}
use borrow.Author.Tests.{eqb-true, lt-ltb, le-ltb}
use lib.Dec.{ltb, eqb}
use lib.Ieee.{Float}
use lib.ListN.{length}
use Rattle.std.specs.List.{count_by}
use Rattle.std.proofs.lemmas.List.Recursion.{is_count_by}
use Rattle.laws.specs.Lists.{fold, bit, count}
use Rattle.laws.proofs.Tests.{cond_true, cond_false}
use Rattle.drawing.specs.Entries.{Segment, SegmentColumns, segments_of, as_taken, segments}
use Rattle.drawing.specs.Inner.Lengths.{SegmentsAgree}
use Rattle.rows.specs.Rows.{oriented, at_least_two}
use Rattle.rows.specs.Inner.Rows.{of_orientation, segments_to_sweep}
use Rattle.rows.proofs.Oriented.{oriented-length}

-- ---- the code's count is the definition's
pub oriented-count : (o : ℕ) (l : List ℕ) → of_orientation o l ≡ count_by (λ b. eqb b o) l
unfolding fold
oriented-count o l = is_count_by (of_orientation o) (λ b. eqb b o) refl (λ x xs. go (eqb x o) (of_orientation o xs)) l
  where
    go : (t : Bool) (n : ℕ) → bit t + n ≡ cond t (1 + n) n
    go true n = refl
    go false n = omega arith

-- ---- both orientations
-- a byte is not both 1 and 0
both_few : (l : List ℕ) → of_orientation 1 l + of_orientation 0 l ≤ length l
unfolding fold
both_few [] = le_refl 0
both_few (o ∷ l) = go (eqb o 1) (eqb o 0) refl refl (of_orientation 1 l) (of_orientation 0 l) (length l) (both_few l)
  where
    go : (a b : Bool) → eqb o 1 ≡ a → eqb o 0 ≡ b → (m n t : ℕ) → m + n ≤ t → (bit a + m) + (bit b + n) ≤ suc t
    go true true p q m n t h = absurd (let x = eqb-true o 1 p in let y = eqb-true o 0 q in omega arith)
    go true false p q m n t h = omega arith
    go false true p q m n t h = omega arith
    go false false p q m n t h = omega arith

pub less_than_two : (n : ℕ) → n < 2 → 0 ≡ at_least_two n
less_than_two n h = sym (cond_true (ltb n 2) 0 n (lt-ltb n 2 h))

pub two_or_more : (n : ℕ) → 2 ≤ n → n ≡ at_least_two n
two_or_more n h = sym (cond_false (ltb n 2) 0 n (le-ltb n 2 h))

at_most-all : (n : ℕ) → at_least_two n ≤ n
at_most-all n = go (ltb n 2)
  where
    go : (b : Bool) → cond b 0 n ≤ n
    go true = zero-le
    go false = le_refl n

-- the sum of the two counts
module _ (l : List ℕ) (m n a b : ℕ) (across : m ≡ of_orientation 1 l) (down : n ≡ of_orientation 0 l) (one : a ≡ at_least_two m) (other : b ≡ at_least_two n) where
  pub sum-few : a + b ≤ length l
  sum-few = omega (arith, both_few l, at_most-all m, at_most-all n)

  pub sum_is : a + b ≡ segments_to_sweep l
  unfolding segments_to_sweep
  sum_is = ap₂ ◌+◌ (one ∙ ap at_least_two across) (other ∙ ap at_least_two down)

-- ---- the bytes are those of the segments
bytes : (o : ℕ) (ns os : List ℕ) (fs ss es : List Float) → length os ≡ length ns → length fs ≡ length ns → length ss ≡ length ns → length es ≡ length ns → of_orientation o os ≡ count (λ (s : Segment). eqb s.orientation o) (map as_taken (segments_of ns os fs ss es))
unfolding fold segments_of
bytes o [] [] fs ss es p q r t = refl
bytes o [] (x ∷ os) fs ss es p q r t = absurd (omega arith)
bytes o (n ∷ ns) [] fs ss es p q r t = absurd (omega arith)
bytes o (n ∷ ns) (x ∷ os) [] ss es p q r t = absurd (omega arith)
bytes o (n ∷ ns) (x ∷ os) (f ∷ fs) [] es p q r t = absurd (omega arith)
bytes o (n ∷ ns) (x ∷ os) (f ∷ fs) (s ∷ ss) [] p q r t = absurd (omega arith)
bytes o (n ∷ ns) (x ∷ os) (f ∷ fs) (s ∷ ss) (e ∷ es) p q r t = ap (λ (m : ℕ). bit (eqb x o) + m) (bytes o ns os fs ss es (omega arith) (omega arith) (omega arith) (omega arith))

rows-counted : (o : ℕ) (c : SegmentColumns) → SegmentsAgree c → of_orientation o c.orientation ≡ length (oriented o (segments c))
unfolding segments
rows-counted o c a = bytes o c.net c.orientation c.fixed c.start c.end a.orientation a.fixed a.start a.end ∙ sym (oriented-length o (segments c))

-- the segments that are swept are the rows of the orientations that have at least two of them
pub rows-to-sweep : (c : SegmentColumns) → SegmentsAgree c → segments_to_sweep c.orientation ≡ at_least_two (length (oriented 1 (segments c))) + at_least_two (length (oriented 0 (segments c)))
unfolding segments_to_sweep
rows-to-sweep c a = ap₂ (λ (m n : ℕ). at_least_two m + at_least_two n) (rows-counted 1 c a) (rows-counted 0 c a)
