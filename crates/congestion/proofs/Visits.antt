-- The visit count of a fit drawing is that of its wires in 64ths; that of n segments, fit or not, is at most n * n. Assumes nothing.
use mathlib.Core.Path.{◌≡◌, refl, sym, ap, ap₂, ◌∙◌}
use mathlib.Core.Bool.{Bool, true, false, beq, cond}
use mathlib.Core.List.{List, [], ◌∷◌, map}
use Prim.Native.Nat.{ℕ, zero, suc, ◌+◌, ◌*◌, ◌≤◌, zero-le}
use native.Mathlib.Nat.{le_refl}
use native.Mathlib.Omega.{arith}
use borrow.Author.Tests.{lt-ltb, ne_eqb, eqb-true}
use lib.Dec.{T, eqb, ltb}
use lib.Ieee.{Float, round, lt}
use lib.ListN.{length}
use Rattle.laws.specs.Lists.{Mem, fold, bit, count, pairs}
use Rattle.laws.proofs.Tests.{cond_true, cond_false}
use Rattle.laws.proofs.ListLaws.{mem_pairs, both, pairs-map}
use Rattle.laws.proofs.Folds.{plus, fold_same, fold-map, count-at_most}
use Rattle.floats.specs.Values.{plus_zero}
use Rattle.floats.specs.Grid.{on_grid, of_units}
use Rattle.drawing.specs.Entries.{Segment}
use Rattle.rows.specs.Rows.{at_least_two}
use Rattle.congestion.specs.Wires.{Wire, wire_of, cutoff_of}
use Rattle.congestion.specs.Figures.{close}
use Rattle.congestion.specs.Rounded.{close_floats}
use Rattle.congestion.specs.Visits.{segments_along, visit_count}
use Rattle.congestion.proofs.UnitVisits.{close_pairs, in_orientation, visits}
use Rattle.congestion.proofs.Fitness.{FitList}
use Rattle.congestion.proofs.Closeness.{below-cutoff, close-floats}
use Rattle.congestion.proofs.Bounds.{pairs-length}

-- ---- a count is the same where the tests agree, also through a map
count_same : {A : Type 0} (p q : A → Bool) (l : List A) → ((x : A) → Mem x l → p x ≡ q x) → count p l ≡ count q l
count_same p q l h = fold_same plus (λ x. bit (p x)) (λ x. bit (q x)) l (λ x m. ap bit (h x m))

count_map : {A B : Type 0} (p : B → Bool) (g : A → B) (l : List A) → count p (map g l) ≡ count (λ x. p (g x)) l
count_map p g l = fold-map plus (λ x. bit (p x)) g l

-- ---- the count of a fit drawing is that of its wires
vertical : (o : ℕ) → o ≤ 1 → beq false (eqb o 1) ≡ eqb o 0
vertical zero h = refl
vertical (suc zero) h = refl
vertical (suc (suc o)) h = absurd (omega arith)

horizontal : (b : Bool) → beq true b ≡ b
horizontal true = refl
horizontal false = refl

above_zero : (cutoff : Float) → T (on_grid cutoff) → lt plus_zero cutoff ≡ ltb 0 (cutoff_of cutoff)
unfolding of_units round
above_zero cutoff g = below-cutoff 0 cutoff (omega arith) g

choose : (c n : ℕ) → cond (ltb 0 c) n 0 ≡ cond (eqb c 0) 0 n
choose zero n = refl
choose (suc c) n = cond_true (ltb 0 (suc c)) n 0 (lt-ltb 0 (suc c) (omega arith)) ∙ sym (cond_false (eqb (suc c) 0) 0 n (ne_eqb (suc c) 0 (λ e. omega arith)))

module _ (cutoff : Float) (grid : T (on_grid cutoff)) (l : List Segment) (fit : FitList l) where
  horizontal-count : segments_along 1 l ≡ in_orientation true (map wire_of l)
  horizontal-count = sym (count_map (λ (w : Wire). beq true w.horizontal) wire_of l ∙ count_same _ _ l (λ s m. horizontal (eqb s.orientation 1)))

  vertical_count : segments_along 0 l ≡ in_orientation false (map wire_of l)
  vertical_count = sym (count_map (λ (w : Wire). beq false w.horizontal) wire_of l ∙ count_same _ _ l (λ s m. vertical s.orientation (fit.each s m).byte))

  close-pairs : count (λ (p : Segment × Segment). close_floats cutoff p.0 p.1) (pairs l) ≡ close_pairs (cutoff_of cutoff) (map wire_of l)
  unfolding close_pairs
  close-pairs =
      count_same (λ (p : Segment × Segment). close_floats cutoff p.0 p.1) (λ (p : Segment × Segment). close (cutoff_of cutoff) (wire_of p.0) (wire_of p.1)) (pairs l)
      (λ p m. let both_in = mem_pairs p l m in close-floats cutoff p.0 p.1 (fit.each p.0 both_in.0) (fit.each p.1 both_in.1) grid)
      ∙ sym (ap (count (λ (p : Wire × Wire). close (cutoff_of cutoff) p.0 p.1)) (pairs-map wire_of l) ∙ count_map (λ (p : Wire × Wire). close (cutoff_of cutoff) p.0 p.1) (both wire_of) (pairs l))

  pub visits_in_units : visit_count cutoff l ≡ visits (cutoff_of cutoff) (map wire_of l)
  unfolding visits visit_count
  visits_in_units =
      ap₂ (λ (b : Bool) (n : ℕ). cond b n 0) (above_zero cutoff grid) (λ i. at_least_two (horizontal-count i) + at_least_two (vertical_count i) + 2 * close-pairs i)
      ∙ choose (cutoff_of cutoff) _

-- ---- n segments cost at most n * n visits
two_ways : (l : List Segment) → segments_along 1 l + segments_along 0 l ≤ length l
unfolding fold
two_ways [] = zero-le
two_ways (x ∷ l) = let h = two_ways l in let a = at_most_one (eqb x.orientation 1) (eqb x.orientation 0) (λ p q. let d = eqb-true x.orientation 1 p in let e = eqb-true x.orientation 0 q in omega arith) in omega arith
  where
    at_most_one : (a b : Bool) → (a ≡ true → b ≡ true → ⊥) → bit a + bit b ≤ 1
    at_most_one true true h = absurd (h refl refl)
    at_most_one true false h = omega arith
    at_most_one false true h = omega arith
    at_most_one false false h = omega arith

pub visits_at_most : (cutoff : Float) (l : List Segment) → visit_count cutoff l ≤ length l * length l
unfolding visit_count
visits_at_most cutoff l =
    let k = count-at_most (λ (p : Segment × Segment). close_floats cutoff p.0 p.1) (pairs l) in
    all (lt plus_zero cutoff) _ _ _ _ _ _ _ _ (few (segments_along 1 l)) (few (segments_along 0 l)) (two_ways l) k (pairs-length l)
  where
    few : (n : ℕ) → at_least_two n ≤ n
    few n = go (ltb n 2)
      where
        go : (b : Bool) → cond b 0 n ≤ n
        go true = zero-le
        go false = le_refl n

    all : (z : Bool) (a b p q k r n s : ℕ) → a ≤ p → b ≤ q → p + q ≤ n → k ≤ r → 2 * r + n ≡ s → cond z (a + b + 2 * k) 0 ≤ s
    all true a b p q k r n s x y e f g = omega arith
    all false a b p q k r n s x y e f g = zero-le
