-- Within the limits every sum is below 2 ^ 53. Assumes nothing.
use mathlib.Core.Path.{◌≡◌, refl}
use mathlib.Core.List.{List, [], ◌∷◌}
use mathlib.Core.Bool.{Bool, true, false, ◌&&◌, cond}
use Prim.Native.Nat.{ℕ, ◌+◌, ◌*◌, ◌^◌, ◌≤◌, ◌<◌, zero-le}
use native.Mathlib.Omega.{arith}
use native.Mathlib.Nat.{le_refl, le_trans, le_of_eq, lt_of_le_of_lt, mul-le-mul, mul-le-mul_right}
use lib.Dec.{lit<}
use lib.ListN.{length, length-append}
use Rattle.laws.specs.Lists.{Mem, some_of, fold, sum, beside, pairs}
use Rattle.laws.proofs.ListLaws.{mem_pairs, length-beside}
use Rattle.laws.proofs.Folds.{count-at_most, sum-at_most}
use Rattle.congestion.specs.Wires.{Wire}
use Rattle.congestion.specs.Cells.{extent, cells, covers}
use Rattle.congestion.specs.Figures.{close_other, overlap, total, stretches, congested, pair_overlap}
use Rattle.congestion.proofs.CellLaws.{length-cells}
use Rattle.congestion.proofs.Beginning.{Sound}
use Rattle.congestion.proofs.Orientations.{overlap-sum}

-- SCOPE 9.1: "with absolute value at most 1,048,576": in units up to 2 ^ 27
abbrev pub Small : List Wire → Type 0
Small l = (s : Wire) → Mem s l → s.end ≤ 134217728

-- n entries have n * (n - 1) / 2 pairs
pub pairs-length : {A : Type 0} (l : List A) → 2 * length (pairs l) + length l ≡ length l * length l
unfolding pairs
pairs-length [] = refl
pairs-length (x ∷ l) = let a = length-append (beside x l) (pairs l) in let b = length-beside x l in let c = pairs-length l in omega arith

-- ---- lengths
pub total-small : (l : List Wire) → Sound l → Small l → total l < 2 ^ 53
unfolding total
total-small l v m = lt_of_le_of_lt (le_trans (sum-at_most extent 134217728 l (λ s k. let h = m s k in omega arith)) (mul-le-mul_right 134217728 v.few)) (lit< {m = 4096 * 134217728} tt)

-- the congested part of a wire is no longer than the wire
pub stretches-at_most : (c : ℕ) (l : List Wire) (s : Wire) → stretches c l s ≤ extent s
unfolding stretches
stretches-at_most c l s = le_trans (count-at_most (λ k. some_of (λ t. close_other c s t && covers k t) l) (cells s)) (le_of_eq (length-cells s.start (extent s)))

sum_grows : {A : Type 0} (f g : A → ℕ) (l : List A) → ((x : A) → f x ≤ g x) → sum f l ≤ sum g l
unfolding fold
sum_grows f g [] h = le_refl 0
sum_grows f g (x ∷ l) h = let a = h x in let b = sum_grows f g l h in omega arith

pub congested-at_most : (c : ℕ) (l : List Wire) → congested c l ≤ total l
unfolding congested total
congested-at_most c l = sum_grows (stretches c l) extent l (stretches-at_most c l)

pub congested-small : (c : ℕ) (l : List Wire) → Sound l → Small l → congested c l < 2 ^ 53
congested-small c l v m = lt_of_le_of_lt (congested-at_most c l) (total-small l v m)

pub overlap-small : (c : ℕ) (l : List Wire) → Sound l → Small l → pair_overlap c l < 2 ^ 53
overlap-small c l v m =
    let n = pairs-length l in
    let a : sum (λ p. cond (close_other c p.0 p.1) (overlap p.0 p.1) 0) (pairs l) ≤ length (pairs l) * 134217728 = sum-at_most (λ p. cond (close_other c p.0 p.1) (overlap p.0 p.1) 0) 134217728 (pairs l) (λ p k. let h = m p.0 (mem_pairs p l k).0 in go (close_other c p.0 p.1) (overlap p.0 p.1) (omega arith)) in
    let b : length (pairs l) ≤ 4096 * 4096 = le_trans (half (length (pairs l)) (length l) (length l * length l) n) (mul-le-mul v.few v.few) in
    lt_of_le_of_lt (le_trans (le_of_eq (overlap-sum c l)) (le_trans a (mul-le-mul_right 134217728 b))) (lit< {m = 4096 * 4096 * 134217728} tt)
  where
    go : (b : Bool) (n : ℕ) → n ≤ 134217728 → cond b n 0 ≤ 134217728
    go true n h = h
    go false n h = zero-le

    half : (p n s : ℕ) → 2 * p + n ≡ s → p ≤ s
    half p n s e = omega arith
