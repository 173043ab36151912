-- The distance of any two boxes, whatever floats they hold, is a number that is not negative and not -0. Assumes nothing.
use mathlib.Core.Path.{◌≡◌, refl}
use mathlib.Core.Logic.{inl, inr}
use mathlib.Core.Bool.{Bool, true, false, not}
use Prim.Native.Nat.{ℕ, ◌+◌, ◌-◌, ◌*◌}
use native.Mathlib.Omega.{arith}
use borrow.Author.Tests.{ltb-true, le-ltb}
use lib.Ieee.{Float, nan, inf, fin, binary64, up, down, sum, add, neg, sub, lt, below, fits, is_nan}
use Rattle.laws.proofs.Tests.{decide, clash}
use Rattle.floats.proofs.Rank.{sgn}
use Rattle.floats.proofs.Gaps.{Good, zero_good, round_good}
use Rattle.floats.proofs.Extremes.{greater}
use Rattle.boxes.specs.declared.aabb.Aabb.{Aabb}
use Rattle.boxes.specs.Boxes.{axis_gap, distance}

-- ---- x - y where y is below x
-- of two fractions, the larger minus the smaller
sum_good : (s t : Bool) (a b c : ℕ) → below t b s a ≡ true → Good (sum binary64 s a (not t) b c)
unfolding sum
sum_good false false a b c h = rw (le-ltb a b (omega (arith, ltb-true b a h))) (round_good (a - b) c)
sum_good false true a b c h = round_good (a + b) c
sum_good true true a b c h = rw h (round_good (b - a) c)
sum_good true false a b c h = clash false h refl

infinite_good : Good (inf false)
unfolding fits is_nan sgn
infinite_good = record { num = (tt, tt); plus = refl }

above_good : (x y : Float) → lt y x ≡ true → Good (sub binary64 x y)
unfolding lt sub add neg
above_good nan nan h = clash false h refl
above_good nan (inf t) h = clash false h refl
above_good nan (fin t n d) h = clash false h refl
above_good (inf s) nan h = clash false h refl
above_good (inf false) (inf false) h = clash false h refl
above_good (inf false) (inf true) h = infinite_good
above_good (inf true) (inf false) h = clash false h refl
above_good (inf true) (inf true) h = clash false h refl
above_good (inf false) (fin t n d) h = infinite_good
above_good (inf true) (fin t n d) h = clash false h refl
above_good (fin s m e) nan h = clash false h refl
above_good (fin s m e) (inf false) h = clash false h refl
above_good (fin s m e) (inf true) h = infinite_good
above_good (fin s m e) (fin t n d) h = sum_good s t (m * up e * down d) (n * up d * down e) (down e * down d) h

-- ---- distances
axis_good : (a b c d : Float) → Good (axis_gap a b c d)
unfolding axis_gap
axis_good a b c d = elim (decide (lt b c)) [
  | inl e ↦ rw e (above_good c b e)
  | inr e ↦ rw e (elim (decide (lt d a)) [ inl g ↦ rw g (above_good a d g) | inr g ↦ rw g zero_good ])
]

pub any_distance_good : (p q : Aabb) → Good (distance p q)
unfolding distance
any_distance_good p q = greater.good _ _ (axis_good p.left p.right q.left q.right) (axis_good p.top p.bottom q.top q.bottom)
