-- The floats of a report: gaps that are not negative, and lengths. Assumes nothing.
use Rattle.std.specs.Prelude.{Option, None, Some}
use mathlib.Core.Path.{◌≡◌, ap}
use mathlib.Core.Bool.{true, not}
use mathlib.Core.List.{List}
use Prim.Native.Nat.{ℕ}
use lib.Ieee.{Float, nan, inf, fin, binary64, lt, is_nan}
use Rattle.laws.specs.Lists.{All}
use Rattle.laws.specs.Least.{least}
use Rattle.laws.proofs.ListLaws.{all_mem}
use Rattle.laws.proofs.Leasts.{IsLeast, is-least}
use Rattle.floats.specs.Grid.{of_units}
use Rattle.floats.proofs.Rank.{mag, sgn}
use Rattle.floats.proofs.Gaps.{Good, round_good}
use Rattle.drawing.specs.Gaps.{least_gap}
use Rattle.drawing.proofs.GapLaws.{gaps_ranked}
use Rattle.demands.specs.Measures.{Reported, unsigned, present}

good_unsigned : (x : Float) → Good x → unsigned x ≡ true
unfolding sgn is_nan
good_unsigned nan g = absurd g.num.1
good_unsigned (inf s) g = ap not g.plus
good_unsigned (fin s m e) g = ap not g.plus

pub good_reported : (x : Float) → Good x → Reported x
good_reported x g = (g.num.0, good_unsigned x g)

-- the least of such gaps is one of them
pub least_reported : (l : List Float) → All Good l → All Reported (present (least_gap l))
unfolding least_gap
least_reported l h = go (least lt l) (is-least gaps_ranked l h)
  where
    go : (a : Option Float) → IsLeast (mag binary64) l a → All Reported (present (a))
    go None p = tt
    go (Some x) p = (good_reported x (all_mem Good l h x p.0), tt)

pub units_good : (n : ℕ) → Good (of_units n)
unfolding of_units
units_good n = round_good n 64
