-- The least of a list of gaps does not depend on the list's order, and a running least is the least of the whole. Assumes nothing.
use Rattle.std.specs.Prelude.{Option, Some, None}
use mathlib.Core.Path.{◌≡◌, refl, sym, ◌∙◌}
use mathlib.Core.List.{List, [], ◌∷◌, ◌++◌}
use lib.Ieee.{Float, binary64, lt}
use Rattle.laws.specs.Lists.{All}
use Rattle.laws.specs.Perm.{Perm}
use Rattle.laws.specs.Least.{lesser, least}
use Rattle.laws.proofs.Leasts.{Ranked, least-perm, least-append}
use Rattle.floats.specs.Values.{lesser_of}
use Rattle.floats.proofs.Rank.{mag}
use Rattle.floats.proofs.Gaps.{Good, good_lt, good_one}
use Rattle.drawing.specs.Gaps.{least_gap, lesser_gap}

-- gaps that are not NaN and not negative are ranked by their magnitude
pub gaps_ranked : Ranked Good lt (mag binary64)
gaps_ranked = record { below = λ x y p q. good_lt x y p q; one = λ x y p q e. good_one x y p q e }

pub gap-from-lesser : (a b : Option Float) → (lesser lt a b) ≡ lesser_gap (a) (b)
unfolding lesser lesser_gap lesser_of
gap-from-lesser None b = refl
gap-from-lesser (Some x) None = refl
gap-from-lesser (Some x) (Some y) = refl

pub least-none : least_gap [] ≡ None
unfolding least_gap least
least-none = refl

pub least-one : (x : Float) → least_gap (x ∷ []) ≡ Some x
unfolding least_gap least lesser
least-one x = refl

pub least_join : (l r : List Float) → All Good l → All Good r → least_gap (l ++ r) ≡ lesser_gap (least_gap l) (least_gap r)
unfolding least_gap
least_join l r p q = (sym (least-append gaps_ranked l r p q)) ∙ gap-from-lesser (least lt l) (least lt r)

pub least-gap-perm : {l r : List Float} → Perm l r → All Good l → least_gap l ≡ least_gap r
unfolding least_gap
least-gap-perm p h = (least-perm gaps_ranked p h)
