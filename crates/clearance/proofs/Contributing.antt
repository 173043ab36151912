-- A part of the tree may still change the figures: the code's test against the least distance so far, which is a NaN where there is none yet. Assumes nothing.
use Rattle.std.proofs.Common.{◌≡◌, Bool, true, false, not, refl}
use lib.Ieee.{Float, lt, le}
use Rattle.drawing.specs.Inner.LeastFloats.{Number, gap_of_float}
use Rattle.drawing.proofs.LeastFloatLaws.{by-least}
use Rattle.clearance.specs.Walk.{contributes}

twice : (b : Bool) → not (not b) ≡ b
twice true = refl
twice false = refl

module _ (x d t : Float) (q : Number d) where
  pub below-contributes : lt d t ≡ true → true ≡ contributes d t (gap_of_float x)
  unfolding contributes
  below-contributes e = by-least x d q (λ g. true ≡ contributes d t g) (λ z. refl) (λ z. rw e)

  pub above-contributes : lt d t ≡ false → not (le x d) ≡ contributes d t (gap_of_float x)
  unfolding contributes
  above-contributes e = by-least x d q (λ g. not (le x d) ≡ contributes d t g) (λ z. rw z) (λ z. rw (z, e) (twice (lt d x)))
