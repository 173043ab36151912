-- A segment as it is taken: its ends are exchanged or kept, once and for all. Assumes nothing.
use mathlib.Core.Path.{◌≡◌, refl}
use mathlib.Core.Logic.{inl, inr}
use mathlib.Core.Bool.{Bool, true, false, not, ◌||◌}
use lib.Ieee.{Float, lt}
use Rattle.laws.proofs.Tests.{decide}
use Rattle.floats.specs.Values.{lesser_of, greater_of}
use Rattle.floats.specs.Grid.{on_grid}
use Rattle.floats.proofs.Trichotomy.{exchanged_lesser, exchanged_greater, kept-lesser, kept_greater, rise_once}
use Rattle.drawing.specs.Entries.{Segment, as_taken}
use Rattle.drawing.specs.Conditions.{off_grid_fields}

-- the same segment, from its other end
abbrev pub exchanged : Segment → Segment
exchanged s = record { net = s.net; orientation = s.orientation; fixed = s.fixed; start = s.end; end = s.start }

module _ (s : Segment) where
  pub taken_exchanged : lt s.end s.start ≡ true → as_taken s ≡ exchanged s
  taken_exchanged t = λ i. record { net = s.net; orientation = s.orientation; fixed = s.fixed; start = exchanged_lesser s.start s.end t i; end = exchanged_greater s.start s.end t i }

  pub taken_kept : lt s.end s.start ≡ false → as_taken s ≡ s
  taken_kept f = λ i. record { net = s.net; orientation = s.orientation; fixed = s.fixed; start = kept-lesser s.start s.end f i; end = kept_greater s.start s.end f i }

-- a segment that was taken is taken as it is
pub taken_twice : (s : Segment) → as_taken (as_taken s) ≡ as_taken s
taken_twice s = taken_kept (as_taken s) (rise_once s.start s.end)

-- the grid does not see the direction
pub grid_either_way : (fixed start end : Float) → off_grid_fields fixed (lesser_of start end) (greater_of end start) ≡ off_grid_fields fixed start end
unfolding off_grid_fields
grid_either_way fixed start end = elim (decide (lt end start)) [
  | inl t ↦ rw (exchanged_lesser start end t, exchanged_greater start end t) (turn (not (on_grid fixed)) (not (on_grid start)) (not (on_grid end)))
  | inr f ↦ rw (kept-lesser start end f, kept_greater start end f)
]
  where
    turn : (a b c : Bool) → (a || c || b) ≡ (a || b || c)
    turn true b c = refl
    turn false true true = refl
    turn false true false = refl
    turn false false true = refl
    turn false false false = refl
