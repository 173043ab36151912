-- Fit boxes, and boxes that lie in others. Only inner contracts and proofs cite this: no call's answer is stated with it.
use Rattle.std.specs.Prelude.{T, Float}
use Rattle.std.specs.Float.{binary64}
use Rattle.std.specs.Float.Ieee.{fits, le}
use Rattle.std.specs.Float.Ieee.Scale.{finite}
use Rattle.boxes.specs.declared.aabb.Aabb.{Aabb}

-- along one axis: from a to b, both finite values of binary64, and a at most b
pub record Span (a b : Float) : Type 0 where
  pub low : T (fits binary64 a) × T (finite a)
  pub high : T (fits binary64 b) × T (finite b)
  pub rising : T (le a b)

-- a..b lies in c..d
pub record Inside (a b c d : Float) : Type 0 where
  pub low : T (le c a)
  pub high : T (le b d)

pub record FitBox (b : Aabb) : Type 0 where
  pub across : Span b.left b.right
  pub down : Span b.top b.bottom

-- b lies in u
pub record Within (b u : Aabb) : Type 0 where
  pub across : Inside b.left b.right u.left u.right
  pub down : Inside b.top b.bottom u.top u.bottom
