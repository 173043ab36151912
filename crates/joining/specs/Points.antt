-- The points that segments cover (SCOPE 16.2), "points of the real line". The logic has no real numbers, so all is said of every number line: points in a total order that has the finite floats in the order of their values, and between any two of them a point more. The real line of ordinary mathematics is one, which is said here and not proved; `halves` in proofs/Halves is another, so that what is said is said of something.
use Rattle.std.specs.Prelude.{◌≡◌, ◌⊎◌, Bool, true, ◌&&◌, List, ℕ, T, eqb, Float}
use Rattle.std.specs.Float.Ieee.{lt, le}
use Rattle.std.specs.Float.Ieee.Scale.{finite}
use Rattle.laws.specs.Lists.{Mem}
use Rattle.floats.specs.TotalOrder.{key_of}
use Rattle.floats.specs.Values.{canonical_zero}
use Rattle.drawing.specs.declared.lists.Segment.{Segment}
use Rattle.drawing.specs.Held.{Binary64}

-- a finite number of binary64
abbrev pub Finite : Float → Type 0
Finite x = Binary64 x × T (finite x)

pub record NumberLine : Type 1 where
  pub Point : Type 0
  -- the first point is the second one or lies before it
  pub up_to : Point → Point → Type 0
  pub total : (p q : Point) → up_to p q ⊎ up_to q p
  pub trans : (p q r : Point) → up_to p q → up_to q r → up_to p r
  -- the point of a float: finite floats keep their order, in which -0 and +0 are equal
  pub at : Float → Point
  pub keeps : (x y : Float) → Finite x → Finite y → le x y ≡ true → up_to (at x) (at y)
  -- between two finite floats lies a point that is neither, neighbours among the floats included
  pub between : (x y : Float) → Finite x → Finite y → lt x y ≡ true → (p : Point) × (up_to p (at x) → ⊥) × (up_to (at y) p → ⊥)

-- SCOPE 16.2: "net, orientation and fixed coordinate", -0 and +0 being one coordinate
pub record NetLine : Type 0 where
  pub net : ℕ
  pub orientation : ℕ
  pub fixed : Float

abbrev pub net_line_of : Segment → NetLine
net_line_of s = record { net = s.net; orientation = s.orientation; fixed = canonical_zero s.fixed }

-- some segment of the list, as taken, lies on the line and reaches over the point, both ends included
pub record Covers (L : NumberLine) (l : List Segment) (t : NetLine) (p : L.Point) : Type 0 where
  pub by : Segment
  pub there : Mem by l
  pub on : net_line_of by ≡ t
  pub from : L.up_to (L.at by.start) p
  pub to : L.up_to p (L.at by.end)

-- SCOPE 16.5: two lists "covering the same points per net and line"
abbrev pub SamePoints : (L : NumberLine) → List Segment → List Segment → Type 0
SamePoints L l m = (t : NetLine) (p : L.Point) → (Covers L l t p → Covers L m t p) × (Covers L m t p → Covers L l t p)

-- ---- for "the fewest pieces" (SCOPE 16.3): what other pieces of one line there could be, each from any point to any other, floats or not
pub record Reaches (L : NumberLine) (m : List (L.Point × L.Point)) (p : L.Point) : Type 0 where
  pub by : L.Point × L.Point
  pub there : Mem by m
  pub from : L.up_to by.0 p
  pub to : L.up_to p by.1

-- they reach over just the points that the list covers on the line
abbrev pub SameOnLine : (L : NumberLine) → List Segment → NetLine → List (L.Point × L.Point) → Type 0
SameOnLine L l t m = (p : L.Point) → (Covers L l t p → Reaches L m p) × (Reaches L m p → Covers L l t p)

-- whether the segment lies on the line, so that pieces can be counted
unfoldable pub is_on : NetLine → Segment → Bool
is_on t s = eqb s.net t.net && (eqb s.orientation t.orientation && eqb (key_of (canonical_zero s.fixed)) (key_of t.fixed))
