-- Segments on the grid in whole numbers of 1/64 (SCOPE 9.1).
use Rattle.std.specs.Prelude.{Bool, ℕ, ◌-◌, eqb, Float}
use Rattle.floats.specs.Grid.{zero_unit, unit}
use Rattle.drawing.specs.Entries.{Segment}

pub record Wire : Type 0 where
  pub net : ℕ
  pub horizontal : Bool
  pub fixed : ℕ
  pub start : ℕ
  pub end : ℕ

-- a segment's coordinates as `unit` counts them: both zeros have one number, so that SCOPE 9.2, "Congestion turns -0 into +0 first", holds of everything defined over wires. SCOPE 2.1: "orientation byte 1 horizontal"
abbrev pub wire_of : Segment → Wire
wire_of s = record { net = s.net; horizontal = eqb s.orientation 1; fixed = unit s.fixed; start = unit s.start; end = unit s.end }

-- SCOPE 3.16: a cutoff in whole numbers of 1/64, 0 where it is 0 or less
unfoldable pub cutoff_of : Float → ℕ
cutoff_of x = unit x - zero_unit
