-- The floats of entries are values of binary64 (SCOPE 1.3): `f64`, the type of the columns and settings, holds no others. The contracts of the calls say so of every drawing that passes their checks, so that no statement about two calls has to assume it.
use Rattle.std.specs.Prelude.{◌≡◌, false, T, Float}
use Rattle.std.specs.Float.{binary64}
use Rattle.std.specs.Float.Ieee.{fits}
use Rattle.laws.specs.Lists.{All}
use Rattle.drawing.specs.Entries.{Segment, Node, SegmentColumns, NodeColumns, segments, nodes}
use Rattle.drawing.specs.Conditions.{unfit_segment}

abbrev pub Binary64 : Float → Type 0
Binary64 x = T (fits binary64 x)

pub record SegmentHeld (s : Segment) : Type 0 where
  pub fixed : Binary64 s.fixed
  pub start : Binary64 s.start
  pub end : Binary64 s.end

pub record NodeHeld (n : Node) : Type 0 where
  pub x : Binary64 n.x
  pub y : Binary64 n.y
  pub width : Binary64 n.width
  pub height : Binary64 n.height

-- of the segments as they are taken, whose floats are those of the segments as lent
abbrev pub SegmentsHeld : SegmentColumns → Type 0
SegmentsHeld c = All SegmentHeld (segments c)

abbrev pub NodesHeld : NodeColumns → Type 0
NodesHeld c = All NodeHeld (nodes c)

-- a segment, as taken, to which refusal 5 (SCOPE 7.5) does not apply, its floats being values of binary64
pub record FitSegment (s : Segment) : Type 0 where
  pub held : SegmentHeld s
  pub passes : unfit_segment s ≡ false
