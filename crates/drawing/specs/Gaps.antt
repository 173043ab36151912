-- Gaps that may be absent. SCOPE 6.4: "each least gap is either absent or one float value".
use Rattle.std.specs.Prelude.{List, Float, Option, Some, None}
use Rattle.std.specs.Float.Ieee.{lt}
use Rattle.laws.specs.Least.{least}
use Rattle.floats.specs.Values.{lesser_of}

-- the least of a list of gaps, SCOPE 3.5, 3.9, 3.15: "absent if there is none"
unfoldable pub least_gap : List Float → Option Float
least_gap l = least lt l

-- the lesser of two
unfoldable pub lesser_gap : Option Float → Option Float → Option Float
lesser_gap None b = b
lesser_gap (Some x) None = Some x
lesser_gap (Some x) (Some y) = Some (lesser_of x y)
