-- On the notion of specs/Entries.antt: what only contracts of inner functions and proofs cite.
use Rattle.std.specs.Prelude.{ℕ, get_or}
use Rattle.std.specs.Float.{nan}
use Rattle.drawing.specs.Entries.{Segment, Node, SegmentColumns, NodeColumns, as_taken}

-- the entry at index i, as code reads it, a segment as it is lent and as it is taken: past a column's end it reads 0 and nan
abbrev pub lent_at : SegmentColumns → ℕ → Segment
lent_at c i = record { net = get_or c.net i 0; orientation = get_or c.orientation i 0; fixed = get_or c.fixed i nan; start = get_or c.start i nan; end = get_or c.end i nan }

abbrev pub segment_at : SegmentColumns → ℕ → Segment
segment_at c i = as_taken (lent_at c i)

abbrev pub node_at : NodeColumns → ℕ → Node
node_at c i = record { id = get_or c.id i 0; x = get_or c.x i nan; y = get_or c.y i nan; width = get_or c.width i nan; height = get_or c.height i nan }
