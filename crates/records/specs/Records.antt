-- A lent list of records as columns. SCOPE 2.5, 2.6: "`&[ParallelSegment]` and the like: the core takes columns of equal length (net, orientation byte 1 horizontal or 0 vertical, fixed, start, end). Afterwards, one thin entry for each measure takes the lent list of segment records as the Rust does."
use Rattle.std.specs.Prelude.{List, map}
use Rattle.drawing.specs.Entries.{Segment, SegmentColumns, columns_of}
use Rattle.lines.specs.Orientation.{orientation_byte}
use Rattle.records.specs.declared.parallel.ParallelSegment.{ParallelSegment}
use Rattle.records.specs.declared.edge_node.EdgeNodeSegment.{EdgeNodeSegment}

-- a record as a segment; SCOPE 2.6: its `horizontal` is the orientation byte 1 or 0
unfoldable pub of_parallel : ParallelSegment → Segment
of_parallel p = record { net = p.net; orientation = orientation_byte p.horizontal; fixed = p.fixed; start = p.start; end = p.end }

unfoldable pub of_edge_node : EdgeNodeSegment → Segment
of_edge_node p = record { net = p.net; orientation = orientation_byte p.horizontal; fixed = p.fixed; start = p.start; end = p.end }

abbrev pub parallel_columns : List ParallelSegment → SegmentColumns
parallel_columns l = columns_of (map of_parallel l)

abbrev pub edge_node_columns : List EdgeNodeSegment → SegmentColumns
edge_node_columns l = columns_of (map of_edge_node l)
