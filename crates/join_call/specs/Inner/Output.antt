-- The output columns: what they hold, whose they are, and the pieces that are written to them.
use Rattle.std.specs.Prelude.{◌≡◌, List, ℕ, ◌-◌, ◌/◌, ◌%◌, ◌≤◌, length, set}
use Rattle.floats.specs.TotalOrder.{float_at}
use Rattle.drawing.specs.Entries.{SegmentColumns, segment_columns}
use Rattle.drawing.specs.Outputs.{written_over}
use Rattle.joining.specs.declared.piece.Piece.{Piece}
use Rattle.join_call.specs.declared.output.Output.{Output}

abbrev pub held : Output → SegmentColumns
held o = segment_columns o.net.now o.orientation.now o.fixed.now o.start.now o.end.now

-- the struct refers to the same columns as before
pub record SameColumns (old new : Output) : Type 0 where
  pub net : new.net.ghost_name ≡ old.net.ghost_name
  pub orientation : new.orientation.ghost_name ≡ old.orientation.ghost_name
  pub fixed : new.fixed.ghost_name ≡ old.fixed.ghost_name
  pub start : new.start.ghost_name ≡ old.start.ghost_name
  pub end : new.end.ghost_name ≡ old.end.ghost_name

unfoldable pub net_of : Piece → ℕ
net_of p = p.net_and_orientation / 2 % 4294967296

unfoldable pub orientation_of : Piece → ℕ
orientation_of p = 1 - p.net_and_orientation % 2

unfoldable pub written_pieces : List Piece → SegmentColumns → SegmentColumns
written_pieces l c = record { net = written_over net_of l c.net; orientation = written_over orientation_of l c.orientation; fixed = written_over (λ (p : Piece). float_at p.fixed) l c.fixed; start = written_over (λ (p : Piece). float_at p.start) l c.start; end = written_over (λ (p : Piece). float_at p.end) l c.end }

-- one piece at an index
unfoldable pub put_piece : SegmentColumns → ℕ → Piece → SegmentColumns
put_piece c at p = record { net = set c.net at (net_of p); orientation = set c.orientation at (orientation_of p); fixed = set c.fixed at (float_at p.fixed); start = set c.start at (float_at p.start); end = set c.end at (float_at p.end) }

-- each column has room for so many entries
pub record Room (n : ℕ) (c : SegmentColumns) : Type 0 where
  pub net : n ≤ length c.net
  pub orientation : n ≤ length c.orientation
  pub fixed : n ≤ length c.fixed
  pub start : n ≤ length c.start
  pub end : n ≤ length c.end
