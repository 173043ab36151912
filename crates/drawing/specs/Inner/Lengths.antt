-- Columns of equal length: what holds of a list where refusal 2 (SCOPE 7.2) does not apply. Functions that run after check 2 require it of their columns, or promise what they promise where it holds.
use Rattle.std.specs.Prelude.{◌≡◌, Bool, List, ◌∷◌, length}
use Rattle.drawing.specs.declared.refusal.Refusal.{Refusal}
use Rattle.drawing.specs.declared.refusal.Refusal.TheVariants.{ColumnsDiffer}
use Rattle.drawing.specs.Entries.{SegmentColumns, NodeColumns, ExemptionColumns}
use Rattle.drawing.specs.Checks.{segments_differ, nodes_differ, entry_conditions}

pub record SegmentsAgree (c : SegmentColumns) : Type 0 where
  pub orientation : length c.orientation ≡ length c.net
  pub fixed : length c.fixed ≡ length c.net
  pub start : length c.start ≡ length c.net
  pub end : length c.end ≡ length c.net

pub record NodesAgree (c : NodeColumns) : Type 0 where
  pub x : length c.x ≡ length c.id
  pub y : length c.y ≡ length c.id
  pub width : length c.width ≡ length c.id
  pub height : length c.height ≡ length c.id

pub record ExemptionsAgree (c : ExemptionColumns) : Type 0 where
  pub node : length c.node ≡ length c.net

-- refusal 5 of entries alone, for columns of any lengths: refusal 2 of their columns comes first
unfoldable pub compared_entry_conditions : SegmentColumns → NodeColumns → List (Bool × Refusal)
compared_entry_conditions s n = (segments_differ s, ColumnsDiffer) ∷ (nodes_differ n, ColumnsDiffer) ∷ entry_conditions s n
