-- Tables of rows of five words in the scratch. Only inner contracts cite this.
use Rattle.std.specs.Prelude.{◌≡◌, Bool, true, false, List, map, ℕ, ◌+◌, ◌*◌, ◌<◌, length, take, drop}
use Rattle.laws.specs.Lists.{All}
use Rattle.drawing.specs.Entries.{SegmentColumns, NodeColumns, segments}
use Rattle.drawing.specs.Inner.Entries.{segment_at}
use Rattle.drawing.specs.Orders.{segment_row, segments_in_order}
use Rattle.clearance.specs.Tree.{indexed_row}
use Rattle.clearance_call.specs.Inner.LeafOrder.{indexed_at}

-- the row of the node at an index, along the horizontal axis or along the vertical one
abbrev pub node_row_at : Bool → NodeColumns → ℕ → List ℕ
node_row_at horizontal c i = indexed_row horizontal (indexed_at c i)

-- the row of the segment at an index
abbrev pub segment_row_at : SegmentColumns → ℕ → List ℕ
segment_row_at c i = segment_row (segment_at c i)

-- r is s with n rows from word t on, of which row i is f i
pub record Filled (f : ℕ → List ℕ) (t n : ℕ) (s r : List ℕ) : Type 0 where
  pub same : length r ≡ length s
  pub front : take t r ≡ take t s
  pub behind : drop (t + 5 * n) r ≡ drop (t + 5 * n) s
  pub rows : (i : ℕ) → i < n → take 5 (drop (i * 5) (drop t r)) ≡ f i

-- r is s with two tables from word t on: the nodes' rows along the horizontal axis and then those along the vertical one
pub record NodesFilled (c : NodeColumns) (t : ℕ) (s r : List ℕ) : Type 0 where
  pub same : length r ≡ length s
  pub front : take t r ≡ take t s
  pub behind : drop (t + 10 * length c.id) r ≡ drop (t + 10 * length c.id) s
  pub across : (i : ℕ) → i < length c.id → take 5 (drop (i * 5) (drop t r)) ≡ node_row_at true c i
  pub down : (i : ℕ) → i < length c.id → take 5 (drop (i * 5) (drop (t + 5 * length c.id) r)) ≡ node_row_at false c i

-- the first words of r are the indices of the segments, in the order of SCOPE 9.4; the words after the six for each segment are as in s
pub record SegmentsOrdered (c : SegmentColumns) (s r : List ℕ) : Type 0 where
  pub same : length r ≡ length s
  pub behind : drop (6 * length c.net) r ≡ drop (6 * length c.net) s
  pub small : All (λ i. i < length c.net) (take (length c.net) r)
  pub ordered : map (segment_at c) (take (length c.net) r) ≡ segments_in_order (segments c)
