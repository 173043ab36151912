-- The entries that columns hold. SCOPE 2.1, 2.5: "columns of equal length (net, orientation byte 1 horizontal or 0 vertical, fixed, start, end)". Nodes are those of SCOPE 2.2, exemptions those of SCOPE 2.3.
use Rattle.std.specs.Prelude.{List, [], ◌∷◌, map, ℕ, Float}
use Rattle.floats.specs.Values.{lesser_of, greater_of}
use Rattle.drawing.specs.declared.ends.Ends.{Ends}
use Rattle.drawing.specs.declared.lists.Segment.{Segment as SegmentStruct}
use Rattle.drawing.specs.declared.lists.Node.{Node as NodeStruct}
use Rattle.drawing.specs.declared.lists.Segments.{Segments}
use Rattle.drawing.specs.declared.lists.Nodes.{Nodes}
use Rattle.drawing.specs.declared.lists.Exemptions.{Exemptions}

-- a segment and a node are records with a field for each of the code's structs
abbrev pub Segment : Type 0
Segment = SegmentStruct

abbrev pub Node : Type 0
Node = NodeStruct

pub record Exemption : Type 0 where
  pub net : ℕ
  pub node : ℕ

-- the columns of each list, as they are lent
pub record SegmentColumns : Type 0 where
  pub net : List ℕ
  pub orientation : List ℕ
  pub fixed : List Float
  pub start : List Float
  pub end : List Float

pub record NodeColumns : Type 0 where
  pub id : List ℕ
  pub x : List Float
  pub y : List Float
  pub width : List Float
  pub height : List Float

pub record ExemptionColumns : Type 0 where
  pub net : List ℕ
  pub node : List ℕ

abbrev pub segment_columns : List ℕ → List ℕ → List Float → List Float → List Float → SegmentColumns
segment_columns ns os fs ss es = record { net = ns; orientation = os; fixed = fs; start = ss; end = es }

abbrev pub node_columns : List ℕ → List Float → List Float → List Float → List Float → NodeColumns
node_columns is xs ys ws hs = record { id = is; x = xs; y = ys; width = ws; height = hs }

abbrev pub exemption_columns : List ℕ → List ℕ → ExemptionColumns
exemption_columns ns ms = record { net = ns; node = ms }

-- what a call's argument lends
abbrev pub lent_segments : Segments → SegmentColumns
lent_segments s = segment_columns s.net.now s.orientation.now s.fixed.now s.start.now s.end.now

abbrev pub lent_nodes : Nodes → NodeColumns
lent_nodes n = node_columns n.id.now n.x.now n.y.now n.width.now n.height.now

abbrev pub lent_exemptions : Exemptions → ExemptionColumns
lent_exemptions e = exemption_columns e.net.now e.node.now

-- the entries at each index, as many as the shortest column holds
unfoldable pub segments_of : List ℕ → List ℕ → List Float → List Float → List Float → List Segment
segments_of [] os fs ss es = []
segments_of (n ∷ ns) [] fs ss es = []
segments_of (n ∷ ns) (o ∷ os) [] ss es = []
segments_of (n ∷ ns) (o ∷ os) (f ∷ fs) [] es = []
segments_of (n ∷ ns) (o ∷ os) (f ∷ fs) (s ∷ ss) [] = []
segments_of (n ∷ ns) (o ∷ os) (f ∷ fs) (s ∷ ss) (e ∷ es) = record { net = n; orientation = o; fixed = f; start = s; end = e } ∷ segments_of ns os fs ss es

unfoldable pub nodes_of : List ℕ → List Float → List Float → List Float → List Float → List Node
nodes_of [] xs ys ws hs = []
nodes_of (i ∷ is) [] ys ws hs = []
nodes_of (i ∷ is) (x ∷ xs) [] ws hs = []
nodes_of (i ∷ is) (x ∷ xs) (y ∷ ys) [] hs = []
nodes_of (i ∷ is) (x ∷ xs) (y ∷ ys) (w ∷ ws) [] = []
nodes_of (i ∷ is) (x ∷ xs) (y ∷ ys) (w ∷ ws) (h ∷ hs) = record { id = i; x = x; y = y; width = w; height = h } ∷ nodes_of is xs ys ws hs

unfoldable pub exemptions_of : List ℕ → List ℕ → List Exemption
exemptions_of [] ms = []
exemptions_of (n ∷ ns) [] = []
exemptions_of (n ∷ ns) (m ∷ ms) = record { net = n; node = m } ∷ exemptions_of ns ms

-- the segments as they are lent: files, columns and records keep this direction
abbrev pub as_lent : SegmentColumns → List Segment
as_lent c = segments_of c.net c.orientation c.fixed c.start c.end

-- the two ends in rising order: exchanged where the end is below the start, as IEEE 754 compares, and otherwise as they are
abbrev pub ends_in_order : Float → Float → Ends
ends_in_order start end = record { start = lesser_of start end; end = greater_of end start }

-- SCOPE 2.8: "A segment with start above end is now taken as if its two ends had been given in rising order"
abbrev pub as_taken : Segment → Segment
as_taken s = record { net = s.net; orientation = s.orientation; fixed = s.fixed; start = (ends_in_order s.start s.end).start; end = (ends_in_order s.start s.end).end }

-- the segments as "every measure and the tight pair" take them: whatever is checked, ordered, walked or measured is of these
unfoldable pub segments : SegmentColumns → List Segment
segments c = map as_taken (as_lent c)

abbrev pub nodes : NodeColumns → List Node
nodes c = nodes_of c.id c.x c.y c.width c.height

abbrev pub exemptions : ExemptionColumns → List Exemption
exemptions c = exemptions_of c.net c.node

-- and conversely: the columns of a list of entries
unfoldable pub columns_of : List Segment → SegmentColumns
columns_of l = segment_columns (map (λ (s : Segment). s.net) l) (map (λ (s : Segment). s.orientation) l) (map (λ (s : Segment). s.fixed) l) (map (λ (s : Segment). s.start) l) (map (λ (s : Segment). s.end) l)

unfoldable pub node_columns_of : List Node → NodeColumns
node_columns_of l = node_columns (map (λ (n : Node). n.id) l) (map (λ (n : Node). n.x) l) (map (λ (n : Node). n.y) l) (map (λ (n : Node). n.width) l) (map (λ (n : Node). n.height) l)

unfoldable pub exemption_columns_of : List Exemption → ExemptionColumns
exemption_columns_of l = exemption_columns (map (λ (e : Exemption). e.net) l) (map (λ (e : Exemption). e.node) l)
