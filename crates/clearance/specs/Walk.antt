-- The walk over the tree with no limit, and its visits (SCOPE 5.4 to 5.7): nothing of an allowance or a scratch enters it.
use Rattle.std.specs.Prelude.{ℕ, ◌+◌, Bool, true, false, cond, ◌||◌, List, nat_le, Float, Option, Some, None}
use Rattle.std.specs.Float.Ieee.{lt}
use Rattle.laws.specs.Lists.{bit}
use Rattle.laws.specs.Charged.{Charged, free, visit, after, runs}
use Rattle.floats.specs.TotalOrder.{key_of}
use Rattle.drawing.specs.Entries.{Segment, Node, Exemption}
use Rattle.drawing.specs.Gaps.{lesser_gap}
use Rattle.drawing.specs.Orders.{segments_in_order}
use Rattle.boxes.specs.Boxes.{segment_box, distance}
use Rattle.clearance.specs.Figures.{Figures, exempt}
use Rattle.clearance.specs.Tree.{Tree, empty, leaf, branch, bounds_of, tree_of}

-- SCOPE 5.5: `clearance_subtree_can_contribute`: a part whose box is at this distance may still change the figures
unfoldable pub contributes : Float → Float → Option Float → Bool
contributes lower threshold None = true
contributes lower threshold (Some least) = lt lower threshold || lt lower least

-- SCOPE 3.4 to 3.6: the figures so far with one pair more, which counts unless it is exempt
unfoldable pub with_pair : Bool → Float → Float → Figures → Figures
with_pair true threshold d g = g
with_pair false threshold d g = record { least = lesser_gap g.least (Some d); violations = g.violations + bit (lt d threshold) }

-- the walk of one segment over a tree, from the figures so far.
-- SCOPE 5.7: "A leaf costs one visit when reached and not pruned, exempt pairs included."
-- SCOPE 5.6: "The nearer child is walked first, the left one on a tie": the distances by totalOrder, as the Rust compares them.
unfoldable pub walk : List Exemption → Float → Segment → Tree → Figures → Charged Figures
walk ex threshold s empty g = free g
walk ex threshold s (leaf n) g =
    let d = distance (segment_box s) n.bounds in
    let visited = visit (free (with_pair (exempt ex s.net n.id) threshold d g)) in
    cond (contributes d threshold g.least) visited (free g)
walk ex threshold s (branch box l r) g =
    let p = segment_box s in
    let leftFirst = after (walk ex threshold s l g) (λ h. walk ex threshold s r h) in
    let rightFirst = after (walk ex threshold s r g) (λ h. walk ex threshold s l h) in
    let both = cond (nat_le (key_of (distance p (bounds_of l))) (key_of (distance p (bounds_of r)))) leftFirst rightFirst in
    cond (contributes (distance p box) threshold g.least) both (free g)

-- no pair yet
abbrev pub no_figures : Figures
no_figures = record { least = None; violations = 0 }

-- SCOPE 4.2: "the Rust's walk with no limit, its lists ordered as the departures say". SCOPE 5.4, 9.4: `compare_edge_node_segments` orders segments as the departures do. Each segment is walked with its net's threshold.
unfoldable pub walk_all : List Exemption → (ℕ → Float) → List Segment → List Node → Charged Figures
walk_all ex threshold ss ns = runs (λ g s. walk ex (threshold s.net) s (tree_of ns) g) no_figures (segments_in_order ss)

-- SCOPE 4.2, the visit count: "the visits of the Rust's walk with no limit"
unfoldable pub visit_count : List Exemption → (ℕ → Float) → List Segment → List Node → ℕ
visit_count ex threshold ss ns = (walk_all ex threshold ss ns).cost
