-- Trees in which the box of a branch holds the boxes below it, and parts of them that are nearer to a segment than the threshold. Only inner contracts cite this.
use Rattle.std.specs.Prelude.{◌≡◌, true, List, ℕ, Float}
use Rattle.std.specs.Float.Ieee.{lt}
use Rattle.laws.specs.Charged.{Charged, free, visit}
use Rattle.drawing.specs.Entries.{Exemption}
use Rattle.boxes.specs.declared.aabb.Aabb.{Aabb}
use Rattle.boxes.specs.Boxes.{distance}
use Rattle.boxes.specs.Inner.Fitting.{FitBox, Within}
use Rattle.clearance.specs.Figures.{Figures, exempt}
use Rattle.clearance.specs.Tree.{IndexedNode, Tree, empty, leaf, branch, bounds_of}
use Rattle.clearance.specs.Walk.{with_pair}

-- every box is fit, the box of a branch holds those of its children, and no part is empty
abbrev pub Nested : Tree → Type 0
Nested empty = ⊥
Nested (leaf n) = FitBox n.bounds
Nested (branch b l r) = FitBox b × Within (bounds_of l) b × Within (bounds_of r) b × Nested l × Nested r

-- every box of the tree is nearer to p than the threshold
abbrev pub TreeBelow : Aabb → Float → Tree → Type 0
TreeBelow p t empty = Unit {0}
TreeBelow p t (leaf n) = lt (distance p n.bounds) t ≡ true
TreeBelow p t (branch b l r) = (lt (distance p b) t ≡ true) × TreeBelow p t l × TreeBelow p t r

-- the visit of a leaf, for a segment of the net with the box p
abbrev pub leaf_visit : List Exemption → Float → ℕ → Aabb → Figures → IndexedNode → Charged Figures
leaf_visit ex t net p g n = visit (free (with_pair (exempt ex net n.id) t (distance p n.bounds) g))
