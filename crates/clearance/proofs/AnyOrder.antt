-- SCOPE 9.4, "List order decides nothing in a report": the walk, its visits and the figures are the same for every order of the lists. Assumes nothing.
use Rattle.std.proofs.Common.{◌≡◌, ℕ, cond, leb, List, map, refl}
use lib.Ieee.{Float}
use Rattle.laws.specs.Lists.{All}
use Rattle.laws.specs.Perm.{Perm}
use Rattle.laws.specs.Charged.{free, visit, after, runs}
use Rattle.laws.proofs.ListLaws.{all_map}
use Rattle.laws.proofs.Perms.{perm-length}
use Rattle.floats.specs.TotalOrder.{key_of}
use Rattle.drawing.specs.Entries.{Segment, Node, Exemption}
use Rattle.drawing.proofs.GapLaws.{least-gap-perm}
use Rattle.drawing.specs.Held.{SegmentHeld, NodeHeld, FitSegment}
use Rattle.drawing.proofs.ListOrders.{segments-one-order, nodes-one-order}
use Rattle.boxes.specs.Boxes.{segment_box, distance}
use Rattle.clearance.specs.Figures.{Figures, exempt, figures}
use Rattle.clearance.specs.Tree.{Tree, empty, leaf, branch, bounds_of, indexed, build, tree_of}
use Rattle.clearance.specs.Walk.{contributes, with_pair, walk, no_figures, walk_all, visit_count}
use Rattle.clearance.specs.Answer.{all_pairs}
use Rattle.drawing.proofs.Fit.{FitNode}
use Rattle.clearance.proofs.Distances.{exempt-perm, distances_good, distances-perm}
use Rattle.clearance.proofs.Violations.{violations-perm}

-- the walk uses exemptions only through `exempt`
walk-exempt : (ex ey : List Exemption) → ((net id : ℕ) → exempt ex net id ≡ exempt ey net id) → (t : Float) (s : Segment) (tree : Tree) (g : Figures) → walk ex t s tree g ≡ walk ey t s tree g
unfolding walk
walk-exempt ex ey e t s empty g = refl
walk-exempt ex ey e t s (leaf n) g = let d = distance (segment_box s) n.bounds in λ i. cond (contributes d t g.least) (visit (free (with_pair (e s.net n.id i) t d g))) (free g)
walk-exempt ex ey e t s (branch b l r) g =
    let p = segment_box s in
    λ i. cond (contributes (distance p b) t g.least)
    (cond (leb (key_of (distance p (bounds_of l))) (key_of (distance p (bounds_of r))))
    (after (walk-exempt ex ey e t s l g i) (λ h. walk-exempt ex ey e t s r h i))
    (after (walk-exempt ex ey e t s r g i) (λ h. walk-exempt ex ey e t s l h i)))
    (free g)

tree-order : {ns ms : List Node} → Perm ns ms → All NodeHeld ns → tree_of ns ≡ tree_of ms
unfolding tree_of
tree-order r h = λ i. build (perm-length r i) (map indexed (nodes-one-order r h i))

module _ {ex ey : List Exemption} (t : ℕ → Float) {ss rs : List Segment} {ns ms : List Node} (p : Perm ex ey) (q : Perm ss rs) (r : Perm ns ms) where
  pub walk-any_order : All SegmentHeld ss → All NodeHeld ns → walk_all ex t ss ns ≡ walk_all ey t rs ms
  unfolding walk_all
  walk-any_order g h = λ i. runs (λ f s. walk-exempt ex ey (exempt-perm p) (t s.net) s (tree-order r h i) f i) no_figures (segments-one-order q g i)

  pub visits_any_order : All SegmentHeld ss → All NodeHeld ns → visit_count ex t ss ns ≡ visit_count ey t rs ms
  unfolding visit_count
  visits_any_order g h = λ i. (walk-any_order g h i).cost

  pub figures-any_order : All FitSegment ss → All FitNode ns → figures ex t ss ns ≡ figures ey t rs ms
  unfolding figures
  figures-any_order g h = λ i. record { least = least-gap-perm (distances-perm p q r) (distances_good ex ss ns g h) i; violations = violations-perm t p q r i }

  pub all-pairs-any_order : All FitSegment ss → All FitNode ns → all_pairs ex t ss ns ≡ all_pairs ey t rs ms
  unfolding all_pairs
  all-pairs-any_order g h =
      let v = visits_any_order (all_map (λ s f. f.held) ss g) (all_map (λ n f. f.held) ns h) in
      λ i. record { value = figures-any_order g h i; cost = v i }
