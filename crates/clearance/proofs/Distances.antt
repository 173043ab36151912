-- The distances of all pairs, segment by segment: each is a gap that is not negative, and the order of the lists does not matter. Assumes nothing.
use Rattle.std.proofs.Common.{◌≡◌, ℕ, Bool, not, ◌&&◌, eqb, List, [], ◌∷◌, ◌++◌, map, sym, refl, ap, ◌∙◌, subst, ap₂}
use lib.Ieee.{Float}
use Rattle.laws.specs.Lists.{All, put, chosen, beside, cross}
use Rattle.laws.specs.Perm.{Perm, none}
use Rattle.laws.proofs.ListLaws.{all_mem, mem_all, all_append, all-chosen, chosen-append}
use Rattle.laws.proofs.Perms.{perm_both, perm-some, perm-chosen, perm-cross}
use Rattle.floats.proofs.Gaps.{Good}
use Rattle.drawing.specs.Entries.{Segment, Node, Exemption}
use Rattle.boxes.specs.Boxes.{node_box, segment_box, distance}
use Rattle.clearance.specs.Figures.{exempt, not_exempt, pair_distance, distances}
use Rattle.clearance.specs.Tree.{IndexedNode, indexed}
use Rattle.drawing.specs.Held.{FitSegment}
use Rattle.drawing.proofs.Fit.{FitNode}
use Rattle.boxes.proofs.BoxLaws.{fit-segment, distance_good}
use Rattle.clearance.proofs.TreeLaws.{FitIndexed, indexed-fit}

-- ---- one segment with the nodes of a list
abbrev pub distances_of : List Exemption → Segment → List IndexedNode → List Float
distances_of ex s l = chosen (λ n. not (exempt ex s.net n.id)) (λ n. distance (segment_box s) n.bounds) l

pub all-distances : (P : Float → Type 0) (ex : List Exemption) (s : Segment) (l : List IndexedNode) → All (λ n. P (distance (segment_box s) n.bounds)) l → All P (distances_of ex s l)
all-distances P ex s l h = all-chosen P (λ n. not (exempt ex s.net n.id)) (λ n. distance (segment_box s) n.bounds) l h

pub good_distances : (ex : List Exemption) (s : Segment) (l : List IndexedNode) → FitSegment s → All FitIndexed l → All Good (distances_of ex s l)
good_distances ex s l p h = all-distances Good ex s l (mem_all _ l (λ n m. distance_good (segment_box s) n.bounds (fit-segment s p) (all_mem FitIndexed l h n m)))

-- ---- all segments
unfoldable pub distances_all : List Exemption → List Segment → List IndexedNode → List Float
distances_all ex [] l = []
distances_all ex (s ∷ ss) l = distances_of ex s l ++ distances_all ex ss l

pub good_distances_all : (ex : List Exemption) (ss : List Segment) (l : List IndexedNode) → All FitSegment ss → All FitIndexed l → All Good (distances_all ex ss l)
unfolding distances_all
good_distances_all ex [] l p h = tt
good_distances_all ex (s ∷ ss) l p h = all_append Good (distances_of ex s l) (distances_all ex ss l) (good_distances ex s l p.0 h) (good_distances_all ex ss l p.1 h)

pub perm-distances-all : (ex : List Exemption) (ss : List Segment) {l r : List IndexedNode} → Perm l r → Perm (distances_all ex ss l) (distances_all ex ss r)
unfolding distances_all
perm-distances-all ex [] p = none
perm-distances-all ex (s ∷ ss) p = perm_both (perm-chosen (λ n. not (exempt ex s.net n.id)) (λ n. distance (segment_box s) n.bounds) p) (perm-distances-all ex ss p)

-- these are the pairs of the definition
of_one : (ex : List Exemption) (s : Segment) (ns : List Node) → chosen (not_exempt ex) pair_distance (beside s ns) ≡ distances_of ex s (map indexed ns)
unfolding chosen indexed
of_one ex s [] = refl
of_one ex s (n ∷ ns) = ap (put (not (exempt ex s.net n.id)) (distance (segment_box s) (node_box n))) (of_one ex s ns)

pub distances-all : (ex : List Exemption) (ss : List Segment) (ns : List Node) → distances ex ss ns ≡ distances_all ex ss (map indexed ns)
unfolding distances distances_all cross chosen
distances-all ex [] ns = refl
distances-all ex (s ∷ ss) ns = chosen-append (not_exempt ex) pair_distance (beside s ns) (cross ss ns) ∙ ap₂ ◌++◌ (of_one ex s ns) (distances-all ex ss ns)

pub distances_good : (ex : List Exemption) (ss : List Segment) (ns : List Node) → All FitSegment ss → All FitNode ns → All Good (distances ex ss ns)
distances_good ex ss ns p h = subst (All Good) (sym (distances-all ex ss ns)) (good_distances_all ex ss (map indexed ns) p (indexed-fit ns h))

-- ---- in any order
pub exempt-perm : {ex ey : List Exemption} → Perm ex ey → (net id : ℕ) → exempt ex net id ≡ exempt ey net id
unfolding exempt
exempt-perm p net id = perm-some (λ e. eqb e.net net && eqb e.node id) p

pub distances-perm : {ex ey : List Exemption} {ss rs : List Segment} {ns ms : List Node} → Perm ex ey → Perm ss rs → Perm ns ms → Perm (distances ex ss ns) (distances ey rs ms)
unfolding distances
distances-perm {ex} {ey} {ss} {rs} {ns} {ms} p q r =
    subst (λ (t : Segment × Node → Bool). Perm (distances ex ss ns) (chosen t pair_distance (cross rs ms))) (λ i c. not (exempt-perm p c.0.net c.1.id i))
    (perm-chosen (not_exempt ex) pair_distance (perm-cross q r))
