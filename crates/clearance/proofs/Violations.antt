-- The violations over all pairs are those of each segment added up, each with the threshold of its net; the order of the lists does not matter. Assumes nothing.
use Rattle.std.proofs.Common.{◌≡◌, ℕ, ◌+◌, Bool, true, false, not, ◌&&◌, List, [], ◌∷◌, map, sym, refl, ap, ◌∙◌, ap₂, arith}
use lib.Ieee.{Float, lt}
use Rattle.laws.specs.Lists.{put, chosen, fold, bit, sum, count, beside, cross}
use Rattle.laws.specs.Perm.{Perm}
use Rattle.laws.proofs.Perms.{perm-count, perm-chosen, perm-cross}
use Rattle.laws.proofs.Folds.{plus, fold-append}
use Rattle.drawing.specs.Entries.{Segment, Node, Exemption}
use Rattle.boxes.specs.Boxes.{segment_box, distance}
use Rattle.clearance.specs.Figures.{exempt, pair_distance, violates}
use Rattle.clearance.specs.Tree.{IndexedNode, indexed}
use Rattle.clearance.proofs.Distances.{distances_of, exempt-perm}

-- the number of distances below a threshold
abbrev pub under : Float → List Float → ℕ
under t ds = count (λ d. lt d t) ds

module _ (ex : List Exemption) (t : ℕ → Float) where
  -- the violations of one segment with the nodes of a list
  abbrev pub under_of : List IndexedNode → Segment → ℕ
  under_of l s = under (t s.net) (distances_of ex s l)

  pub under_beside : (s : Segment) (ns : List Node) → under_of (map indexed ns) s ≡ count (violates ex t) (beside s ns)
  unfolding fold chosen indexed violates
  under_beside s [] = refl
  under_beside s (n ∷ ns) = go (not (exempt ex s.net n.id)) (distance (segment_box s) (indexed n).bounds) (distances_of ex s (map indexed ns)) (count (violates ex t) (beside s ns)) (under_beside s ns)
    where
      go : (b : Bool) (d : Float) (r : List Float) (m : ℕ) → under (t s.net) r ≡ m → under (t s.net) (put b d r) ≡ bit (b && lt d (t s.net)) + m
      go true d r m e = ap (λ (k : ℕ). bit (lt d (t s.net)) + k) e
      go false d r m e = e ∙ omega arith

  pub under_cross : (ss : List Segment) (ns : List Node) → sum (under_of (map indexed ns)) ss ≡ count (violates ex t) (cross ss ns)
  unfolding fold cross
  under_cross [] ns = refl
  under_cross (s ∷ ss) ns = ap₂ ◌+◌ (under_beside s ns) (under_cross ss ns) ∙ sym (fold-append plus (λ (p : Segment × Node). bit (violates ex t p)) (beside s ns) (cross ss ns))

  pub under_perm : {l r : List IndexedNode} → Perm l r → (s : Segment) → under_of l s ≡ under_of r s
  under_perm p s = perm-count (λ d. lt d (t s.net)) (perm-chosen (λ n. not (exempt ex s.net n.id)) (λ n. distance (segment_box s) n.bounds) p)

-- ---- in any order
pub violations-perm : (t : ℕ → Float) {ex ey : List Exemption} {ss rs : List Segment} {ns ms : List Node} → Perm ex ey → Perm ss rs → Perm ns ms → count (violates ex t) (cross ss ns) ≡ count (violates ey t) (cross rs ms)
unfolding violates
violations-perm t {ex} {ey} {ss} {rs} {ns} {ms} p q r =
    perm-count (violates ex t) (perm-cross q r)
    ∙ (λ i. count (λ (z : Segment × Node). not (exempt-perm p z.0.net z.1.id i) && lt (pair_distance z) (t z.0.net)) (cross rs ms))
