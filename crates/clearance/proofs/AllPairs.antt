-- The walk's figures are the figures over all pairs, as data, for fit lists. Assumes nothing.
use Rattle.std.proofs.Common.{◌≡◌, ℕ, ◌+◌, List, [], ◌∷◌, ◌++◌, map, sym, ap, ◌∙◌, append_assoc, append-nil, add-zero, add_assoc, zero-add}
use lib.Ieee.{Float, binary64}
use Rattle.laws.specs.Lists.{All, fold, sum, count, cross}
use Rattle.laws.specs.Perm.{Perm, via}
use Rattle.laws.specs.Charged.{runs}
use Rattle.laws.proofs.ListLaws.{all_append}
use Rattle.laws.proofs.Perms.{perm_refl, perm_sym, perm-eq, perm-all}
use Rattle.laws.proofs.Folds.{plus, fold_same, fold-perm}
use Rattle.floats.proofs.Rank.{Num}
use Rattle.floats.proofs.Gaps.{Good}
use Rattle.drawing.specs.Entries.{Segment, Node, Exemption}
use Rattle.drawing.specs.Orders.{segments_in_order}
use Rattle.drawing.proofs.GapLaws.{least-none, least-gap-perm}
use Rattle.drawing.proofs.ListOrders.{segments-in_order-perm}
use Rattle.clearance.specs.Figures.{Figures, distances, violates, figures}
use Rattle.clearance.specs.Tree.{Tree, indexed, tree_of}
use Rattle.clearance.specs.Walk.{walk, walk_all, visit_count}
use Rattle.clearance.specs.Answer.{all_pairs}
use Rattle.drawing.specs.Held.{FitSegment}
use Rattle.drawing.proofs.Fit.{FitNode, FitThreshold, threshold_num}
use Rattle.clearance.proofs.TreeLaws.{leaves, Sound, sound_fit, tree-leaves, tree_sound}
use Rattle.clearance.proofs.Distances.{distances_of, good_distances, distances_all, good_distances_all, perm-distances-all, distances-all, distances-perm}
use Rattle.clearance.proofs.Violations.{under_of, under_cross, under_perm}
use Rattle.clearance.proofs.WalkFigures.{sofar, walk-figures}

module _ (ex : List Exemption) (t : ℕ → Float) where
  -- all segments, over any sound tree
  runs-figures : ((net : ℕ) → Num binary64 (t net)) → (tree : Tree) → Sound tree → (ss : List Segment) → All FitSegment ss → (seen : List Float) → All Good seen → (v : ℕ)
      → (runs (λ g s. walk ex (t s.net) s tree g) (sofar seen v) ss).value ≡ sofar (seen ++ distances_all ex ss (leaves tree)) (v + sum (under_of ex t (leaves tree)) ss)
  unfolding runs distances_all fold
  runs-figures q tree h [] p seen k v = sym (λ i. sofar (append-nil seen i) (add-zero v i))
  runs-figures q tree h (s ∷ ss) p seen k v =
      let ds = distances_of ex s (leaves tree) in
      let u = under_of ex t (leaves tree) s in
      ap (λ (g : Figures). (runs (λ g s. walk ex (t s.net) s tree g) g ss).value) (walk-figures ex (t s.net) s (q s.net) p.0 tree h seen k v)
      ∙ runs-figures q tree h ss p.1 (seen ++ ds) (all_append Good seen ds k (good_distances ex s (leaves tree) p.0 (sound_fit tree h))) (v + u)
      ∙ (λ i. sofar (append_assoc seen ds (distances_all ex ss (leaves tree)) i) (add_assoc v u (sum (under_of ex t (leaves tree)) ss) i))

  module _ (ss : List Segment) (ns : List Node) (q : (net : ℕ) → FitThreshold (t net)) (p : All FitSegment ss) (h : All FitNode ns) where
    pub walk-all-figures : (walk_all ex t ss ns).value ≡ figures ex t ss ns
    unfolding walk_all figures
    walk-all-figures =
        let rs = segments_in_order ss in
        let order = segments-in_order-perm ss in
        let fit = perm-all FitSegment (perm_sym order) p in
        let tree = tree_of ns in
        let sound = tree_sound ns h in
        let same : Perm (distances_all ex rs (leaves tree)) (distances ex ss ns) = via (perm-distances-all ex rs (tree-leaves ns)) (via (perm-eq (sym (distances-all ex rs ns))) (distances-perm (perm_refl ex) order (perm_refl ns))) in
        let l = least-gap-perm same (good_distances_all ex rs (leaves tree) fit (sound_fit tree sound)) in
        let all = sum (under_of ex t (leaves tree)) rs in
        let v : all ≡ count (violates ex t) (cross ss ns) = fold_same plus (under_of ex t (leaves tree)) (under_of ex t (map indexed ns)) rs (λ s m. under_perm ex t (tree-leaves ns) s) ∙ fold-perm plus (under_of ex t (map indexed ns)) order ∙ under_cross ex t ss ns in
        ap (λ (g : Figures). (runs (λ g s. walk ex (t s.net) s tree g) g rs).value) (λ i. record { least = sym least-none i; violations = 0 })
        ∙ runs-figures (λ net. threshold_num (t net) (q net)) tree sound rs fit [] tt 0
        ∙ (λ i. record { least = l i; violations = (zero-add all ∙ v) i })

    -- so the walk is the all-pairs report with its count
    pub walk-all-pairs : walk_all ex t ss ns ≡ all_pairs ex t ss ns
    unfolding all_pairs visit_count
    walk-all-pairs = λ i. record { value = walk-all-figures i; cost = (walk_all ex t ss ns).cost }
