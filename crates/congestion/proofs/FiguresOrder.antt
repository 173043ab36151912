-- SCOPE 9.4: "List order decides nothing in a report": the figures over all pairs and the visits are the same for every order of the wires. Assumes nothing.
use Rattle.std.specs.Prelude.{Option, None}
use mathlib.Core.Path.{◌≡◌, refl, sym, ap, ap₂, ◌∙◌}
use mathlib.Core.List.{List}
use mathlib.Core.Bool.{Bool, true, false, not, ◌&&◌, beq, cond}
use Prim.Native.Nat.{ℕ, ◌+◌, ◌-◌, ◌*◌, max}
use native.Mathlib.Nat.{max_comm, min_comm}
use lib.Dec.{ltb, eqb}
use Rattle.laws.specs.Lists.{fold, bit}
use Rattle.laws.specs.Perm.{Perm}
use Rattle.laws.proofs.Folds.{plus, greatest, fold_same, fold-perm}
use Rattle.congestion.specs.Wires.{Wire}
use Rattle.congestion.specs.Cells.{extent, cells, covers}
use Rattle.rows.specs.Rows.{at_least_two}
use Rattle.congestion.specs.Figures.{overlap, close, close_other, total, stretches, congested, pair_overlap, neighbors_on, peak}
use Rattle.congestion.specs.Walk.{gap}
use Rattle.congestion.proofs.UnitVisits.{close_pairs, visits}
use Rattle.congestion.proofs.FoldLaws.{fewest, pairs-perm}
use Rattle.congestion.proofs.Tracking.{eqb_turn}
use Rattle.congestion.proofs.Oriented.{apart-turn, gap-turn, least_units, stretches_are}
use Rattle.congestion.proofs.Orientations.{overlap-sum}
use Rattle.congestion.proofs.SweepFigures.{gathered, found}

-- ---- of two wires either may come first
beq_turn : (a b : Bool) → beq a b ≡ beq b a
beq_turn true true = refl
beq_turn true false = refl
beq_turn false true = refl
beq_turn false false = refl

close-turn : (c : ℕ) (s t : Wire) → close c s t ≡ close c t s
close-turn c s t =
    ap₂ ◌&&◌ (ap₂ (λ (a : Bool) (n : ℕ). a && ltb n c) (beq_turn s.horizontal t.horizontal) (apart-turn s.fixed t.fixed))
    (ap₂ ltb (max_comm s.start t.start) (min_comm s.end t.end))

close-other-turn : (c : ℕ) (s t : Wire) → close_other c s t ≡ close_other c t s
close-other-turn c s t = ap₂ (λ (a b : Bool). a && not b) (close-turn c s t) (eqb_turn s.net t.net)

overlap-turn : (s t : Wire) → overlap s t ≡ overlap t s
overlap-turn s t = ap₂ (λ (a b : ℕ). a - b) (min_comm s.end t.end) (max_comm s.start t.start)

-- ---- each figure
module _ (c : ℕ) {l m : List Wire} (p : Perm l m) where
  total-order : total l ≡ total m
  unfolding total
  total-order = fold-perm plus extent p

  neighbors-on-order : (s : Wire) (k : ℕ) → neighbors_on c l s k ≡ neighbors_on c m s k
  neighbors-on-order s k = fold-perm plus (λ t. bit (close_other c s t && covers k t)) p

  congested-order : congested c l ≡ congested c m
  unfolding congested
  congested-order =
      fold_same plus (stretches c l) (stretches c m) l (λ s n. stretches_are c l s ∙ fold_same plus (λ k. bit (not (eqb (neighbors_on c l s k) 0))) (λ k. bit (not (eqb (neighbors_on c m s k) 0))) (cells s) (λ k q. ap (λ (z : ℕ). bit (not (eqb z 0))) (neighbors-on-order s k)) ∙ sym (stretches_are c m s))
      ∙ fold-perm plus (stretches c m) p

  peak-order : peak c l ≡ peak c m
  unfolding peak
  peak-order =
      fold_same greatest (λ s. fold max 0 (neighbors_on c l s) (cells s)) (λ s. fold max 0 (neighbors_on c m s) (cells s)) l (λ s n. fold_same greatest (neighbors_on c l s) (neighbors_on c m s) (cells s) (λ k q. neighbors-on-order s k))
      ∙ fold-perm greatest (λ s. fold max 0 (neighbors_on c m s) (cells s)) p

  overlap-order : pair_overlap c l ≡ pair_overlap c m
  overlap-order = overlap-sum c l ∙ pairs-perm plus (λ q. cond (close_other c q.0 q.1) (overlap q.0 q.1) 0) (λ s t. ap₂ (λ (b : Bool) (n : ℕ). cond b n 0) (close-other-turn c s t) (overlap-turn s t)) p ∙ sym (overlap-sum c m)

  least-order : least_units c l ≡ least_units c m
  least-order = pairs-perm fewest (λ q. cond (close_other c q.0 q.1) (gap q.0 q.1) None) (λ s t. ap₂ (λ (b : Bool) (g : Option ℕ). cond b g None) (close-other-turn c s t) (gap-turn s t)) p

  visits_order : visits c l ≡ visits c m
  unfolding visits close_pairs
  visits_order =
      let h = fold-perm plus (λ s. bit (beq true s.horizontal)) p in
      let v = fold-perm plus (λ s. bit (beq false s.horizontal)) p in
      let q = pairs-perm plus (λ q. bit (close c q.0 q.1)) (λ s t. ap bit (close-turn c s t)) p in
      λ i. cond (eqb c 0) 0 (at_least_two (h i) + at_least_two (v i) + 2 * q i)

  pub found-order : found c l ≡ found c m
  found-order = λ i. gathered (total-order i) (congested-order i) (overlap-order i) (peak-order i) (least-order i) (visits_order i)
