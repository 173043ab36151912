-- The Rust's sweep over wires measures the figures over all pairs, and its visits are the formula. Assumes nothing.
use Rattle.std.specs.Prelude.{Float, Option, None}
use mathlib.Core.Path.{◌≡◌, refl, sym, ap, ap₂, ◌∙◌, subst}
use mathlib.Core.Logic.{inl, inr}
use mathlib.Core.List.{List, [], ◌∷◌}
use mathlib.Core.Bool.{Bool, true, false, not, ◌&&◌, beq, cond, and_comm}
use Prim.Native.Nat.{ℕ, ◌+◌, ◌*◌, ◌<◌, max}
use native.Mathlib.Omega.{arith}
use native.Mathlib.Nat.{le_trans, le_of_eq}
use lib.Dec.{ltb, eqb}
use lib.ListN.{length}
use borrow.Author.Tests.{ltb-true, lt-ltb, le-ltb, eqb-true, eqb-false, eq-eqb}
use Rattle.laws.specs.Lists.{Mem, fold, bit, pairs}
use Rattle.laws.specs.Least.{lesser}
use Rattle.laws.specs.Charged.{Charged, free, after}
use Rattle.laws.proofs.Tests.{decide, cond_true, cond_false}
use Rattle.laws.proofs.ListLaws.{mem_pairs}
use Rattle.laws.proofs.Folds.{plus, greatest, fold-unit, count-at_most}
use Rattle.congestion.specs.declared.report.ParallelCongestion.{ParallelCongestion}
use Rattle.congestion.specs.Wires.{Wire}
use Rattle.congestion.specs.Cells.{cells, covers}
use Rattle.rows.specs.Rows.{at_least_two}
use Rattle.congestion.specs.Figures.{apart, overlaps, overlap, close, other, close_other, total, stretches, congested, close_other_pairs, pair_overlap, neighbors_on, peak}
use Rattle.congestion.specs.AllPairs.{lengths}
use Rattle.congestion.specs.Walk.{State, gap, begin, along, only, gap_of_units, sweep_wires}
use Rattle.congestion.proofs.UnitVisits.{close_pairs, in_orientation, visits}
use Rattle.congestion.proofs.FoldLaws.{fewest, fold-chosen}
use Rattle.congestion.proofs.Beginning.{Sound}
use Rattle.congestion.proofs.Oriented.{least_units, stretches_are, congested-is, peak-is, overlap-is, cost-is, least-is}
use Rattle.congestion.proofs.Orientations.{of-only, length-only, alike, congested-two, peak-two, overlap-two, least-two, visits_two}

sound_only : (h : Bool) (l : List Wire) → Sound l → Sound (only h l)
sound_only h l v = record { few = le_trans (le_of_eq (length-only h l)) (le_trans (count-at_most (λ s. beq h s.horizontal) l) v.few); ordered = λ s m. v.ordered s (of-only h s l m).0 }

-- ---- figures that are all 0: no wire is close to one of a different net
module _ (c : ℕ) (l : List Wire) (no-others : (s t : Wire) → Mem s l → Mem t l → close_other c s t ≡ false) where
  none-on : (s : Wire) → Mem s l → (k : ℕ) → neighbors_on c l s k ≡ 0
  none-on s m k = fold-unit plus (λ t. bit (close_other c s t && covers k t)) l (λ t n. ap (λ (b : Bool). bit (b && covers k t)) (no-others s t m n))

  pub no_congested : congested c l ≡ 0
  unfolding congested
  no_congested = fold-unit plus (stretches c l) l (λ s m. stretches_are c l s ∙ fold-unit plus (λ k. bit (not (eqb (neighbors_on c l s k) 0))) (cells s) (λ k n. ap (λ (z : ℕ). bit (not (eqb z 0))) (none-on s m k)))

  no_peak : peak c l ≡ 0
  unfolding peak
  no_peak = fold-unit greatest (λ s. fold max 0 (neighbors_on c l s) (cells s)) l (λ s m. fold-unit greatest (neighbors_on c l s) (cells s) (λ k n. none-on s m k))

  pub no_overlap : pair_overlap c l ≡ 0
  unfolding pair_overlap close_other_pairs
  no_overlap = fold-chosen plus (λ p. overlap p.0 p.1) (λ p. close_other c p.0 p.1) (λ p. p) (pairs l) ∙ fold-unit plus (λ p. cond (close_other c p.0 p.1) (overlap p.0 p.1) 0) (pairs l) (λ p m. let h = mem_pairs p l m in ap (λ (b : Bool). cond b (overlap p.0 p.1) 0) (no-others p.0 p.1 h.0 h.1))

  pub no_least : least_units c l ≡ None
  no_least = fold-unit fewest (λ p. cond (close_other c p.0 p.1) (gap p.0 p.1) None) (pairs l) (λ p m. let h = mem_pairs p l m in ap (λ (b : Bool). cond b (gap p.0 p.1) None) (no-others p.0 p.1 h.0 h.1))

-- a cutoff of 0
none-near : (c : ℕ) → c ≡ 0 → (l : List Wire) (s t : Wire) → Mem s l → Mem t l → close_other c s t ≡ false
none-near c e l s t m n = ap (λ (b : Bool). ((beq s.horizontal t.horizontal && b) && overlaps s t) && other s t) (le-ltb (apart s.fixed t.fixed) c (omega arith)) ∙ rw (and_comm (beq s.horizontal t.horizontal) false)

-- a list with no two wires
pub alone : (c : ℕ) (l : List Wire) → length l < 2 → (s t : Wire) → Mem s l → Mem t l → close_other c s t ≡ false
alone c [] h s t m n = elim m [ ]
alone c (x ∷ []) h s t (inl e) (inr n) = elim n [ ]
alone c (x ∷ []) h s t (inr m) n = elim m [ ]
alone c (x ∷ []) h s t (inl e) (inl g) = ap (λ (b : Bool). close c s t && not b) (eq-eqb s.net t.net (ap (λ (w : Wire). w.net) (e ∙ sym g))) ∙ and_comm (close c s t) false
alone c (x ∷ y ∷ l) h s t m n = absurd (omega arith)

no_pair : (c : ℕ) (l : List Wire) → length l < 2 → close_pairs c l ≡ 0
unfolding close_pairs fold pairs
no_pair c [] h = refl
no_pair c (x ∷ []) h = refl
no_pair c (x ∷ y ∷ l) h = absurd (omega arith)

-- ---- a run that has found the figures of the wires of one orientation
pub record Right (c : ℕ) (l : List Wire) (r : Charged State) : Type 0 where
  pub congested-right : r.value.congested_length ≡ congested c l
  pub overlap-right : r.value.pair_overlap_length ≡ pair_overlap c l
  pub peak-right : r.value.peak_close_neighbors ≡ peak c l
  pub least-right : r.value.minimum_positive ≡ least_units c l
  pub cost-right : r.cost ≡ at_least_two (length l) + 2 * close_pairs c l

few-right : (c : ℕ) (l : List Wire) → length l < 2 → Right c l (free (begin []))
few-right c l h = let q = alone c l h in record {
  congested-right = sym (no_congested c l q);
  overlap-right = sym (no_overlap c l q);
  peak-right = sym (no_peak c l q);
  least-right = sym (no_least c l q);
  cost-right = sym (ap₂ (λ (b : Bool) (n : ℕ). cond b 0 (length l) + 2 * n) (lt-ltb (length l) 2 h) (no_pair c l h));
}

pub one_way : (c : ℕ) → 0 < c → (h : Bool) (l : List Wire) → Sound l → Right c (only h l) (along c (only h l))
unfolding along
one_way c pos h l v = elim (decide (ltb (length (only h l)) 2)) [
  | inl e ↦ subst (Right c (only h l)) (sym (cond_true (ltb (length (only h l)) 2) _ _ e)) (few-right c (only h l) (ltb-true (length (only h l)) 2 e))
  | inr e ↦ subst (Right c (only h l)) (sym (cond_false (ltb (length (only h l)) 2) _ _ e)) (record {
    congested-right = congested-is c (only h l) few like;
    overlap-right = overlap-is c (only h l) few like;
    peak-right = peak-is c (only h l) few like;
    least-right = least-is c (only h l) few like;
    cost-right = cost-is c (only h l) few like pos ∙ ap (λ (b : Bool). cond b 0 (length (only h l)) + 2 * close_pairs c (only h l)) (sym e);
  })
]
  where
    few : Sound (only h l)
    few = sound_only h l v

    like : (s t : Wire) → Mem s (only h l) → Mem t (only h l) → beq s.horizontal t.horizontal ≡ true
    like s t m n = alike h s.horizontal t.horizontal (of-only h s l m).1 (of-only h t l n).1

-- ---- the whole sweep
-- figures given in 64ths, at a cost
abbrev pub gathered : ℕ → ℕ → ℕ → ℕ → Option ℕ → ℕ → Charged (ParallelCongestion × Option Float)
gathered t c o p g n = record { value = (lengths t c o p, gap_of_units g); cost = n }

abbrev pub found : ℕ → List Wire → Charged (ParallelCongestion × Option Float)
found c l = gathered (total l) (congested c l) (pair_overlap c l) (peak c l) (least_units c l) (visits c l)

-- SCOPE 3.16, 4.5: "Cutoff 0 or less gives total length, zeros and an absent gap", at no cost
pub zero-cutoff : (c : ℕ) → c ≡ 0 → (l : List Wire) → found c l ≡ gathered (total l) 0 0 0 None 0
unfolding visits
zero-cutoff c e l =
    let q = none-near c e l in
    let a = no_congested c l q in
    let b = no_overlap c l q in
    let d = no_peak c l q in
    let g = no_least c l q in
    let n = cond_true (eqb c 0) 0 (at_least_two (in_orientation true l) + at_least_two (in_orientation false l) + 2 * close_pairs c l) (eq-eqb c 0 e) in
    λ i. gathered (total l) (a i) (b i) (d i) (g i) (n i)

pub sweep_finds : (c : ℕ) (l : List Wire) → Sound l → sweep_wires c l ≡ found c l
unfolding sweep_wires visits
sweep_finds c l v = elim (decide (eqb c 0)) [
  | inl e ↦ cond_true (eqb c 0) _ _ e ∙ sym (zero-cutoff c (eqb-true c 0 e) l)
  | inr e ↦ cond_false (eqb c 0) _ _ e ∙ everything e (one_way c (pos (eqb-false c 0 e)) true l v) (one_way c (pos (eqb-false c 0 e)) false l v)
]
  where
    pos : (c ≡ 0 → ⊥) → 0 < c
    pos h = omega arith

    everything : eqb c 0 ≡ false → Right c (only true l) (along c (only true l)) → Right c (only false l) (along c (only false l))
        → after (along c (only true l)) (λ h. after (along c (only false l)) (λ w. free (
          lengths (total l) (h.congested_length + w.congested_length) (h.pair_overlap_length + w.pair_overlap_length) (max h.peak_close_neighbors w.peak_close_neighbors),
          gap_of_units (lesser ltb h.minimum_positive w.minimum_positive),
        ))) ≡ found c l
    everything e h w =
        let a = ap₂ ◌+◌ h.congested-right w.congested-right ∙ sym (congested-two c l) in
        let b = ap₂ ◌+◌ h.overlap-right w.overlap-right ∙ sym (overlap-two c l) in
        let d = ap₂ max h.peak-right w.peak-right ∙ sym (peak-two c l) in
        let g = ap₂ (lesser ltb) h.least-right w.least-right ∙ sym (least-two c l) in
        let n = ap₂ (λ (x y : ℕ). x + (y + 0)) h.cost-right w.cost-right ∙ last (at_least_two (length (only true l)) + 2 * close_pairs c (only true l)) (at_least_two (length (only false l)) + 2 * close_pairs c (only false l)) ∙ sym (visits_two c l) ∙ sym (cond_false (eqb c 0) 0 (at_least_two (in_orientation true l) + at_least_two (in_orientation false l) + 2 * close_pairs c l) e) in
        λ i. gathered (total l) (a i) (b i) (d i) (g i) (n i)
      where
        last : (x y : ℕ) → x + (y + 0) ≡ x + y
        last x y = omega arith
