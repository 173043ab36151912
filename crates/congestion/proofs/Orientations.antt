-- Wires of different orientations are never close: each figure is composed of those of the two orientations. Assumes nothing.
use Rattle.std.specs.Prelude.{None}
use mathlib.Core.Path.{◌≡◌, refl, sym, ap, ap₂, ◌∙◌, subst}
use mathlib.Core.List.{List, [], ◌∷◌}
use mathlib.Core.Bool.{Bool, true, false, not, ◌&&◌, beq, cond}
use Prim.Native.Nat.{ℕ, ◌+◌, ◌*◌, max}
use native.Mathlib.Omega.{arith}
use lib.Dec.{ltb, eqb}
use lib.ListN.{length}
use Rattle.laws.specs.Lists.{Mem, put, chosen, fold, bit, sum, pairs}
use Rattle.laws.specs.Least.{lesser}
use Rattle.laws.proofs.Tests.{clash}
use Rattle.laws.proofs.ListLaws.{mem_chosen}
use Rattle.laws.proofs.Folds.{Monoid, plus, greatest, idr, fold_same, fold_both, count-chosen}
use Rattle.congestion.specs.Wires.{Wire}
use Rattle.congestion.specs.Cells.{cells, covers}
use Rattle.rows.specs.Rows.{at_least_two}
use Rattle.congestion.specs.Figures.{apart, near, overlaps, overlap, close, other, close_other, stretches, congested, close_other_pairs, pair_overlap, neighbors_on, peak}
use Rattle.congestion.specs.Walk.{gap, only}
use Rattle.congestion.proofs.UnitVisits.{close_pairs, in_orientation}
use Rattle.congestion.proofs.FoldLaws.{fewest, fold-chosen, fold-pairs}
use Rattle.congestion.proofs.Oriented.{least_units, stretches_are}

-- ---- the wires of one orientation
pub of-only : (h : Bool) (s : Wire) (l : List Wire) → Mem s (only h l) → Mem s l × (beq h s.horizontal ≡ true)
of-only h s l m =
    let r = mem_chosen (λ (t : Wire). beq h t.horizontal) (λ t. t) s l m in
    (subst (λ (t : Wire). Mem t l) (sym r.3) r.1, ap (λ (t : Wire). beq h t.horizontal) r.3 ∙ r.2)

pub length-only : (h : Bool) (l : List Wire) → length (only h l) ≡ in_orientation h l
length-only h l = sym (count-chosen (λ (t : Wire). beq h t.horizontal) (λ t. t) l)

pub alike : (h a b : Bool) → beq h a ≡ true → beq h b ≡ true → beq a b ≡ true
alike true true b p q = q
alike true false b p q = clash false p refl
alike false true b p q = clash false p refl
alike false false b p q = q

unlike : (h a b : Bool) → beq h a ≡ true → beq h b ≡ false → beq a b ≡ false
unlike true true b p q = q
unlike true false b p q = clash false p refl
unlike false true b p q = clash false p refl
unlike false false b p q = q

-- ---- folds over both
module _ {M : Type 0} {◌⊕◌ : M → M → M} {u : M} (W : Monoid ◌⊕◌ u) where
  infixl 65 ◌⊕◌
  fold-two : (f : Wire → M) (l : List Wire) → fold ◌⊕◌ u f l ≡ fold ◌⊕◌ u f (only true l) ⊕ fold ◌⊕◌ u f (only false l)
  fold-two f l =
      fold_same W f (λ s. cond (beq true s.horizontal) (f s) u ⊕ cond (beq false s.horizontal) (f s) u) l (λ s m. go s.horizontal (f s))
      ∙ fold_both W (λ s. cond (beq true s.horizontal) (f s) u) (λ s. cond (beq false s.horizontal) (f s) u) l
      ∙ sym (ap₂ ◌⊕◌ (fold-chosen W f (λ s. beq true s.horizontal) (λ s. s) l) (fold-chosen W f (λ s. beq false s.horizontal) (λ s. s) l))
    where
      go : (b : Bool) (x : M) → x ≡ cond (beq true b) x u ⊕ cond (beq false b) x u
      go true x = sym (idr W x)
      go false x = sym (W.idl x)

  -- f is u but for the wires of the orientation h
  fold-only : (h : Bool) (f : Wire → M) (l : List Wire) → ((t : Wire) → beq h t.horizontal ≡ false → f t ≡ u) → fold ◌⊕◌ u f l ≡ fold ◌⊕◌ u f (only h l)
  fold-only h f l z = fold_same W f (λ s. cond (beq h s.horizontal) (f s) u) l (λ s m. go s (beq h s.horizontal) refl) ∙ sym (fold-chosen W f (λ s. beq h s.horizontal) (λ s. s) l)
    where
      go : (s : Wire) (b : Bool) → beq h s.horizontal ≡ b → f s ≡ cond b (f s) u
      go s true e = refl
      go s false e = z s e

  -- f is u but for the pairs of one orientation
  pairs-two : (f : Wire × Wire → M) (l : List Wire) → ((s t : Wire) → beq s.horizontal t.horizontal ≡ false → f (s, t) ≡ u) → fold ◌⊕◌ u f (pairs l) ≡ fold ◌⊕◌ u f (pairs (only true l)) ⊕ fold ◌⊕◌ u f (pairs (only false l))
  unfolding chosen fold pairs
  pairs-two f [] z = sym (W.idl u)
  pairs-two f (x ∷ l) z = fold-pairs W f x l ∙ go x.horizontal refl (pairs-two f l z)
    where
      row : (h : Bool) → x.horizontal ≡ h → fold ◌⊕◌ u (λ y. f (x, y)) l ≡ fold ◌⊕◌ u (λ y. f (x, y)) (only h l)
      row h e = fold-only h (λ y. f (x, y)) l (λ t q. z x t (ap (λ (b : Bool). beq b t.horizontal) e ∙ q))

      go : (b : Bool) → x.horizontal ≡ b → fold ◌⊕◌ u f (pairs l) ≡ fold ◌⊕◌ u f (pairs (only true l)) ⊕ fold ◌⊕◌ u f (pairs (only false l))
          → fold ◌⊕◌ u (λ y. f (x, y)) l ⊕ fold ◌⊕◌ u f (pairs l) ≡ fold ◌⊕◌ u f (pairs (put (beq true x.horizontal) x (only true l))) ⊕ fold ◌⊕◌ u f (pairs (put (beq false x.horizontal) x (only false l)))
      go true e i =
          ap₂ ◌⊕◌ (row true e) i ∙ sym (W.assoc (fold ◌⊕◌ u (λ y. f (x, y)) (only true l)) (fold ◌⊕◌ u f (pairs (only true l))) (fold ◌⊕◌ u f (pairs (only false l))))
          ∙ ap (λ (z : M). z ⊕ fold ◌⊕◌ u f (pairs (only false l))) (sym (fold-pairs W f x (only true l)))
          ∙ ap (λ (b : Bool). fold ◌⊕◌ u f (pairs (put (beq true b) x (only true l))) ⊕ fold ◌⊕◌ u f (pairs (put (beq false b) x (only false l)))) (sym e)
      go false e i =
          ap₂ ◌⊕◌ (row false e) (i ∙ W.comm (fold ◌⊕◌ u f (pairs (only true l))) (fold ◌⊕◌ u f (pairs (only false l))))
          ∙ sym (W.assoc (fold ◌⊕◌ u (λ y. f (x, y)) (only false l)) (fold ◌⊕◌ u f (pairs (only false l))) (fold ◌⊕◌ u f (pairs (only true l))))
          ∙ ap (λ (z : M). z ⊕ fold ◌⊕◌ u f (pairs (only true l))) (sym (fold-pairs W f x (only false l)))
          ∙ W.comm (fold ◌⊕◌ u f (pairs (x ∷ only false l))) (fold ◌⊕◌ u f (pairs (only true l)))
          ∙ ap (λ (b : Bool). fold ◌⊕◌ u f (pairs (put (beq true b) x (only true l))) ⊕ fold ◌⊕◌ u f (pairs (put (beq false b) x (only false l)))) (sym e)

-- ---- the figures
module _ (c : ℕ) where
  far : (s t : Wire) → beq s.horizontal t.horizontal ≡ false → near c s t ≡ false
  far s t e = ap (λ (b : Bool). b && ltb (apart s.fixed t.fixed) c) e

  far_other : (s t : Wire) → beq s.horizontal t.horizontal ≡ false → close_other c s t ≡ false
  far_other s t e = ap (λ (b : Bool). (b && overlaps s t) && other s t) (far s t e)

  neighbors-on-only : (h : Bool) (l : List Wire) (s : Wire) → beq h s.horizontal ≡ true → (k : ℕ) → neighbors_on c l s k ≡ neighbors_on c (only h l) s k
  neighbors-on-only h l s e k = fold-only plus h (λ t. bit (close_other c s t && covers k t)) l (λ t q. ap (λ (b : Bool). bit (b && covers k t)) (far_other s t (unlike h s.horizontal t.horizontal e q)))

  pub congested-two : (l : List Wire) → congested c l ≡ congested c (only true l) + congested c (only false l)
  unfolding congested
  congested-two l = fold-two plus (stretches c l) l ∙ ap₂ ◌+◌ (part true) (part false)
    where
      part : (h : Bool) → sum (stretches c l) (only h l) ≡ sum (stretches c (only h l)) (only h l)
      part h = fold_same plus (stretches c l) (stretches c (only h l)) (only h l)
          (λ s m. stretches_are c l s ∙ fold_same plus (λ k. bit (not (eqb (neighbors_on c l s k) 0))) (λ k. bit (not (eqb (neighbors_on c (only h l) s k) 0))) (cells s) (λ k n. ap (λ (z : ℕ). bit (not (eqb z 0))) (neighbors-on-only h l s (of-only h s l m).1 k)) ∙ sym (stretches_are c (only h l) s))

  pub peak-two : (l : List Wire) → peak c l ≡ max (peak c (only true l)) (peak c (only false l))
  unfolding peak
  peak-two l = fold-two greatest (λ s. fold max 0 (neighbors_on c l s) (cells s)) l ∙ ap₂ max (part true) (part false)
    where
      part : (h : Bool) → fold max 0 (λ s. fold max 0 (neighbors_on c l s) (cells s)) (only h l) ≡ fold max 0 (λ s. fold max 0 (neighbors_on c (only h l) s) (cells s)) (only h l)
      part h = fold_same greatest (λ s. fold max 0 (neighbors_on c l s) (cells s)) (λ s. fold max 0 (neighbors_on c (only h l) s) (cells s)) (only h l)
          (λ s m. fold_same greatest (neighbors_on c l s) (neighbors_on c (only h l) s) (cells s) (λ k n. neighbors-on-only h l s (of-only h s l m).1 k))

  pub overlap-sum : (l : List Wire) → pair_overlap c l ≡ sum (λ p. cond (close_other c p.0 p.1) (overlap p.0 p.1) 0) (pairs l)
  unfolding pair_overlap close_other_pairs
  overlap-sum l = fold-chosen plus (λ p. overlap p.0 p.1) (λ p. close_other c p.0 p.1) (λ p. p) (pairs l)

  pub overlap-two : (l : List Wire) → pair_overlap c l ≡ pair_overlap c (only true l) + pair_overlap c (only false l)
  overlap-two l =
      overlap-sum l
      ∙ pairs-two plus (λ p. cond (close_other c p.0 p.1) (overlap p.0 p.1) 0) l (λ s t e. ap (λ (b : Bool). cond b (overlap s t) 0) (far_other s t e))
      ∙ sym (ap₂ ◌+◌ (overlap-sum (only true l)) (overlap-sum (only false l)))

  pub least-two : (l : List Wire) → least_units c l ≡ lesser ltb (least_units c (only true l)) (least_units c (only false l))
  least-two l = pairs-two fewest (λ p. cond (close_other c p.0 p.1) (gap p.0 p.1) None) l (λ s t e. ap (λ (b : Bool). cond b (gap s t) None) (far_other s t e))

  close-two : (l : List Wire) → close_pairs c l ≡ close_pairs c (only true l) + close_pairs c (only false l)
  unfolding close_pairs
  close-two l = pairs-two plus (λ p. bit (close c p.0 p.1)) l (λ s t e. ap (λ (b : Bool). bit (b && overlaps s t)) (far s t e))

  pub visits_two : (l : List Wire) → at_least_two (in_orientation true l) + at_least_two (in_orientation false l) + 2 * close_pairs c l ≡ (at_least_two (length (only true l)) + 2 * close_pairs c (only true l)) + (at_least_two (length (only false l)) + 2 * close_pairs c (only false l))
  visits_two l = rw (length-only true l, length-only false l, close-two l) (go (at_least_two (in_orientation true l)) (at_least_two (in_orientation false l)) (close_pairs c (only true l)) (close_pairs c (only false l)))
    where
      go : (a b q r : ℕ) → a + b + 2 * (q + r) ≡ (a + 2 * q) + (b + 2 * r)
      go a b q r = omega arith
