-- What one item more does to the counts over a set of items. The counts of the sweep are these, of the active set. Assumes nothing.
use mathlib.Core.Path.{◌≡◌, refl, sym, ap, ap₂, ◌∙◌, subst}
use mathlib.Core.Logic.{inl, inr}
use mathlib.Core.List.{List, [], ◌∷◌}
use mathlib.Core.Bool.{Bool, true, false, not, ◌&&◌, ◌||◌, cond}
use Prim.Native.Nat.{ℕ, ◌+◌, ◌≤◌, ◌<◌}
use native.Mathlib.Omega.{arith}
use lib.Dec.{T, eqb, eqb→eq, eqb_refl}
use lib.Ieee.Fits.{and_l, and_r, and_i}
use borrow.Author.Tests.{ne_eqb}
use Rattle.laws.specs.Lists.{Mem, fold, bit, sum, count, pairs, Pairwise}
use Rattle.laws.proofs.Tests.{clash, is_true}
use Rattle.laws.proofs.ListLaws.{mem_pairs}
use Rattle.laws.proofs.Folds.{Monoid, plus, idr, fold_same, fold_both, fold-unit, fold_square, count_grows}
use Rattle.congestion.specs.Walk.{Item, same}

-- ---- indices rise along the list, so that an index belongs to one item
abbrev pub Rising : List Item → Type 0
Rising l = Pairwise (λ x y. x.index < y.index) l

pub is_same : (i j : Item) → i ≡ j → T (same i j)
is_same i j e = subst (λ (k : Item). T (same i k)) e (eqb_refl i.index)

not_same : (i j : Item) → (i.index ≡ j.index → ⊥) → same i j ≡ false
not_same i j h = ne_eqb i.index j.index h

pub same-is : (l : List Item) → Rising l → (i j : Item) → Mem i l → Mem j l → i.index ≡ j.index → i ≡ j
same-is [] r i j m _ e = elim m [ ]
same-is (x ∷ l) r i j (inl p) (inl q) e = p ∙ sym q
same-is (x ∷ l) r i j (inl p) (inr n) e = let h : i.index ≡ x.index = ap (λ (z : Item). z.index) p in absurd (omega (arith, r.0 j n))
same-is (x ∷ l) r i j (inr m) (inl q) e = let h : j.index ≡ x.index = ap (λ (z : Item). z.index) q in absurd (omega (arith, r.0 i m))
same-is (x ∷ l) r i j (inr m) (inr n) e = same-is l r.1 i j m n e

-- one entry is picked out of a fold
pub pick : {M : Type 0} {◌⊕◌ : M → M → M} {u : M} (L : Monoid ◌⊕◌ u) (g : Item → M) (l : List Item) → Rising l → (s : Item) → Mem s l → fold ◌⊕◌ u (λ x. cond (same s x) (g x) u) l ≡ g s
unfolding fold
pick L g [] r s m = elim m [ ]
pick {◌⊕◌ = ◌⊕◌} {u = u} L g (x ∷ l) r s (inl e) =
    let h : s.index ≡ x.index = ap (λ (z : Item). z.index) e in
    ap₂ ◌⊕◌ (ap (λ (b : Bool). cond b (g x) u) (is_true (same s x) (is_same s x e)) ∙ ap g (sym e)) (fold-unit L (λ y. cond (same s y) (g y) u) l (λ y m. ap (λ (b : Bool). cond b (g y) u) (not_same s y (λ q. omega (arith, r.0 y m)))))
    ∙ idr L (g s)
pick {◌⊕◌ = ◌⊕◌} {u = u} L g (x ∷ l) r s (inr m) = ap₂ ◌⊕◌ (ap (λ (b : Bool). cond b (g x) u) (not_same s x (λ q. omega (arith, r.0 s m)))) (pick L g l r.1 s m) ∙ L.idl (g s)

-- ---- counts over a set w of items, where R says which items are neighbors
abbrev pub neighbors_in : (Item → Item → Bool) → List Item → (Item → Bool) → Item → ℕ
neighbors_in R l w i = count (λ j. w j && R i j) l

abbrev pub congested_in : (Item → Item → Bool) → List Item → (Item → Bool) → ℕ
congested_in R l w = count (λ i. w i && not (eqb (neighbors_in R l w i) 0)) l

abbrev pub pairs_in : (Item → Item → Bool) → List Item → (Item → Bool) → ℕ
pairs_in R l w = count (λ p. w p.0 && (w p.1 && R p.0 p.1)) (pairs l)

-- they depend only on which items of the list are in the set
module _ (R : Item → Item → Bool) (l : List Item) (v w : Item → Bool) (eq : (j : Item) → Mem j l → v j ≡ w j) where
  pub neighbors-same : (i : Item) → neighbors_in R l v i ≡ neighbors_in R l w i
  neighbors-same i = fold_same plus (λ j. bit (v j && R i j)) (λ j. bit (w j && R i j)) l (λ j m. ap (λ (b : Bool). bit (b && R i j)) (eq j m))

  pub congested-same : congested_in R l v ≡ congested_in R l w
  congested-same = fold_same plus (λ i. bit (v i && not (eqb (neighbors_in R l v i) 0))) (λ i. bit (w i && not (eqb (neighbors_in R l w i) 0))) l (λ i m. ap₂ (λ (b : Bool) (n : ℕ). bit (b && not (eqb n 0))) (eq i m) (neighbors-same i))

  pub pairs-same : pairs_in R l v ≡ pairs_in R l w
  pairs-same = fold_same plus (λ p. bit (v p.0 && (v p.1 && R p.0 p.1))) (λ p. bit (w p.0 && (w p.1 && R p.0 p.1))) (pairs l)
      (λ p m. let h = mem_pairs p l m in ap₂ (λ (a b : Bool). bit (a && (b && R p.0 p.1))) (eq p.0 h.0) (eq p.1 h.1))

-- a wider set has no fewer neighbors
pub neighbors_grow : (R : Item → Item → Bool) (l : List Item) (v w : Item → Bool) → ((j : Item) → Mem j l → T (v j) → T (w j)) → (i : Item) → neighbors_in R l v i ≤ neighbors_in R l w i
neighbors_grow R l v w h i = count_grows (λ j. v j && R i j) (λ j. w j && R i j) l (λ j m t. and_i (w j) (R i j) (h j m (and_l (v j) (R i j) t)) (and_r (v j) (R i j) t))

-- nothing is counted of the empty set
module _ (R : Item → Item → Bool) (l : List Item) where
  pub none-congested : congested_in R l (λ i. false) ≡ 0
  none-congested = fold-unit plus (λ (i : Item). 0) l (λ i m. refl)

  pub none_paired : pairs_in R l (λ i. false) ≡ 0
  none_paired = fold-unit plus (λ (p : Item × Item). 0) (pairs l) (λ p m. refl)

-- ---- v is w with s added
module _ (R : Item → Item → Bool) (R-sym : (i j : Item) → R i j ≡ R j i) (R-irr : (i : Item) → R i i ≡ false) (l : List Item) (rise : Rising l)
    (s : Item) (s∈ : Mem s l) (w v : Item → Bool) (new : w s ≡ false) (adds : (j : Item) → Mem j l → v j ≡ (w j || same s j)) where
  pub gone : (j : Item) → Mem j l → T (same s j) → j ≡ s
  gone j m t = same-is l rise j s m s∈ (sym (eqb→eq s.index j.index t))

  pub out : (j : Item) → Mem j l → T (same s j) → w j ≡ false
  out j m t = ap w (gone j m t) ∙ new

  pub own_out : (j : Item) → Mem j l → T (same s j) → R s j ≡ false
  own_out j m t = ap (R s) (gone j m t) ∙ R-irr s

  -- how each item's count changes
  pub change : (i : Item) → neighbors_in R l v i ≡ neighbors_in R l w i + bit (R s i)
  change i =
      fold_same plus (λ j. bit (v j && R i j)) (λ j. bit (w j && R i j) + cond (same s j) (bit (R i j)) 0) l (λ j m. go (w j) (v j) (same s j) (R i j) (adds j m) (out j m))
      ∙ fold_both plus (λ j. bit (w j && R i j)) (λ j. cond (same s j) (bit (R i j)) 0) l
      ∙ ap (λ (z : ℕ). neighbors_in R l w i + z) (pick plus (λ j. bit (R i j)) l rise s s∈ ∙ ap bit (R-sym i s))
    where
      go : (a b m r : Bool) → b ≡ (a || m) → (T m → a ≡ false) → bit (b && r) ≡ bit (a && r) + cond m (bit r) 0
      go true b true r e f = clash true refl (f tt)
      go false b true r e f = ap (λ (z : Bool). bit (z && r)) e ∙ omega arith
      go true b false r e f = ap (λ (z : Bool). bit (z && r)) e ∙ omega arith
      go false b false r e f = ap (λ (z : Bool). bit (z && r)) e

  pub own-count : neighbors_in R l v s ≡ neighbors_in R l w s
  own-count = change s ∙ ap (λ (b : Bool). neighbors_in R l w s + bit b) (R-irr s) ∙ omega arith

  pub congested-add : congested_in R l v ≡ congested_in R l w + bit (not (eqb (neighbors_in R l w s) 0)) + count (λ j. (w j && R s j) && eqb (neighbors_in R l w j) 0) l
  congested-add =
      fold_same plus (λ j. bit (v j && not (eqb (neighbors_in R l v j) 0))) (λ j. (bit (w j && not (eqb (neighbors_in R l w j) 0)) + cond (same s j) (bit (not (eqb (neighbors_in R l w j) 0))) 0) + bit ((w j && R s j) && eqb (neighbors_in R l w j) 0)) l
      (λ j m. ap₂ (λ (x : Bool) (y : ℕ). bit (x && not (eqb y 0))) (adds j m) (change j) ∙ solve (w j) (R s j) (same s j) (neighbors_in R l w j) (out j m) (own_out j m))
      ∙ fold_both plus (λ j. bit (w j && not (eqb (neighbors_in R l w j) 0)) + cond (same s j) (bit (not (eqb (neighbors_in R l w j) 0))) 0) (λ j. bit ((w j && R s j) && eqb (neighbors_in R l w j) 0)) l
      ∙ ap (λ (z : ℕ). z + count (λ j. (w j && R s j) && eqb (neighbors_in R l w j) 0) l)
      (fold_both plus (λ j. bit (w j && not (eqb (neighbors_in R l w j) 0))) (λ j. cond (same s j) (bit (not (eqb (neighbors_in R l w j) 0))) 0) l
      ∙ ap (λ (z : ℕ). congested_in R l w + z) (pick plus (λ j. bit (not (eqb (neighbors_in R l w j) 0))) l rise s s∈))
    where
      more : (n : ℕ) → not (eqb (n + 1) 0) ≡ true
      more n = ap not (ne_eqb (n + 1) 0 (λ e. omega arith))

      less : (n : ℕ) → n + 0 ≡ n
      less n = omega arith

      split : (b : Bool) → 1 ≡ bit (not b) + 0 + bit b
      split true = refl
      split false = refl

      solve : (w r m : Bool) (n : ℕ) → (T m → w ≡ false) → (T m → r ≡ false)
          → bit ((w || m) && not (eqb (n + bit r) 0)) ≡ bit (w && not (eqb n 0)) + cond m (bit (not (eqb n 0))) 0 + bit ((w && r) && eqb n 0)
      solve true r true n f g = clash true refl (f tt)
      solve false true true n f g = clash true refl (g tt)
      solve false false true n f g = ap (λ (z : ℕ). bit (not (eqb z 0))) (less n) ∙ omega arith
      solve true true false n f g = ap bit (more n) ∙ split (eqb n 0)
      solve true false false n f g = ap (λ (z : ℕ). bit (not (eqb z 0))) (less n) ∙ omega arith
      solve false r false n f g = refl

  -- twice the pairs: every item with its count
  twice : (x : Item → Bool) → pairs_in R l x + pairs_in R l x ≡ sum (λ i. cond (x i) (neighbors_in R l x i) 0) l
  twice x =
      let h : Item → Item → ℕ = λ i j. bit (x i && (x j && R i j)) in
      sym (fold_both plus (λ p. h p.0 p.1) (λ p. h p.0 p.1) (pairs l))
      ∙ fold_same plus (λ p. h p.0 p.1 + h p.0 p.1) (λ p. h p.0 p.1 + h p.1 p.0) (pairs l) (λ p m. ap (λ (z : ℕ). h p.0 p.1 + z) (turn (x p.0) (x p.1) (R p.0 p.1) (R p.1 p.0) (R-sym p.0 p.1)))
      ∙ sym (fold_square plus h l ∙ ap (λ (z : ℕ). z + sum (λ p. h p.0 p.1 + h p.1 p.0) (pairs l)) (fold-unit plus (λ i. h i i) l (λ i m. own (x i) (R i i) (R-irr i))) ∙ omega arith)
      ∙ fold_same plus (λ i. fold ◌+◌ 0 (h i) l) (λ i. cond (x i) (neighbors_in R l x i) 0) l (λ i m. each (x i) i)
    where
      turn : (a b r q : Bool) → r ≡ q → bit (a && (b && r)) ≡ bit (b && (a && q))
      turn true true r q e = ap bit e
      turn true false r q e = refl
      turn false true r q e = refl
      turn false false r q e = refl

      own : (a r : Bool) → r ≡ false → bit (a && (a && r)) ≡ 0
      own true r e = ap bit e
      own false r e = refl

      each : (b : Bool) (i : Item) → fold ◌+◌ 0 (λ j. bit (b && (x j && R i j))) l ≡ cond b (neighbors_in R l x i) 0
      each true i = refl
      each false i = fold-unit plus (λ (j : Item). 0) l (λ j m. refl)

  pub pairs-add : pairs_in R l v ≡ pairs_in R l w + neighbors_in R l w s
  pairs-add = half (pairs_in R l v) (pairs_in R l w) (neighbors_in R l w s) (twice v ∙ sums ∙ ap (λ (z : ℕ). z + neighbors_in R l w s + neighbors_in R l w s) (sym (twice w)))
    where
      half : (a b c : ℕ) → a + a ≡ b + b + c + c → a ≡ b + c
      half a b c e = omega arith

      solve : (w r m : Bool) (n : ℕ) → (T m → w ≡ false) → (T m → r ≡ false) → cond (w || m) (n + bit r) 0 ≡ cond w n 0 + bit (w && r) + cond m n 0
      solve true r true n f g = clash true refl (f tt)
      solve false true true n f g = clash true refl (g tt)
      solve false false true n f g = omega arith
      solve true r false n f g = omega arith
      solve false r false n f g = refl

      sums : sum (λ i. cond (v i) (neighbors_in R l v i) 0) l ≡ sum (λ i. cond (w i) (neighbors_in R l w i) 0) l + neighbors_in R l w s + neighbors_in R l w s
      sums =
          fold_same plus (λ i. cond (v i) (neighbors_in R l v i) 0) (λ i. cond (w i) (neighbors_in R l w i) 0 + bit (w i && R s i) + cond (same s i) (neighbors_in R l w i) 0) l
          (λ j m. ap₂ (λ (x : Bool) (y : ℕ). cond x y 0) (adds j m) (change j) ∙ solve (w j) (R s j) (same s j) (neighbors_in R l w j) (out j m) (own_out j m))
          ∙ fold_both plus (λ i. cond (w i) (neighbors_in R l w i) 0 + bit (w i && R s i)) (λ i. cond (same s i) (neighbors_in R l w i) 0) l
          ∙ ap₂ ◌+◌ (fold_both plus (λ i. cond (w i) (neighbors_in R l w i) 0) (λ i. bit (w i && R s i)) l) (pick plus (λ i. neighbors_in R l w i) l rise s s∈)
