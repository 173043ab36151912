-- Lists with the same entries, each equally often. Assumes nothing.
use mathlib.Core.Path.{◌≡◌, refl, sym, ap, ◌∙◌, subst}
use mathlib.Core.Logic.{inl, inr}
use mathlib.Core.List.{List, [], ◌∷◌, ◌++◌, append_assoc, map}
use mathlib.Core.Bool.{Bool, true, false, ◌||◌}
use Prim.Native.Nat.{ℕ, zero, suc, ◌+◌, ◌<◌}
use native.Mathlib.Nat.{not-suc-le-zero, le_of_suc-le-suc}
use native.Mathlib.Omega.{arith}
use lib.ListN.{length, get_or, set}
use Rattle.laws.specs.Lists.{Mem, All, some_of, chosen, put, fold, bit, count, beside, cross, pairs, Pairwise}
use Rattle.laws.specs.Perm.{Perm, none, first, swap, via}
use Rattle.laws.proofs.Tests.{or_swap}
use Rattle.laws.proofs.ListLaws.{chosen-append}
use Rattle.laws.proofs.Folds.{plus, fold-perm}

module _ {A : Type 0} where
  pub perm_refl : (l : List A) → Perm l l
  perm_refl [] = none
  perm_refl (x ∷ l) = first (perm_refl l)

  pub perm_sym : {l r : List A} → Perm l r → Perm r l
  perm_sym none = none
  perm_sym (first p) = first (perm_sym p)
  perm_sym swap = swap
  perm_sym (via p q) = via (perm_sym q) (perm_sym p)

  pub perm-eq : {l r : List A} → l ≡ r → Perm l r
  perm-eq {l} {r} e = subst (λ (m : List A). Perm l m) e (perm_refl l)

  pub perm-length : {l r : List A} → Perm l r → length l ≡ length r
  perm-length none = refl
  perm-length (first p) = ap suc (perm-length p)
  perm-length swap = refl
  perm-length (via p q) = perm-length p ∙ perm-length q

  pub perm_mem : (z : A) {l r : List A} → Perm l r → Mem z l → Mem z r
  perm_mem z none m = m
  perm_mem z (first p) (inl e) = inl e
  perm_mem z (first p) (inr m) = inr (perm_mem z p m)
  perm_mem z swap (inl e) = inr (inl e)
  perm_mem z swap (inr (inl e)) = inl e
  perm_mem z swap (inr (inr m)) = inr (inr m)
  perm_mem z (via p q) m = perm_mem z q (perm_mem z p m)

  pub perm-all : (P : A → Type 0) {l r : List A} → Perm l r → All P l → All P r
  perm-all P none h = h
  perm-all P (first p) h = (h.0, perm-all P p h.1)
  perm-all P swap h = (h.1.0, (h.0, h.1.1))
  perm-all P (via p q) h = perm-all P q (perm-all P p h)

  -- what holds of each two entries in either order holds in every order of the list
  pub perm_pairwise : {R : A → A → Type 0} → ((x y : A) → R x y → R y x) → {l r : List A} → Perm l r → Pairwise R l → Pairwise R r
  perm_pairwise t none w = w
  perm_pairwise t (first p) w = (λ y m. w.0 y (perm_mem y (perm_sym p) m), perm_pairwise t p w.1)
  perm_pairwise {R} t (swap {x = x} {y = y} {l = l}) w = (ahead, (λ z m. w.0 z (inr m), w.1.1))
    where
      ahead : (z : A) → Mem z (x ∷ l) → R y z
      ahead z (inl e) = subst (R y) (sym e) (t x y (w.0 y (inl refl)))
      ahead z (inr m) = w.1.0 z m
  perm_pairwise t (via p q) w = perm_pairwise t q (perm_pairwise t p w)

  -- ---- joined lists
  pub perm-right : (l : List A) {m r : List A} → Perm m r → Perm (l ++ m) (l ++ r)
  perm-right [] p = p
  perm-right (x ∷ l) p = first (perm-right l p)

  pub perm-left : {l m : List A} (r : List A) → Perm l m → Perm (l ++ r) (m ++ r)
  perm-left r none = perm_refl r
  perm-left r (first p) = first (perm-left r p)
  perm-left r swap = swap
  perm-left r (via p q) = via (perm-left r p) (perm-left r q)

  pub perm_both : {a b c d : List A} → Perm a b → Perm c d → Perm (a ++ c) (b ++ d)
  perm_both {b = b} {c = c} p q = via (perm-left c p) (perm-right b q)

  -- an entry moves to the front
  pub perm-front : (l : List A) (x : A) (r : List A) → Perm (l ++ x ∷ r) (x ∷ l ++ r)
  perm-front [] x r = perm_refl (x ∷ r)
  perm-front (y ∷ l) x r = via (first (perm-front l x r)) swap

  pub perm-turn : (l r : List A) → Perm (l ++ r) (r ++ l)
  perm-turn [] r = perm_nil r
    where
      perm_nil : (r : List A) → Perm r (r ++ [])
      perm_nil [] = none
      perm_nil (x ∷ r) = first (perm_nil r)
  perm-turn (x ∷ l) r = via (first (perm-turn l r)) (perm_sym (perm-front r x l))

  -- the first two of three parts are exchanged
  pub perm_change : (l m r : List A) → Perm (l ++ (m ++ r)) (m ++ (l ++ r))
  perm_change l m r = via (perm-eq (sym (append_assoc l m r))) (via (perm-left r (perm-turn l m)) (perm-eq (append_assoc m l r)))

  -- ---- two entries of a list are exchanged
  pub perm_replace : (l : List A) (i : ℕ) (v d : A) → i < length l → Perm (get_or l i d ∷ set l i v) (v ∷ l)
  perm_replace [] i v d h = absurd (not-suc-le-zero h)
  perm_replace (x ∷ l) zero v d h = swap
  perm_replace (x ∷ l) (suc i) v d h = via swap (via (first (perm_replace l i v d (le_of_suc-le-suc h))) swap)

  pub perm_exchange : (l : List A) (i j : ℕ) (d : A) → i < j → j < length l → Perm (set (set l i (get_or l j d)) j (get_or l i d)) l
  perm_exchange [] i j d h k = absurd (not-suc-le-zero k)
  perm_exchange (x ∷ l) i zero d h k = absurd (not-suc-le-zero h)
  perm_exchange (x ∷ l) zero (suc j) d h k = perm_replace l j x d (le_of_suc-le-suc k)
  perm_exchange (x ∷ l) (suc i) (suc j) d h k = first (perm_exchange l i j d (le_of_suc-le-suc h) (le_of_suc-le-suc k))

  -- ---- tests over the list
  pub perm-some : (p : A → Bool) {l r : List A} → Perm l r → some_of p l ≡ some_of p r
  unfolding some_of
  perm-some p none = refl
  perm-some p (first {x = x} q) = ap (λ (b : Bool). p x || b) (perm-some p q)
  perm-some p (swap {x = x} {y = y} {l = l}) = or_swap (p x) (p y) (some_of p l)
  perm-some p (via q s) = perm-some p q ∙ perm-some p s

  -- ---- the same entries, each equally often
  pub perm-count : (p : A → Bool) {l r : List A} → Perm l r → count p l ≡ count p r
  perm-count p h = fold-perm plus (λ x. bit (p x)) h

-- ---- mapped and chosen entries, and all pairs
pub perm-map : {A B : Type 0} (f : A → B) {l r : List A} → Perm l r → Perm (map f l) (map f r)
perm-map f none = none
perm-map f (first p) = first (perm-map f p)
perm-map f swap = swap
perm-map f (via p q) = via (perm-map f p) (perm-map f q)

pub perm-chosen : {A C : Type 0} (p : A → Bool) (h : A → C) {l r : List A} → Perm l r → Perm (chosen p h l) (chosen p h r)
unfolding chosen
perm-chosen p h none = none
perm-chosen p h (first {x = x} {l = l} {r = r} q) = go (p x) (perm-chosen p h q)
  where
    go : (b : Bool) → Perm (chosen p h l) (chosen p h r) → Perm (put b (h x) (chosen p h l)) (put b (h x) (chosen p h r))
    go true q = first q
    go false q = q
perm-chosen p h (swap {x = x} {y = y} {l = l}) = go (p x) (p y)
  where
    go : (b c : Bool) → Perm (put b (h x) (put c (h y) (chosen p h l))) (put c (h y) (put b (h x) (chosen p h l)))
    go true true = swap
    go true false = perm_refl (h x ∷ chosen p h l)
    go false true = perm_refl (h y ∷ chosen p h l)
    go false false = perm_refl (chosen p h l)
perm-chosen p h (via q s) = via (perm-chosen p h q) (perm-chosen p h s)

module _ {A B : Type 0} where
  perm-beside : (x : A) {m n : List B} → Perm m n → Perm (beside x m) (beside x n)
  perm-beside x none = none
  perm-beside x (first p) = first (perm-beside x p)
  perm-beside x swap = swap
  perm-beside x (via p q) = via (perm-beside x p) (perm-beside x q)

  cross-right : (l : List A) {m n : List B} → Perm m n → Perm (cross l m) (cross l n)
  unfolding cross
  cross-right [] q = none
  cross-right (x ∷ l) q = perm_both (perm-beside x q) (cross-right l q)

  cross-left : {l r : List A} (m : List B) → Perm l r → Perm (cross l m) (cross r m)
  unfolding cross
  cross-left m none = none
  cross-left m (first {x = x} p) = perm-right (beside x m) (cross-left m p)
  cross-left m (swap {x = x} {y = y} {l = l}) = perm_change (beside x m) (beside y m) (cross l m)
  cross-left m (via p q) = via (cross-left m p) (cross-left m q)

  pub perm-cross : {l r : List A} {m n : List B} → Perm l r → Perm m n → Perm (cross l m) (cross r n)
  perm-cross {r = r} {m = m} p q = via (cross-left m p) (cross-right r q)

-- the pairs of one list that pass a test, under h, where neither depends on which entry comes first
module _ {A C : Type 0} (p : A × A → Bool) (h : A × A → C) (p-turn : (x y : A) → p (x, y) ≡ p (y, x)) (h-turn : (x y : A) → h (x, y) ≡ h (y, x)) where
  abbrev out : List (A × A) → List C
  out l = chosen p h l

  -- the pairs of a list with two entries before it
  two : (x y : A) (l : List A) → out (pairs (x ∷ y ∷ l)) ≡ put (p (x, y)) (h (x, y)) (out (beside x l) ++ (out (beside y l) ++ out (pairs l)))
  unfolding pairs chosen
  two x y l = ap (put (p (x, y)) (h (x, y))) (chosen-append p h (beside x l) (beside y l ++ pairs l) ∙ ap (λ (t : List C). out (beside x l) ++ t) (chosen-append p h (beside y l) (pairs l)))

  perm-put : (b : Bool) (c : C) {l r : List C} → Perm l r → Perm (put b c l) (put b c r)
  perm-put true c q = first q
  perm-put false c q = q

  pub perm-pairs : {l r : List A} → Perm l r → Perm (chosen p h (pairs l)) (chosen p h (pairs r))
  unfolding pairs
  perm-pairs none = perm_refl (out [])
  perm-pairs (first {x = x} {l = l} {r = r} q) =
      via (perm-eq (chosen-append p h (beside x l) (pairs l)))
      (via (perm_both (perm-chosen p h (perm-beside x q)) (perm-pairs q)) (perm-eq (sym (chosen-append p h (beside x r) (pairs r)))))
  perm-pairs (swap {x = x} {y = y} {l = l}) =
      via (perm-eq (two x y l ∙ (λ i. put (p-turn x y i) (h-turn x y i) (out (beside x l) ++ (out (beside y l) ++ out (pairs l))))))
      (via (perm-put (p (y, x)) (h (y, x)) (perm_change (out (beside x l)) (out (beside y l)) (out (pairs l)))) (perm-eq (sym (two y x l))))
  perm-pairs (via q s) = via (perm-pairs q) (perm-pairs s)

-- where `same` tests whether two entries are equal, lists in which every entry occurs equally often are related
module _ {A : Type 0} (same : A → A → Bool) (own : (x : A) → same x x ≡ true) (one : (x y : A) → same x y ≡ true → x ≡ y) where
  -- an entry that occurs can be moved to the front
  taken : (x : A) (l : List A) → 0 < count (same x) l → (r : List A) × Perm l (x ∷ r)
  unfolding fold
  taken x [] h = absurd (omega arith)
  taken x (y ∷ l) h = go (same x y) refl h (taken x l)
    where
      go : (b : Bool) → same x y ≡ b → 0 < bit b + count (same x) l → (0 < count (same x) l → (r : List A) × Perm l (x ∷ r)) → (r : List A) × Perm (y ∷ l) (x ∷ r)
      go true e h k = (l, subst (λ (z : A). Perm (y ∷ l) (z ∷ l)) (sym (one x y e)) (perm_refl (y ∷ l)))
      go false e h k = let t = k (omega arith) in (y ∷ t.0, via (first t.1) swap)

  pub count-perm : (l r : List A) → ((x : A) → count (same x) l ≡ count (same x) r) → Perm l r
  unfolding fold
  count-perm [] [] h = none
  count-perm [] (y ∷ r) h = absurd (omega (arith, h y, ap bit (own y)))
  count-perm (x ∷ l) r h =
      let t = taken x r (omega (arith, h x, ap bit (own x))) in
      via (first (count-perm l t.0 (λ z. omega (arith, h z, perm-count (same z) t.1)))) (perm_sym t.1)
