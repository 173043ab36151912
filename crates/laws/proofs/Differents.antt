-- How many different numbers a list holds, which depends only on which numbers these are; lists without repeats; and the different numbers of a sorted list. Assumes nothing.
use mathlib.Core.Path.{◌≡◌, refl, sym, ap, ◌∙◌, subst}
use mathlib.Core.Logic.{inl, inr}
use mathlib.Core.List.{List, [], ◌∷◌}
use mathlib.Core.Bool.{Bool, true, false, not, ◌||◌}
use Prim.Native.Nat.{ℕ, zero, suc, ◌+◌, ◌≤◌, ◌<◌, zero-le}
use native.Mathlib.Omega.{arith}
use lib.Dec.{leb, eqb, eqb→eq}
use lib.ListN.{length, get_or}
use borrow.Author.Tests.{leb-true, eq-eqb, ne_eqb, eqb-true, eqb-false, not-true, not-false}
use Rattle.laws.specs.Lists.{Mem, some_of, put, chosen, keep, bit, Pairwise}
use Rattle.laws.specs.Perm.{Perm, none, first, swap, via}
use Rattle.laws.specs.Inner.Sort.{Sorted}
use Rattle.laws.specs.Different.{differs, distinct}
use Rattle.laws.specs.Inner.Different.{among, different, Different}
use Rattle.laws.proofs.Tests.{clash, is_true, is_false, of_true, same_test}
use Rattle.laws.proofs.ListLaws.{some_mem, mem_some, mem_chosen, chosen_mem}
use Rattle.laws.proofs.Places.{at_mem, mem_at}
use Rattle.laws.proofs.Perms.{perm_sym, perm_mem}

-- ---- one of the numbers
pub among_mem : (x : ℕ) (l : List ℕ) → among x l ≡ true → Mem x l
among_mem x l e = let r = some_mem (λ y. eqb x y) l e in subst (λ (z : ℕ). Mem z l) (sym (eqb→eq x r.0 (of_true (eqb x r.0) r.2))) r.1

pub mem_among : (x : ℕ) (l : List ℕ) → Mem x l → among x l ≡ true
mem_among x l m = mem_some (λ y. eqb x y) x l m (eq-eqb x x refl)

pub not_among : (x : ℕ) (l : List ℕ) → (Mem x l → ⊥) → among x l ≡ false
not_among x l h = is_false (among x l) (λ t. h (among_mem x l (is_true (among x l) t)))

pub among_same : (x : ℕ) (l r : List ℕ) → (Mem x l → Mem x r) → (Mem x r → Mem x l) → among x l ≡ among x r
among_same x l r p q = same_test (among x l) (among x r)
    (λ t. of_true (among x r) (mem_among x r (p (among_mem x l (is_true (among x l) t)))))
    (λ t. of_true (among x l) (mem_among x l (q (among_mem x r (is_true (among x r) t)))))

-- ---- one number more
pub different-add : (x : ℕ) (l : List ℕ) → different (x ∷ l) ≡ different l + bit (not (among x l))
unfolding different
different-add x l = omega arith

pub different_new : (x : ℕ) (l : List ℕ) → (Mem x l → ⊥) → different (x ∷ l) ≡ different l + 1
different_new x l h = different-add x l ∙ ap (λ (b : Bool). different l + bit (not b)) (not_among x l h)

pub different_old : (x : ℕ) (l : List ℕ) → Mem x l → different (x ∷ l) ≡ different l
different_old x l m = different-add x l ∙ ap (λ (b : Bool). different l + bit (not b)) (mem_among x l m) ∙ omega arith

-- ---- the list without a number
abbrev other_than : ℕ → ℕ → Bool
other_than x y = not (eqb x y)

still : (x y : ℕ) (l : List ℕ) → eqb x y ≡ false → among y (keep (other_than x) l) ≡ among y l
still x y l e = among_same y (keep (other_than x) l) l
    (λ m. let r = mem_chosen (other_than x) (λ z. z) y l m in subst (λ (z : ℕ). Mem z l) (sym r.3) r.1)
    (λ m. chosen_mem (other_than x) (λ z. z) y l m (ap not e))

taken_out : (x : ℕ) (l : List ℕ) → different l ≡ bit (among x l) + different (keep (other_than x) l)
unfolding different some_of chosen
taken_out x [] = refl
taken_out x (y ∷ l) = go (eqb x y) refl (taken_out x l)
  where
    split : (a : Bool) → bit (not a) + bit a ≡ 1
    split true = refl
    split false = refl

    go : (b : Bool) → eqb x y ≡ b → different l ≡ bit (among x l) + different (keep (other_than x) l) → bit (not (among y l)) + different l ≡ bit (b || among x l) + different (put (not b) y (keep (other_than x) l))
    go true e ih =
        let h : bit (not (among y l)) ≡ bit (not (among x l)) = ap (λ (z : ℕ). bit (not (among z l))) (sym (eqb→eq x y (of_true (eqb x y) e))) in
        omega (arith, split (among x l))
    go false e ih =
        let h : bit (not (among y (keep (other_than x) l))) ≡ bit (not (among y l)) = ap (λ (a : Bool). bit (not a)) (still x y l e) in
        omega arith

-- ---- only which numbers there are matters
pub different-within : (l r : List ℕ) → ((x : ℕ) → Mem x l → Mem x r) → different l ≤ different r
unfolding different
different-within [] r h = zero-le
different-within (x ∷ l) r h = go (among x l) refl (λ m k. different-within l m k)
  where
    into : among x l ≡ false → (y : ℕ) → Mem y l → Mem y (keep (other_than x) r)
    into e y m = chosen_mem (other_than x) (λ z. z) y r (h y (inr m)) (ap not (ne_eqb x y (λ q. clash (among x l) (mem_among x l (subst (λ (z : ℕ). Mem z l) (sym q) m)) e)))

    go : (b : Bool) → among x l ≡ b → ((m : List ℕ) → ((y : ℕ) → Mem y l → Mem y m) → different l ≤ different m) → bit (not b) + different l ≤ different r
    go true e ih = let k = ih r (λ y m. h y (inr m)) in omega arith
    go false e ih =
        let k = ih (keep (other_than x) r) (into e) in
        let w : bit (among x r) ≡ 1 = ap bit (mem_among x r (h x (inl refl))) in
        omega (arith, taken_out x r)

pub different-same : (l r : List ℕ) → ((x : ℕ) → Mem x l → Mem x r) → ((x : ℕ) → Mem x r → Mem x l) → different l ≡ different r
different-same l r p q = let a = different-within l r p in let b = different-within r l q in omega arith

pub different-perm : {l r : List ℕ} → Perm l r → different l ≡ different r
different-perm {l} {r} p = different-same l r (λ x. perm_mem x p) (λ x. perm_mem x (perm_sym p))

-- ---- against the length
pub different-at_most : (l : List ℕ) → different l ≤ length l
unfolding different
different-at_most [] = zero-le
different-at_most (x ∷ l) = go (among x l) (different-at_most l)
  where
    go : (b : Bool) → different l ≤ length l → bit (not b) + different l ≤ suc (length l)
    go true h = omega arith
    go false h = omega arith

pub different-none_twice : (l : List ℕ) → Different l → different l ≡ length l
unfolding different
different-none_twice [] d = refl
different-none_twice (x ∷ l) d =
    let h : bit (not (among x l)) ≡ 1 = ap (λ (b : Bool). bit (not b)) (not_among x l d.0) in
    omega (arith, different-none_twice l d.1)

-- there are none exactly where the list is empty
pub different-none : (l : List ℕ) → eqb (different l) 0 ≡ eqb (length l) 0
unfolding different some_of
different-none [] = refl
different-none (x ∷ l) = ne_eqb (different (x ∷ l)) 0 (λ e. let h = different-within (x ∷ []) (x ∷ l) one in omega arith) ∙ sym (ne_eqb (suc (length l)) 0 (λ e. omega arith))
  where
    one : (y : ℕ) → Mem y (x ∷ []) → Mem y (x ∷ l)
    one y (inl e) = inl e
    one y (inr m) = absurd m

-- ---- no number twice: in any order, and by indices
pub different-keeps : {l r : List ℕ} → Perm l r → Different l → Different r
different-keeps none d = d
different-keeps (first {x = x} p) d = (λ m. d.0 (perm_mem x (perm_sym p) m), different-keeps p d.1)
different-keeps (swap {x = x} {y = y} {l = l}) d = (λ m. turned m, (λ m. d.0 (inr m), d.1.1))
  where
    turned : Mem y (x ∷ l) → ⊥
    turned (inl e) = d.0 (inl (sym e))
    turned (inr m) = d.1.0 m
different-keeps (via p q) d = different-keeps q (different-keeps p d)

pub different-at : (l : List ℕ) → Different l → (i k : ℕ) → i < k → k < length l → get_or l i 0 ≡ get_or l k 0 → ⊥
different-at [] d i k h b e = absurd (omega arith)
different-at (x ∷ l) d i zero h b e = absurd (omega arith)
different-at (x ∷ l) d zero (suc k) h b e = d.0 (subst (λ (z : ℕ). Mem z l) (sym e) (at_mem l k 0 (omega arith)))
different-at (x ∷ l) d (suc i) (suc k) h b e = different-at l d.1 i k (omega arith) (omega arith) e

pub at-different : (l : List ℕ) → ((i k : ℕ) → i < k → k < length l → get_or l i 0 ≡ get_or l k 0 → ⊥) → Different l
at-different [] h = tt
at-different (x ∷ l) h = (λ m. let r = mem_at x l 0 m in h 0 (suc r.0) (omega arith) (omega (arith, r.1)) r.2, at-different l (λ i k a b e. h (suc i) (suc k) (omega arith) (omega arith) e))

-- numbers that rise are different
pub rising-different : (l : List ℕ) → Pairwise (λ x y. x < y) l → Different l
rising-different [] r = tt
rising-different (x ∷ l) r = (λ m. let h = r.0 x m in omega arith, rising-different l r.1)

-- ---- the numbers of a list, each once where equal ones are neighbours
pub distinct_mem : (z : ℕ) (l : List ℕ) → Mem z (distinct l) → Mem z l
unfolding distinct
distinct_mem z [] m = m
distinct_mem z (x ∷ l) m = go (differs x l) m (distinct_mem z l)
  where
    go : (b : Bool) → Mem z (put b x (distinct l)) → (Mem z (distinct l) → Mem z l) → Mem z (x ∷ l)
    go true (inl e) h = inl e
    go true (inr n) h = inr (h n)
    go false n h = inr (h n)

pub mem_distinct : (z : ℕ) (l : List ℕ) → Mem z l → Mem z (distinct l)
unfolding distinct
mem_distinct z [] m = elim m [ ]
mem_distinct z (x ∷ l) m = go (differs x l) refl m (mem_distinct z l)
  where
    next : (l : List ℕ) → differs x l ≡ false → z ≡ x → Mem z l
    next [] e k = clash true refl e
    next (y ∷ l) e k = inl (k ∙ eqb-true x y (not-false (eqb x y) e))

    go : (b : Bool) → differs x l ≡ b → Mem z (x ∷ l) → (Mem z l → Mem z (distinct l)) → Mem z (put b x (distinct l))
    go true e (inl k) h = inl k
    go true e (inr n) h = inr (h n)
    go false e (inl k) h = h (next l e k)
    go false e (inr n) h = h n

pub distinct-few : (l : List ℕ) → length (distinct l) ≤ length l
unfolding distinct
distinct-few [] = zero-le
distinct-few (x ∷ l) = go (differs x l) (distinct-few l)
  where
    go : (b : Bool) → length (distinct l) ≤ length l → length (put b x (distinct l)) ≤ suc (length l)
    go true h = omega arith
    go false h = omega arith

-- of sorted numbers they rise, and there are as many as there are different ones
pub distinct-rising : (l : List ℕ) → Sorted leb l → Pairwise (λ x y. x < y) (distinct l)
unfolding distinct
distinct-rising [] s = tt
distinct-rising (x ∷ l) s = go (differs x l) refl (distinct-rising l s.1)
  where
    under : (l : List ℕ) → Sorted leb (x ∷ l) → differs x l ≡ true → (z : ℕ) → Mem z l → x < z
    under [] s e z m = elim m [ ]
    under (y ∷ l) s e z m =
        let h = leb-true x y (s.0 y (inl refl)) in
        let n = eqb-false x y (not-true (eqb x y) e) in
        above h n m
      where
        above : x ≤ y → (x ≡ y → ⊥) → Mem z (y ∷ l) → x < z
        above h n (inl k) = omega arith
        above h n (inr m) = let g = leb-true y z (s.1.0 z m) in omega arith

    go : (b : Bool) → differs x l ≡ b → Pairwise (λ x y. x < y) (distinct l) → Pairwise (λ x y. x < y) (put b x (distinct l))
    go true e h = (λ z m. under l s e z (distinct_mem z l m), h)
    go false e h = h

pub distinct-length : (l : List ℕ) → Sorted leb l → length (distinct l) ≡ different l
distinct-length l s = sym (different-none_twice (distinct l) (rising-different (distinct l) (distinct-rising l s))) ∙ different-same (distinct l) l (λ z. distinct_mem z l) (λ z. mem_distinct z l)
