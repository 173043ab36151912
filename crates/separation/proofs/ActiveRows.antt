-- The active segments as a list: one row more or less, and how many of them pass a test. Assumes nothing.
use mathlib.Core.Path.{◌≡◌, refl, sym, ap, ◌∙◌, subst}
use mathlib.Core.Logic.{◌⊎◌, inl, inr}
use mathlib.Core.List.{List, [], ◌∷◌}
use mathlib.Core.Bool.{Bool, true, false, ◌&&◌, cond}
use Prim.Native.Nat.{◌+◌, ◌<◌}
use native.Mathlib.Omega.{arith}
use borrow.Author.Tests.{eqb-true, eq-eqb}
use lib.Dec.{eqb}
use Rattle.laws.specs.Lists.{Mem, fold, bit, count}
use Rattle.laws.proofs.Tests.{clash, and_left, and_right}
use Rattle.rows.specs.Rows.{Row}
use Rattle.separation.specs.Walk.{same, remove}

-- ---- counting
pub mem_count : {A : Type 0} (p : A → Bool) (x : A) (l : List A) → Mem x l → p x ≡ true → 0 < count p l
unfolding fold
mem_count {A = A} p x [] m t = elim m [ ]
mem_count p x (y ∷ l) (inl e) t = omega (arith, ap bit (sym (ap p e) ∙ t))
mem_count p x (y ∷ l) (inr m) t = omega (arith, mem_count p x l m t)

pub count_mem : {A : Type 0} (p : A → Bool) (l : List A) → 0 < count p l → (x : A) × Mem x l × (p x ≡ true)
unfolding fold
count_mem p [] h = absurd (omega arith)
count_mem p (y ∷ l) h = go (p y) refl h (count_mem p l)
  where
    go : (b : Bool) → p y ≡ b → 0 < bit b + count p l → (0 < count p l → (x : _) × Mem x l × (p x ≡ true)) → (x : _) × Mem x (y ∷ l) × (p x ≡ true)
    go true e h k = (y, inl refl, e)
    go false e h k = let r = k (omega arith) in (r.0, inr r.1, r.2)

-- ---- one row
pub same→ : (a b : Row) → same a b ≡ true → a ≡ b
unfolding same
same→ a b t =
    let n = eqb a.net b.net in
    let l = eqb a.line b.line in
    let s = eqb a.start b.start in
    let e = eqb a.end b.end in
    let u = and_left (n && l) (s && e) t in
    let v = and_right (n && l) (s && e) t in
    (λ i. record {
      net = eqb-true a.net b.net (and_left n l u) i;
      line = eqb-true a.line b.line (and_right n l u) i;
      start = eqb-true a.start b.start (and_left s e v) i;
      end = eqb-true a.end b.end (and_right s e v) i;
    })

pub same_refl : (a : Row) → same a a ≡ true
unfolding same
same_refl a = rw (eq-eqb a.net a.net refl, eq-eqb a.line a.line refl, eq-eqb a.start a.start refl, eq-eqb a.end a.end refl)

pub remove_mem : (x a : Row) (l : List Row) → Mem a (remove x l) → Mem a l
unfolding remove
remove_mem x a [] m = m
remove_mem x a (y ∷ l) m = go (same x y) m (remove_mem x a l)
  where
    go : (b : Bool) → Mem a (cond b l (y ∷ remove x l)) → (Mem a (remove x l) → Mem a l) → Mem a (y ∷ l)
    go true m h = inr m
    go false (inl e) h = inl e
    go false (inr m) h = inr (h m)

pub mem_remove : (x a : Row) (l : List Row) → Mem a l → (a ≡ x) ⊎ Mem a (remove x l)
unfolding remove
mem_remove x a [] m = absurd m
mem_remove x a (y ∷ l) m = go (same x y) refl m (mem_remove x a l)
  where
    go : (b : Bool) → same x y ≡ b → Mem a (y ∷ l) → (Mem a l → (a ≡ x) ⊎ Mem a (remove x l)) → (a ≡ x) ⊎ Mem a (cond b l (y ∷ remove x l))
    go true e (inl k) h = inl (k ∙ sym (same→ x y e))
    go true e (inr m) h = inr m
    go false e (inl k) h = inr (inl k)
    go false e (inr m) h = elim (h m) [ inl k ↦ inl k | inr n ↦ inr (inr n) ]

pub remove-count : (p : Row → Bool) (x : Row) (l : List Row) → Mem x l → bit (p x) + count p (remove x l) ≡ count p l
unfolding remove fold
remove-count p x [] m = absurd m
remove-count p x (y ∷ l) m = go (same x y) refl m (remove-count p x l)
  where
    go : (b : Bool) → same x y ≡ b → Mem x (y ∷ l) → (Mem x l → bit (p x) + count p (remove x l) ≡ count p l) → bit (p x) + count p (cond b l (y ∷ remove x l)) ≡ bit (p y) + count p l
    go true e m h = ap (λ (z : Row). bit (p z) + count p l) (same→ x y e)
    go false e (inl k) h = clash (same x y) (subst (λ (z : Row). same x z ≡ true) k (same_refl x)) e
    go false e (inr m) h = omega (arith, h m)
