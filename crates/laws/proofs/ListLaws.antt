-- Membership and tests over lists. Assumes nothing.
use mathlib.Core.Path.{◌≡◌, refl, sym, ap, ap₂, ◌∙◌, subst}
use mathlib.Core.Logic.{◌⊎◌, inl, inr}
use mathlib.Core.List.{List, [], ◌∷◌, ◌++◌, map, map-append}
use mathlib.Core.Bool.{Bool, true, false}
use Prim.Native.Nat.{ℕ, suc, ◌+◌, ◌*◌, ◌≤◌, ◌<◌}
use native.Mathlib.Nat.{zero-mul, suc-mul}
use native.Mathlib.Omega.{arith}
use native.Mathlib.Numerals.{add-one}
use lib.ListN.{length, get_or, drop, length-append, drop_of_length-le}
use lib.Seq.{drop-cons}
use Rattle.laws.specs.Lists.{Mem, All, some_of, put, chosen, beside, cross, pairs, Pairwise}
use Rattle.laws.specs.Inner.Lists.{every}
use Rattle.laws.proofs.Tests.{clash, and_left, and_right, and_both, or_elim, or_left, or_right, neither_left, neither_right}

-- functions that agree on the entries map alike
pub map_same : {A B : Type 0} (f g : A → B) (l : List A) → ((x : A) → Mem x l → f x ≡ g x) → map f l ≡ map g l
map_same f g [] h = refl
map_same f g (x ∷ l) h = λ i. h x (inl refl) i ∷ map_same f g l (λ y m. h y (inr m)) i

module _ {A : Type 0} where
  -- ---- what holds of each entry
  pub all_mem : (P : A → Type 0) (l : List A) → All P l → (x : A) → Mem x l → P x
  all_mem P [] h x x4 = elim x4 [ ]
  all_mem P (y ∷ l) h x (inl e) = subst P (sym e) h.0
  all_mem P (y ∷ l) h x (inr m) = all_mem P l h.1 x m

  pub mem_all : (P : A → Type 0) (l : List A) → ((x : A) → Mem x l → P x) → All P l
  mem_all P [] h = tt
  mem_all P (y ∷ l) h = (h y (inl refl), mem_all P l (λ x m. h x (inr m)))

  pub all_map : {P Q : A → Type 0} → ((x : A) → P x → Q x) → (l : List A) → All P l → All Q l
  all_map g [] h = tt
  all_map g (x ∷ l) h = (g x h.0, all_map g l h.1)

  pub all_append : (P : A → Type 0) (l r : List A) → All P l → All P r → All P (l ++ r)
  all_append P [] r h k = k
  all_append P (x ∷ l) r h k = (h.0, all_append P l r h.1 k)

  pub all_first : (P : A → Type 0) (l r : List A) → All P (l ++ r) → All P l
  all_first P [] r h = tt
  all_first P (x ∷ l) r h = (h.0, all_first P l r h.1)

  pub all-second : (P : A → Type 0) (l r : List A) → All P (l ++ r) → All P r
  all-second P [] r h = h
  all-second P (x ∷ l) r h = all-second P l r h.1

  -- ---- joined lists
  pub mem_append : (x : A) (l r : List A) → Mem x (l ++ r) → Mem x l ⊎ Mem x r
  mem_append x [] r m = inr m
  mem_append x (y ∷ l) r (inl e) = inl (inl e)
  mem_append x (y ∷ l) r (inr m) = elim (mem_append x l r m) [ inl a ↦ inl (inr a) | inr b ↦ inr b ]

  pub append_left : (x : A) (l r : List A) → Mem x l → Mem x (l ++ r)
  append_left x [] r x'' = elim x'' [ ]
  append_left x (y ∷ l) r (inl e) = inl e
  append_left x (y ∷ l) r (inr m) = inr (append_left x l r m)

  pub append_right : (x : A) (l r : List A) → Mem x r → Mem x (l ++ r)
  append_right x [] r m = m
  append_right x (y ∷ l) r m = inr (append_right x l r m)

  -- ---- every entry passes, some entry passes
  pub every-all : (p : A → Bool) (l : List A) → every p l ≡ true → All (λ x. p x ≡ true) l
  unfolding every
  every-all p [] h = tt
  every-all p (x ∷ l) h = (and_left (p x) (every p l) h, every-all p l (and_right (p x) (every p l) h))

  pub all-every : (p : A → Bool) (l : List A) → All (λ x. p x ≡ true) l → every p l ≡ true
  unfolding every
  all-every p [] h = refl
  all-every p (x ∷ l) h = and_both (p x) (every p l) h.0 (all-every p l h.1)

  pub some_mem : (p : A → Bool) (l : List A) → some_of p l ≡ true → (x : A) × Mem x l × (p x ≡ true)
  unfolding some_of
  some_mem p [] h = clash false h refl
  some_mem p (y ∷ l) h = go (or_elim (p y) (some_of p l) h) (some_mem p l)
    where
      go : (p y ≡ true) ⊎ (some_of p l ≡ true) → (some_of p l ≡ true → (x : A) × Mem x l × (p x ≡ true)) → (x : A) × Mem x (y ∷ l) × (p x ≡ true)
      go (inl e) k = (y, inl refl, e)
      go (inr e) k = let r = k e in (r.0, inr r.1, r.2)

  pub none-all : (p : A → Bool) (l : List A) → some_of p l ≡ false → All (λ x. p x ≡ false) l
  unfolding some_of
  none-all p [] h = tt
  none-all p (x ∷ l) h = (neither_left (p x) (some_of p l) h, none-all p l (neither_right (p x) (some_of p l) h))

  pub all_none : (p : A → Bool) (l : List A) → All (λ x. p x ≡ false) l → some_of p l ≡ false
  unfolding some_of
  all_none p [] h = refl
  all_none p (x ∷ l) h = rw h.0 (all_none p l h.1)

  pub mem_some : (p : A → Bool) (x : A) (l : List A) → Mem x l → p x ≡ true → some_of p l ≡ true
  unfolding some_of
  mem_some p x [] x3 t = elim x3 [ ]
  mem_some p x (y ∷ l) (inl e) t = or_left (p y) (some_of p l) (ap p (sym e) ∙ t)
  mem_some p x (y ∷ l) (inr m) t = or_right (p y) (some_of p l) (mem_some p x l m t)

pub some-map : {A B : Type 0} (p : B → Bool) (f : A → B) (l : List A) → some_of p (map f l) ≡ some_of (λ x. p (f x)) l
unfolding some_of
some-map p f [] = refl
some-map p f (x ∷ l) = rw (some-map p f l)

-- ---- a scan for an entry that passes: the entries after the first i
module _ {A : Type 0} (p : A → Bool) (l : List A) (i : ℕ) where
  pub scan_hit : (d : A) → i < length l → p (get_or l i d) ≡ true → some_of p (drop i l) ≡ true
  unfolding some_of
  scan_hit d h e = rw (drop-cons l i d h, e)

  pub scan_next : (d : A) → i < length l → p (get_or l i d) ≡ false → some_of p (drop i l) ≡ some_of p (drop (i + 1) l)
  unfolding some_of
  scan_next d h e = rw (add-one i, drop-cons l i d h, e)

  pub scan_end : length l ≤ i → some_of p (drop i l) ≡ false
  unfolding some_of
  scan_end h = rw (drop_of_length-le l {i = i} h)

-- ---- those that pass
module _ {A C : Type 0} (p : A → Bool) (h : A → C) where
  pub mem_chosen : (z : C) (l : List A) → Mem z (chosen p h l) → (x : A) × Mem x l × (p x ≡ true) × (z ≡ h x)
  unfolding chosen
  mem_chosen z [] m = elim m [ ]
  mem_chosen z (y ∷ l) m = go (p y) refl m (mem_chosen z l)
    where
      go : (b : Bool) → p y ≡ b → Mem z (put b (h y) (chosen p h l)) → (Mem z (chosen p h l) → (x : A) × Mem x l × (p x ≡ true) × (z ≡ h x)) → (x : A) × Mem x (y ∷ l) × (p x ≡ true) × (z ≡ h x)
      go true e (inl q) k = (y, inl refl, e, q)
      go true e (inr q) k = let r = k q in (r.0, inr r.1, r.2, r.3)
      go false e q k = let r = k q in (r.0, inr r.1, r.2, r.3)

  pub chosen_mem : (x : A) (l : List A) → Mem x l → p x ≡ true → Mem (h x) (chosen p h l)
  unfolding chosen
  chosen_mem x [] m t = elim m [ ]
  chosen_mem x (y ∷ l) m t = go (p y) refl m (λ n. chosen_mem x l n t)
    where
      go : (b : Bool) → p y ≡ b → Mem x (y ∷ l) → (Mem x l → Mem (h x) (chosen p h l)) → Mem (h x) (put b (h y) (chosen p h l))
      go true e (inl q) k = inl (ap h q)
      go true e (inr q) k = inr (k q)
      go false e (inl q) k = clash (p x) t (ap p q ∙ e)
      go false e (inr q) k = k q

  pub chosen-append : (l r : List A) → chosen p h (l ++ r) ≡ chosen p h l ++ chosen p h r
  unfolding chosen
  chosen-append [] r = refl
  chosen-append (x ∷ l) r = go (p x) (chosen-append l r)
    where
      go : (b : Bool) → chosen p h (l ++ r) ≡ chosen p h l ++ chosen p h r → put b (h x) (chosen p h (l ++ r)) ≡ put b (h x) (chosen p h l) ++ chosen p h r
      go true e = ap (λ (t : List C). h x ∷ t) e
      go false e = e

-- what holds of h of each entry holds of the chosen ones
pub all-chosen : {A C : Type 0} (P : C → Type 0) (p : A → Bool) (h : A → C) (l : List A) → All (λ x. P (h x)) l → All P (chosen p h l)
all-chosen P p h l k = mem_all P (chosen p h l) (λ z m. let r = mem_chosen p h z l m in subst P (sym r.3) (all_mem (λ x. P (h x)) l k r.0 r.1))

module _ {A B : Type 0} (f : A → B) where
  pub mem_map : (l : List A) (y : B) → Mem y (map f l) → (x : A) × Mem x l × (y ≡ f x)
  mem_map [] y m = absurd m
  mem_map (x ∷ l) y (inl e) = (x, inl refl, e)
  mem_map (x ∷ l) y (inr m) = let r = mem_map l y m in (r.0, inr r.1, r.2)

  pub map_mem : (l : List A) (x : A) → Mem x l → Mem (f x) (map f l)
  map_mem [] x x3 = elim x3 [ ]
  map_mem (y ∷ l) x (inl e) = inl (ap f e)
  map_mem (y ∷ l) x (inr m) = inr (map_mem l x m)

-- ---- all pairs
module _ {A B : Type 0} where
  mem_beside : (z : A × B) (x : A) (m : List B) → Mem z (beside x m) → (z.0 ≡ x) × Mem z.1 m
  mem_beside z x [] x'' = elim x'' [ ]
  mem_beside z x (y ∷ m) (inl e) = (ap (λ (w : A × B). w.0) e, inl (ap (λ (w : A × B). w.1) e))
  mem_beside z x (y ∷ m) (inr k) = let r = mem_beside z x m k in (r.0, inr r.1)

  beside_mem : (x z : A) (y : B) (m : List B) → x ≡ z → Mem y m → Mem {A = A × B} (x, y) (beside z m)
  beside_mem x z y [] e x3 = elim x3 [ ]
  beside_mem x z y (w ∷ m) e (inl g) = inl (λ i. (e i, g i))
  beside_mem x z y (w ∷ m) e (inr k) = inr (beside_mem x z y m e k)

  pub mem_cross : (z : A × B) (l : List A) (m : List B) → Mem z (cross l m) → Mem z.0 l × Mem z.1 m
  unfolding cross
  mem_cross z [] m k = elim k [ ]
  mem_cross z (x ∷ l) m k = elim (mem_append z (beside x m) (cross l m) k) [
    | inl a ↦ let r = mem_beside z x m a in (inl r.0, r.1)
    | inr b ↦ let r = mem_cross z l m b in (inr r.0, r.1)
  ]

  pub length-beside : (x : A) (m : List B) → length (beside x m) ≡ length m
  length-beside x [] = refl
  length-beside x (y ∷ m) = ap suc (length-beside x m)

  pub length-cross : (l : List A) (m : List B) → length (cross l m) ≡ length l * length m
  unfolding cross
  length-cross [] m = sym (zero-mul (length m))
  length-cross (x ∷ l) m = length-append (beside x m) (cross l m) ∙ omega (arith, length-beside x m, length-cross l m, suc-mul (length l) (length m))

module _ {A : Type 0} where
  pub mem_pairs : (z : A × A) (l : List A) → Mem z (pairs l) → Mem z.0 l × Mem z.1 l
  unfolding pairs
  mem_pairs z [] k = elim k [ ]
  mem_pairs z (x ∷ l) k = elim (mem_append z (beside x l) (pairs l) k) [
    | inl a ↦ let r = mem_beside z x l a in (inl r.0, inr r.1)
    | inr b ↦ let r = mem_pairs z l b in (inr r.0, inr r.1)
  ]

  -- two different entries are a pair, in one order or the other
  pub pairs_mem : (x y : A) (l : List A) → Mem x l → Mem y l → (x ≡ y → ⊥) → Mem {A = A × A} (x, y) (pairs l) ⊎ Mem {A = A × A} (y, x) (pairs l)
  unfolding pairs
  pairs_mem x y [] x4 _ n = elim x4 [ ]
  pairs_mem x y (z ∷ l) (inl e) (inl g) n = absurd (n (e ∙ sym g))
  pairs_mem x y (z ∷ l) (inl e) (inr k) n = inl (append_left (x, y) (beside z l) (pairs l) (beside_mem x z y l e k))
  pairs_mem x y (z ∷ l) (inr k) (inl g) n = inr (append_left (y, x) (beside z l) (pairs l) (beside_mem y z x l g k))
  pairs_mem x y (z ∷ l) (inr h) (inr k) n = elim (pairs_mem x y l h k n) [
    | inl a ↦ inl (append_right (x, y) (beside z l) (pairs l) a)
    | inr b ↦ inr (append_right (y, x) (beside z l) (pairs l) b)
  ]

  -- what holds of each entry and each later one holds of each pair
  pub of_pair : (R : A → A → Type 0) (l : List A) → Pairwise R l → (p : A × A) → Mem p (pairs l) → R p.0 p.1
  unfolding pairs
  of_pair R l w = all_mem (λ (p : A × A). R p.0 p.1) (pairs l) (each l w)
    where
      row : (x : A) (l : List A) → ((y : A) → Mem y l → R x y) → All (λ (p : A × A). R p.0 p.1) (beside x l)
      row x [] h = tt
      row x (y ∷ l) h = (h y (inl refl), row x l (λ z m. h z (inr m)))

      each : (l : List A) → Pairwise R l → All (λ (p : A × A). R p.0 p.1) (pairs l)
      each [] w = tt
      each (x ∷ l) w = all_append (λ (p : A × A). R p.0 p.1) (beside x l) (pairs l) (row x l w.0) (each l w.1)

-- both entries of a pair under g
abbrev pub both : {A B : Type 0} → (A → B) → A × A → B × B
both g p = (g p.0, g p.1)

pub pairs-map : {A B : Type 0} (g : A → B) (l : List A) → pairs (map g l) ≡ map (both g) (pairs l)
unfolding pairs
pairs-map g [] = refl
pairs-map {A} {B} g (x ∷ l) = ap₂ ◌++◌ (row x l) (pairs-map g l) ∙ sym (map-append (both g) (beside x l) (pairs l))
  where
    row : (x : A) (l : List A) → beside (g x) (map g l) ≡ map (both g) (beside x l)
    row x [] = refl
    row x (y ∷ l) = ap (◌∷◌ (g x, g y)) (row x l)
