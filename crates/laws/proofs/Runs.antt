-- Charged runs, one after another and within an allowance: one law for every walk. Assumes nothing.
use mathlib.Core.Path.{◌≡◌, refl, sym, ap, ◌∙◌}
use mathlib.Core.Logic.{◌⊎◌, inl, inr}
use mathlib.Core.List.{List, [], ◌∷◌, ◌++◌}
use Prim.Native.Nat.{ℕ, suc, ◌+◌, ◌-◌, ◌≤◌, ◌<◌}
use native.Mathlib.Nat.{add_assoc}
use native.Mathlib.Omega.{arith}
use borrow.Author.Tests.{le-leb, lt-leb}
use lib.Dec.{leb}
use Rattle.laws.specs.Charged.{Charged, free, visit, after, runs, settle}
use Rattle.laws.specs.Inner.Allowance.{Outcome, spent, left, within, onward, reply}
use Rattle.laws.proofs.Tests.{le_or_lt, cond_true, cond_false}

-- ---- one run after another: with nothing before it or after it, and three of them grouped either way
nothing_after : {A B : Type 0} (a : A) (f : A → Charged B) → after (free a) f ≡ f a
nothing_after a f = let e : 0 + (f a).cost ≡ (f a).cost = omega arith in λ i. record { value = (f a).value; cost = e i }

pub after_nothing : {A : Type 0} (c : Charged A) → after c (λ a. free a) ≡ c
after_nothing c = let e : c.cost + 0 ≡ c.cost = omega arith in λ i. record { value = c.value; cost = e i }

pub after-after : {A B C : Type 0} (c : Charged A) (f : A → Charged B) (g : B → Charged C) → after (after c f) g ≡ after c (λ a. after (f a) g)
after-after c f g = let e = add_assoc c.cost (f c.value).cost (g (f c.value).value).cost in λ i. record { value = (g (f c.value).value).value; cost = e i }

-- ---- a run within an allowance
module _ {A : Type 0} where
  left-parts : {a b : A} {k n : ℕ} → left a k ≡ left b n → (a ≡ b) × (k ≡ n)
  left-parts e = (cc, cc)

  not_spent : {a : A} {k : ℕ} → spent ≡ left a k → ⊥
  not_spent e = let z : ◌≡◌ {A = ℕ} 0 1 = cc in omega arith

  pub within-enough : (m : ℕ) (c : Charged A) → c.cost ≤ m → within m c ≡ left c.value (m - c.cost)
  unfolding within
  within-enough m c h = cond_true (leb c.cost m) _ _ (le-leb c.cost m h)

  pub within-short : (m : ℕ) (c : Charged A) → m < c.cost → within m c ≡ spent
  unfolding within
  within-short m c h = cond_false (leb c.cost m) _ _ (lt-leb c.cost m h)

  -- what an outcome says about its run
  pub within-left : (m : ℕ) (c : Charged A) (a : A) (k : ℕ) → within m c ≡ left a k → (c.cost ≤ m) × (c.value ≡ a) × (m - c.cost ≡ k)
  within-left m c a k e = elim (le_or_lt c.cost m) [
    | inl h ↦ let p = left-parts (sym (within-enough m c h) ∙ e) in (h, p.0, p.1)
    | inr h ↦ absurd (not_spent (sym (within-short m c h) ∙ e))
  ]

  pub within-spent : (m : ℕ) (c : Charged A) → within m c ≡ spent → m < c.cost
  within-spent m c e = elim (le_or_lt c.cost m) [ inl h ↦ absurd (not_spent (sym e ∙ within-enough m c h)) | inr h ↦ h ]

  pub within-free : (m : ℕ) (a : A) → within m (free a) ≡ left a m
  within-free m a = within-enough m (free a) (omega arith) ∙ ap (left a) (omega arith)

  -- ---- one visit: with none remaining the run stops before it
  pub visit-spent : (c : Charged A) → within 0 (visit c) ≡ spent
  visit-spent c = within-short 0 (visit c) (omega arith)

  pub visit-paid : (m : ℕ) (c : Charged A) → within (suc m) (visit c) ≡ within m c
  visit-paid m c = elim (le_or_lt c.cost m) [
    | inl h ↦ within-enough (suc m) (visit c) (omega arith) ∙ ap (left c.value) (omega arith) ∙ sym (within-enough m c h)
    | inr h ↦ within-short (suc m) (visit c) (omega arith) ∙ sym (within-short m c h)
  ]

module _ {A B : Type 0} where
  -- ---- the next run within the remaining visits
  pub onward-spent : (k : A → ℕ → Outcome B) → onward spent k ≡ spent
  unfolding onward
  onward-spent k = refl

  pub onward-left : (a : A) (m : ℕ) (k : A → ℕ → Outcome B) → onward (left a m) k ≡ k a m
  unfolding onward
  onward-left a m k = refl

  -- running one after the other within m is running the first within m and the second within the remaining visits
  pub within-after : (m : ℕ) (c : Charged A) (k : A → Charged B) → within m (after c k) ≡ onward (within m c) (λ a r. within r (k a))
  within-after m c k = elim (le_or_lt c.cost m) [
    | inl h ↦ second h (le_or_lt (k c.value).cost (m - c.cost)) ∙ sym (rw (within-enough m c h) (onward-left c.value (m - c.cost) (λ a r. within r (k a))))
    | inr h ↦ within-short m (after c k) (omega arith) ∙ sym (rw (within-short m c h) (onward-spent (λ a r. within r (k a))))
  ]
    where
      second : c.cost ≤ m → ((k c.value).cost ≤ m - c.cost) ⊎ (m - c.cost < (k c.value).cost) → within m (after c k) ≡ within (m - c.cost) (k c.value)
      second h (inl g) = within-enough m (after c k) (omega arith) ∙ ap (left (k c.value).value) (omega arith) ∙ sym (within-enough (m - c.cost) (k c.value) g)
      second h (inr g) = within-short m (after c k) (omega arith) ∙ sym (within-short (m - c.cost) (k c.value) g)

  -- ---- a run of which only f of the value is read
  module _ (f : A → B) (m : ℕ) (c : Charged A) where
    pub within-read : onward (within m c) (λ a k. left (f a) k) ≡ within m (record { value = f c.value; cost = c.cost })
    within-read = elim (le_or_lt c.cost m) [
      | inl h ↦ rw (within-enough m c h) (onward-left c.value (m - c.cost) (λ a k. left (f a) k)) ∙ sym (within-enough m (record { value = f c.value; cost = c.cost }) h)
      | inr h ↦ rw (within-short m c h) (onward-spent (λ a k. left (f a) k)) ∙ sym (within-short m (record { value = f c.value; cost = c.cost }) h)
    ]

    pub read_left : (b : B) (k : ℕ) → onward (within m c) (λ a k. left (f a) k) ≡ left b k → (within m c ≡ left c.value k) × (f c.value ≡ b)
    read_left b k e = let r = within-left m (record { value = f c.value; cost = c.cost }) b k (sym within-read ∙ e) in (within-enough m c r.0 ∙ ap (left c.value) r.2, r.1)

    pub read-spent : onward (within m c) (λ a k. left (f a) k) ≡ spent → within m c ≡ spent
    read-spent e = within-short m c (within-spent m (record { value = f c.value; cost = c.cost }) (sym within-read ∙ e))

-- ---- a run for each entry of a list
module _ {S X : Type 0} (step : S → X → Charged S) where
  pub runs_append : (l r : List X) (s : S) → runs step s (l ++ r) ≡ after (runs step s l) (λ s'. runs step s' r)
  unfolding runs
  runs_append [] r s = sym (nothing_after s (λ s'. runs step s' r))
  runs_append (x ∷ l) r s =
      let c = step s x in
      (λ i. record { value = (runs_append l r c.value i).value; cost = c.cost + (runs_append l r c.value i).cost })
      ∙ sym (after-after c (λ s'. runs step s' l) (λ s'. runs step s' r))

  pub within_none : (m : ℕ) (s : S) → within m (runs step s []) ≡ left s m
  unfolding runs
  within_none m s = within-free m s

  pub within_next : (m : ℕ) (s : S) (x : X) (l : List X) → within m (runs step s (x ∷ l)) ≡ onward (within m (step s x)) (λ s' r. within r (runs step s' l))
  unfolding runs
  within_next m s x l = within-after m (step s x) (λ s'. runs step s' l)

-- ---- what a call answers
module _ {A R : Type 0} (report : A → ℕ → R) (refusal : R) where
  pub settle-reached : (m : ℕ) (c : Charged A) → c.cost ≤ m → settle report refusal m c ≡ report c.value c.cost
  unfolding settle
  settle-reached m c h = cond_true (leb c.cost m) _ _ (le-leb c.cost m h)

  pub settle-short : (m : ℕ) (c : Charged A) → m < c.cost → settle report refusal m c ≡ refusal
  unfolding settle
  settle-short m c h = cond_false (leb c.cost m) _ _ (lt-leb c.cost m h)

  -- and a run within the allowance gives the same answer
  pub settle-within : (m : ℕ) (c : Charged A) → reply report refusal m (within m c) ≡ settle report refusal m c
  unfolding reply
  settle-within m c = elim (le_or_lt c.cost m) [
    | inl h ↦ ap (reply report refusal m) (within-enough m c h) ∙ ap (report c.value) (used c.cost m h) ∙ sym (settle-reached m c h)
    | inr h ↦ ap (reply report refusal m) (within-short m c h) ∙ sym (settle-short m c h)
  ]
    where
      used : (a m : ℕ) → a ≤ m → m - (m - a) ≡ a
      used a m h = omega arith
