-- The greatest member of a range. Assumes nothing.
use Rattle.std.specs.Prelude.{Option, Some, None}
use mathlib.Core.Path.{◌≡◌, refl, sym, ap, ◌∙◌}
use mathlib.Core.Logic.{inl, inr}
use mathlib.Core.Bool.{Bool, true, false, cond}
use mathlib.Core.List.{List}
use Prim.Native.Nat.{ℕ, zero, suc, ◌≤◌, ◌<◌}
use native.Mathlib.Omega.{arith}
use borrow.Author.Tests.{le-leb, lt-leb, leb-true, leb-false}
use lib.Dec.{leb}
use Rattle.laws.proofs.Tests.{clash, le_or_lt}
use Rattle.bitset.specs.Inner.Members.{member, rest_below, last_below}

-- no member from a on and below b
abbrev pub NoneIn : List ℕ → ℕ → ℕ → Type 0
NoneIn w a b = (q : ℕ) → a ≤ q → q < b → member w q ≡ false

-- p is the greatest member from `from` on and below `to`
pub record Greatest (w : List ℕ) (from to p : ℕ) : Type 0 where
  pub is_in : member w p ≡ true
  pub from_on : from ≤ p
  pub below : p < to
  pub last : NoneIn w (suc p) to

-- ---- what gives an answer
none_more : (w : List ℕ) (a b : ℕ) → member w b ≡ false → NoneIn w a b → NoneIn w a (suc b)
none_more w a b m h q x y = elim (le_or_lt b q) [ inl l ↦ ap (member w) (omega arith) ∙ m | inr l ↦ h q x l ]

pub last_none : (w : List ℕ) (from to : ℕ) → NoneIn w from to → last_below w from to ≡ None
unfolding last_below
last_none w from zero h = refl
last_none w from (suc t) h = elim (le_or_lt from t) [
  | inl l ↦ rw (le-leb from t l, h t l (omega arith)) (last_none w from t (λ q a b. h q a (omega arith)))
  | inr l ↦ rw (lt-leb from t l)
]

pub last-is : (w : List ℕ) (from to p : ℕ) → Greatest w from to p → last_below w from to ≡ Some (p, rest_below w p)
unfolding last_below
last-is w from zero p g = absurd (omega (arith, g.below))
last-is w from (suc t) p g = elim (le_or_lt t p) [
  | inl l ↦
      let e : p ≡ t = omega (arith, g.below) in
      rw (le-leb from t (omega (arith, g.from_on)), ap (member w) (sym e) ∙ g.is_in) (ap (λ (q : ℕ). Some (q, rest_below w q)) (sym e))
  | inr l ↦ rw (le-leb from t (omega (arith, g.from_on)), g.last t l (omega arith)) (last-is w from t p (record { is_in = g.is_in; from_on = g.from_on; below = l; last = λ q a b. g.last q a (omega arith) }))
]

-- ---- what an answer says
abbrev place : Option (ℕ × ℕ) → ℕ
place None = 0
place (Some a) = a.0

abbrev rest : Option (ℕ × ℕ) → ℕ
rest None = 0
rest (Some a) = a.1

found-empty : {A : Type 0} (p x : ℕ) → ◌≡◌ {A = Option (ℕ × ℕ)} None (Some (p, x)) → A
found-empty p x e = let z : ◌≡◌ {A = ℕ} 0 1 = cc in absurd (omega arith)

pub last_found : (w : List ℕ) (from to p x : ℕ) → last_below w from to ≡ Some (p, x) → Greatest w from to p × (x ≡ rest_below w p)
unfolding last_below
last_found w from zero p x e = found-empty p x e
last_found w from (suc t) p x e = go (leb from t) (member w t) refl refl e (last_found w from t p x)
  where
    go : (a b : Bool) → leb from t ≡ a → member w t ≡ b → cond a (cond b (Some (t, rest_below w t)) (last_below w from t)) None ≡ Some (p, x) → (last_below w from t ≡ Some (p, x) → Greatest w from t p × (x ≡ rest_below w p)) → Greatest w from (suc t) p × (x ≡ rest_below w p)
    go true true l m e k =
        let s : t ≡ p = ap place e in
        let r : rest_below w t ≡ x = ap rest e in
        (record { is_in = ap (member w) (sym s) ∙ m; from_on = omega (arith, leb-true from t l); below = omega arith; last = λ q a b. absurd (omega arith) }, sym r ∙ ap (rest_below w) s)
    go true false l m e k =
        let g = (k e).0 in
        (record { is_in = g.is_in; from_on = g.from_on; below = omega (arith, g.below); last = none_more w (suc p) t m g.last }, (k e).1)
    go false b l m e k = found-empty p x e

pub last_empty : (w : List ℕ) (from to : ℕ) → last_below w from to ≡ None → NoneIn w from to
unfolding last_below
last_empty w from zero e = λ q a b. absurd (omega arith)
last_empty w from (suc t) e = go (leb from t) (member w t) refl refl e (last_empty w from t)
  where
    go : (a b : Bool) → leb from t ≡ a → member w t ≡ b → cond a (cond b (Some (t, rest_below w t)) (last_below w from t)) None ≡ None → (last_below w from t ≡ None → NoneIn w from t) → NoneIn w from (suc t)
    go true true l m e k = found-empty t (rest_below w t) (sym e)
    go true false l m e k = none_more w from t m (k e)
    go false b l m e k = λ q x y. absurd (omega (arith, leb-false from t l))

-- ---- two sets, each up to a bound of its own: below both bounds they agree, and from the other's bound on neither has a member
module _ (v w : List ℕ) (a b : ℕ) (same : (p : ℕ) → p < a → p < b → (member v p ≡ member w p) × (rest_below v p ≡ rest_below w p)) (no-v : NoneIn v b a) (no-w : NoneIn w a b) where
  none_too : (from : ℕ) → NoneIn w from b → NoneIn v from a
  none_too from h q l k = elim (le_or_lt b q) [ inl g ↦ no-v q g k | inr g ↦ (same q k g).0 ∙ h q l g ]

  pub last-same : (from : ℕ) → last_below v from a ≡ last_below w from b
  last-same from = go (last_below w from b) refl
    where
      go : (r : Option (ℕ × ℕ)) → last_below w from b ≡ r → last_below v from a ≡ last_below w from b
      go None e = last_none v from a (none_too from (last_empty w from b e)) ∙ sym e
      go (Some (p, x)) e =
          let f = last_found w from b p x e in
          let g = f.0 in
          elim (le_or_lt a p) [
            | inl h ↦ clash (member w p) g.is_in (no-w p h g.below)
            | inr h ↦
                last-is v from a p (record { is_in = (same p h g.below).0 ∙ g.is_in; from_on = g.from_on; below = h; last = none_too (suc p) g.last })
                ∙ ap (λ (r : ℕ). Some (p, r)) ((same p h g.below).1 ∙ sym f.1)
                ∙ sym e
          ]
