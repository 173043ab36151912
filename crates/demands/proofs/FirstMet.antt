-- The first refusal that applies is what the checks return. Assumes nothing.
use Rattle.std.specs.Prelude.{Ok, Err}
use mathlib.Core.Path.{◌≡◌, refl, sym, ap, subst, ◌∙◌}
use mathlib.Core.Logic.{◌⊎◌, inl, inr}
use mathlib.Core.Bool.{Bool, true, false}
use mathlib.Core.List.{List, [], ◌∷◌, ◌++◌}
use Prim.Native.Nat.{ℕ, ◌≤◌}
use native.Mathlib.Nat.{le_trans}
use native.Mathlib.Omega.{arith}
use Rattle.laws.specs.Lists.{Mem, All}
use Rattle.laws.proofs.Tests.{decide, clash}
use Rattle.drawing.specs.declared.refusal.Refusal.{Refusal}
use Rattle.drawing.specs.declared.refusal.Refusal.TheVariants.{MalformedFile, ColumnsDiffer, TooManyEntries, ShortScratch, InvalidInput, OffGrid, WorkLimitExceeded, ShortOutput}
use Rattle.drawing.specs.Refusals.{first_of}
use Rattle.drawing.proofs.FirstRefusal.{first_yes, first_no, first-none}
use Rattle.demands.specs.Applies.{First, NoneApplies, place_in_list, InOrder}

-- conditions that do not hold decide nothing
behind : (before l : List (Bool × Refusal)) → NoneApplies before → first_of (before ++ l) ≡ first_of l
behind [] l h = refl
behind (c ∷ before) l h = first_no c.0 c.1 (before ++ l) h.0 ∙ behind before l h.1

pub first-refused : (l : List (Bool × Refusal)) (why : Refusal) → First l why → first_of l ≡ Err why
first-refused l why f = ap first_of f.it ∙ behind f.before ((true, why) ∷ f.after) f.none_before ∙ first_yes true why f.after refl

-- where none applies the checks pass
pub none_passed : (l : List (Bool × Refusal)) → NoneApplies l → first_of l ≡ Ok tt
none_passed [] h = first-none
none_passed (c ∷ l) h = first_no c.0 c.1 l h.0 ∙ none_passed l h.1

-- a refusal applies first, or none does
pub record Some (l : List (Bool × Refusal)) : Type 0 where
  pub refusal : Refusal
  pub first : First l refusal

pub some_or_none : (l : List (Bool × Refusal)) → Some l ⊎ NoneApplies l
some_or_none [] = inr tt
some_or_none (c ∷ l) = elim (decide c.0) [
  | inl t ↦ inl (record { refusal = c.1; first = record { before = []; after = l; it = λ i. (t i, c.1) ∷ l; none_before = tt } })
  | inr z ↦ elim (some_or_none l) [
    | inl s ↦ inl (record { refusal = s.refusal; first = record { before = c ∷ s.first.before; after = s.first.after; it = ap (λ (k : List (Bool × Refusal)). c ∷ k) s.first.it; none_before = (z, s.first.none_before) } })
    | inr h ↦ inr (z, h)
  ]
]

-- ---- conditions in checking order, of which those before 5 do not hold and one of 5 does: 5 applies first
order-at_most : (place : ℕ) (l : List (Bool × Refusal)) → InOrder place l → (c : Bool × Refusal) → Mem c l → place ≤ place_in_list c.1
order-at_most place [] o c m = absurd m
order-at_most place (d ∷ l) o c (inl e) = subst (λ (z : Bool × Refusal). place ≤ place_in_list z.1) (sym e) o.0
order-at_most place (d ∷ l) o c (inr m) = le_trans o.0 (order-at_most (place_in_list d.1) l o.1 c m)

only-five : (r : Refusal) → place_in_list r ≤ 5 → (place_in_list r ≤ 4 → ⊥) → r ≡ InvalidInput
unfolding place_in_list
only-five MalformedFile h k = absurd (k (omega arith))
only-five ColumnsDiffer h k = absurd (k (omega arith))
only-five TooManyEntries h k = absurd (k (omega arith))
only-five ShortScratch h k = absurd (k (omega arith))
only-five InvalidInput h k = refl
only-five OffGrid h k = absurd (omega arith)
only-five WorkLimitExceeded h k = absurd (omega arith)
only-five ShortOutput h k = absurd (omega arith)

-- its place in the list
place-of-five : place_in_list InvalidInput ≤ 5
unfolding place_in_list
place-of-five = omega arith

pub first-five : (place : ℕ) (l : List (Bool × Refusal)) → InOrder place l → All (λ c. place_in_list c.1 ≤ 4 → c.0 ≡ false) l → Mem (true, InvalidInput) l → First l InvalidInput
first-five place [] o h m = absurd m
first-five place (c ∷ l) o h m = elim (decide c.0) [
  | inl t ↦
      let at_most : place_in_list c.1 ≤ 5 = elim m [
        | inl e ↦ subst (λ (z : Bool × Refusal). place_in_list z.1 ≤ 5) e place-of-five
        | inr n ↦ le_trans (order-at_most (place_in_list c.1) l o.1 (true, InvalidInput) n) place-of-five
      ] in
      let five = only-five c.1 at_most (λ k. clash c.0 t (h.0 k)) in
      record { before = []; after = l; it = λ i. (t i, five i) ∷ l; none_before = tt }
  | inr z ↦ elim m [
    | inl e ↦ clash c.0 (sym (ap (λ (d : Bool × Refusal). d.0) e)) z
    | inr n ↦
        let f = first-five (place_in_list c.1) l o.1 h.1 n in
        record { before = c ∷ f.before; after = f.after; it = ap (λ (k : List (Bool × Refusal)). c ∷ k) f.it; none_before = (z, f.none_before) }
  ]
]
