-- A least gap of 64ths kept as a float, a NaN where there is none yet. Assumes nothing.
use Rattle.std.specs.Prelude.{Option, None, Some}
use mathlib.Core.Path.{◌≡◌, refl, sym, ap, ap₂, ◌∙◌, subst}
use mathlib.Core.Logic.{inl, inr}
use mathlib.Core.Bool.{Bool, true, false, not, cond}
use Prim.Native.Nat.{ℕ, ◌^◌, ◌≤◌, ◌<◌}
use native.Mathlib.Omega.{arith}
use borrow.Author.Tests.{lt-ltb, le-ltb}
use lib.Dec.{ltb, eqb}
use lib.Ieee.{Float, nan, inf, fin, is_nan, lt}
use lib.Ieee.Exact.{HasValue}
use Rattle.laws.specs.Least.{lesser}
use Rattle.laws.proofs.Tests.{le_or_lt, same_or_not, cond_true, cond_false}
use Rattle.laws.proofs.Folds.{idr}
use Rattle.floats.specs.Values.{plus_zero, lesser_of, gap_of}
use Rattle.floats.specs.Grid.{unit, of_units}
use Rattle.floats.specs.TotalOrder.{float_at}
use Rattle.floats.proofs.Units.{of_units-value}
use Rattle.drawing.specs.Inner.LeastFloats.{Number, gap_of_float}
use Rattle.drawing.proofs.LeastFloatLaws.{none_absent, number-present}
use Rattle.congestion.specs.Figures.{apart}
use Rattle.congestion.specs.Walk.{gap_unless_zero, gap_of_units}
use Rattle.congestion.specs.Inner.Keys.{Key, Representable}
use Rattle.density_call.specs.Inner.Meeting.{least_float, with_gap}
use Rattle.congestion.proofs.FoldLaws.{fewest}
use Rattle.congestion.proofs.Oriented.{apart-turn}
use Rattle.congestion.proofs.LeastGap.{held-lesser, lt_units, grid-gap, above_zero}

pub lesser-none : (o : Option ℕ) → lesser ltb o None ≡ o
lesser-none o = idr fewest o

-- the float of a number of 64ths is not a NaN
value-number : (x : Float) (s : Bool) (a b : ℕ) → HasValue x s a b → Number x
unfolding is_nan
value-number nan s a b h = absurd h
value-number (inf t) s a b h = absurd h
value-number (fin t m e) s a b h = tt

units_number : (n : ℕ) → n < 2 ^ 53 → Number (of_units n)
unfolding of_units
units_number n h = value-number (of_units n) false n 64 (of_units-value false n h)

-- ---- after the sweep it becomes a gap
pub gap-again : (o : Option ℕ) → Representable o → gap_of_float (least_float o) ≡ gap_of_units o
gap-again None h = none_absent
gap-again (Some n) h = number-present (of_units n) (units_number n h)

-- ---- a gap joins it
lesser-float : (o : Option ℕ) (a : ℕ) → Representable o → a < 2 ^ 53 → lesser_of (of_units a) (least_float o) ≡ least_float (lesser ltb o (Some a))
unfolding lesser_of lt lesser
lesser-float None a h k = refl
lesser-float (Some n) a h k = ap (λ (t : Bool). cond t (of_units n) (of_units a)) (lt_units n a h k) ∙ either (ltb n a) ∙ ap of_units (turned n a)
  where
    either : (t : Bool) → cond t (of_units n) (of_units a) ≡ of_units (cond t n a)
    either true = refl
    either false = refl

    -- the lesser of two numbers, whichever is compared first
    turned : (n a : ℕ) → cond (ltb n a) n a ≡ cond (ltb a n) a n
    turned n a = elim (le_or_lt a n) [
      | inr h ↦ rw (lt-ltb n a h, le-ltb a n (omega arith))
      | inl h ↦ elim (same_or_not a n) [
        | inl e ↦ rw (le-ltb n a h, le-ltb a n (omega arith)) e
        | inr d ↦ rw (le-ltb n a h, lt-ltb a n (less d h))
      ]
    ]
      where
        less : (a ≡ n → ⊥) → a ≤ n → a < n
        less d h = omega arith

joined_units : (o : Option ℕ) (b : Bool) (a : ℕ) (g : Float) → Representable o → a < 2 ^ 53 → g ≡ of_units a → lt plus_zero g ≡ not b → (with_gap (least_float o) g ≡ least_float (lesser ltb o (gap_unless_zero b a))) × Representable (lesser ltb o (gap_unless_zero b a))
joined_units o true a g h k e z = (cond_false (lt plus_zero g) (lesser_of g (least_float o)) (least_float o) z ∙ sym (ap least_float (lesser-none o)), subst Representable (sym (lesser-none o)) h)
joined_units o false a g h k e z = (cond_true (lt plus_zero g) (lesser_of g (least_float o)) (least_float o) z ∙ ap (λ (z : Float). lesser_of z (least_float o)) e ∙ lesser-float o a h k, held-lesser o (Some a) h k)

pub keys_join : (o : Option ℕ) (w w' u u' : ℕ) → Representable o → Key w u → Key w' u' → (with_gap (least_float o) (gap_of (float_at w) (float_at w')) ≡ least_float (lesser ltb o (gap_unless_zero (eqb u' u) (apart u' u)))) × Representable (lesser ltb o (gap_unless_zero (eqb u' u) (apart u' u)))
keys_join o w w' u u' h k k' =
    let g = grid-gap (float_at w) (float_at w') k.grid k'.grid in
    let e : apart (unit (float_at w)) (unit (float_at w')) ≡ apart u' u = ap₂ apart k.is k'.is ∙ apart-turn u u' in
    let b : apart u' u < 2 ^ 53 = subst (λ (z : ℕ). z < 2 ^ 53) e g.1 in
    let f : gap_of (float_at w) (float_at w') ≡ of_units (apart u' u) = g.0 ∙ ap of_units e in
    joined_units o (eqb u' u) (apart u' u) (gap_of (float_at w) (float_at w')) h b f (ap (lt plus_zero) f ∙ above_zero u' u b)
