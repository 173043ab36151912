-- The least gap so far, kept as a float: which gap it encodes, and that one more gap makes it the lesser of the two. Assumes nothing.
use Rattle.std.specs.Prelude.{Option, Some, None}
use mathlib.Core.Path.{◌≡◌, refl, sym, ap, ◌∙◌}
use mathlib.Core.Logic.{inl, inr}
use mathlib.Core.Bool.{Bool, true, false, not, ◌&&◌, ◌||◌, cond}
use Prim.Native.Nat.{ℕ, ◌+◌, ◌*◌, ◌≤◌, ◌<◌}
use native.Mathlib.Nat.{add_comm}
use native.Mathlib.Omega.{arith}
use borrow.Author.Tests.{lt-ltb, le-ltb, eq-eqb, ne_eqb}
use lib.Dec.{ltb, eqb}
use lib.Ieee.{Float, nan, inf, fin, up, down, below, level, is_nan, lt, le, ne}
use lib.Ieee.Compare.{differs_from_itself, nan_differs}
use Rattle.laws.proofs.Tests.{le_or_lt, same_or_not, clash, of_true}
use Rattle.floats.specs.Values.{lesser_of}
use Rattle.drawing.specs.Gaps.{lesser_gap}
use Rattle.drawing.specs.Inner.LeastFloats.{Number, gap_of_float, least_with}

-- ---- which gap it encodes
pub gap_absent : (x : Float) → ne x x ≡ true → None ≡ gap_of_float x
unfolding gap_of_float
gap_absent x e = sym (ap gap_of_float (differs_from_itself x (of_true (ne x x) e)))

pub gap-present : (x : Float) → ne x x ≡ false → Some x ≡ gap_of_float x
unfolding gap_of_float
gap-present nan e = clash (ne nan nan) nan_differs e
gap-present (inf s) e = refl
gap-present (fin s m k) e = refl

pub none_absent : gap_of_float nan ≡ None
unfolding gap_of_float
none_absent = refl

pub number-present : (x : Float) → Number x → gap_of_float x ≡ Some x
unfolding gap_of_float is_nan
number-present nan p = absurd p
number-present (inf s) p = refl
number-present (fin s m e) p = refl

-- ---- of two numbers, the first is at most the second or the second is below it
by_equal : (a b : ℕ) (e : Bool) → (a ≡ b → e ≡ true) → ((a ≡ b → ⊥) → e ≡ false) → (ltb a b || e) ≡ not (ltb b a)
by_equal a b e p q = elim (le_or_lt a b) [
  | inr h ↦ rw (le-ltb a b (omega arith), q (λ z. omega arith), lt-ltb b a h)
  | inl h ↦ elim (same_or_not a b) [
    | inl z ↦ rw (le-ltb a b (omega arith), p z, le-ltb b a (omega arith))
    | inr n ↦ rw (lt-ltb a b (less n h), le-ltb b a h)
  ]
]
  where
    less : (a ≡ b → ⊥) → a ≤ b → a < b
    less n h = omega arith

-- two magnitudes of different signs: both are 0, or one is not
both_zero : (a b : ℕ) → (eqb a b && eqb a 0) ≡ not (ltb 0 (b + a))
both_zero a b = elim (same_or_not a 0) [
  | inl z ↦ elim (same_or_not b 0) [
    | inl y ↦ rw (eq-eqb a b (z ∙ sym y), eq-eqb a 0 z, le-ltb 0 (b + a) (omega arith))
    | inr n ↦ rw (ne_eqb a b (λ e. n (sym e ∙ z)), lt-ltb 0 (b + a) (some b n))
  ]
  | inr n ↦ rw (ne_eqb a 0 n, lt-ltb 0 (b + a) (more n)) (none (eqb a b))
]
  where
    some : (b : ℕ) → (b ≡ 0 → ⊥) → 0 < b + a
    some b n = omega arith

    more : (a ≡ 0 → ⊥) → 0 < b + a
    more n = omega arith

    none : (t : Bool) → (t && false) ≡ false
    none true = refl
    none false = refl

signed : (s t : Bool) (a b : ℕ) → (below s a t b || level s a t b) ≡ not (below t b s a)
signed false false a b = by_equal a b (eqb a b && true) (λ e. rw (eq-eqb a b e)) (λ n. rw (ne_eqb a b n))
signed true true a b = by_equal b a (eqb a b && true) (λ e. rw (eq-eqb a b (sym e))) (λ n. rw (ne_eqb a b (λ e. n (sym e))))
signed false true a b = both_zero a b
signed true false a b = rw (both_zero a b, add_comm a b) (either (ltb 0 (b + a)))
  where
    either : (t : Bool) → (t || not t) ≡ true
    either true = refl
    either false = refl

pub at_most : (x y : Float) → Number x → Number y → le x y ≡ not (lt y x)
unfolding le is_nan
at_most nan y p q = absurd p
at_most (inf s) nan p q = absurd q
at_most (inf true) (inf true) p q = refl
at_most (inf true) (inf false) p q = refl
at_most (inf false) (inf true) p q = refl
at_most (inf false) (inf false) p q = refl
at_most (inf true) (fin t n d) p q = refl
at_most (inf false) (fin t n d) p q = refl
at_most (fin s m e) nan p q = absurd q
at_most (fin s m e) (inf true) p q = refl
at_most (fin s m e) (inf false) p q = refl
at_most (fin s m e) (fin t n d) p q = signed s t (m * up e * down d) (n * up d * down e)

-- ---- compared with one more gap: either there is none yet, and the comparison fails, or two numbers are compared
pub by-least : (x d : Float) → Number d → (P : Option Float → Type 0) → (le x d ≡ false → P None) → (le x d ≡ not (lt d x) → P (Some x)) → P (gap_of_float x)
unfolding gap_of_float is_nan le
by-least nan d q P a b = a refl
by-least (inf s) d q P a b = b (at_most (inf s) d tt q)
by-least (fin s m e) d q P a b = b (at_most (fin s m e) d tt q)

-- of two numbers it is the lesser
pub least-lesser : (x d : Float) → Number x → Number d → least_with x d ≡ lesser_of x d
unfolding least_with lesser_of
least-lesser x d p q = ap (λ (t : Bool). cond t x d) (at_most x d p q) ∙ turned (lt d x)
  where
    turned : (t : Bool) → cond (not t) x d ≡ cond t d x
    turned true = refl
    turned false = refl

lesser-number : (x d : Float) → Number x → Number d → Number (lesser_of x d)
unfolding lesser_of
lesser-number x d p q = go (lt d x)
  where
    go : (t : Bool) → Number (cond t d x)
    go true = q
    go false = p

pub least-joined : (x d : Float) → Number d → gap_of_float (least_with x d) ≡ lesser_gap (gap_of_float x) (Some d)
unfolding gap_of_float is_nan least_with lesser_gap le
least-joined nan d q = number-present d q
least-joined (inf s) d q = ap gap_of_float (least-lesser (inf s) d tt q) ∙ number-present (lesser_of (inf s) d) (lesser-number (inf s) d tt q)
least-joined (fin s m e) d q = ap gap_of_float (least-lesser (fin s m e) d tt q) ∙ number-present (lesser_of (fin s m e) d) (lesser-number (fin s m e) d tt q)
