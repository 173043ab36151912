-- Closeness by comparisons of floats is the closeness of wires. Assumes nothing.
use mathlib.Core.Path.{◌≡◌, refl, sym, ap, ap₂, ◌∙◌, subst}
use mathlib.Core.Logic.{inl, inr}
use mathlib.Core.List.{List, [], ◌∷◌, map}
use mathlib.Core.Bool.{Bool, true, false, not, ◌&&◌, beq}
use Prim.Native.Nat.{ℕ, zero, suc, ◌^◌, ◌≤◌, ◌<◌}
use native.Mathlib.Omega.{arith}
use lib.Dec.{T, ltb, eqb}
use lib.Ieee.{Float, nan, inf, fin, lt}
use lib.Ieee.Exact.{HasValue}
use borrow.Author.Tests.{le-ltb}
use Rattle.laws.specs.Lists.{Mem, put, chosen, pairs}
use Rattle.laws.proofs.Tests.{clash}
use Rattle.laws.proofs.ListLaws.{mem_pairs}
use Rattle.floats.specs.Values.{plus_zero, lesser_of, greater_of}
use Rattle.floats.specs.Grid.{on_grid, steps, unit, of_units}
use Rattle.floats.proofs.Rank.{sgn}
use Rattle.floats.proofs.Units.{grid-value, of_units-value, lt-lengths, lt_units}
use Rattle.drawing.specs.Entries.{Segment}
use Rattle.congestion.specs.Wires.{wire_of, cutoff_of}
use Rattle.congestion.specs.Figures.{apart, close, pair_overlap}
use Rattle.congestion.specs.Rounded.{close_floats, running_sum, rounded_overlap}
use Rattle.congestion.proofs.LeastGap.{grid-gap}
use Rattle.congestion.proofs.RoundedSums.{greater_unit, lesser-unit, overlap-exact}
use Rattle.congestion.proofs.Fitness.{GridSegment, FitList}

-- a length is not below a cutoff of 0 or less
not_below : (x y : Float) (a b : ℕ) → HasValue x false a 64 → HasValue y true b 64 → lt x y ≡ false
unfolding lt
not_below nan y a b v w = absurd v
not_below (inf s) y a b v w = absurd v
not_below (fin s m e) nan a b v w = absurd w
not_below (fin s m e) (inf t) a b v w = absurd w
not_below (fin true m e) (fin t n d) a b v w = clash true refl v.0
not_below (fin false m e) (fin true n d) a b v w = refl
not_below (fin false m e) (fin false n d) a b v w = clash false w.0 refl

cutoff-steps : (y : Float) → T (on_grid y) → sgn y ≡ false → cutoff_of y ≡ steps y
unfolding cutoff_of unit sgn
cutoff-steps nan g e = absurd (grid-value nan g)
cutoff-steps (inf s) g e = absurd (grid-value (inf s) g)
cutoff-steps (fin true m d) g e = clash true refl e
cutoff-steps (fin false m d) g e = omega arith

cutoff-none : (y : Float) → T (on_grid y) → sgn y ≡ true → cutoff_of y ≡ 0
unfolding cutoff_of unit sgn
cutoff-none nan g e = absurd (grid-value nan g)
cutoff-none (inf s) g e = absurd (grid-value (inf s) g)
cutoff-none (fin true m d) g e = omega arith
cutoff-none (fin false m d) g e = clash false e refl

-- a number of 64ths is below a cutoff where the float is
pub below-cutoff : (n : ℕ) (y : Float) → n < 2 ^ 53 → T (on_grid y) → lt (of_units n) y ≡ ltb n (cutoff_of y)
unfolding of_units
below-cutoff n y h g = go (sgn y) refl
  where
    go : (s : Bool) → sgn y ≡ s → lt (of_units n) y ≡ ltb n (cutoff_of y)
    go true e = not_below (of_units n) y n (steps y) (of_units-value false n h) (subst (λ (t : Bool). HasValue y t (steps y) 64) e (grid-value y g)) ∙ sym (le-ltb n (cutoff_of y) (let z = cutoff-none y g e in omega arith))
    go false e = lt-lengths (of_units n) y n (steps y) (of_units-value false n h) (subst (λ (t : Bool). HasValue y t (steps y) 64) e (grid-value y g)) ∙ ap (ltb n) (sym (cutoff-steps y g e))

same_byte : (a b : ℕ) → a ≤ 1 → b ≤ 1 → eqb a b ≡ beq (eqb a 1) (eqb b 1)
same_byte zero zero p q = refl
same_byte zero (suc zero) p q = refl
same_byte (suc zero) zero p q = refl
same_byte (suc zero) (suc zero) p q = refl
same_byte zero (suc (suc b)) p q = absurd (omega arith)
same_byte (suc zero) (suc (suc b)) p q = absurd (omega arith)
same_byte (suc (suc a)) b p q = absurd (omega arith)

pub close-floats : (cutoff : Float) (s t : Segment) → GridSegment s → GridSegment t → T (on_grid cutoff) → close_floats cutoff s t ≡ close (cutoff_of cutoff) (wire_of s) (wire_of t)
unfolding close_floats
close-floats cutoff s t p q g =
    let a = grid-gap s.fixed t.fixed p.fixed q.fixed in
    let b = greater_unit s.start t.start p.start q.start in
    let d = lesser-unit s.end t.end p.end q.end in
    ap₂ ◌&&◌ (ap₂ ◌&&◌ (same_byte s.orientation t.orientation p.byte q.byte) (ap (λ (z : Float). lt z cutoff) a.0 ∙ below-cutoff (apart (unit s.fixed) (unit t.fixed)) cutoff a.1 g))
    (lt_units (greater_of s.start t.start) (lesser_of s.end t.end) b.0 d.0 ∙ ap₂ ltb b.1 d.1)

-- ---- the overlap of the pairs that are close by comparisons of floats
same_chosen : {A C : Type 0} (p q : A → Bool) (h : A → C) (l : List A) → ((x : A) → Mem x l → p x ≡ q x) → chosen p h l ≡ chosen q h l
unfolding chosen
same_chosen p q h [] f = refl
same_chosen p q h (x ∷ l) f = λ i. put (f x (inl refl) i) (h x) (same_chosen p q h l (λ y m. f y (inr m)) i)

pub overlap-floats : (cutoff : Float) (l : List Segment) → FitList l → T (on_grid cutoff) → rounded_overlap cutoff l ≡ of_units (pair_overlap (cutoff_of cutoff) (map wire_of l))
unfolding rounded_overlap
overlap-floats cutoff l f g =
    ap (running_sum plus_zero) (same_chosen _ _ _ (pairs l) (λ p m. let q = mem_pairs p l m in ap (λ (b : Bool). b && not (eqb p.0.net p.1.net)) (close-floats cutoff p.0 p.1 (f.each p.0 q.0) (f.each p.1 q.1) g)))
    ∙ overlap-exact (cutoff_of cutoff) l f
