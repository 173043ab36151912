-- On the grid the least rounded gap is the least number of 64ths. Assumes nothing.
use Rattle.std.specs.Prelude.{Option, None, Some}
use mathlib.Core.Path.{◌≡◌, refl, sym, ap, ap₂, ◌∙◌}
use mathlib.Core.Logic.{inl, inr}
use mathlib.Core.List.{List, [], ◌∷◌, map}
use mathlib.Core.Bool.{Bool, true, false, not, ◌&&◌, cond}
use Prim.Native.Nat.{ℕ, ◌^◌, ◌≤◌, ◌<◌}
use native.Mathlib.Omega.{arith}
use lib.Dec.{T, ltb, eqb}
use borrow.Author.Tests.{lt-ltb, le-ltb, eq-eqb, ne_eqb}
use lib.Ieee.{Float, lt}
use Rattle.laws.specs.Lists.{Mem, put, chosen, fold, pairs}
use Rattle.laws.specs.Least.{lesser, least}
use Rattle.laws.proofs.Tests.{same_or_not}
use Rattle.laws.proofs.ListLaws.{mem_pairs, both, pairs-map}
use Rattle.laws.proofs.Folds.{fold_same, fold-map}
use Rattle.floats.specs.Values.{plus_zero, gap_of}
use Rattle.floats.specs.Grid.{on_grid, unit, of_units}
use Rattle.floats.proofs.Units.{of_units-value, unit_bound, gap_units, lt-lengths}
use Rattle.drawing.specs.Entries.{Segment}
use Rattle.drawing.specs.Gaps.{least_gap, lesser_gap}
use Rattle.drawing.proofs.GapLaws.{gap-from-lesser}
use Rattle.congestion.specs.Wires.{Wire, wire_of}
use Rattle.congestion.specs.Figures.{apart, close_other}
use Rattle.congestion.specs.AllPairs.{gapped, least_nonzero}
use Rattle.congestion.specs.Walk.{gap_unless_zero, gap, gap_of_units}
use Rattle.congestion.specs.Inner.Keys.{Representable}
use Rattle.congestion.proofs.FoldLaws.{fewest}
use Rattle.congestion.proofs.Oriented.{least_units}

pub held-lesser : (a b : Option ℕ) → Representable a → Representable b → Representable (lesser ltb a b)
unfolding lesser
held-lesser None b p q = q
held-lesser (Some a) None p q = p
held-lesser (Some a) (Some b) p q = pick (ltb b a)
  where
    pick : (t : Bool) → cond t b a < 2 ^ 53
    pick true = q
    pick false = p

pub held-fold : {A : Type 0} (f : A → Option ℕ) (l : List A) → ((x : A) → Mem x l → Representable (f x)) → Representable (fold (lesser ltb) None f l)
unfolding fold
held-fold f [] h = tt
held-fold f (x ∷ l) h = held-lesser (f x) (fold (lesser ltb) None f l) (h x (inl refl)) (held-fold f l (λ y m. h y (inr m)))

-- ---- the lesser of two gaps that are whole numbers of 64ths
abbrev as_float : Option ℕ → Option Float
as_float None = None
as_float (Some n) = Some (of_units n)

pub lt_units : (a b : ℕ) → a < 2 ^ 53 → b < 2 ^ 53 → lt (of_units a) (of_units b) ≡ ltb a b
unfolding of_units
lt_units a b p q = lt-lengths (of_units a) (of_units b) a b (of_units-value false a p) (of_units-value false b q)

lesser_units : (a b : Option ℕ) → Representable a → Representable b → lesser lt (as_float a) (as_float b) ≡ as_float (lesser ltb a b)
unfolding lesser
lesser_units None b p q = refl
lesser_units (Some a) None p q = refl
lesser_units (Some a) (Some b) p q = ap (λ (t : Bool). Some (cond t (of_units b) (of_units a))) (lt_units b a q p) ∙ go (ltb b a)
  where
    go : (t : Bool) → Some (cond t (of_units b) (of_units a)) ≡ Some (of_units (cond t b a))
    go true = refl
    go false = refl

present : (o : Option ℕ) → (as_float o) ≡ gap_of_units o
present None = refl
present (Some n) = refl

pub lesser-gap : (a b : Option ℕ) → Representable a → Representable b → lesser_gap (gap_of_units a) (gap_of_units b) ≡ gap_of_units (lesser ltb a b)
lesser-gap a b p q = sym (ap₂ lesser_gap (present a) (present b)) ∙ sym (gap-from-lesser (as_float a) (as_float b)) ∙ (lesser_units a b p q) ∙ present (lesser ltb a b)

-- ---- the least of chosen gaps that are whole numbers of 64ths
module _ {A : Type 0} (p : A → Bool) (g : A → Float) (n : A → ℕ) where
  abbrev number : A → Option ℕ
  number x = cond (p x) (Some (n x)) None

  held_number : (x : A) → n x < 2 ^ 53 → Representable (number x)
  held_number x h = go (p x)
    where
      go : (b : Bool) → Representable (cond b (Some (n x)) None)
      go true = h
      go false = tt

  least-chosen : (l : List A) → ((x : A) → Mem x l → (g x ≡ of_units (n x)) × (n x < 2 ^ 53)) → least lt (chosen p g l) ≡ as_float (fold (lesser ltb) None number l)
  unfolding least chosen fold
  least-chosen [] h = refl
  least-chosen (x ∷ l) h = go (p x) (h x (inl refl)) (least-chosen l (λ y m. h y (inr m))) (held-fold number l (λ y m. held_number y (h y (inr m)).1))
    where
      go : (b : Bool) → (g x ≡ of_units (n x)) × (n x < 2 ^ 53) → least lt (chosen p g l) ≡ as_float (fold (lesser ltb) None number l) → Representable (fold (lesser ltb) None number l)
          → least lt (put b (g x) (chosen p g l)) ≡ as_float (lesser ltb (cond b (Some (n x)) None) (fold (lesser ltb) None number l))
      go true e i k = ap₂ (λ (y : Float) (o : Option Float). lesser lt (Some y) o) e.0 i ∙ lesser_units (Some (n x)) (fold (lesser ltb) None number l) e.1 k
      go false e i k = i ∙ ap as_float (sym (fewest.idl (fold (lesser ltb) None number l)))

  pub least-of-chosen : (l : List A) → ((x : A) → Mem x l → (g x ≡ of_units (n x)) × (n x < 2 ^ 53)) → least_gap (chosen p g l) ≡ gap_of_units (fold (lesser ltb) None number l)
  unfolding least_gap
  least-of-chosen l h = (least-chosen l h) ∙ present (fold (lesser ltb) None number l)

-- the gap of two coordinates on the grid
pub grid-gap : (x y : Float) → T (on_grid x) → T (on_grid y) → (gap_of x y ≡ of_units (apart (unit x) (unit y))) × (apart (unit x) (unit y) < 2 ^ 53)
grid-gap x y g k = let a = unit_bound x g in let b = unit_bound y k in (gap_units x y g k, omega arith)

-- it is above 0 where the coordinates differ
pub above_zero : (a b : ℕ) → apart a b < 2 ^ 53 → lt plus_zero (of_units (apart a b)) ≡ not (eqb a b)
unfolding of_units
above_zero a b h = lt-lengths plus_zero (of_units (apart a b)) 0 (apart a b) (refl, refl) (of_units-value false (apart a b) h) ∙ elim (same_or_not a b) [
  | inl e ↦ le-ltb 0 (apart a b) (omega arith) ∙ sym (ap not (eq-eqb a b e))
  | inr n ↦ lt-ltb 0 (apart a b) (omega arith) ∙ sym (ap not (ne_eqb a b n))
]

-- a gap that is ignored where it is zero
pub nonzero-one : (r z : Bool) (n : ℕ) → cond (r && not z) (Some n) None ≡ cond r (gap_unless_zero z n) None
nonzero-one true true n = refl
nonzero-one true false n = refl
nonzero-one false z n = refl

pub held-gap : (b z : Bool) (n : ℕ) → n < 2 ^ 53 → Representable (cond b (gap_unless_zero z n) None)
held-gap true true n h = tt
held-gap true false n h = h
held-gap false z n h = tt

-- the gaps of wires on the grid are numbers that floats hold
pub held-least : (c : ℕ) (l : List Wire) → ((w : Wire) → Mem w l → w.fixed ≤ 134217728) → Representable (least_units c l)
held-least c l low = held-fold (λ p. cond (close_other c p.0 p.1) (gap p.0 p.1) None) (pairs l) (λ p m. let h = mem_pairs p l m in let a = low p.0 h.0 in let b = low p.1 h.1 in held-gap (close_other c p.0 p.1) (eqb p.0.fixed p.1.fixed) (apart p.0.fixed p.1.fixed) (omega arith))

-- ---- the least nonzero gap of a drawing
pub least-gap : (c : ℕ) (l : List Segment) → ((s : Segment) → Mem s l → T (on_grid s.fixed)) → least_nonzero c l ≡ gap_of_units (least_units c (map wire_of l))
unfolding least_nonzero
least-gap c l grid =
    least-of-chosen (λ p. gapped c (wire_of p.0) (wire_of p.1)) (λ p. gap_of p.0.fixed p.1.fixed) (λ p. apart (unit p.0.fixed) (unit p.1.fixed)) (pairs l)
    (λ p m. let h = mem_pairs p l m in grid-gap p.0.fixed p.1.fixed (grid p.0 h.0) (grid p.1 h.1))
    ∙ ap gap_of_units
    (fold_same fewest (λ p. cond (gapped c (wire_of p.0) (wire_of p.1)) (Some (apart (unit p.0.fixed) (unit p.1.fixed))) None) (λ p. cond (close_other c (wire_of p.0) (wire_of p.1)) (gap (wire_of p.0) (wire_of p.1)) None) (pairs l) (λ p m. nonzero-one (close_other c (wire_of p.0) (wire_of p.1)) (eqb (unit p.0.fixed) (unit p.1.fixed)) (apart (unit p.0.fixed) (unit p.1.fixed)))
    ∙ sym (ap (fold (lesser ltb) None (λ p. cond (close_other c p.0 p.1) (gap p.0 p.1) None)) (pairs-map wire_of l) ∙ fold-map fewest (λ p. cond (close_other c p.0 p.1) (gap p.0 p.1) None) (both wire_of) (pairs l)))
