-- Sums of lengths on the grid are exact: with IEEE 754's rounded steps, in any order, they are the floats of the whole numbers. Assumes nothing.
use mathlib.Core.Path.{◌≡◌, refl, sym, ap, ap₂, ◌∙◌, subst}
use mathlib.Core.Logic.{inl, inr}
use mathlib.Core.List.{List, [], ◌∷◌, map, map-map, map-id}
use mathlib.Core.Bool.{Bool, true, cond}
use Prim.Native.Nat.{ℕ, ◌+◌, ◌-◌, ◌^◌, ◌≤◌, ◌<◌, min, max}
use native.Mathlib.Omega.{arith}
use native.Mathlib.Nat.{le_of_lt}
use lib.Dec.{T}
use lib.Ieee.{Float, round, lt}
use borrow.Author.Tests.{ltb-true, ltb-false}
use Rattle.laws.specs.Lists.{Mem, chosen, fold, sum, pairs}
use Rattle.laws.specs.Perm.{Perm, via}
use Rattle.laws.proofs.Tests.{decide, and_left, and_right}
use Rattle.laws.proofs.ListLaws.{mem_pairs, mem_map, map_same, both, pairs-map}
use Rattle.laws.proofs.Perms.{perm_refl, perm_sym, perm-eq, perm_mem}
use Rattle.laws.proofs.Folds.{plus, fold_same, fold-map, fold-perm}
use Rattle.floats.specs.Values.{plus_zero, canonical_zero, lesser_of, greater_of}
use Rattle.floats.specs.Grid.{on_grid, unit, of_units}
use Rattle.floats.proofs.Zeros.{canonical_again}
use Rattle.floats.proofs.Units.{unit_bound, unit-of_units, lt_units, sub_units, add_units, canonical_unit, canonical_grid}
use Rattle.drawing.specs.Entries.{Segment}
use Rattle.congestion.specs.Wires.{Wire, wire_of}
use Rattle.congestion.specs.Cells.{extent}
use Rattle.congestion.specs.Figures.{near, overlaps, overlap, close, other, close_other, total, pair_overlap}
use Rattle.congestion.specs.Rounded.{running_sum, span, rounded_total}
use Rattle.congestion.proofs.FoldLaws.{fold-chosen, chosen_under}
use Rattle.congestion.proofs.Orientations.{overlap-sum}
use Rattle.congestion.proofs.Fitness.{FitList, sound_wires}
use Rattle.congestion.proofs.Bounds.{Small, total-small, overlap-small}

-- ---- a running sum of whole numbers of 64ths
running_units : (z : ℕ) (l : List ℕ) → z + sum (λ n. n) l < 2 ^ 53 → running_sum (of_units z) (map of_units l) ≡ of_units (z + sum (λ n. n) l)
unfolding running_sum fold
running_units z [] h = let e : z ≡ z + 0 = omega arith in ap of_units e
running_units z (n ∷ l) h =
    let e : z + n + sum (λ n. n) l ≡ z + (n + sum (λ n. n) l) = omega arith in
    ap (λ (x : Float). running_sum x (map of_units l)) (add_units z n (omega arith) (omega arith))
    ∙ running_units (z + n) l (omega arith)
    ∙ ap of_units e

pub zero_units : of_units 0 ≡ plus_zero
unfolding of_units round
zero_units = refl

sum_units : (l : List ℕ) → sum (λ n. n) l < 2 ^ 53 → running_sum plus_zero (map of_units l) ≡ of_units (sum (λ n. n) l)
sum_units l h = ap (λ (x : Float). running_sum x (map of_units l)) (sym zero_units) ∙ running_units 0 l (omega arith) ∙ ap of_units (plus.idl (sum (λ n. n) l))

-- values under a function
map_under : {A C D : Type 0} (f : C → D) (h : A → C) (g : A → D) (l : List A) → ((x : A) → Mem x l → g x ≡ f (h x)) → map g l ≡ map f (map h l)
map_under f h g l e = map_same g (λ x. f (h x)) l e ∙ sym (map-map f h l)

-- ---- the sum in any order: the float of a length determines its number of 64ths
abbrev back : Float → ℕ
back x = unit x - 67108864

back_units : (n : ℕ) → n < 2 ^ 53 → back (of_units n) ≡ n
back_units n h = let e = unit-of_units n h in omega arith

part-of-sum : (n : ℕ) (l : List ℕ) → Mem n l → n ≤ sum (λ k. k) l
unfolding fold
part-of-sum n [] m = elim m [ ]
part-of-sum n (k ∷ l) (inl e) = omega arith
part-of-sum n (k ∷ l) (inr m) = let h = part-of-sum n l m in omega arith

pub any_order : (l : List ℕ) → sum (λ n. n) l < 2 ^ 53 → (r : List Float) → Perm (map of_units l) r → running_sum plus_zero r ≡ of_units (sum (λ n. n) l)
any_order l h r p =
    let e : sum (λ n. n) (map back r) ≡ sum (λ n. n) l =
    fold-map plus (λ n. n) back r ∙ sym (fold-perm plus back p) ∙ fold-map plus back of_units l
    ∙ fold_same plus (λ n. back (of_units n)) (λ n. n) l (λ n m. let b = part-of-sum n l m in back_units n (omega arith)) in
    ap (running_sum plus_zero) (sym (map-id r) ∙ map_under of_units back (λ x. x) r (λ x m. sym (again x m)))
    ∙ sum_units (map back r) (omega arith)
    ∙ ap of_units e
  where
    again : (x : Float) → Mem x r → of_units (back x) ≡ x
    again x m =
        let w = mem_map of_units l x (perm_mem x (perm_sym p) m) in
        let b = part-of-sum w.0 l w.1 in
        ap (λ (z : Float). of_units (back z)) w.2 ∙ ap of_units (back_units w.0 (omega arith)) ∙ sym w.2

-- ---- one length
pub span_units : (x y : Float) → T (on_grid x) → T (on_grid y) → unit x ≤ unit y → span x y ≡ of_units (unit y - unit x)
span_units x y g k h =
    sub_units (canonical_zero y) (canonical_zero x) (subst T (sym (canonical_grid y)) k) (subst T (sym (canonical_grid x)) g) (canonical_again y) (rw (canonical_unit x, canonical_unit y) h)
    ∙ ap₂ (λ (m n : ℕ). of_units (m - n)) (canonical_unit y) (canonical_unit x)

-- ---- the total length
pub small-wires : (l : List Segment) → FitList l → Small (map wire_of l)
small-wires l f w m = let r = mem_map wire_of l w m in subst (λ (v : Wire). v.end ≤ 134217728) (sym r.2) (unit_bound r.0.end (f.each r.0 r.1).end)

pub low-wires : (l : List Segment) → FitList l → (w : Wire) → Mem w (map wire_of l) → w.fixed ≤ 134217728
low-wires l f w m = let r = mem_map wire_of l w m in subst (λ (v : Wire). v.fixed ≤ 134217728) (sym r.2) (unit_bound r.0.fixed (f.each r.0 r.1).fixed)

module _ (l : List Segment) (f : FitList l) where
  pub total-any_order : (r : List Float) → Perm (map (λ s. span s.start s.end) l) r → running_sum plus_zero r ≡ of_units (total (map wire_of l))
  unfolding total
  total-any_order r p =
      let e = fold-map plus (λ n. n) (λ s. extent (wire_of s)) l in
      let g = fold-map plus extent wire_of l in
      let b = total-small (map wire_of l) (sound_wires l f) (small-wires l f) in
      any_order (map (λ s. extent (wire_of s)) l) (omega arith) r (via (perm-eq (sym (map_under of_units (λ s. extent (wire_of s)) (λ s. span s.start s.end) l (λ s m. let h = f.each s m in span_units s.start s.end h.start h.end (le_of_lt h.rises))))) p)
      ∙ ap of_units (e ∙ sym g)

  pub total-exact : rounded_total l ≡ of_units (total (map wire_of l))
  unfolding rounded_total
  total-exact = total-any_order (map (λ s. span s.start s.end) l) (perm_refl _)

-- ---- the overlaps of close pairs
pub greater_unit : (x y : Float) → T (on_grid x) → T (on_grid y) → T (on_grid (greater_of x y)) × (unit (greater_of x y) ≡ max (unit x) (unit y))
unfolding greater_of
greater_unit x y g k = elim (decide (lt x y)) [
  | inl t ↦ let h = ltb-true (unit x) (unit y) (sym (lt_units x y g k) ∙ t) in rw t (k, omega arith)
  | inr t ↦ let h = ltb-false (unit x) (unit y) (sym (lt_units x y g k) ∙ t) in rw t (g, omega arith)
]

pub lesser-unit : (x y : Float) → T (on_grid x) → T (on_grid y) → T (on_grid (lesser_of x y)) × (unit (lesser_of x y) ≡ min (unit x) (unit y))
unfolding lesser_of
lesser-unit x y g k = elim (decide (lt y x)) [
  | inl t ↦ let h = ltb-true (unit y) (unit x) (sym (lt_units y x k g) ∙ t) in rw t (k, omega arith)
  | inr t ↦ let h = ltb-false (unit y) (unit x) (sym (lt_units y x k g) ∙ t) in rw t (g, omega arith)
]

module _ (c : ℕ) (l : List Segment) (f : FitList l) where
  abbrev counts : Segment × Segment → Bool
  counts p = close_other c (wire_of p.0) (wire_of p.1)

  abbrev units : Segment × Segment → ℕ
  units p = overlap (wire_of p.0) (wire_of p.1)

  one-overlap : (p : Segment × Segment) → Mem p (pairs l) → counts p ≡ true → span (greater_of p.0.start p.1.start) (lesser_of p.0.end p.1.end) ≡ of_units (units p)
  one-overlap p m t =
      let q = mem_pairs p l m in
      let x = f.each p.0 q.0 in
      let y = f.each p.1 q.1 in
      let a = greater_unit p.0.start p.1.start x.start y.start in
      let b = lesser-unit p.0.end p.1.end x.end y.end in
      let s = wire_of p.0 in
      let w = wire_of p.1 in
      let h : max s.start w.start < min s.end w.end = ltb-true (max s.start w.start) (min s.end w.end) (and_right (near c s w) (overlaps s w) (and_left (close c s w) (other s w) t)) in
      span_units (greater_of p.0.start p.1.start) (lesser_of p.0.end p.1.end) a.0 b.0 (rw (a.1, b.1) (le_of_lt h))
      ∙ ap₂ (λ (m n : ℕ). of_units (m - n)) b.1 a.1

  pub overlap-any_order : (r : List Float) → Perm (chosen counts (λ p. span (greater_of p.0.start p.1.start) (lesser_of p.0.end p.1.end)) (pairs l)) r → running_sum plus_zero r ≡ of_units (pair_overlap c (map wire_of l))
  overlap-any_order r p =
      let e : sum (λ n. n) (chosen counts units (pairs l)) ≡ pair_overlap c (map wire_of l) =
      fold-chosen plus (λ n. n) counts units (pairs l)
      ∙ sym (overlap-sum c (map wire_of l) ∙ ap (sum (λ p. cond (close_other c p.0 p.1) (overlap p.0 p.1) 0)) (pairs-map wire_of l) ∙ fold-map plus (λ p. cond (close_other c p.0 p.1) (overlap p.0 p.1) 0) (both wire_of) (pairs l)) in
      let b = overlap-small c (map wire_of l) (sound_wires l f) (small-wires l f) in
      any_order (chosen counts units (pairs l)) (omega arith) r (via (perm-eq (sym (chosen_under counts units of_units (λ p. span (greater_of p.0.start p.1.start) (lesser_of p.0.end p.1.end)) (pairs l) one-overlap))) p)
      ∙ ap of_units e

  pub overlap-exact : running_sum plus_zero (chosen counts (λ p. span (greater_of p.0.start p.1.start) (lesser_of p.0.end p.1.end)) (pairs l)) ≡ of_units (pair_overlap c (map wire_of l))
  overlap-exact = overlap-any_order (chosen counts (λ p. span (greater_of p.0.start p.1.start) (lesser_of p.0.end p.1.end)) (pairs l)) (perm_refl _)
