-- The wires of rows: a row of a segment on the grid gives the segment's wire, and the rows of both orientations give the wires of all segments, in another order. Assumes nothing.
use mathlib.Core.Path.{◌≡◌, refl, sym, ap, ◌∙◌, subst}
use mathlib.Core.Logic.{inl, inr}
use mathlib.Core.List.{List, [], ◌∷◌, ◌++◌, map, append-nil}
use mathlib.Core.Bool.{Bool, true, false, not, beq}
use Prim.Native.Nat.{ℕ, zero, suc, ◌≤◌}
use native.Mathlib.Omega.{arith}
use borrow.Author.Tests.{eqb-true, eqb-false, eq-eqb, ne_eqb}
use lib.Dec.{eqb}
use Rattle.laws.specs.Lists.{All, put, chosen}
use Rattle.laws.specs.Perm.{Perm, none, first, via}
use Rattle.laws.proofs.Tests.{decide, clash}
use Rattle.laws.proofs.ListLaws.{chosen-append}
use Rattle.laws.proofs.Perms.{perm-map, perm_both, perm-front}
use Rattle.laws.proofs.Sorting.{sort_perm}
use Rattle.drawing.specs.Entries.{Segment}
use Rattle.drawing.specs.Held.{SegmentHeld}
use Rattle.rows.specs.Rows.{fixed_of, start_of, end_of, Row, row_of, rows_in_order, oriented}
use Rattle.rows.proofs.Oriented.{list_order_idle}
use Rattle.congestion.specs.Wires.{Wire, wire_of}
use Rattle.congestion.specs.Walk.{only}
use Rattle.congestion.proofs.KeyUnits.{key-unit}
use Rattle.density_call.specs.Inner.Measuring.{wire_of_row}

pub row-wire : (h : Bool) (s : Segment) → SegmentHeld s → eqb s.orientation 1 ≡ h → wire_of_row h (row_of s) ≡ wire_of s
unfolding row_of fixed_of start_of end_of
row-wire h s held e = λ i. record { net = s.net; horizontal = sym e i; fixed = key-unit s.fixed held.fixed i; start = key-unit s.start held.start i; end = key-unit s.end held.end i }

-- ---- the wires of one orientation
abbrev facing : ℕ → Segment → Bool
facing o s = eqb s.orientation o

wires-chosen : (h : Bool) (o : ℕ) → ((s : Segment) → facing o s ≡ true → eqb s.orientation 1 ≡ h) → (l : List Segment) → All SegmentHeld l → map (wire_of_row h) (chosen (facing o) row_of l) ≡ chosen (facing o) wire_of l
unfolding chosen
wires-chosen h o f [] held = refl
wires-chosen h o f (s ∷ l) held = go (facing o s) refl (wires-chosen h o f l held.1)
  where
    go : (b : Bool) → facing o s ≡ b → map (wire_of_row h) (chosen (facing o) row_of l) ≡ chosen (facing o) wire_of l → map (wire_of_row h) (put b (row_of s) (chosen (facing o) row_of l)) ≡ put b (wire_of s) (chosen (facing o) wire_of l)
    go true e g = λ i. row-wire h s held.0 (f s e) i ∷ g i
    go false e g = g

oriented-wires : (h : Bool) (o : ℕ) → ((s : Segment) → facing o s ≡ true → eqb s.orientation 1 ≡ h) → (l : List Segment) → All SegmentHeld l → Perm (map (wire_of_row h) (oriented o l)) (chosen (facing o) wire_of l)
oriented-wires h o f l held =
    subst (Perm (map (wire_of_row h) (oriented o l))) (wires-chosen h o f l held)
    (subst (λ (r : List Row). Perm (map (wire_of_row h) r) (map (wire_of_row h) (chosen (facing o) row_of l))) (sym (list_order_idle o l)) (perm-map (wire_of_row h) (sort_perm rows_in_order (chosen (facing o) row_of l))))

-- horizontal segments have the byte 1, all others 0
across : (s : Segment) → facing 1 s ≡ true → eqb s.orientation 1 ≡ true
across s e = e

down : (s : Segment) → facing 0 s ≡ true → eqb s.orientation 1 ≡ false
down s e = let k = eqb-true s.orientation 0 e in ne_eqb s.orientation 1 (λ q. omega arith)

one_of : (s : Segment) → s.orientation ≤ 1 → (facing 0 s ≡ not (facing 1 s))
one_of s h = elim (decide (facing 1 s)) [
  | inl e ↦ let k = eqb-true s.orientation 1 e in ne_eqb s.orientation 0 (λ q. omega arith) ∙ ap not (sym e)
  | inr e ↦ eq-eqb s.orientation 0 (zero_is s.orientation h (eqb-false s.orientation 1 e)) ∙ ap not (sym e)
]
  where
    zero_is : (n : ℕ) → n ≤ 1 → (n ≡ 1 → ⊥) → n ≡ 0
    zero_is zero h k = refl
    zero_is (suc zero) h k = absurd (k refl)
    zero_is (suc (suc n)) h k = absurd (omega arith)

one_side : (p q : Bool) → q ≡ not p → (w : Wire) (a b m : List Wire) → Perm (a ++ b) m → Perm (put p w a ++ put q w b) (w ∷ m)
one_side true false e w a b m k = first k
one_side false true e w a b m k = via (perm-front a w b) (first k)
one_side true true e w a b m k = absurd (clash true refl e)
one_side false false e w a b m k = absurd (clash false e refl)

split : (l : List Segment) → All (λ (s : Segment). s.orientation ≤ 1) l → Perm (chosen (facing 1) wire_of l ++ chosen (facing 0) wire_of l) (map wire_of l)
unfolding chosen
split [] h = none
split (s ∷ l) h = one_side (facing 1 s) (facing 0 s) (one_of s h.0) (wire_of s) (chosen (facing 1) wire_of l) (chosen (facing 0) wire_of l) (map wire_of l) (split l h.1)

-- ---- both orientations together
abbrev pub wires_in_rows : List Segment → List Wire
wires_in_rows l = map (wire_of_row true) (oriented 1 l) ++ map (wire_of_row false) (oriented 0 l)

pub wires-perm : (l : List Segment) → All SegmentHeld l → All (λ (s : Segment). s.orientation ≤ 1) l → Perm (wires_in_rows l) (map wire_of l)
wires-perm l held bytes = via (perm_both (oriented-wires true 1 across l held) (oriented-wires false 0 down l held)) (split l bytes)

alike-rows : (h : Bool) (l : List Row) → only h (map (wire_of_row h) l) ≡ map (wire_of_row h) l
unfolding chosen
alike-rows true [] = refl
alike-rows false [] = refl
alike-rows true (r ∷ l) = ap (λ (t : List Wire). wire_of_row true r ∷ t) (alike-rows true l)
alike-rows false (r ∷ l) = ap (λ (t : List Wire). wire_of_row false r ∷ t) (alike-rows false l)

other-rows : (h : Bool) (l : List Row) → only h (map (wire_of_row (not h)) l) ≡ []
unfolding chosen
other-rows true [] = refl
other-rows false [] = refl
other-rows true (r ∷ l) = other-rows true l
other-rows false (r ∷ l) = other-rows false l

pub only-across : (l : List Segment) → only true (wires_in_rows l) ≡ map (wire_of_row true) (oriented 1 l)
only-across l = chosen-append (λ (s : Wire). beq true s.horizontal) (λ x. x) (map (wire_of_row true) (oriented 1 l)) (map (wire_of_row false) (oriented 0 l)) ∙ (λ i. alike-rows true (oriented 1 l) i ++ other-rows true (oriented 0 l) i) ∙ append-nil (map (wire_of_row true) (oriented 1 l))

pub only-down : (l : List Segment) → only false (wires_in_rows l) ≡ map (wire_of_row false) (oriented 0 l)
only-down l = chosen-append (λ (s : Wire). beq false s.horizontal) (λ x. x) (map (wire_of_row true) (oriented 1 l)) (map (wire_of_row false) (oriented 0 l)) ∙ (λ i. other-rows false (oriented 1 l) i ++ alike-rows false (oriented 0 l) i)
