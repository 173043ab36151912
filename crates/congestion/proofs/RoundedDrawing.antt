-- The Rust's float sums of a whole drawing are the floats of the figures over all pairs. Assumes nothing.
use Rattle.std.specs.Prelude.{Option, None}
use mathlib.Core.Path.{◌≡◌, refl, sym, ap, ap₂, ◌∙◌, subst}
use mathlib.Core.Logic.{inl, inr}
use mathlib.Core.List.{List, [], ◌∷◌, map}
use mathlib.Core.Bool.{Bool, true, false, beq}
use Prim.Native.Nat.{ℕ, suc, ◌+◌, ◌^◌, ◌<◌}
use native.Mathlib.Omega.{arith}
use native.Mathlib.Nat.{le_trans, le_of_eq}
use lib.Dec.{T, ltb}
use lib.Ieee.{Float, binary64, add}
use lib.ListN.{length, length-map, get_or}
use borrow.Author.Tests.{ltb-true}
use Rattle.laws.specs.Lists.{Mem}
use Rattle.laws.specs.Least.{lesser}
use Rattle.laws.proofs.Tests.{decide, cond_true, cond_false}
use Rattle.laws.proofs.ListLaws.{mem_chosen}
use Rattle.laws.proofs.Folds.{idr, count-at_most, count-chosen}
use Rattle.floats.specs.Values.{plus_zero, canonical_zero}
use Rattle.floats.specs.Grid.{on_grid, unit, of_units}
use Rattle.floats.proofs.Zeros.{canonical_again}
use Rattle.floats.proofs.Units.{add_units, canonical_unit, canonical_grid}
use Rattle.drawing.specs.Entries.{Segment}
use Rattle.drawing.specs.Gaps.{lesser_gap}
use Rattle.congestion.specs.Wires.{Wire, wire_of, cutoff_of}
use Rattle.congestion.specs.Figures.{close_other, congested, pair_overlap}
use Rattle.congestion.specs.AllPairs.{lengths, all_pairs}
use Rattle.congestion.specs.Walk.{Item, numbered, only, gap_of_units}
use Rattle.congestion.specs.Inner.Keys.{Representable}
use Rattle.congestion.specs.Rounded.{rounded_total, rounded_overlap}
use Rattle.congestion.specs.RoundedSweep.{coordinates_of, rounded_oriented, only_of, Sums, rounded_join, rounded_sweep}
use Rattle.congestion.proofs.FoldLaws.{fewest, chosen-map, chosen_under}
use Rattle.congestion.proofs.Fitness.{Stands, FitList, sound_wires}
use Rattle.congestion.proofs.Oriented.{least_units}
use Rattle.congestion.proofs.Orientations.{of-only, alike, congested-two, overlap-two, least-two}
use Rattle.congestion.proofs.SweepFigures.{no_congested, no_overlap, no_least, alone}
use Rattle.congestion.proofs.Bounds.{congested-small, overlap-small}
use Rattle.congestion.proofs.RoundedSums.{zero_units, small-wires, low-wires, total-exact}
use Rattle.congestion.proofs.Closeness.{overlap-floats}
use Rattle.congestion.proofs.LeastGap.{held-lesser, held-least, lesser-gap, least-gap}
use Rattle.congestion.proofs.RoundedSweep.{ItemStands, amounts_exact}

-- ---- the floats at an item's index are those of the item's segment
record Behind (n : ℕ) (l : List Segment) (i : Item) : Type 0 where
  place : ℕ
  segment : Segment
  index_is : i.index ≡ n + place
  listed : Mem segment l
  wire-is : i.wire ≡ wire_of segment
  read : (f : Segment → Float) → get_or (map f l) place plus_zero ≡ f segment

behind : (n : ℕ) (l : List Segment) (i : Item) → Mem i (numbered n (map wire_of l)) → Behind n l i
behind n [] i m = elim m [ ]
behind n (s ∷ l) i (inl e) = let h : i.index ≡ n = ap (λ (z : Item). z.index) e in record { place = 0; segment = s; index_is = omega arith; listed = inl refl; wire-is = ap (λ (z : Item). z.wire) e; read = λ f. refl }
behind n (s ∷ l) i (inr m) = let b = behind (suc n) l i m in record { place = suc b.place; segment = b.segment; index_is = let e = b.index_is in omega arith; listed = inr b.listed; wire-is = b.wire-is; read = b.read }

stands : (l : List Segment) → FitList l → (i : Item) → Mem i (numbered 0 (map wire_of l)) → ItemStands (coordinates_of l) i
stands l f i m = record {
  fixed = one (λ s. s.fixed) (λ w. w.fixed) (λ s. refl) (f.each b.segment b.listed).fixed;
  start = one (λ s. s.start) (λ w. w.start) (λ s. refl) (f.each b.segment b.listed).start;
  end = one (λ s. s.end) (λ w. w.end) (λ s. refl) (f.each b.segment b.listed).end;
}
  where
    b : Behind 0 l i
    b = behind 0 l i m

    here : i.index ≡ b.place
    here = let e = b.index_is in omega arith

    one : (g : Segment → Float) (h : Wire → ℕ) → ((s : Segment) → unit (g s) ≡ h (wire_of s)) → T (on_grid (g b.segment)) → Stands (canonical_zero (get_or (map g l) i.index plus_zero)) (h i.wire)
    one g h e t =
        let r : get_or (map g l) i.index plus_zero ≡ g b.segment = ap (λ (k : ℕ). get_or (map g l) k plus_zero) here ∙ b.read g in
        subst (λ (y : Float). Stands (canonical_zero y) (h i.wire)) (sym r) (record {
          grid = subst T (sym (canonical_grid (g b.segment))) t;
          plain = canonical_again (g b.segment);
          is = canonical_unit (g b.segment) ∙ e b.segment ∙ ap h (sym b.wire-is);
        })

-- ---- the segments of one orientation
only-wires : (h : Bool) (l : List Segment) → map wire_of (only_of h l) ≡ only h (map wire_of l)
only-wires h l = sym (chosen_under (λ s. beq h (wire_of s).horizontal) (λ s. s) wire_of wire_of l (λ s m t. refl)) ∙ sym (chosen-map (λ w. beq h w.horizontal) (λ w. w) wire_of l)

only-fit : (h : Bool) (l : List Segment) → FitList l → FitList (only_of h l)
only-fit h l f = record {
  few = le_trans (le_of_eq (sym (count-chosen (λ s. beq h (wire_of s).horizontal) (λ s. s) l))) (le_trans (count-at_most (λ s. beq h (wire_of s).horizontal) l) f.few);
  each = λ s m. let r = mem_chosen (λ (t : Segment). beq h (wire_of t).horizontal) (λ t. t) s l m in f.each s (subst (λ (t : Segment). Mem t l) (sym r.3) r.1);
}

only-alike : (h : Bool) (l : List Segment) (s t : Wire) → Mem s (map wire_of (only_of h l)) → Mem t (map wire_of (only_of h l)) → beq s.horizontal t.horizontal ≡ true
only-alike h l s t m n = alike h s.horizontal t.horizontal (so s m) (so t n)
  where
    so : (w : Wire) → Mem w (map wire_of (only_of h l)) → beq h w.horizontal ≡ true
    so w k = (of-only h w (map wire_of l) (subst (Mem w) (only-wires h l) k)).1

-- ---- one orientation joins the sums
abbrev sums : ℕ → ℕ → Option ℕ → Sums
sums a b g = (of_units a, of_units b, gap_of_units g)

join_exact : (c : ℕ) (l : List Segment) → FitList l → ((s t : Wire) → Mem s (map wire_of l) → Mem t (map wire_of l) → beq s.horizontal t.horizontal ≡ true) → (a b : ℕ) (g : Option ℕ) → a < 2 ^ 53 → b < 2 ^ 53 → Representable g
    → rounded_join c (sums a b g) l ≡ sums (a + congested c (map wire_of l)) (b + pair_overlap c (map wire_of l)) (lesser ltb g (least_units c (map wire_of l)))
unfolding rounded_join rounded_oriented
join_exact c l f like a b g ha hb hg = elim (decide (ltb (length l) 2)) [
  | inl t ↦ cond_true (ltb (length l) 2) _ _ t ∙ nothing (alone c w (subst (λ (n : ℕ). n < 2) (sym (length-map l wire_of)) (ltb-true (length l) 2 t)))
  | inr t ↦ cond_false (ltb (length l) 2) _ _ t ∙ added
]
  where
    w : List Wire
    w = map wire_of l

    nothing : ((s t : Wire) → Mem s w → Mem t w → close_other c s t ≡ false) → sums a b g ≡ sums (a + congested c w) (b + pair_overlap c w) (lesser ltb g (least_units c w))
    nothing q =
        let x : a ≡ a + congested c w = let e = no_congested c w q in omega arith in
        let y : b ≡ b + pair_overlap c w = let e = no_overlap c w q in omega arith in
        let z : g ≡ lesser ltb g (least_units c w) = sym (ap (lesser ltb g) (no_least c w q) ∙ idr fewest g) in
        λ i. sums (x i) (y i) (z i)

    added : ◌≡◌ {A = Sums} (add binary64 (of_units a) (rounded_oriented c l).congested_length, add binary64 (of_units b) (rounded_oriented c l).pair_overlap_length, lesser_gap (gap_of_units g) (rounded_oriented c l).minimum_positive) (sums (a + congested c w) (b + pair_overlap c w) (lesser ltb g (least_units c w)))
    added =
        let v = sound_wires l f in
        let m = small-wires l f in
        let e = amounts_exact c w v m like (coordinates_of l) (stands l f) in
        let x = ap (add binary64 (of_units a)) e.0 ∙ add_units a (congested c w) ha (congested-small c w v m) in
        let y = ap (add binary64 (of_units b)) e.1 ∙ add_units b (pair_overlap c w) hb (overlap-small c w v m) in
        let z = ap (lesser_gap (gap_of_units g)) e.2 ∙ lesser-gap g (least_units c w) hg (held-least c w (low-wires l f)) in
        λ i. (x i, y i, z i)

-- ---- and so the drawing's
pub sweep_sums_exact : (c : ℕ) (l : List Segment) → FitList l → rounded_sweep c l ≡ (of_units (congested c (map wire_of l)), of_units (pair_overlap c (map wire_of l)), gap_of_units (least_units c (map wire_of l)))
unfolding rounded_sweep
sweep_sums_exact c l f =
    let flat = map wire_of (only_of true l) in
    let upright = map wire_of (only_of false l) in
    let fh = only-fit true l f in
    let fv = only-fit false l f in
    let v = sound_wires (only_of true l) fh in
    let m = small-wires (only_of true l) fh in
    let x : 0 + congested c flat + congested c upright ≡ congested c (map wire_of l) = ap₂ (λ (p q : List Wire). 0 + congested c p + congested c q) (only-wires true l) (only-wires false l) ∙ last (congested c (only true (map wire_of l))) (congested c (only false (map wire_of l))) ∙ sym (congested-two c (map wire_of l)) in
    let y : 0 + pair_overlap c flat + pair_overlap c upright ≡ pair_overlap c (map wire_of l) = ap₂ (λ (p q : List Wire). 0 + pair_overlap c p + pair_overlap c q) (only-wires true l) (only-wires false l) ∙ last (pair_overlap c (only true (map wire_of l))) (pair_overlap c (only false (map wire_of l))) ∙ sym (overlap-two c (map wire_of l)) in
    let z : lesser ltb (lesser ltb None (least_units c flat)) (least_units c upright) ≡ least_units c (map wire_of l) = ap₂ (λ (p q : List Wire). lesser ltb (lesser ltb None (least_units c p)) (least_units c q)) (only-wires true l) (only-wires false l) ∙ ap (λ (o : Option ℕ). lesser ltb o (least_units c (only false (map wire_of l)))) (fewest.idl (least_units c (only true (map wire_of l)))) ∙ sym (least-two c (map wire_of l)) in
    ap (λ (s : Sums). rounded_join c (rounded_join c s (only_of true l)) (only_of false l)) (λ i. (sym zero_units i, sym zero_units i, gap_of_units None))
    ∙ ap (λ (s : Sums). rounded_join c s (only_of false l)) (join_exact c (only_of true l) fh (only-alike true l) 0 0 None (omega arith) (omega arith) tt)
    ∙ join_exact c (only_of false l) fv (only-alike false l) (0 + congested c flat) (0 + pair_overlap c flat) (lesser ltb None (least_units c flat)) (let h = congested-small c flat v m in omega arith) (let h = overlap-small c flat v m in omega arith) (held-lesser None (least_units c flat) tt (held-least c flat (low-wires (only_of true l) fh)))
    ∙ (λ i. sums (x i) (y i) (z i))
  where
    last : (a b : ℕ) → 0 + a + b ≡ a + b
    last a b = omega arith

-- ---- the report of a fit drawing, from the rounded sums: those of the sweep, and those over all segments and all pairs
pub record Exact (cutoff : Float) (l : List Segment) : Type 0 where
  pub total : rounded_total l ≡ (all_pairs cutoff l).value.0.total_length
  pub congested : (rounded_sweep (cutoff_of cutoff) l).0 ≡ (all_pairs cutoff l).value.0.congested_length
  pub overlap : (rounded_sweep (cutoff_of cutoff) l).1 ≡ (all_pairs cutoff l).value.0.pair_overlap_length
  pub overlap-pairs : T (on_grid cutoff) → rounded_overlap cutoff l ≡ (all_pairs cutoff l).value.0.pair_overlap_length
  pub least : (rounded_sweep (cutoff_of cutoff) l).2 ≡ (all_pairs cutoff l).value.1

pub report_exact : (cutoff : Float) (l : List Segment) → FitList l → Exact cutoff l
unfolding all_pairs lengths
report_exact cutoff l f =
    let c = cutoff_of cutoff in
    let s = sweep_sums_exact c l f in
    record {
      total = total-exact l f;
      congested = ap (λ (z : Sums). z.0) s;
      overlap = ap (λ (z : Sums). z.1) s;
      overlap-pairs = λ g. overlap-floats cutoff l f g;
      least = ap (λ (z : Sums). z.2) s ∙ sym (least-gap c l (λ t m. (f.each t m).fixed));
    }
