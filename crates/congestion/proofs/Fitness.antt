-- What the checks of congestion leave: few segments on the grid, each with its start below its end. Assumes nothing.
use Rattle.drawing.specs.declared.refusal.Refusal.{Refusal}
use Rattle.std.specs.Prelude.{Result, Ok, Err}
use mathlib.Core.Path.{◌≡◌, refl, sym, ◌∙◌, subst}
use mathlib.Core.List.{List, [], ◌∷◌, map}
use mathlib.Core.Bool.{false, not, ◌||◌}
use Prim.Native.Nat.{ℕ, ◌≤◌, ◌<◌}
use native.Mathlib.Nat.{le_trans, le_of_eq}
use lib.Dec.{T, ltb→lt}
use lib.Ieee.{Float}
use lib.ListN.{length, length-map}
use borrow.Author.Tests.{not-false}
use Rattle.laws.specs.Lists.{Mem, some_of}
use Rattle.laws.proofs.Tests.{of_true, neither_left, neither_right}
use Rattle.laws.proofs.ListLaws.{all_mem, none-all, mem_map}
use Rattle.floats.specs.Values.{plus_zero, canonical_zero}
use Rattle.floats.specs.Grid.{on_grid, steps, unit}
use Rattle.floats.proofs.Units.{lt_units}
use Rattle.drawing.specs.Entries.{Segment, SegmentColumns, segments}
use Rattle.drawing.specs.Refusals.{first_of}
use Rattle.drawing.specs.Conditions.{unfit_segment, unfit_cutoff, off_grid_fields, off_grid_segment, off_grid_cutoff}
use Rattle.drawing.specs.Checks.{segment_conditions}
use Rattle.drawing.specs.Inner.Lengths.{SegmentsAgree}
use Rattle.drawing.specs.declared.refusal.Refusal.TheVariants.{InvalidInput, OffGrid}
use Rattle.drawing.proofs.EntryLaws.{length-segments}
use Rattle.drawing.proofs.Fit.{line_of}
use Rattle.drawing.proofs.FirstRefusal.{then, first-append, passed_head, SegmentsPass, segments_pass}
use Rattle.congestion.specs.Conditions.{congestion_conditions}
use Rattle.congestion.specs.Wires.{Wire, wire_of}
use Rattle.congestion.proofs.Beginning.{Sound}

-- a float on the grid, not -0, whose 64ths `unit` counts as u
pub record Stands (x : Float) (u : ℕ) : Type 0 where
  pub grid : T (on_grid x)
  pub plain : canonical_zero x ≡ x
  pub is : unit x ≡ u

pub zero_stands : Stands plus_zero 67108864
unfolding on_grid unit steps canonical_zero
zero_stands = record { grid = tt; plain = refl; is = refl }

-- a segment on the grid whose start is below its end
pub record GridSegment (s : Segment) : Type 0 where
  pub byte : s.orientation ≤ 1
  pub fixed : T (on_grid s.fixed)
  pub start : T (on_grid s.start)
  pub end : T (on_grid s.end)
  pub rises : unit s.start < unit s.end

pub record FitList (l : List Segment) : Type 0 where
  pub few : length l ≤ 4096
  pub each : (s : Segment) → Mem s l → GridSegment s

pub sound_wires : (l : List Segment) → FitList l → Sound (map wire_of l)
sound_wires l f = record {
  few = le_trans (le_of_eq (length-map l wire_of)) f.few;
  ordered = λ w m. let r = mem_map wire_of l w m in subst (λ (v : Wire). v.start < v.end) (sym r.2) (f.each r.0 r.1).rises;
}

-- ---- a drawing that meets no refusal before 7
fit-segment : (s : Segment) → unfit_segment s ≡ false → off_grid_segment s ≡ false → GridSegment s
unfolding off_grid_segment off_grid_fields
fit-segment s e g =
    let p = not (on_grid s.fixed) in
    let q = not (on_grid s.start) in
    let g0 = neither_left (p || q) (not (on_grid s.end)) g in
    let b = of_true (on_grid s.start) (not-false (on_grid s.start) (neither_right p q g0)) in
    let d = of_true (on_grid s.end) (not-false (on_grid s.end) (neither_right (p || q) (not (on_grid s.end)) g)) in
    let l = line_of s e in
    record {
      byte = l.orientation;
      fixed = of_true (on_grid s.fixed) (not-false (on_grid s.fixed) (neither_left p q g0));
      start = b;
      end = d;
      rises = ltb→lt (unit s.start) (unit s.end) (subst T (lt_units s.start s.end b d) l.rising);
    }

both_passed : (a b : Result Unit Refusal) → then a b ≡ Ok tt → (a ≡ Ok tt) × (b ≡ Ok tt)
both_passed (Ok tt) b e = (refl, e)
both_passed (Err r) b e = (e, absurd (subst is-refused e tt))
  where
    is-refused : Result Unit Refusal → Type 0
    is-refused (Ok tt) = ⊥
    is-refused (Err r) = Unit {0}

module _ (s : SegmentColumns) (cutoff : Float) (words : ℕ) (passed : first_of (congestion_conditions s cutoff words) ≡ Ok tt) where
  -- the conditions of segments and scratch come first
  pub segments_passed : SegmentsPass s words
  unfolding congestion_conditions
  segments_passed = segments_pass s words (both_passed (first_of (segment_conditions s words)) _ (sym (first-append (segment_conditions s words) _) ∙ passed)).0

  -- then the cutoff, and the grid
  last-three : first_of ((unfit_cutoff cutoff, InvalidInput) ∷ (some_of off_grid_segment (segments s), OffGrid) ∷ (off_grid_cutoff cutoff, OffGrid) ∷ []) ≡ Ok tt
  unfolding congestion_conditions
  last-three = (both_passed (first_of (segment_conditions s words)) _ (sym (first-append (segment_conditions s words) _) ∙ passed)).1

  pub agree : SegmentsAgree s
  agree = segments_passed.agree

  pub fit_list : FitList (segments s)
  fit_list =
      let g = passed_head _ _ _ (passed_head _ _ _ last-three).1 in
      record {
        few = le_trans (le_of_eq (length-segments s agree)) segments_passed.few-segments;
        each = λ x m. fit-segment x (all_mem (λ z. unfit_segment z ≡ false) (segments s) (none-all unfit_segment (segments s) segments_passed.fit) x m) (all_mem (λ z. off_grid_segment z ≡ false) (segments s) (none-all off_grid_segment (segments s) g.0) x m);
      }

  pub fit-cutoff : T (on_grid cutoff)
  unfolding off_grid_cutoff
  fit-cutoff = of_true (on_grid cutoff) (not-false (on_grid cutoff) (passed_head _ _ _ (passed_head _ _ _ (passed_head _ _ _ last-three).1).1).0)
