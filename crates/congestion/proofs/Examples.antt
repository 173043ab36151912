-- The marked cases of congestion (SCOPE 13), and a few drawings more, by computing the definitions. Assumes nothing.
use Rattle.drawing.specs.declared.refusal.Refusal.{Refusal}
use Rattle.std.specs.Prelude.{Option, Some, None, Result, Ok, Err}
use mathlib.Core.Path.{◌≡◌, refl}
use mathlib.Core.List.{List, [], ◌∷◌}
use mathlib.Core.Bool.{true, false}
use Prim.Native.Nat.{ℕ}
use lib.Ieee.{Float, binary64, of_bits, to_bits, round, sub, div, lt}
use Rattle.laws.specs.Lists.{some_of, chosen, fold, pairs}
use Rattle.laws.specs.Rows.{row_le}
use Rattle.laws.specs.Sort.{insert_by, sort_by}
use Rattle.laws.specs.Least.{lesser, least}
use Rattle.laws.specs.Charged.{runs, settle}
use Rattle.floats.specs.TotalOrder.{key, key_of}
use Rattle.floats.specs.Values.{lesser_of, greater_of, gap_of, abs_of}
use Rattle.floats.specs.Grid.{on_grid, steps, unit, of_units}
use Rattle.drawing.specs.Entries.{SegmentColumns, segment_columns, segments_of, segments}
use Rattle.drawing.specs.Orders.{segment_row, segments_in_order}
use Rattle.drawing.specs.Refusals.{number_of, first_of}
use Rattle.drawing.specs.Conditions.{differ, too_many, short_scratch, unfit_fields, unfit_segment, unfit_cutoff, off_grid_fields, off_grid_segment, off_grid_cutoff}
use Rattle.drawing.specs.Checks.{segments_differ, segment_conditions}
use Rattle.drawing.specs.Gaps.{least_gap}
use Rattle.drawing.specs.declared.refusal.Refusal.TheVariants.{OffGrid, WorkLimitExceeded}
use Rattle.congestion.specs.Conditions.{congestion_conditions}
use Rattle.congestion.specs.Wires.{Wire, cutoff_of}
use Rattle.congestion.specs.Cells.{cells_from}
use Rattle.congestion.specs.Figures.{total, stretches, congested, close_other_pairs, pair_overlap, peak}
use Rattle.congestion.specs.Rounded.{close_floats}
use Rattle.congestion.specs.Visits.{visit_count}
use Rattle.congestion.specs.declared.report.CongestionReport.{CongestionReport}
use Rattle.congestion.specs.AllPairs.{lengths, least_nonzero, all_pairs}
use Rattle.congestion.specs.Walk.{in_order, sweep, along, sweep_wires, walk_all}
use Rattle.congestion.specs.Answer.{settled, density_answer, profile_answer, congestion_answer, zeros, result_of}
use Rattle.congestion.specs.Ratio.{ratio}
use Rattle.congestion.proofs.UnitVisits.{close_pairs, visits}
use Rattle.congestion.proofs.SweepFigures.{gathered, found}

abbrev float : ℕ → Float
float b = of_bits binary64 b

-- the bits of 0, 4, 5, 6, 10 and 15
abbrev f0 : Float
f0 = float 0

abbrev f4 : Float
f4 = float 0x4010_0000_0000_0000

abbrev f5 : Float
f5 = float 0x4014_0000_0000_0000

abbrev f6 : Float
f6 = float 0x4018_0000_0000_0000

abbrev f10 : Float
f10 = float 0x4024_0000_0000_0000

abbrev f15 : Float
f15 = float 0x402e_0000_0000_0000

abbrev f20 : Float
f20 = float 0x4034_0000_0000_0000

-- an accepted call's answer
abbrev report : Float → Float → Float → ℕ → Option Float → ℕ → Result CongestionReport Refusal
report t c o p g n = Ok (record { congestion = record { total_length = t; congested_length = c; pair_overlap_length = o; peak_close_neighbors = p }; minimum_positive = g; visits = n })

-- SCOPE 11.5: "net 1 horizontal at 0 from 0 to 10; net 2 horizontal at 4 from 5 to 15"
abbrev D : SegmentColumns
D = segment_columns (1 ∷ 2 ∷ []) (1 ∷ 1 ∷ []) (f0 ∷ f4 ∷ []) (f0 ∷ f5 ∷ []) (f10 ∷ f15 ∷ [])

-- its wires along an orientation, each by its ends as they are given (SCOPE 2.8)
abbrev drawn : ℕ → (Float × Float) → (Float × Float) → SegmentColumns
drawn o a b = segment_columns (1 ∷ 2 ∷ []) (o ∷ o ∷ []) (f0 ∷ f4 ∷ []) (a.0 ∷ b.0 ∷ []) (a.1 ∷ b.1 ∷ [])

-- D's figures with 4 visits, and 7 with 3
abbrev AsD : SegmentColumns → Type 0
AsD s = (density_answer s f6 4 128 ≡ report f20 f10 f5 1 (Some f4) 4) × (density_answer s f6 3 128 ≡ Err WorkLimitExceeded)

-- SCOPE 13.k: a segment at 1,048,576 up to 1/32
abbrev one-segment : Float → SegmentColumns
one-segment start = segment_columns (1 ∷ []) (1 ∷ []) (float 0x4130_0000_0000_0000 ∷ []) (start ∷ []) (float 0x3fa0_0000_0000_0000 ∷ [])

abbrev f64th : Float
f64th = float 0x3f90_0000_0000_0000

-- ---- drawings in 64ths
abbrev flat : ℕ → ℕ → ℕ → ℕ → Wire
flat n f a b = record { net = n; horizontal = true; fixed = f; start = a; end = b }

-- two wires on either side of a third, not close to each other: only the count of the wire that started first rises to 2, at the start of another
abbrev fork : List Wire
fork = flat 1 64 0 640 ∷ flat 2 0 64 320 ∷ flat 3 128 192 512 ∷ []

-- two nets on one line and a third beside them, where one ends as another starts: the gap 0 is ignored, and the lone vertical wire costs nothing
abbrev stack : List Wire
stack = flat 1 0 0 256 ∷ flat 2 0 64 192 ∷ flat 3 64 128 384 ∷ flat 1 64 256 320 ∷ record { net = 9; horizontal = false; fixed = 0; start = 0; end = 64 } ∷ []

-- columns, cutoff, allowance and words of scratch
pub record Marked : Type 0 where
  -- SCOPE 11.5: "congestion 4034000000000000 4024000000000000 4014000000000000 1 4010000000000000 4", and SCOPE 13.c: "D's congestion at 4 and 3"
  pub D_at_4 : density_answer D f6 4 128 ≡ report f20 f10 f5 1 (Some f4) 4
  pub D_at_3 : density_answer D f6 3 128 ≡ Err WorkLimitExceeded
  -- SCOPE 11.5: D as the program `sheet` measures it
  pub D_sheet : density_answer D f6 1000 7744 ≡ report f20 f10 f5 1 (Some f4) 4
  -- SCOPE 6.3: as a result: "A refusal returns its number and a report of zeros and absent gaps"
  pub D_spent : result_of (density_answer D f6 3 128) ≡ (7, zeros)
  pub D_profile : profile_answer D f6 4 128 ≡ report f20 f10 f0 0 (Some f4) 4
  pub D_congestion : congestion_answer D f6 128 ≡ report f20 f10 f5 1 (Some f4) 4
  -- the sweep of D, its visits counted event by event
  pub D_sweep : walk_all f6 (segments D) ≡ all_pairs f6 (segments D)
  -- half of D's wire is congested
  pub D_ratio : ratio f20 f10 ≡ float 0x3fe0_0000_0000_0000
  -- SCOPE 13.j: "gap 4, cutoff 4, two overlapping segments: congested 0, 2 visits"
  pub gap_equals_cutoff : density_answer D f4 2 128 ≡ report f20 f0 f0 0 None 2
  -- SCOPE 13.k: "1/64 and 1,048,576 pass, 1/128 gives 6"
  pub on_the_grid : density_answer (one-segment f64th) f64th 0 96 ≡ report f64th f0 f0 0 None 0
  pub off_the_grid : density_answer (one-segment (float 0x3f80_0000_0000_0000)) f64th 0 96 ≡ Err OffGrid
  -- SCOPE 2.8: D with net 2 given from 15 to 5, with both wires so, and upright with both so
  pub net_2_reversed : AsD (drawn 1 (f0, f10) (f15, f5))
  pub reversed : AsD (drawn 1 (f10, f0) (f15, f5))
  pub upright_reversed : AsD (drawn 0 (f10, f0) (f15, f5))
  -- from 1/32 to 1/128
  pub reversed_off_the_grid : density_answer (segment_columns (1 ∷ []) (1 ∷ []) (f0 ∷ []) (float 0x3fa0_0000_0000_0000 ∷ []) (float 0x3f80_0000_0000_0000 ∷ [])) f64th 0 96 ≡ Err OffGrid
  -- SCOPE 13.l: "fixed -1 and -0, cutoff 1: not close"
  pub minus_zero : density_answer (segment_columns (1 ∷ 2 ∷ []) (1 ∷ 1 ∷ []) (float 0xbff0_0000_0000_0000 ∷ float 0x8000_0000_0000_0000 ∷ []) (f0 ∷ f0 ∷ []) (f10 ∷ f10 ∷ [])) (float 0x3ff0_0000_0000_0000) 2 128 ≡ report f20 f0 f0 0 None 2
  -- SCOPE 3.16, 4.5: "Cutoff 0 or less gives total length, zeros and an absent gap", and no visit: at 0, -0 and -4
  pub cutoff-zero : density_answer D f0 0 128 ≡ report f20 f0 f0 0 None 0
  pub cutoff_minus_zero : density_answer D (float 0x8000_0000_0000_0000) 0 128 ≡ report f20 f0 f0 0 None 0
  pub cutoff-below-zero : density_answer D (float 0xc010_0000_0000_0000) 0 128 ≡ report f20 f0 f0 0 None 0
  -- SCOPE 9.3: "Congestion of an empty list has total +0"
  pub empty_list : density_answer (segment_columns [] [] [] [] []) f6 0 64 ≡ report f0 f0 f0 0 None 0
  -- drawings in 64ths, by the definition and by the sweep
  pub fork_figures : found 96 fork ≡ gathered 1216 1024 576 2 (Some 64) 7
  pub fork_sweep : sweep_wires 96 fork ≡ gathered 1216 1024 576 2 (Some 64) 7
  pub stack_figures : found 128 stack ≡ gathered 768 576 384 2 (Some 64) 12
  pub stack_sweep : sweep_wires 128 stack ≡ gathered 768 576 384 2 (Some 64) 12
  -- one net: its close pairs cost visits, and none of it is congested
  pub one-net : found 384 (flat 1 0 0 320 ∷ flat 1 64 0 320 ∷ []) ≡ gathered 640 0 0 0 None 4

pub marked : Marked
unfolding of_bits to_bits round sub div lt some_of chosen fold pairs row_le insert_by sort_by lesser least runs settle key key_of lesser_of greater_of gap_of abs_of on_grid steps unit of_units segments segments_of segment_row segments_in_order number_of first_of differ too_many short_scratch unfit_fields unfit_segment unfit_cutoff off_grid_fields off_grid_segment off_grid_cutoff segments_differ congestion_conditions least_gap cutoff_of cells_from total stretches congested close_other_pairs pair_overlap peak lengths least_nonzero close_floats visit_count all_pairs in_order sweep along sweep_wires walk_all settled density_answer profile_answer congestion_answer result_of ratio close_pairs visits segment_conditions
marked = record { D_at_4 = refl; D_at_3 = refl; D_sheet = refl; D_spent = refl; D_profile = refl; D_congestion = refl; D_sweep = refl; D_ratio = refl; gap_equals_cutoff = refl; on_the_grid = refl; off_the_grid = refl; net_2_reversed = (refl, refl); reversed = (refl, refl); upright_reversed = (refl, refl); reversed_off_the_grid = refl; minus_zero = refl; cutoff-zero = refl; cutoff_minus_zero = refl; cutoff-below-zero = refl; empty_list = refl; fork_figures = refl; fork_sweep = refl; stack_figures = refl; stack_sweep = refl; one-net = refl }
