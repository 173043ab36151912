-- The marked cases of separation (SCOPE 13), by computing the definitions. Assumes nothing.
use Rattle.std.specs.Prelude.{Option, Some, None, Err}
use mathlib.Core.Path.{◌≡◌, refl}
use mathlib.Core.List.{[], ◌∷◌}
use Prim.Native.Nat.{ℕ}
use lib.Count.{count_trailing_zeros}
use mathlib.Core.Bool.{false}
use lib.Ieee.{Float, inf, binary64, of_bits, of_fields, to_bits, round, units, odd, size, span, climb, neg, sum, add, sub, lt, eq}
use Rattle.laws.specs.Lists.{some_of, chosen, pairs}
use Rattle.laws.specs.Rows.{row_le}
use Rattle.laws.specs.Sort.{insert_by, sort_by}
use Rattle.laws.specs.Different.{distinct}
use Rattle.laws.specs.Least.{lesser, least}
use Rattle.laws.specs.Charged.{runs, settle}
use Rattle.floats.specs.Values.{plus_zero, canonical_zero, lesser_of, greater_of, abs_of, gap_of}
use Rattle.floats.specs.TotalOrder.{key, key_of, pattern_at, float_at}
use Rattle.drawing.specs.declared.refusal.Refusal.TheVariants.{WorkLimitExceeded}
use Rattle.drawing.specs.Entries.{SegmentColumns, segment_columns, segments_of, segments}
use Rattle.drawing.specs.Orders.{segment_row, segments_in_order}
use Rattle.drawing.specs.Gaps.{least_gap, lesser_gap}
use Rattle.drawing.specs.Refusals.{number_of, first_of}
use Rattle.drawing.specs.Conditions.{differ, too_many, short_scratch, unfit_fields, unfit_segment}
use Rattle.drawing.specs.Checks.{segments_differ, segment_conditions}
use Rattle.rows.specs.Rows.{fixed_of, start_of, end_of, row_of, words, oriented, moment, events_from, events}
use Rattle.separation.specs.Conditions.{separation_conditions}
use Rattle.separation.specs.Figures.{overlapping, is_counted, gap_between, gaps, nonzero, least_of, figures}
use Rattle.separation.specs.Lines.{lines, index, levels}
use Rattle.separation.specs.Searches.{other_in, rightmost, leftmost, set_run}
use Rattle.separation.specs.Walk.{no_figures, lesser_figures, same, remove, with_nearest, starts_at, ends_at, step, sweep, along, walk_all, visit_count}
use Rattle.separation.specs.Answer.{accepted, all_pairs, separation_answer, result_of}

abbrev float : ℕ → Float
float b = of_bits binary64 b

-- two horizontal segments of the nets given, each by the bits of fixed, start and end
abbrev two : ℕ → ℕ → (ℕ × ℕ × ℕ) → (ℕ × ℕ × ℕ) → SegmentColumns
two m n a b = segment_columns (m ∷ n ∷ []) (1 ∷ 1 ∷ []) (float a.0 ∷ float b.0 ∷ []) (float a.1 ∷ float b.1 ∷ []) (float a.2 ∷ float b.2 ∷ [])

abbrev alone : SegmentColumns
alone = segment_columns (1 ∷ []) (1 ∷ []) (float 0 ∷ []) (float 0 ∷ []) (float 0x4024_0000_0000_0000 ∷ [])

-- SCOPE 11.5: "Drawing D: net 1 horizontal at 0 from 0 to 10; net 2 horizontal at 4 from 5 to 15"
abbrev D : SegmentColumns
D = two 1 2 (0, 0, 0x4024_0000_0000_0000) (0x4010_0000_0000_0000, 0x4014_0000_0000_0000, 0x402e_0000_0000_0000)

-- 0 to 5 at 0 and 5 to 9 at 4
abbrev touching : SegmentColumns
touching = two 1 2 (0, 0, 0x4014_0000_0000_0000) (0x4010_0000_0000_0000, 0x4014_0000_0000_0000, 0x4022_0000_0000_0000)

-- 0 to 10 and 5 to 9, both at 4
abbrev level : SegmentColumns
level = two 1 2 (0x4010_0000_0000_0000, 0, 0x4024_0000_0000_0000) (0x4010_0000_0000_0000, 0x4014_0000_0000_0000, 0x4022_0000_0000_0000)

-- the same at +0 and at -0: SCOPE 3.7: "Zeros become +0."
abbrev zeros : SegmentColumns
zeros = two 1 2 (0, 0, 0x4024_0000_0000_0000) (0x8000_0000_0000_0000, 0x4014_0000_0000_0000, 0x4022_0000_0000_0000)

-- 0 to 10 at 0 and 5 to 9 at 1, of one net
abbrev related : SegmentColumns
related = two 1 1 (0, 0, 0x4024_0000_0000_0000) (0x3ff0_0000_0000_0000, 0x4014_0000_0000_0000, 0x4022_0000_0000_0000)

-- the same at the largest float and at its negative, of two nets: SCOPE 3.8: "An overflowing gap is +infinity, a present value."
abbrev far : SegmentColumns
far = two 1 2 (0x7fef_ffff_ffff_ffff, 0, 0x4024_0000_0000_0000) (0xffef_ffff_ffff_ffff, 0x4014_0000_0000_0000, 0x4022_0000_0000_0000)

-- D's wires along an orientation, each by the bits of its ends as they are given (SCOPE 2.8)
abbrev drawn : ℕ → (ℕ × ℕ) → (ℕ × ℕ) → SegmentColumns
drawn o a b = segment_columns (1 ∷ 2 ∷ []) (o ∷ o ∷ []) (float 0 ∷ float 0x4010_0000_0000_0000 ∷ []) (float a.0 ∷ float b.0 ∷ []) (float a.1 ∷ float b.1 ∷ [])

abbrev four : Option Float
four = Some (float 0x4010_0000_0000_0000)

-- D's figures with 16 visits, and 7 with 15
abbrev AsD : SegmentColumns → Type 0
AsD s = (separation_answer s 16 128 ≡ accepted (record { least = four; least_nonzero = four }) 16) × (separation_answer s 15 128 ≡ Err WorkLimitExceeded)

-- columns, allowance and words of scratch
pub record Marked : Type 0 where
  -- SCOPE 13.a: "one segment, allowance 0: separation absent, 0 visits"
  pub a : separation_answer alone 0 96 ≡ accepted no_figures 0
  -- SCOPE 13.b: "D's separation accepted at 16, refused at 15"
  pub b-accepted : separation_answer D 16 128 ≡ accepted (record { least = four; least_nonzero = four }) 16
  pub b-refused : separation_answer D 15 128 ≡ Err WorkLimitExceeded
  -- SCOPE 11.5: D as the program `sheet` measures it
  pub d-sheet : separation_answer D 1000 7744 ≡ accepted (record { least = four; least_nonzero = four }) 16
  -- SCOPE 13.d: "0 to 5 and 5 to 9, nets 1 and 2: absent"
  pub d : separation_answer touching 1000 128 ≡ accepted no_figures 14
  -- SCOPE 13.e: "equal fixed, overlapping, two nets: least 0, nonzero absent"
  pub e : separation_answer level 1000 128 ≡ accepted (record { least = Some plus_zero; least_nonzero = None }) 10
  pub e-zeros : separation_answer zeros 1000 128 ≡ accepted (record { least = Some plus_zero; least_nonzero = None }) 10
  -- SCOPE 13.f: "one net, gap 1: absent"
  pub f : separation_answer related 1000 128 ≡ accepted no_figures 14
  pub overflow : separation_answer far 1000 128 ≡ accepted (record { least = Some (inf false); least_nonzero = Some (inf false) }) 16
  -- SCOPE 2.8: D with net 2 given from 15 to 5, with both wires so, and upright with both so
  pub net_2_reversed : AsD (drawn 1 (0, 0x4024_0000_0000_0000) (0x402e_0000_0000_0000, 0x4014_0000_0000_0000))
  pub reversed : AsD (drawn 1 (0x4024_0000_0000_0000, 0) (0x402e_0000_0000_0000, 0x4014_0000_0000_0000))
  pub upright_reversed : AsD (drawn 0 (0x4024_0000_0000_0000, 0) (0x402e_0000_0000_0000, 0x4014_0000_0000_0000))
  -- one wire given both ways, for two nets
  pub both_ways : separation_answer (two 1 2 (0, 0, 0x4024_0000_0000_0000) (0, 0x4024_0000_0000_0000, 0)) 1000 128 ≡ accepted (record { least = Some plus_zero; least_nonzero = None }) 10
  -- from 1/32 to 1/128: separation has no grid
  pub reversed_off_the_grid : separation_answer (segment_columns (1 ∷ []) (1 ∷ []) (float 0 ∷ []) (float 0x3fa0_0000_0000_0000 ∷ []) (float 0x3f80_0000_0000_0000 ∷ [])) 0 96 ≡ accepted no_figures 0
  -- SCOPE 6.3, 7.4: a refusal's number and values, one word of scratch too few
  pub short : result_of (separation_answer D 16 127) ≡ (4, record { minimum = None; minimum_positive = None; visits = 0 })

pub marked : Marked
unfolding of_bits of_fields to_bits round units odd size span climb neg sum add sub lt eq count_trailing_zeros some_of chosen pairs row_le insert_by sort_by lesser least runs settle canonical_zero lesser_of greater_of abs_of gap_of key key_of pattern_at float_at segments segments_of segment_row segments_in_order least_gap lesser_gap number_of first_of differ too_many short_scratch unfit_fields unfit_segment segments_differ segment_conditions separation_conditions fixed_of start_of end_of overlapping is_counted gap_between gaps nonzero least_of figures row_of words oriented distinct lines index levels moment events_from events other_in rightmost leftmost set_run lesser_figures same remove with_nearest starts_at ends_at step sweep along walk_all visit_count all_pairs separation_answer result_of
marked = record { a = refl; b-accepted = refl; b-refused = refl; d-sheet = refl; d = refl; e = refl; e-zeros = refl; f = refl; overflow = refl; net_2_reversed = (refl, refl); reversed = (refl, refl); upright_reversed = (refl, refl); both_ways = refl; reversed_off_the_grid = refl; short = refl }
