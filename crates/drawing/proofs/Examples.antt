-- Examples of the refusals, by computing the definitions. Assumes nothing.
use Rattle.std.specs.Prelude.{Ok, Err}
use mathlib.Core.Path.{◌≡◌, refl}
use mathlib.Core.Bool.{true, false}
use mathlib.Core.List.{[], ◌∷◌}
use Prim.Native.Nat.{ℕ}
use lib.Ieee.{Float, binary64, of_bits, lt}
use Rattle.laws.specs.Lists.{some_of}
use Rattle.floats.specs.Values.{lesser_of, greater_of}
use Rattle.floats.specs.Grid.{on_grid}
use Rattle.drawing.specs.declared.refusal.Refusal.TheVariants.{ShortScratch, InvalidInput}
use Rattle.drawing.specs.Entries.{SegmentColumns, segment_columns, segments_of, segments}
use Rattle.drawing.specs.Refusals.{first_of}
use Rattle.drawing.specs.Conditions.{differ, too_many, short_scratch, unfit_fields, unfit_segment, unfit_threshold, off_grid_fields}
use Rattle.drawing.specs.Checks.{segments_differ, segment_conditions}

abbrev float : ℕ → Float
float b = of_bits binary64 b

abbrev one-segment : ℕ → ℕ → ℕ → SegmentColumns
one-segment fixed start end = segment_columns (1 ∷ []) (1 ∷ []) (float fixed ∷ []) (float start ∷ []) (float end ∷ [])

-- of two faults the earlier refusal: the scratch is short, and the start is not below the end
pub two_faults : first_of (segment_conditions (one-segment 0 0 0) 95) ≡ Err ShortScratch
unfolding first_of segment_conditions segments_differ differ some_of too_many short_scratch segments segments_of lesser_of greater_of unfit_segment unfit_fields of_bits lt
two_faults = refl

-- with one word more the second refusal is returned
pub second_fault : first_of (segment_conditions (one-segment 0 0 0) 96) ≡ Err InvalidInput
unfolding first_of segment_conditions segments_differ differ some_of too_many short_scratch segments segments_of lesser_of greater_of unfit_segment unfit_fields of_bits lt
second_fault = refl

-- SCOPE 2.8, 7.5: a segment is fit in either direction, "Start equal to end still gives 5", and -0 equals +0 in either direction; a number that is not finite is refused wherever it is given
pub record EndsChecked : Type 0 where
  pub from_10_to_5 : first_of (segment_conditions (one-segment 0 0x4024_0000_0000_0000 0x4014_0000_0000_0000) 96) ≡ Ok tt
  pub from_5_to_10 : first_of (segment_conditions (one-segment 0 0x4014_0000_0000_0000 0x4024_0000_0000_0000) 96) ≡ Ok tt
  pub from_5_to_5 : first_of (segment_conditions (one-segment 0 0x4014_0000_0000_0000 0x4014_0000_0000_0000) 96) ≡ Err InvalidInput
  pub from_minus_zero_to_zero : first_of (segment_conditions (one-segment 0 0x8000_0000_0000_0000 0) 96) ≡ Err InvalidInput
  pub from-zero-to_minus_zero : first_of (segment_conditions (one-segment 0 0 0x8000_0000_0000_0000) 96) ≡ Err InvalidInput
  pub from-nan : first_of (segment_conditions (one-segment 0 0x7ff8_0000_0000_0000 0x4014_0000_0000_0000) 96) ≡ Err InvalidInput
  pub to-nan : first_of (segment_conditions (one-segment 0 0x4014_0000_0000_0000 0x7ff8_0000_0000_0000) 96) ≡ Err InvalidInput
  pub from_infinity_to_3 : first_of (segment_conditions (one-segment 0 0x7ff0_0000_0000_0000 0x4008_0000_0000_0000) 96) ≡ Err InvalidInput
  pub from_3_to_minus_infinity : first_of (segment_conditions (one-segment 0 0x4008_0000_0000_0000 0xfff0_0000_0000_0000) 96) ≡ Err InvalidInput
  pub reversed_of_orientation_2 : first_of (segment_conditions (segment_columns (1 ∷ []) (2 ∷ []) (float 0 ∷ []) (float 0x4024_0000_0000_0000 ∷ []) (float 0 ∷ [])) 96) ≡ Err InvalidInput

pub ends-checked : EndsChecked
unfolding first_of segment_conditions segments_differ differ some_of too_many short_scratch segments segments_of lesser_of greater_of unfit_segment unfit_fields of_bits lt
ends-checked = record { from_10_to_5 = refl; from_5_to_10 = refl; from_5_to_5 = refl; from_minus_zero_to_zero = refl; from-zero-to_minus_zero = refl; from-nan = refl; to-nan = refl; from_infinity_to_3 = refl; from_3_to_minus_infinity = refl; reversed_of_orientation_2 = refl }

-- SCOPE 7.5: "a threshold below 0 (-0 passes)"
pub minus_zero_threshold : unfit_threshold (float 0x8000_0000_0000_0000) ≡ false
unfolding unfit_threshold of_bits lt
minus_zero_threshold = refl

-- SCOPE 13.h: "threshold -1: 5"
pub negative_threshold : unfit_threshold (float 0xbff0_0000_0000_0000) ≡ true
unfolding unfit_threshold of_bits lt
negative_threshold = refl

-- SCOPE 13.k: "1/64 and 1,048,576 pass, 1/128 gives 6"
pub on_the_grid : off_grid_fields (float 0) (float 0x3f90_0000_0000_0000) (float 0x4130_0000_0000_0000) ≡ false
unfolding off_grid_fields on_grid of_bits
on_the_grid = refl

pub off_the_grid : off_grid_fields (float 0) (float 0x3f80_0000_0000_0000) (float 0x4130_0000_0000_0000) ≡ true
unfolding off_grid_fields on_grid of_bits
off_the_grid = refl
