-- Examples of the joined list and of what the call returns and leaves, by computing the definitions; any number of equal segments by `one_list`. Assumes nothing.
use mathlib.Core.Path.{◌≡◌, refl, ap, ◌∙◌}
use mathlib.Core.Logic.{inl, inr}
use mathlib.Core.List.{[], ◌∷◌}
use Prim.Native.Nat.{ℕ, zero, suc}
use lib.Ieee.{Float, binary64, of_bits, to_bits, lt, size}
use lib.ListN.{length, replicate}
use Rattle.laws.specs.Lists.{Mem, All, some_of}
use Rattle.laws.specs.Rows.{row_le}
use Rattle.laws.specs.Sort.{insert_by, sort_by}
use Rattle.floats.specs.TotalOrder.{key, key_of}
use Rattle.floats.specs.Values.{canonical_zero, lesser_of, greater_of}
use Rattle.drawing.specs.declared.refusal.Refusal.TheVariants.{ColumnsDiffer, InvalidInput, ShortOutput}
use Rattle.drawing.specs.Conditions.{differ, too_many, unfit_fields, unfit_segment, short_output}
use Rattle.drawing.specs.declared.lists.Segment.{Segment}
use Rattle.drawing.specs.Entries.{SegmentColumns, segment_columns, segments_of, segments, columns_of}
use Rattle.drawing.specs.Checks.{segments_differ, segment_list_conditions}
use Rattle.drawing.specs.Held.{FitSegment}
use Rattle.drawing.specs.Refusals.{first_of}
use Rattle.std.specs.Prelude.{Ok, Err}
use Rattle.joining.specs.Points.{SamePoints}
use Rattle.joining.specs.Joined.{canonical_zeros, piece_row, touches, extended, join_from, pieces, joined}
use Rattle.joining.specs.Conditions.{join_conditions}
use Rattle.joining.specs.Answer.{join_answer, written, output_after}
use Rattle.joining.proofs.Halves.{halves}
use Rattle.joining.proofs.JoinedLists.{one_list}

abbrev one : Float
one = of_bits binary64 0x3ff0_0000_0000_0000

abbrev two : Float
two = of_bits binary64 0x4000_0000_0000_0000

abbrev three : Float
three = of_bits binary64 0x4008_0000_0000_0000

abbrev four : Float
four = of_bits binary64 0x4010_0000_0000_0000

abbrev five : Float
five = of_bits binary64 0x4014_0000_0000_0000

abbrev entry : ℕ → ℕ → ℕ → ℕ → ℕ → Segment
entry n o f s e = record { net = n; orientation = o; fixed = of_bits binary64 f; start = of_bits binary64 s; end = of_bits binary64 e }

-- ---- lists
-- 0 to 5 and 5 to 9: one piece
pub touching_ends : joined (entry 1 1 0 0 0x4014_0000_0000_0000 ∷ entry 1 1 0 0x4014_0000_0000_0000 0x4022_0000_0000_0000 ∷ []) ≡ entry 1 1 0 0 0x4022_0000_0000_0000 ∷ []
unfolding joined pieces join_from touches extended canonical_zeros piece_row sort_by insert_by row_le key_of key to_bits size canonical_zero of_bits
touching_ends = refl

-- 0 to 1 and the next number after 1 to 2: two, though no number of binary64 lies between
pub neighbours : joined (entry 1 1 0 0x3ff0_0000_0000_0001 0x4000_0000_0000_0000 ∷ entry 1 1 0 0 0x3ff0_0000_0000_0000 ∷ []) ≡ entry 1 1 0 0 0x3ff0_0000_0000_0000 ∷ entry 1 1 0 0x3ff0_0000_0000_0001 0x4000_0000_0000_0000 ∷ []
unfolding joined pieces join_from touches extended canonical_zeros piece_row sort_by insert_by row_le key_of key to_bits size canonical_zero of_bits
neighbours = refl

-- with u the smallest positive number, 0 to u and 2 u to 3 u: two, though no multiple of u lies between
pub smallest : joined (entry 1 1 0 0 1 ∷ entry 1 1 0 2 3 ∷ []) ≡ entry 1 1 0 0 1 ∷ entry 1 1 0 2 3 ∷ []
unfolding joined pieces join_from touches extended canonical_zeros piece_row sort_by insert_by row_le key_of key to_bits size canonical_zero of_bits
smallest = refl

-- -1 to -0 and +0 to 1, on the lines -0 and +0: one, from -1 to 1 on +0
pub zeros : joined (entry 1 1 0x8000_0000_0000_0000 0xbff0_0000_0000_0000 0x8000_0000_0000_0000 ∷ entry 1 1 0 0 0x3ff0_0000_0000_0000 ∷ []) ≡ entry 1 1 0 0xbff0_0000_0000_0000 0x3ff0_0000_0000_0000 ∷ []
unfolding joined pieces join_from touches extended canonical_zeros piece_row sort_by insert_by row_le key_of key to_bits size canonical_zero of_bits
zeros = refl

-- 0 to 10, 2 to 3 and 9 to 12: one, from 0 to 12, since the greatest end counts
pub covered : joined (entry 1 1 0 0 0x4024_0000_0000_0000 ∷ entry 1 1 0 0x4000_0000_0000_0000 0x4008_0000_0000_0000 ∷ entry 1 1 0 0x4022_0000_0000_0000 0x4028_0000_0000_0000 ∷ []) ≡ entry 1 1 0 0 0x4028_0000_0000_0000 ∷ []
unfolding joined pieces join_from touches extended canonical_zeros piece_row sort_by insert_by row_le key_of key to_bits size canonical_zero of_bits
covered = refl

-- one extent, horizontal and vertical: two, the horizontal one first; net 0 before the greatest net
pub order : joined (entry 4294967295 1 0 0 0x3ff0_0000_0000_0000 ∷ entry 0 0 0 0 0x3ff0_0000_0000_0000 ∷ entry 0 1 0 0 0x3ff0_0000_0000_0000 ∷ []) ≡ entry 0 1 0 0 0x3ff0_0000_0000_0000 ∷ entry 0 0 0 0 0x3ff0_0000_0000_0000 ∷ entry 4294967295 1 0 0 0x3ff0_0000_0000_0000 ∷ []
unfolding joined pieces join_from touches extended canonical_zeros piece_row sort_by insert_by row_le key_of key to_bits size canonical_zero of_bits
order = refl

-- a line below 0 before one above it
pub lines-in_order : joined (entry 1 1 0x3ff0_0000_0000_0000 0 0x3ff0_0000_0000_0000 ∷ entry 1 1 0xbff0_0000_0000_0000 0 0x3ff0_0000_0000_0000 ∷ []) ≡ entry 1 1 0xbff0_0000_0000_0000 0 0x3ff0_0000_0000_0000 ∷ entry 1 1 0x3ff0_0000_0000_0000 0 0x3ff0_0000_0000_0000 ∷ []
unfolding joined pieces join_from touches extended canonical_zeros piece_row sort_by insert_by row_le key_of key to_bits size canonical_zero of_bits
lines-in_order = refl

-- the greatest finite numbers
pub greatest : joined (entry 1 0 0 0xffef_ffff_ffff_ffff 0 ∷ entry 1 0 0 0 0x7fef_ffff_ffff_ffff ∷ []) ≡ entry 1 0 0 0xffef_ffff_ffff_ffff 0x7fef_ffff_ffff_ffff ∷ []
unfolding joined pieces join_from touches extended canonical_zeros piece_row sort_by insert_by row_le key_of key to_bits size canonical_zero of_bits
greatest = refl

-- ---- any number of equal segments: one piece. 4,096 of them leave 1, and 4,095 went away
module _ (s : Segment) (f : FitSegment s) where
  all-equal : (n : ℕ) → All FitSegment (replicate n s)
  all-equal zero = tt
  all-equal (suc n) = (f, all-equal n)

  each_is : (n : ℕ) (x : Segment) → Mem x (replicate n s) → x ≡ s
  each_is zero x x3 = elim x3 [ ]
  each_is (suc n) x (inl e) = e
  each_is (suc n) x (inr m) = each_is n x m

  alone : joined (s ∷ []) ≡ canonical_zeros s ∷ []
  unfolding joined pieces join_from sort_by insert_by
  alone = refl

  pub equal_ones : (n : ℕ) → joined (replicate (suc n) s) ≡ canonical_zeros s ∷ []
  equal_ones n = one_list halves (replicate (suc n) s) (s ∷ []) (all-equal (suc n)) (f, tt) same ∙ alone
    where
      same : SamePoints halves (replicate (suc n) s) (s ∷ [])
      same t p = (λ c. record { by = c.by; there = inl (each_is (suc n) c.by c.there); on = c.on; from = c.from; to = c.to }, λ c. record { by = c.by; there = first c.there; on = c.on; from = c.from; to = c.to })
        where
          first : {x : Segment} → Mem x (s ∷ []) → Mem x (replicate (suc n) s)
          first (inl e) = inl e
          first (inr m) = absurd m

  pub many-equal : length (joined (replicate 4096 s)) ≡ 1
  many-equal = ap length (equal_ones 4095)

-- ---- calls: output columns of so many entries, which held something before
abbrev held : ℕ → ℕ → ℕ → ℕ → ℕ → SegmentColumns
held n o f s e = segment_columns (replicate n 7) (replicate o 9) (replicate f one) (replicate s two) (replicate e three)

abbrev nothing : SegmentColumns
nothing = segment_columns [] [] [] [] []

-- 9 down to 5, and 0 to 5: one, from 0 to 9, and 1 went away
pub reversed : join_answer (columns_of (entry 1 1 0 0x4022_0000_0000_0000 0x4014_0000_0000_0000 ∷ entry 1 1 0 0 0x4014_0000_0000_0000 ∷ [])) (held 1 1 1 1 1) ≡ Ok (record { pieces = 1; gone = 1 })
unfolding join_answer join_conditions segment_list_conditions segments_differ differ too_many short_output unfit_segment unfit_fields some_of first_of segments segments_of columns_of joined pieces join_from touches extended canonical_zeros piece_row sort_by insert_by row_le key_of key to_bits size canonical_zero lesser_of greater_of lt of_bits
reversed = refl

pub reversed_written : output_after (columns_of (entry 1 1 0 0x4022_0000_0000_0000 0x4014_0000_0000_0000 ∷ entry 1 1 0 0 0x4014_0000_0000_0000 ∷ [])) (held 1 1 1 1 1) ≡ columns_of (entry 1 1 0 0 0x4022_0000_0000_0000 ∷ [])
unfolding output_after written join_conditions segment_list_conditions segments_differ differ too_many short_output unfit_segment unfit_fields some_of first_of segments segments_of columns_of joined pieces join_from touches extended canonical_zeros piece_row sort_by insert_by row_le key_of key to_bits size canonical_zero lesser_of greater_of lt of_bits
reversed_written = refl

-- two pieces of two nets, at 4 from 0 to 5, and columns of 3, 2, 9, 9 and 9 entries: accepted, and what they held past the pieces stays
abbrev two-nets : SegmentColumns
two-nets = columns_of (entry 2 1 0x4010_0000_0000_0000 0 0x4014_0000_0000_0000 ∷ entry 1 0 0x4010_0000_0000_0000 0 0x4014_0000_0000_0000 ∷ [])

pub different-lengths : join_answer two-nets (held 3 2 9 9 9) ≡ Ok (record { pieces = 2; gone = 0 })
unfolding join_answer join_conditions segment_list_conditions segments_differ differ too_many short_output unfit_segment unfit_fields some_of first_of segments segments_of columns_of joined pieces join_from touches extended canonical_zeros piece_row sort_by insert_by row_le key_of key to_bits size canonical_zero lesser_of greater_of lt of_bits
different-lengths = refl

pub kept-past : output_after two-nets (held 3 2 9 9 9) ≡ segment_columns (1 ∷ 2 ∷ 7 ∷ []) (0 ∷ 1 ∷ []) (four ∷ four ∷ replicate 7 one) (of_bits binary64 0 ∷ of_bits binary64 0 ∷ replicate 7 two) (five ∷ five ∷ replicate 7 three)
unfolding output_after written join_conditions segment_list_conditions segments_differ differ too_many short_output unfit_segment unfit_fields some_of first_of segments segments_of columns_of joined pieces join_from touches extended canonical_zeros piece_row sort_by insert_by row_le key_of key to_bits size canonical_zero lesser_of greater_of lt of_bits
kept-past = refl

-- three pieces, and the same columns: 8, and nothing is written
abbrev three-nets : SegmentColumns
three-nets = columns_of (entry 2 1 0 0 0x3ff0_0000_0000_0000 ∷ entry 1 0 0 0 0x3ff0_0000_0000_0000 ∷ entry 3 0 0 0 0x3ff0_0000_0000_0000 ∷ [])

pub short : join_answer three-nets (held 3 2 9 9 9) ≡ Err ShortOutput
unfolding join_answer join_conditions segment_list_conditions segments_differ differ too_many short_output unfit_segment unfit_fields some_of first_of segments segments_of columns_of joined pieces join_from touches extended canonical_zeros piece_row sort_by insert_by row_le key_of key to_bits size canonical_zero lesser_of greater_of lt of_bits
short = refl

pub nothing_written : output_after three-nets (held 3 2 9 9 9) ≡ held 3 2 9 9 9
unfolding output_after written join_conditions segment_list_conditions segments_differ differ too_many short_output unfit_segment unfit_fields some_of first_of segments segments_of columns_of joined pieces join_from touches extended canonical_zeros piece_row sort_by insert_by row_le key_of key to_bits size canonical_zero lesser_of greater_of lt of_bits
nothing_written = refl

-- a NaN and no room: 5; columns that differ and no room: 2
pub unfit-first : join_answer (columns_of (entry 1 1 0x7ff8_0000_0000_0000 0 0x3ff0_0000_0000_0000 ∷ [])) nothing ≡ Err InvalidInput
unfolding join_answer join_conditions segment_list_conditions segments_differ differ too_many short_output unfit_segment unfit_fields some_of first_of segments segments_of columns_of joined pieces join_from touches extended canonical_zeros piece_row sort_by insert_by row_le key_of key to_bits size canonical_zero lesser_of greater_of lt of_bits
unfit-first = refl

pub differ-first : join_answer (segment_columns (1 ∷ []) (1 ∷ []) (one ∷ []) (one ∷ []) []) nothing ≡ Err ColumnsDiffer
unfolding join_answer join_conditions segment_list_conditions segments_differ differ too_many short_output unfit_segment unfit_fields some_of first_of segments segments_of columns_of joined pieces join_from touches extended canonical_zeros piece_row sort_by insert_by row_le key_of key to_bits size canonical_zero lesser_of greater_of lt of_bits
differ-first = refl

-- no segments, and empty columns: accepted, with no piece and none gone
pub none : join_answer nothing nothing ≡ Ok (record { pieces = 0; gone = 0 })
unfolding join_answer join_conditions segment_list_conditions segments_differ differ too_many short_output unfit_segment unfit_fields some_of first_of segments segments_of columns_of joined pieces join_from touches extended canonical_zeros piece_row sort_by insert_by row_le key_of key to_bits size canonical_zero lesser_of greater_of lt of_bits
none = refl

-- a segment between the two zeros: 5
pub between-zeros : join_answer (columns_of (entry 1 1 0 0x8000_0000_0000_0000 0 ∷ [])) (held 1 1 1 1 1) ≡ Err InvalidInput
unfolding join_answer join_conditions segment_list_conditions segments_differ differ too_many short_output unfit_segment unfit_fields some_of first_of segments segments_of columns_of joined pieces join_from touches extended canonical_zeros piece_row sort_by insert_by row_le key_of key to_bits size canonical_zero lesser_of greater_of lt of_bits
between-zeros = refl
