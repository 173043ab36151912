-- SCOPE 2.8, 9.6, request No. 1: "A segment with start above end is now taken as if its two ends had been given in rising order, by every measure and the tight pair, and no call, later ones included, gives 5 for that alone. Start equal to end still gives 5. A drawing that was accepted keeps its report".
-- `proofs/Directions.antt` proves `Directions`.
use Rattle.std.specs.Prelude.{◌≡◌, ◌↔◌, true, false, List, [], ◌∷◌, map, ◌≤◌, ltb, Float, Option, Some, Result}
use Rattle.std.specs.Float.Ieee.{lt, eq}
use Rattle.std.specs.Float.Ieee.Scale.{finite}
use Rattle.laws.specs.Lists.{Mem, All, some_of}
use Rattle.drawing.specs.declared.refusal.Refusal.{Refusal}
use Rattle.drawing.specs.Entries.{Segment, SegmentColumns, NodeColumns, ExemptionColumns, segment_columns, node_columns, as_lent, ends_in_order, as_taken, segments, columns_of}
use Rattle.drawing.specs.Conditions.{unfit_segment}
use Rattle.tight_pair.specs.declared.TightPair.{TightPair}
use Rattle.tight_pair.specs.TightPair.{Answered}
use Rattle.demands.specs.Measures.{Run, earlier, clearance, separation, density, Call, edge_node_clearance, parallel_separation, parallel_density_profile, parallel_congestion_profile, parallel_congestion, measure_of}
use Rattle.demands.specs.Applies.{place_in_list}
use Rattle.demands.specs.Demand1.{Returns}
use Rattle.demands.specs.Marked.{zero, one, two, three, four, five, six, ten, fifteen, twenty, pair, node_7, D_exemptions, result_on, clearance_is, separation_is, congestion_is}

-- ---- the columns with every segment as it is taken: the two ends of each in rising order; where one column of ends is longer than the other, what is past the other's end stays
unfoldable pub lesser_ends : List Float → List Float → List Float
lesser_ends [] es = []
lesser_ends (s ∷ ss) [] = s ∷ ss
lesser_ends (s ∷ ss) (e ∷ es) = (ends_in_order s e).start ∷ lesser_ends ss es

unfoldable pub greater_ends : List Float → List Float → List Float
greater_ends ss [] = []
greater_ends [] (e ∷ es) = e ∷ es
greater_ends (s ∷ ss) (e ∷ es) = (ends_in_order s e).end ∷ greater_ends ss es

abbrev pub columns_as_taken : SegmentColumns → SegmentColumns
columns_as_taken c = segment_columns c.net c.orientation c.fixed (lesser_ends c.start c.end) (greater_ends c.start c.end)

-- the columns of segments of a call's drawing
abbrev pub segments_lent : (call : Call) → (measure_of call).Drawing → SegmentColumns
segments_lent edge_node_clearance d = d.segments
segments_lent parallel_separation s = s
segments_lent parallel_density_profile s = s
segments_lent parallel_congestion_profile s = s
segments_lent parallel_congestion s = s

-- the same drawing with its segments turned
abbrev pub drawing_as_taken : (call : Call) → (measure_of call).Drawing → (measure_of call).Drawing
drawing_as_taken edge_node_clearance d = record { segments = columns_as_taken d.segments; nodes = d.nodes; exemptions = d.exemptions }
drawing_as_taken parallel_separation s = columns_as_taken s
drawing_as_taken parallel_density_profile s = columns_as_taken s
drawing_as_taken parallel_congestion_profile s = columns_as_taken s
drawing_as_taken parallel_congestion s = columns_as_taken s

-- two calls that differ in nothing but the directions of segments, of some or of all
pub record OnlyDirections (call : Call) (a b : Run (measure_of call)) : Type 0 where
  pub drawing : drawing_as_taken call b.drawing ≡ drawing_as_taken call a.drawing
  pub settings : b.settings ≡ a.settings
  pub allowance : b.allowance ≡ a.allowance
  pub before : b.before ≡ a.before

-- what they return, with number, report and visits, and the contents of their scratch
pub record SameAnswer (call : Call) (a b : Run (measure_of call)) : Type 0 where
  pub returned : b.returned ≡ a.returned
  pub after : b.after ≡ a.after

-- SCOPE 7.5, a segment that is fit but for what its ends are to each other
pub record FitOtherwise (s : Segment) : Type 0 where
  pub orientation : ltb 1 s.orientation ≡ false
  pub fixed : finite s.fixed ≡ true
  pub start : finite s.start ≡ true
  pub end : finite s.end ≡ true

-- ---- drawing D (SCOPE 11.5) in other directions: its figures and visits, and 7 with one visit less
pub record MeasuredAsD (s : SegmentColumns) (n : NodeColumns) : Type 0 where
  pub clearance-accepted : result_on clearance (record { segments = s; nodes = n; exemptions = D_exemptions }) two 2 160 ≡ clearance_is (Some one) 1 2
  pub clearance-refused : result_on clearance (record { segments = s; nodes = n; exemptions = D_exemptions }) two 1 160 ≡ clearance.refused 7
  pub separation-accepted : result_on separation s tt 16 128 ≡ separation_is (Some four) (Some four) 16
  pub separation-refused : result_on separation s tt 15 128 ≡ separation.refused 7
  pub congestion-accepted : result_on density s six 4 128 ≡ congestion_is twenty ten five 1 (Some four) 4
  pub congestion-refused : result_on density s six 3 128 ≡ density.refused 7

-- D upright, x and y exchanged
abbrev pub upright : SegmentColumns → SegmentColumns
upright c = segment_columns c.net (0 ∷ 0 ∷ []) c.fixed c.start c.end

abbrev pub upright-node_7 : NodeColumns
upright-node_7 = node_columns (7 ∷ []) (one ∷ []) (two ∷ []) (two ∷ []) (three ∷ [])

pub record Directions : Type 0 where
  -- "A segment with start above end is now taken as if its two ends had been given in rising order": exchanged, and every other segment as it is
  pub above : (s : Segment) → lt s.end s.start ≡ true → as_taken s ≡ record { net = s.net; orientation = s.orientation; fixed = s.fixed; start = s.end; end = s.start }
  pub not_above : (s : Segment) → lt s.end s.start ≡ false → as_taken s ≡ s
  -- so the columns as taken hold, as lent, what every call takes; turning them again changes nothing; and the columns of a list of records are turned record by record
  pub columns_hold : (c : SegmentColumns) → as_lent (columns_as_taken c) ≡ segments c
  pub columns_once : (c : SegmentColumns) → columns_as_taken (columns_as_taken c) ≡ columns_as_taken c
  pub columns_of_records : (l : List Segment) → columns_as_taken (columns_of l) ≡ columns_of (map as_taken l)
  -- "by every measure", by columns and by records: two calls that differ only in directions return the same and leave the same, refusals, visits and scratch included; one of the two drawings may be the other with its segments turned (`columns_once`). So "no call .. gives 5 for that alone".
  pub every_measure : (call : Call) (a b : Run (measure_of call)) → OnlyDirections call a b → SameAnswer call a b
  -- "and the tight pair": its contract allows the same answers
  pub tight-pair : (s t : SegmentColumns) (n : NodeColumns) (e : ExemptionColumns) (r : Result (Option TightPair) Refusal) → columns_as_taken t ≡ columns_as_taken s → Answered t n e r ↔ Answered s n e r
  -- "Start equal to end still gives 5": of a segment that is fit otherwise, exactly then, in either direction, and of a list of them. They are compared as numbers: -0 equals +0.
  pub five_where_equal : (s : Segment) → FitOtherwise s → unfit_segment (as_taken s) ≡ eq s.start s.end
  pub five-of-a_list : (c : SegmentColumns) → All FitOtherwise (as_lent c) → some_of unfit_segment (segments c) ≡ some_of (λ s. eq s.start s.end) (as_lent c)
  -- and of every call: where 2, 3 and 4 do not apply, a segment with equal ends is refused by 5, and the scratch stays as it was
  pub five-of-a_call : (call : Call) (r : Run (measure_of call)) (s : Segment) → Mem s (as_lent (segments_lent call r.drawing)) → eq s.start s.end ≡ true → All (λ c. place_in_list c.1 ≤ 4 → c.0 ≡ false) (earlier (measure_of call) r) → Returns (measure_of call) r ((measure_of call).refused 5) r.before
  -- "A drawing that was accepted keeps its report": a list whose segments all rise is taken as it is, and so is every list that passed check 5 as it was before, of the segments as lent. Conditions, figures, walks and counts are all of `segments c`.
  pub rising : (c : SegmentColumns) → All (λ s. lt s.start s.end ≡ true) (as_lent c) → segments c ≡ as_lent c
  pub accepted-before : (c : SegmentColumns) → some_of unfit_segment (as_lent c) ≡ false → segments c ≡ as_lent c
  -- D with net 2 given from 15 to 5, with both wires so, and upright with both so
  pub D_net_2_reversed : MeasuredAsD (pair 1 2 (zero, zero, ten) (four, fifteen, five)) (node_7 one)
  pub D_reversed : MeasuredAsD (pair 1 2 (zero, ten, zero) (four, fifteen, five)) (node_7 one)
  pub D_upright_reversed : MeasuredAsD (upright (pair 1 2 (zero, ten, zero) (four, fifteen, five))) upright-node_7
