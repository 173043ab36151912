-- A segment may be given in either direction. Assumes nothing.
use Rattle.std.specs.Prelude.{Option, Some, Result}
use mathlib.Core.Path.{◌≡◌, refl, sym, ap, subst, ◌∙◌}
use mathlib.Core.Logic.{◌↔◌, inl, inr}
use mathlib.Core.Bool.{Bool, true, false, not, ◌||◌}
use mathlib.Core.List.{List, [], ◌∷◌, map}
use Prim.Native.Nat.{ℕ, suc, ◌≤◌}
use lib.Dec.{T, ltb}
use lib.Ieee.{Float, lt, eq, of_bits}
use lib.Ieee.Scale.{finite}
use lib.ListN.{length}
use Rattle.laws.specs.Lists.{Mem, All, some_of}
use Rattle.laws.proofs.Tests.{of_true, is_true, or_right}
use Rattle.laws.proofs.ListLaws.{all_map, none-all, mem_some, map_mem}
use Rattle.floats.specs.Values.{lesser_of, greater_of}
use Rattle.floats.proofs.Extremes.{picked}
use Rattle.floats.proofs.Trichotomy.{lt_asym, kept-lesser, kept_greater, rise_once, equal_not_rising, rise_unless_equal}
use Rattle.drawing.specs.declared.refusal.Refusal.{Refusal}
use Rattle.drawing.specs.declared.refusal.Refusal.TheVariants.{InvalidInput}
use Rattle.drawing.specs.Entries.{Segment, SegmentColumns, NodeColumns, ExemptionColumns, segment_columns, segments_of, as_lent, as_taken, segments, columns_of, nodes, exemptions}
use Rattle.drawing.specs.Refusals.{number_of, first_of, scratch_after}
use Rattle.drawing.specs.Conditions.{unfit_fields, unfit_segment}
use Rattle.drawing.specs.Checks.{segments_differ, segment_conditions, list_conditions, entry_conditions}
use Rattle.drawing.proofs.Directions.{taken_exchanged, taken_kept, taken_twice}
use Rattle.drawing.proofs.Fit.{line_of}
use Rattle.clearance.specs.Conditions.{clearance_conditions}
use Rattle.clearance.specs.Answer.{clearance_answer}
use Rattle.clearance.proofs.Examples as clearanceExamples
use Rattle.separation.proofs.Examples as separationExamples
use Rattle.separation.specs.Answer as ofSeparation
use Rattle.separation.specs.Conditions.{separation_conditions}
use Rattle.separation.specs.Answer.{separation_answer}
use Rattle.congestion.proofs.Examples as congestionExamples
use Rattle.congestion.specs.Answer as of_congestion
use Rattle.congestion.specs.Conditions.{congestion_conditions}
use Rattle.congestion.specs.Answer.{density_answer, profile_answer, congestion_answer}
use Rattle.tight_pair.specs.declared.TightPair.{TightPair}
use Rattle.tight_pair.specs.Conditions.{tight_pair_conditions}
use Rattle.tight_pair.specs.TightPair.{Tight, tight_pair_answer, Answered}
use Rattle.demands.specs.Measures.{Measure, Run, Lists, earlier, clearance, separation, density, Call, edge_node_clearance, parallel_separation, parallel_density_profile, parallel_congestion_profile, parallel_congestion, measure_of}
use Rattle.demands.specs.Applies.{place_in_list}
use Rattle.demands.specs.Demand1.{Returns}
use Rattle.demands.specs.Directions.{lesser_ends, greater_ends, columns_as_taken, segments_lent, OnlyDirections, SameAnswer, FitOtherwise, MeasuredAsD, Directions}
use Rattle.demands.specs.Marked.{one, two, four, five, six, ten, twenty, D_exemptions, result_on, clearance_is, separation_is, congestion_is}
use Rattle.demands.proofs.FirstMet.{first-five}
use Rattle.demands.proofs.CheckingOrder.{in_order}
use Rattle.demands.proofs.OneCall.{refusing}
use Rattle.demands.proofs.AllFacts.{all_facts}

-- ---- the columns as taken have the lengths of the columns as lent, and hold the segments as they are taken
lesser-length : (ss es : List Float) → length (lesser_ends ss es) ≡ length ss
unfolding lesser_ends
lesser-length [] es = refl
lesser-length (s ∷ ss) [] = refl
lesser-length (s ∷ ss) (e ∷ es) = ap suc (lesser-length ss es)

greater_length : (ss es : List Float) → length (greater_ends ss es) ≡ length es
unfolding greater_ends
greater_length ss [] = refl
greater_length [] (e ∷ es) = refl
greater_length (s ∷ ss) (e ∷ es) = ap suc (greater_length ss es)

entries_taken : (ns os : List ℕ) (fs ss es : List Float) → segments_of ns os fs (lesser_ends ss es) (greater_ends ss es) ≡ map as_taken (segments_of ns os fs ss es)
unfolding segments_of lesser_ends greater_ends
entries_taken [] os fs ss es = refl
entries_taken (n ∷ ns) [] fs ss es = refl
entries_taken (n ∷ ns) (o ∷ os) [] ss es = refl
entries_taken (n ∷ ns) (o ∷ os) (f ∷ fs) [] es = refl
entries_taken (n ∷ ns) (o ∷ os) (f ∷ fs) (s ∷ ss) [] = refl
entries_taken (n ∷ ns) (o ∷ os) (f ∷ fs) (s ∷ ss) (e ∷ es) = ap (λ (l : List Segment). as_taken (record { net = n; orientation = o; fixed = f; start = s; end = e }) ∷ l) (entries_taken ns os fs ss es)

columns_hold : (c : SegmentColumns) → as_lent (columns_as_taken c) ≡ segments c
unfolding segments
columns_hold c = entries_taken c.net c.orientation c.fixed c.start c.end

lesser_once : (ss es : List Float) → lesser_ends (lesser_ends ss es) (greater_ends ss es) ≡ lesser_ends ss es
unfolding lesser_ends greater_ends
lesser_once [] es = refl
lesser_once (s ∷ ss) [] = refl
lesser_once (s ∷ ss) (e ∷ es) = λ i. kept-lesser (lesser_of s e) (greater_of e s) (rise_once s e) i ∷ lesser_once ss es i

greater_once : (ss es : List Float) → greater_ends (lesser_ends ss es) (greater_ends ss es) ≡ greater_ends ss es
unfolding lesser_ends greater_ends
greater_once ss [] = refl
greater_once [] (e ∷ es) = refl
greater_once (s ∷ ss) (e ∷ es) = λ i. kept_greater (lesser_of s e) (greater_of e s) (rise_once s e) i ∷ greater_once ss es i

columns_once : (c : SegmentColumns) → columns_as_taken (columns_as_taken c) ≡ columns_as_taken c
columns_once c = λ i. segment_columns c.net c.orientation c.fixed (lesser_once c.start c.end i) (greater_once c.start c.end i)

-- ---- record by record
kept-fields : {A : Type 0} (field : Segment → A) → ((s : Segment) → field s ≡ field (as_taken s)) → (l : List Segment) → map field l ≡ map field (map as_taken l)
kept-fields field same [] = refl
kept-fields field same (s ∷ l) = λ i. same s i ∷ kept-fields field same l i

starts : (l : List Segment) → lesser_ends (map (λ (s : Segment). s.start) l) (map (λ (s : Segment). s.end) l) ≡ map (λ (s : Segment). s.start) (map as_taken l)
unfolding lesser_ends
starts [] = refl
starts (s ∷ l) = ap (λ (r : List Float). (as_taken s).start ∷ r) (starts l)

ends : (l : List Segment) → greater_ends (map (λ (s : Segment). s.start) l) (map (λ (s : Segment). s.end) l) ≡ map (λ (s : Segment). s.end) (map as_taken l)
unfolding greater_ends
ends [] = refl
ends (s ∷ l) = ap (λ (r : List Float). (as_taken s).end ∷ r) (ends l)

columns_of_records : (l : List Segment) → columns_as_taken (columns_of l) ≡ columns_of (map as_taken l)
unfolding columns_of
columns_of_records l = λ i. segment_columns (kept-fields (λ s. s.net) (λ s. refl) l i) (kept-fields (λ s. s.orientation) (λ s. refl) l i) (kept-fields (λ s. s.fixed) (λ s. refl) l i) (starts l i) (ends l i)

-- ---- what a call sees of its segments: the list as it is taken, and whether the columns differ in length
pub record SeenAlike (s t : SegmentColumns) : Type 0 where
  pub count : length t.net ≡ length s.net
  pub differ : segments_differ t ≡ segments_differ s
  pub taken : segments t ≡ segments s

map_once : (l : List Segment) → map as_taken (map as_taken l) ≡ map as_taken l
map_once [] = refl
map_once (s ∷ l) = λ i. taken_twice s i ∷ map_once l i

differ_taken : (c : SegmentColumns) → segments_differ (columns_as_taken c) ≡ segments_differ c
unfolding segments_differ
differ_taken c = rw (lesser-length c.start c.end, greater_length c.start c.end)

taken_taken : (c : SegmentColumns) → segments (columns_as_taken c) ≡ segments c
unfolding segments
taken_taken c = ap (map as_taken) (entries_taken c.net c.orientation c.fixed c.start c.end) ∙ map_once (as_lent c)

pub seen_alike : (s t : SegmentColumns) → columns_as_taken t ≡ columns_as_taken s → SeenAlike s t
seen_alike s t e = record {
  count = ap (λ (c : SegmentColumns). length c.net) e;
  differ = sym (differ_taken t) ∙ ap segments_differ e ∙ differ_taken s;
  taken = sym (taken_taken t) ∙ ap segments e ∙ taken_taken s;
}

module _ (s t : SegmentColumns) (a : SeenAlike s t) where
  one_list : (words : ℕ) → segment_conditions t words ≡ segment_conditions s words
  unfolding segment_conditions
  one_list words = rw (a.differ, a.count, a.taken)

  with_cutoff : (cutoff : Float) (words : ℕ) → congestion_conditions t cutoff words ≡ congestion_conditions s cutoff words
  unfolding congestion_conditions
  with_cutoff cutoff words = rw (one_list words, a.taken)

  three-lists : (n : NodeColumns) (e : ExemptionColumns) → list_conditions t n e ≡ list_conditions s n e
  unfolding list_conditions
  three-lists n e = rw (a.differ, a.count)

  entries : (n : NodeColumns) → entry_conditions t n ≡ entry_conditions s n
  unfolding entry_conditions
  entries n = rw a.taken

  with_threshold : (n : NodeColumns) (e : ExemptionColumns) (threshold : Float) (words : ℕ) → clearance_conditions t n e threshold words ≡ clearance_conditions s n e threshold words
  unfolding clearance_conditions
  with_threshold n e threshold words = rw (three-lists n e, entries n, a.count)

  pair-conditions : (n : NodeColumns) (e : ExemptionColumns) → tight_pair_conditions t n e ≡ tight_pair_conditions s n e
  unfolding tight_pair_conditions
  pair-conditions n e = rw (three-lists n e, entries n)

  -- ---- the answers
  by-clearance : (n : NodeColumns) (e : ExemptionColumns) (threshold : Float) (m words : ℕ) → clearance_answer t n e threshold m words ≡ clearance_answer s n e threshold m words
  unfolding clearance_answer
  by-clearance n e threshold m words = rw (with_threshold n e threshold words, a.taken)

  by-separation : (m words : ℕ) → separation_answer t m words ≡ separation_answer s m words
  unfolding separation_answer separation_conditions
  by-separation m words = rw (one_list words, a.taken)

  by-density : (cutoff : Float) (m words : ℕ) → density_answer t cutoff m words ≡ density_answer s cutoff m words
  unfolding density_answer
  by-density cutoff m words = rw (with_cutoff cutoff words, a.taken)

  by-profile : (cutoff : Float) (m words : ℕ) → profile_answer t cutoff m words ≡ profile_answer s cutoff m words
  unfolding profile_answer
  by-profile cutoff m words = rw (with_cutoff cutoff words, a.taken)

  by-congestion : (cutoff : Float) (words : ℕ) → congestion_answer t cutoff words ≡ congestion_answer s cutoff words
  unfolding congestion_answer
  by-congestion cutoff words = rw (with_cutoff cutoff words, a.taken)

  by-tight-pair : (n : NodeColumns) (e : ExemptionColumns) (choice : TightPair) → tight_pair_answer t n e choice ≡ tight_pair_answer s n e choice
  unfolding tight_pair_answer
  by-tight-pair n e choice = rw (pair-conditions n e, a.taken)

-- ---- two runs that differ only in directions
module _ (call : Call) where
  abbrev m : Measure
  m = measure_of call

  run_alike : (a b : Run m) → OnlyDirections call a b
      → ((settings : m.Settings) (allowance : m.Allowance) (words : ℕ) → m.answer b.drawing settings allowance words ≡ m.answer a.drawing settings allowance words)
      → ((settings : m.Settings) (words : ℕ) → m.conditions b.drawing settings words ≡ m.conditions a.drawing settings words)
      → SameAnswer call a b
  run_alike a b o answers conditions = record {
    returned = b.says.answers ∙ (λ i. m.answer b.drawing (o.settings i) (o.allowance i) (length (o.before i))) ∙ answers a.settings a.allowance (length a.before) ∙ sym a.says.answers;
    after = b.says.leaves ∙ (λ i. scratch_after (first_of (m.conditions b.drawing (o.settings i) (length (o.before i)))) (o.before i)) ∙ ap (λ l. scratch_after (first_of l) a.before) (conditions a.settings (length a.before)) ∙ sym a.says.leaves;
  }

every_measure : (call : Call) (a b : Run (measure_of call)) → OnlyDirections call a b → SameAnswer call a b
unfolding separation_conditions
every_measure edge_node_clearance a b o =
    let d = a.drawing in
    let e = b.drawing in
    let same = seen_alike d.segments e.segments (ap (λ (l : Lists). l.segments) o.drawing) in
    let nodes-same = ap (λ (l : Lists). l.nodes) o.drawing in
    let exemptions-same = ap (λ (l : Lists). l.exemptions) o.drawing in
    run_alike edge_node_clearance a b o
    (λ threshold allowance words. (λ i. clearance_answer e.segments (nodes-same i) (exemptions-same i) threshold allowance words) ∙ by-clearance d.segments e.segments same d.nodes d.exemptions threshold allowance words)
    (λ threshold words. (λ i. clearance_conditions e.segments (nodes-same i) (exemptions-same i) threshold words) ∙ with_threshold d.segments e.segments same d.nodes d.exemptions threshold words)
every_measure parallel_separation a b o = let same = seen_alike a.drawing b.drawing o.drawing in run_alike parallel_separation a b o (λ none allowance words. by-separation a.drawing b.drawing same allowance words) (λ none words. one_list a.drawing b.drawing same words)
every_measure parallel_density_profile a b o = let same = seen_alike a.drawing b.drawing o.drawing in run_alike parallel_density_profile a b o (λ cutoff allowance words. by-density a.drawing b.drawing same cutoff allowance words) (λ cutoff words. with_cutoff a.drawing b.drawing same cutoff words)
every_measure parallel_congestion_profile a b o = let same = seen_alike a.drawing b.drawing o.drawing in run_alike parallel_congestion_profile a b o (λ cutoff allowance words. by-profile a.drawing b.drawing same cutoff allowance words) (λ cutoff words. with_cutoff a.drawing b.drawing same cutoff words)
every_measure parallel_congestion a b o = let same = seen_alike a.drawing b.drawing o.drawing in run_alike parallel_congestion a b o (λ cutoff always words. by-congestion a.drawing b.drawing same cutoff words) (λ cutoff words. with_cutoff a.drawing b.drawing same cutoff words)

-- ---- the tight pair
answered-alike : (s t : SegmentColumns) → SeenAlike s t → (n : NodeColumns) (e : ExemptionColumns) (r : Result (Option TightPair) Refusal) → Answered t n e r → Answered s n e r
answered-alike s t a n e r p = record {
  choice = p.choice;
  is = p.is ∙ by-tight-pair s t a n e p.choice;
  tight = λ pair h. subst (λ (l : List Segment). Tight (exemptions e) l (nodes n) pair.segment pair.node) a.taken (p.tight pair h);
}

tight-pair : (s t : SegmentColumns) (n : NodeColumns) (e : ExemptionColumns) (r : Result (Option TightPair) Refusal) → columns_as_taken t ≡ columns_as_taken s → Answered t n e r ↔ Answered s n e r
tight-pair s t n e r h = (answered-alike s t (seen_alike s t h) n e r, answered-alike t s (seen_alike t s (sym h)) n e r)

-- ---- refusal 5
ends_finite : (s : Segment) → T (finite s.start) → T (finite s.end) → (finite (as_taken s).start ≡ true) × (finite (as_taken s).end ≡ true)
unfolding lesser_of greater_of
ends_finite s p q = (
  is_true _ (picked (λ z. T (finite z)) (lt s.end s.start) s.start s.end p q),
  is_true _ (picked (λ z. T (finite z)) (lt s.end s.start) s.end s.start q p),
)

five_where_equal : (s : Segment) → FitOtherwise s → unfit_segment (as_taken s) ≡ eq s.start s.end
unfolding unfit_segment unfit_fields
five_where_equal s f =
    let p = of_true (finite s.start) f.start in
    let q = of_true (finite s.end) f.end in
    rw (f.orientation, f.fixed, (ends_finite s p q).0, (ends_finite s p q).1) (rise_unless_equal s.start s.end p q)

five-of-all : (l : List Segment) → All FitOtherwise l → some_of unfit_segment (map as_taken l) ≡ some_of (λ s. eq s.start s.end) l
unfolding some_of
five-of-all [] h = refl
five-of-all (s ∷ l) h = λ i. five_where_equal s h.0 i || five-of-all l h.1 i

five-of-a_list : (c : SegmentColumns) → All FitOtherwise (as_lent c) → some_of unfit_segment (segments c) ≡ some_of (λ s. eq s.start s.end) (as_lent c)
unfolding segments
five-of-a_list c h = five-of-all (as_lent c) h

equal-unfit : (s : Segment) → eq s.start s.end ≡ true → unfit_segment (as_taken s) ≡ true
unfolding unfit_segment unfit_fields
equal-unfit s e =
    let t = as_taken s in
    or_right (ltb 1 t.orientation || not (finite t.fixed) || not (finite t.start) || not (finite t.end)) (not (lt t.start t.end)) (ap not (equal_not_rising s.start s.end e))

unfit-among : (c : SegmentColumns) (s : Segment) → Mem s (as_lent c) → eq s.start s.end ≡ true → some_of unfit_segment (segments c) ≡ true
unfolding segments
unfit-among c s m e = mem_some unfit_segment (as_taken s) (map as_taken (as_lent c)) (map_mem as_taken (as_lent c) s m) (equal-unfit s e)

-- the condition among those of each call
in_conditions : (call : Call) (d : (measure_of call).Drawing) (settings : (measure_of call).Settings) (words : ℕ) → Mem (some_of unfit_segment (segments (segments_lent call d)), InvalidInput) ((measure_of call).conditions d settings words)
unfolding clearance_conditions list_conditions entry_conditions separation_conditions congestion_conditions segment_conditions
in_conditions edge_node_clearance d threshold words = inr (inr (inr (inr (inr (inr (inr (inl refl)))))))
in_conditions parallel_separation s none words = inr (inr (inr (inl refl)))
in_conditions parallel_density_profile s cutoff words = inr (inr (inr (inl refl)))
in_conditions parallel_congestion_profile s cutoff words = inr (inr (inr (inl refl)))
in_conditions parallel_congestion s cutoff words = inr (inr (inr (inl refl)))

five-of-a_call : (call : Call) (r : Run (measure_of call)) (s : Segment) → Mem s (as_lent (segments_lent call r.drawing)) → eq s.start s.end ≡ true → All (λ c. place_in_list c.1 ≤ 4 → c.0 ≡ false) (earlier (measure_of call) r) → Returns (measure_of call) r ((measure_of call).refused 5) r.before
unfolding number_of
five-of-a_call call r s m e h =
    let l = earlier (measure_of call) r in
    let there = subst (λ (b : Bool). Mem (b, InvalidInput) l) (unfit-among (segments_lent call r.drawing) s m e) (in_conditions call r.drawing r.settings (length r.before)) in
    (refusing (measure_of call) (all_facts call)).unfit r InvalidInput (first-five 0 l (in_order call r.drawing r.settings (length r.before)) h there)

-- ---- lists that rise
all-kept : (l : List Segment) → All (λ s. lt s.start s.end ≡ true) l → map as_taken l ≡ l
all-kept [] h = refl
all-kept (s ∷ l) h = λ i. taken_kept s (lt_asym s.start s.end h.0) i ∷ all-kept l h.1 i

rising : (c : SegmentColumns) → All (λ s. lt s.start s.end ≡ true) (as_lent c) → segments c ≡ as_lent c
unfolding segments
rising c h = all-kept (as_lent c) h

accepted-before : (c : SegmentColumns) → some_of unfit_segment (as_lent c) ≡ false → segments c ≡ as_lent c
accepted-before c h = rising c (all_map (λ s p. is_true (lt s.start s.end) (line_of s p).rising) (as_lent c) (none-all unfit_segment (as_lent c) h))

-- ---- drawing D in other directions, from the measures' computed examples
both : {A B : Type 0} (f : A → B) {x y v w : A} → (x ≡ v) × (y ≡ w) → (f x ≡ f v) × (f y ≡ f w)
both f p = (ap f p.0, ap f p.1)

module _ (s : SegmentColumns) (n : NodeColumns)
    (c : (result_on clearance (record { segments = s; nodes = n; exemptions = D_exemptions }) two 2 160 ≡ clearance_is (Some one) 1 2) × (result_on clearance (record { segments = s; nodes = n; exemptions = D_exemptions }) two 1 160 ≡ clearance.refused 7))
    (p : (result_on separation s tt 16 128 ≡ separation_is (Some four) (Some four) 16) × (result_on separation s tt 15 128 ≡ separation.refused 7))
    (g : (result_on density s six 4 128 ≡ congestion_is twenty ten five 1 (Some four) 4) × (result_on density s six 3 128 ≡ density.refused 7)) where
  as_D : MeasuredAsD s n
  as_D = record { clearance-accepted = c.0; clearance-refused = c.1; separation-accepted = p.0; separation-refused = p.1; congestion-accepted = g.0; congestion-refused = g.1 }

pub directions : Directions
unfolding ofSeparation.result_of of_congestion.result_of number_of of_bits
directions = record {
  above = taken_exchanged;
  not_above = taken_kept;
  columns_hold = columns_hold;
  columns_once = columns_once;
  columns_of_records = columns_of_records;
  every_measure = every_measure;
  tight-pair = tight-pair;
  five_where_equal = five_where_equal;
  five-of-a_list = five-of-a_list;
  five-of-a_call = five-of-a_call;
  rising = rising;
  accepted-before = accepted-before;
  D_net_2_reversed = as_D _ _ (clearanceExamples.marked).net_2_reversed (both ofSeparation.result_of (separationExamples.marked).net_2_reversed) (both of_congestion.result_of (congestionExamples.marked).net_2_reversed);
  D_reversed = as_D _ _ (clearanceExamples.marked).reversed (both ofSeparation.result_of (separationExamples.marked).reversed) (both of_congestion.result_of (congestionExamples.marked).reversed);
  D_upright_reversed = as_D _ _ (clearanceExamples.marked).upright_reversed (both ofSeparation.result_of (separationExamples.marked).upright_reversed) (both of_congestion.result_of (congestionExamples.marked).upright_reversed);
}
