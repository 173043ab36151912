-- The joiner's call. Assumes nothing.
use Rattle.std.specs.Prelude.{Result, Ok, Err}
use mathlib.Core.Path.{◌≡◌, refl, sym, ap, ◌∙◌}
use mathlib.Core.Logic.{◌⊎◌, inl, inr}
use mathlib.Core.Bool.{Bool, false}
use mathlib.Core.List.{List, [], ◌∷◌, map, ◌++◌}
use Prim.Native.Nat.{ℕ, ◌-◌, ◌≤◌}
use native.Mathlib.Omega.{arith}
use lib.ListN.{length, take, drop, length-map}
use lib.Seq.{take-append_seam}
use borrow.Author.Tests.{le-ltb}
use lib.Dec.{ltb}
use Rattle.laws.specs.Lists.{All, some_of}
use Rattle.laws.specs.Perm.{Perm}
use Rattle.laws.proofs.ListLaws.{all_none}
use Rattle.laws.proofs.Perms.{perm-length}
use Rattle.drawing.specs.declared.refusal.Refusal.{Refusal}
use Rattle.drawing.specs.declared.refusal.Refusal.TheVariants.{ShortOutput}
use Rattle.drawing.specs.Conditions.{too_many, unfit_segment, short_output}
use Rattle.drawing.specs.Checks.{segments_differ, segment_list_conditions}
use Rattle.drawing.specs.Entries.{Segment, SegmentColumns, segment_columns, as_lent, as_taken, segments, columns_of}
use Rattle.drawing.specs.Held.{FitSegment}
use Rattle.drawing.specs.Outputs.{written_over}
use Rattle.drawing.specs.Refusals.{first_of, checked}
use Rattle.drawing.proofs.AnyOrder.{lent_taken}
use Rattle.drawing.proofs.ColumnLaws.{columns_entries, columns_same, columns_count}
use Rattle.drawing.proofs.EntryLaws.{length-segments}
use Rattle.drawing.proofs.FirstRefusal.{first_go_on, segment_list_passes}
use Rattle.drawing.proofs.Fit.{fit-segments}
use Rattle.joining.specs.declared.answer.Joined.{Joined}
use Rattle.joining.specs.Points.{NumberLine, SamePoints}
use Rattle.joining.specs.Joined.{joined}
use Rattle.joining.specs.Conditions.{output_lengths, join_conditions}
use Rattle.joining.specs.Answer.{joined_of, join_answer, written, output_after, result_of}
use Rattle.joining.proofs.JoinedLists as lists
use Rattle.demands.specs.Applies.{First, NoneApplies, place_in_list, InOrder}
use Rattle.demands.specs.Directions.{columns_as_taken}
use Rattle.demands.specs.Joining.{JoinRun, ListFit, JoinFit, JoinUnfit, JoinAccepted, JoinRefused, front, SamePieces, SameJoin, Joining}
use Rattle.demands.proofs.FirstMet.{first-refused, none_passed, some_or_none}
use Rattle.demands.proofs.Directions.{SeenAlike, seen_alike}

-- ---- from the outcome of the checks
module _ (c out : SegmentColumns) (k : Result Unit Refusal) (e : first_of (join_conditions c out) ≡ k) where
  answer-is : join_answer c out ≡ checked Err k (joined_of (segments c))
  unfolding join_answer
  answer-is = ap (λ (z : Result Unit Refusal). checked Err z (joined_of (segments c))) e

  output_is : output_after c out ≡ checked (λ r. out) k (written (joined (segments c)) out)
  unfolding output_after
  output_is = ap (λ (z : Result Unit Refusal). checked (λ r. out) z (written (joined (segments c)) out)) e

unfit : (r : JoinRun) (refusal : Refusal) → First (join_conditions r.lent r.before) refusal → JoinRefused r refusal
unfolding result_of
unfit r why f =
    let e = first-refused (join_conditions r.lent r.before) why f in
    record { returns = ap result_of (r.says.answers ∙ answer-is r.lent r.before (Err why) e); writes = r.says.leaves ∙ output_is r.lent r.before (Err why) e }

-- the pieces of a call
abbrev pieces : JoinRun → List Segment
pieces r = joined (segments r.lent)

-- ---- a call whose list passes: 8 alone decides
abbrev room : ℕ → SegmentColumns → Result Unit Refusal
room needed out = first_of ((short_output needed (output_lengths out), ShortOutput) ∷ [])

module _ (r : JoinRun) (h : ListFit r) where
  list_passes : first_of (segment_list_conditions r.lent) ≡ Ok tt
  list_passes = none_passed (segment_list_conditions r.lent) h

  fit_all : All FitSegment (segments r.lent)
  fit_all = fit-segments (segments r.lent) (r.says.held list_passes) (segment_list_passes r.lent list_passes).fit

  room_decides : first_of (join_conditions r.lent r.before) ≡ room (length (pieces r)) r.before
  unfolding join_conditions
  room_decides = first_go_on (segment_list_conditions r.lent) _ (first_of (segment_list_conditions r.lent)) refl list_passes

  answered : r.returned ≡ checked Err (room (length (pieces r)) r.before) (joined_of (segments r.lent))
  answered = r.says.answers ∙ answer-is r.lent r.before _ room_decides

  left : r.after ≡ checked (λ w. r.before) (room (length (pieces r)) r.before) (written (pieces r) r.before)
  left = r.says.leaves ∙ output_is r.lent r.before _ room_decides

-- ---- an accepted call
first_part : (l m : List (Bool × Refusal)) → NoneApplies (l ++ m) → NoneApplies l
first_part [] m p = tt
first_part (x ∷ l) m p = (p.0, first_part l m p.1)

-- the front of columns that a list was written over is the list's columns
front_over : {A B : Type 0} (f : A → B) (l : List A) (old : List B) → take (length l) (written_over f l old) ≡ map f l
front_over f l old = ap (λ (n : ℕ). take n (written_over f l old)) (sym (length-map l f)) ∙ take-append_seam (map f l) (drop (length l) old)

front-written : (l : List Segment) (c : SegmentColumns) → front (length l) (written l c) ≡ columns_of l
unfolding written columns_of
front-written l c = λ i. segment_columns (front_over (λ (s : Segment). s.net) l c.net i) (front_over (λ (s : Segment). s.orientation) l c.orientation i) (front_over (λ (s : Segment). s.fixed) l c.fixed i) (front_over (λ (s : Segment). s.start) l c.start i) (front_over (λ (s : Segment). s.end) l c.end i)

module _ (r : JoinRun) (h : JoinFit r) where
  passes : first_of (join_conditions r.lent r.before) ≡ Ok tt
  passes = none_passed (join_conditions r.lent r.before) h

  list_fit : ListFit r
  unfolding join_conditions
  list_fit = first_part (segment_list_conditions r.lent) _ h

  returns : result_of r.returned ≡ (0, length (pieces r), length (segments r.lent) - length (pieces r))
  unfolding result_of
  returns = ap result_of (r.says.answers ∙ answer-is r.lent r.before (Ok tt) passes)

  writes : r.after ≡ written (pieces r) r.before
  writes = r.says.leaves ∙ output_is r.lent r.before (Ok tt) passes

  accepted : JoinAccepted r
  accepted = record { fit = fit_all r list_fit; returns = returns; writes = writes }

  how_many : (result_of r.returned).1 ≡ length (pieces r)
  how_many = ap (λ (w : ℕ × ℕ × ℕ). w.1) returns

  front-is : front (result_of r.returned).1 r.after ≡ columns_of (pieces r)
  front-is = (λ i. front (how_many i) (writes i)) ∙ front-written (pieces r) r.before

  read_back : as_lent (front (result_of r.returned).1 r.after) ≡ pieces r
  read_back = ap as_lent front-is ∙ columns_entries (pieces r)

-- ---- two calls whose lists pass, and whose output columns held the same
same_outcome : (k : Result Unit Refusal) (n g h : ℕ) (x y : Result Joined Refusal) → x ≡ checked Err k (Ok (record { pieces = n; gone = g })) → y ≡ checked Err k (Ok (record { pieces = n; gone = h })) → ((result_of x).0 ≡ (result_of y).0) × ((result_of x).1 ≡ (result_of y).1)
unfolding result_of
same_outcome (Ok tt) n g h x y p q = (rw (p, q), rw (p, q))
same_outcome (Err w) n g h x y p q = (rw (p, q), rw (p, q))

module _ (a b : JoinRun) (f : ListFit a) (g : ListFit b) (same : a.before ≡ b.before) where
  pieces_decide : pieces a ≡ pieces b → a.after ≡ b.after
  pieces_decide e = left a f ∙ (λ i. checked (λ w. same i) (room (length (e i)) (same i)) (written (e i) (same i))) ∙ sym (left b g)

  -- what a returns, said of the pieces of b
  answered-alike : (e : pieces a ≡ pieces b) → a.returned ≡ checked Err (room (length (pieces b)) b.before) (Ok (record { pieces = length (pieces b); gone = length (segments a.lent) - length (pieces b) }))
  answered-alike e = answered a f ∙ (λ i. checked Err (room (length (e i)) (same i)) (Ok (record { pieces = length (e i); gone = length (segments a.lent) - length (e i) })))

  one_list : (L : NumberLine) → SamePoints L (segments a.lent) (segments b.lent) → SamePieces a b
  one_list L p =
      let e = lists.one_list L (segments a.lent) (segments b.lent) (fit_all a f) (fit_all b g) p in
      let n = length (pieces b) in
      let o = same_outcome (room n b.before) n (length (segments a.lent) - n) (length (segments b.lent) - n) a.returned b.returned (answered-alike e) (answered b g) in
      record { number = o.0; pieces = o.1; after = pieces_decide e }

  any_order : Perm (as_lent a.lent) (as_lent b.lent) → SameJoin a b
  any_order p =
      let q = lent_taken a.lent b.lent p in
      let e = lists.any_order (segments a.lent) (segments b.lent) (fit_all a f) q in
      record { returned = answered-alike e ∙ (λ i. checked Err (room (length (pieces b)) b.before) (Ok (record { pieces = length (pieces b); gone = perm-length q i - length (pieces b) }))) ∙ sym (answered b g); after = pieces_decide e }

-- ---- two calls that differ only in directions
module _ (s t : SegmentColumns) (a : SeenAlike s t) (out : SegmentColumns) where
  same-conditions : join_conditions t out ≡ join_conditions s out
  unfolding join_conditions segment_list_conditions
  same-conditions = rw (a.differ, a.count, a.taken)

  same_answer : join_answer t out ≡ join_answer s out
  unfolding join_answer
  same_answer = rw (same-conditions, a.taken)

  same_output : output_after t out ≡ output_after s out
  unfolding output_after
  same_output = rw (same-conditions, a.taken)

directions : (a b : JoinRun) → a.before ≡ b.before → columns_as_taken a.lent ≡ columns_as_taken b.lent → SameJoin a b
directions a b same e =
    let k = seen_alike b.lent a.lent e in
    record { returned = a.says.answers ∙ ap (join_answer a.lent) same ∙ same_answer b.lent a.lent k b.before ∙ sym b.says.answers; after = a.says.leaves ∙ ap (output_after a.lent) same ∙ same_output b.lent a.lent k b.before ∙ sym b.says.leaves }

-- ---- joining the pieces again
module _ (a b : JoinRun) (f : JoinFit a) (lent-front : b.lent ≡ front (result_of a.returned).1 a.after) (fits : short_output (result_of a.returned).1 (output_lengths b.before) ≡ false) where
  fit_list : All FitSegment (segments a.lent)
  fit_list = fit_all a (list_fit a f)

  is : b.lent ≡ columns_of (pieces a)
  is = lent-front ∙ front-is a f

  pieces_taken : segments (columns_of (pieces a)) ≡ pieces a
  unfolding segments
  pieces_taken = ap (map as_taken) (columns_entries (pieces a)) ∙ kept (pieces a) (lists.joined_taken (segments a.lent) fit_list)
    where
      kept : (l : List Segment) → All (λ s. as_taken s ≡ s) l → map as_taken l ≡ l
      kept [] h = refl
      kept (s ∷ l) h = λ i. h.0 i ∷ kept l h.1 i

  lent-pieces : segments b.lent ≡ pieces a
  lent-pieces = ap segments is ∙ pieces_taken

  joined-again : joined (segments b.lent) ≡ pieces a
  joined-again = ap joined lent-pieces ∙ lists.again (segments a.lent) fit_list

  few : length (pieces a) ≤ 4096
  few = let p = segment_list_passes a.lent (list_passes a (list_fit a f)) in omega (arith, p.few-segments, length-segments a.lent p.agree, lists.no_more (segments a.lent))

  none-unfit : some_of unfit_segment (pieces a) ≡ false
  none-unfit = all_none unfit_segment (pieces a) (each (pieces a) (lists.joined-fit (segments a.lent) fit_list))
    where
      each : (l : List Segment) → All FitSegment l → All (λ s. unfit_segment s ≡ false) l
      each [] h = tt
      each (s ∷ l) h = (h.0.passes, each l h.1)

  again-fit : JoinFit b
  unfolding join_conditions segment_list_conditions too_many
  again-fit = (
    ap segments_differ is ∙ columns_same (pieces a),
    (
      ap (λ (c : SegmentColumns). ltb 4096 (length c.net)) is ∙ le-ltb 4096 (length (columns_of (pieces a)).net) (omega (arith, columns_count (pieces a), few)),
      (ap (some_of unfit_segment) lent-pieces ∙ none-unfit, (ap (λ (n : ℕ). short_output n (output_lengths b.before)) (ap length joined-again ∙ sym (how_many a f)) ∙ fits, tt)),
    ),
  )

  again : (result_of b.returned ≡ (0, (result_of a.returned).1, 0)) × (front (result_of a.returned).1 b.after ≡ b.lent)
  again = (
    returns b again-fit ∙ (λ i. (0, length (joined-again i), length (lent-pieces i) - length (joined-again i))) ∙ (λ i. (0, sym (how_many a f) i, none_gone i)),
    (λ i. front ((how_many a f ∙ sym (ap length joined-again)) i) (writes b again-fit i)) ∙ front-written (joined (segments b.lent)) b.before ∙ ap columns_of joined-again ∙ sym is,
  )
    where
      none_gone : length (pieces a) - length (pieces a) ≡ 0
      none_gone = omega arith

-- ---- the checks are in the order of the list of refusals
checks_in_order : (c out : SegmentColumns) → InOrder 0 (join_conditions c out)
unfolding join_conditions segment_list_conditions place_in_list
checks_in_order c out = (omega arith, (omega arith, (omega arith, (omega arith, omega arith))))

unfit_or_fit : (r : JoinRun) → JoinUnfit r ⊎ JoinFit r
unfit_or_fit r = elim (some_or_none (join_conditions r.lent r.before)) [ inl s ↦ inl (record { refusal = s.refusal; first = s.first }) | inr h ↦ inr h ]

pub joining : Joining
joining = record {
  lists = lists.joined-lists;
  unfit_or_fit = unfit_or_fit;
  unfit = unfit;
  accepted = accepted;
  checks_in_order = checks_in_order;
  read_back = read_back;
  one_list = λ L a b f g e p. one_list a b f g e L p;
  again = again;
  any_order = any_order;
  directions = directions;
}
