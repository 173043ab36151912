-- The whole call: what the checks establish of the columns, both orientations, and the answer. Assumes nothing.
use Rattle.std.specs.Prelude.{Result, Ok, Err}
use mathlib.Core.Path.{◌≡◌, sym, ap, ◌∙◌, subst}
use mathlib.Core.Bool.{Bool, true}
use mathlib.Core.List.{List}
use Prim.Native.Nat.{ℕ, ◌^◌, ◌<◌}
use native.Mathlib.Omega.{arith}
use Rattle.laws.specs.Lists.{Mem, All}
use Rattle.laws.specs.Inner.Allowance.{Outcome, spent, left, within, onward}
use Rattle.laws.proofs.ListLaws.{all_mem}
use Rattle.laws.proofs.Runs.{within-short, onward-spent, onward-left, settle-within}
use Rattle.drawing.specs.declared.refusal.Refusal.{Refusal}
use Rattle.drawing.specs.declared.refusal.Refusal.TheVariants.{WorkLimitExceeded}
use Rattle.drawing.specs.Entries.{Segment, SegmentColumns, segments}
use Rattle.drawing.specs.Refusals.{first_of}
use Rattle.drawing.specs.Held.{SegmentHeld}
use Rattle.drawing.specs.Inner.Lengths.{SegmentsAgree}
use Rattle.rows.specs.Rows.{Row, row_of, oriented}
use Rattle.rows.specs.Inner.Rows.{segments_to_sweep}
use Rattle.rows.proofs.Oriented.{mem_oriented}
use Rattle.rows.proofs.ToSweep.{rows-to-sweep}
use Rattle.separation.specs.Conditions.{separation_conditions}
use Rattle.separation.specs.Figures.{Figures}
use Rattle.separation.specs.Lines.{lines}
use Rattle.separation.specs.Walk.{lesser_figures, along, walk_all}
use Rattle.separation.specs.Answer.{accepted, separation_answer}
use Rattle.separation.proofs.Checked.{separation-passes}
use Rattle.separation.proofs.Lines.{line-of-row}
use Rattle.separation.proofs.Places.{Placed, at_good}
use Rattle.separation.proofs.Fit.{Fit, row-rises, row-placed}
use Rattle.separation.proofs.Costs.{walk-least}
use Rattle.separation.proofs.Allowances.{walk-within}
use Rattle.separation.proofs.Answers.{passed_fit, walk_settles}
use Rattle.separation.specs.declared.found.Found.{Found}
use Rattle.separation.specs.declared.report.ParallelSeparation.{ParallelSeparation}
use Rattle.separation.specs.Inner.States.{found_by, swept_of, Answers, too_few}
use Rattle.separation_call.specs.Inner.Sweeping.{Gapped, AtColumns}
use Rattle.separation.proofs.States.{went-is, spent-is, answers-reply, too_few_means}

-- ---- what the checks establish
row-net : (s : Segment) → s.net < 2 ^ 32 → (row_of s).net < 2 ^ 32
unfolding row_of
row-net s h = h

module _ (c : SegmentColumns) (words : ℕ) (passed : first_of (separation_conditions c words) ≡ Ok tt) where
  module _ (held : All SegmentHeld (segments c)) (nets : All (λ (s : Segment). s.net < 2 ^ 32) (segments c)) where
    proper : (o : ℕ) (r : Row) → Mem r (oriented o (segments c)) → (r.net < 2 ^ 32) × (r.start < r.end)
    proper o r m =
        let g = mem_oriented o (segments c) r m in
        let s = g.segment in
        subst (λ (x : Row). (x.net < 2 ^ 32) × (x.start < x.end)) (sym g.is)
        (row-net s (all_mem (λ (t : Segment). t.net < 2 ^ 32) (segments c) nets s g.there), row-rises s (all_mem Fit (segments c) (passed_fit c words passed held) s g.there))

    -- every line is the key of a finite coordinate
    lines-placed : (o p : ℕ) → Mem p (lines (oriented o (segments c))) → Placed p
    lines-placed o p m =
        let r = line-of-row p (oriented o (segments c)) m in
        let g = mem_oriented o (segments c) r.0 r.1 in
        subst Placed (sym (r.2 ∙ ap (λ (x : Row). x.line) g.is)) (row-placed g.segment (all_mem Fit (segments c) (passed_fit c words passed held) g.segment g.there))

    gapped : (o : ℕ) → Gapped (lines (oriented o (segments c)))
    gapped o p q m k = (at_good (p, q) (lines-placed o p m) (lines-placed o q k)).num.1

    pub at_columns : (o : ℕ) → AtColumns words o c
    at_columns o = let p = separation-passes c words passed in record { agree = p.agree; few = p.few-segments; room = p.room; proper = proper o; gaps = gapped o }

-- ---- too few visits, whatever the walk finds
pub too_few_visits : (c : SegmentColumns) → SegmentsAgree c → (m n : ℕ) (t : Bool) → n ≡ segments_to_sweep c.orientation → t ≡ too_few m n → t ≡ true → (Err WorkLimitExceeded) ≡ swept_of (within m (walk_all (segments c)))
unfolding swept_of
too_few_visits c agree m n t e k h = sym (ap swept_of (within-short m (walk_all (segments c)) (omega (arith, too_few_means m n t k h, rows-to-sweep c agree, walk-least (segments c)))))

-- ---- both orientations
module _ (l : List Segment) (m : ℕ) (first : Result Found Refusal) (one : first ≡ swept_of (within m (along (oriented 1 l)))) where
  abbrev second : Figures → ℕ → Outcome Figures
  second f r = onward (within r (along (oriented 0 l))) (λ g r. left (lesser_figures f g) r)

  pub walk_stops : (x : Refusal) → first ≡ Err x → Err x ≡ swept_of (within m (walk_all l))
  unfolding swept_of
  walk_stops x e =
      let k = spent-is (within m (along (oriented 1 l))) x (sym e ∙ one) in
      let z : onward (within m (along (oriented 1 l))) second ≡ spent = rw k.1 (onward-spent second) in
      ap Err k.0 ∙ sym (ap swept_of (walk-within m l ∙ z))

  module _ (across : Found) (went : first ≡ Ok across) (next : Result Found Refusal) (other : next ≡ swept_of (within across.remaining (along (oriented 0 l)))) where
    on : within m (walk_all l) ≡ second (found_by across) across.remaining
    on = walk-within m l ∙ rw (went-is (within m (along (oriented 1 l))) across (sym went ∙ one)) (onward-left (found_by across) across.remaining second)

    pub walk_stops_later : (x : Refusal) → next ≡ Err x → Err x ≡ swept_of (within m (walk_all l))
    unfolding swept_of
    walk_stops_later x e =
        let k = spent-is (within across.remaining (along (oriented 0 l))) x (sym e ∙ other) in
        let z : second (found_by across) across.remaining ≡ spent = rw k.1 (onward-spent (λ g r. left (lesser_figures (found_by across) g) r)) in
        ap Err k.0 ∙ sym (ap swept_of (on ∙ z))

    pub walk_both : (down r : Found) → next ≡ Ok down → found_by r ≡ lesser_figures (found_by across) (found_by down) → r.remaining ≡ down.remaining → Ok r ≡ swept_of (within m (walk_all l))
    unfolding swept_of
    walk_both down r e f k =
        let z : second (found_by across) across.remaining ≡ left (lesser_figures (found_by across) (found_by down)) down.remaining = rw (went-is (within across.remaining (along (oriented 0 l))) down (sym e ∙ other)) (onward-left (found_by down) down.remaining (λ g r. left (lesser_figures (found_by across) g) r)) in
        (λ i. swept_of (left (f i) (k i))) ∙ sym (ap swept_of (on ∙ z))

-- ---- the answer
pub refused-answer : (c : SegmentColumns) (allowance words : ℕ) (k : Result Unit Refusal) (r : Refusal) → k ≡ first_of (separation_conditions c words) → k ≡ Err r → Err r ≡ separation_answer c allowance words
unfolding separation_answer
refused-answer c allowance words k r h g = sym (rw (sym h ∙ g))

pub passed_answer : (c : SegmentColumns) (allowance words : ℕ) → first_of (separation_conditions c words) ≡ Ok tt → All SegmentHeld (segments c) → (r : Result Found Refusal) → r ≡ swept_of (within allowance (walk_all (segments c))) → (a : Result ParallelSeparation Refusal) → Answers r allowance a → a ≡ separation_answer c allowance words
passed_answer c allowance words passed held r e a f = answers-reply r allowance a f (within allowance (walk_all (segments c))) e ∙ settle-within accepted (Err WorkLimitExceeded) allowance (walk_all (segments c)) ∙ sym (walk_settles c words passed held allowance)
