-- The facts of separation. Assumes nothing.
use Rattle.std.specs.Prelude.{Err}
use mathlib.Core.Path.{◌≡◌, ap}
use mathlib.Core.Bool.{cond}
use Prim.Native.Nat.{ℕ}
use native.Mathlib.Omega.{arith}
use lib.Dec.{leb}
use Rattle.laws.specs.Lists.{All}
use Rattle.laws.specs.Charged.{Charged, settle}
use Rattle.laws.proofs.ListLaws.{all_append}
use Rattle.drawing.specs.declared.refusal.Refusal.{Refusal}
use Rattle.drawing.specs.Entries.{SegmentColumns, segments}
use Rattle.drawing.specs.Refusals.{number_of, first_of}
use Rattle.drawing.specs.Gaps.{least_gap}
use Rattle.drawing.proofs.AnyOrder.{lent_taken}
use Rattle.separation.specs.declared.report.ParallelSeparation.{ParallelSeparation}
use Rattle.separation.specs.Figures.{Figures, figures, least_of, gaps}
use Rattle.separation.specs.Answer.{all_pairs, separation_answer, result_of}
use Rattle.separation.proofs.Running.{kept_good}
use Rattle.separation.proofs.WalkFigures.{gaps_good}
use Rattle.separation.proofs.AnyOrder.{all-pairs_any, walk-all-pairs}
use Rattle.separation.proofs.Answers.{passed_fit, result_settles}
use Rattle.demands.specs.Measures.{Reported, present, separation}
use Rattle.demands.proofs.Numbers.{least_reported}
use Rattle.demands.proofs.Facts.{Passes, Same, Facts}

refuses : (s : SegmentColumns) (none : Unit {0}) (a words : ℕ) (r : Refusal) → first_of (separation.conditions s none words) ≡ Err r → separation.result (separation.answer s none a words) ≡ separation.refused (number_of r)
unfolding separation_answer result_of
refuses s none a words r e = rw e

settles : (s : SegmentColumns) (none : Unit {0}) (a words : ℕ) → Passes separation s none words
    → separation.result (separation.answer s none a words) ≡ cond (leb (separation.count s none) a) (separation.accepted (separation.figures s none) (separation.count s none)) (separation.refused 7)
unfolding settle all_pairs
settles s none a words p = result_settles s words p a

apart : (f : Figures) (n : ℕ) → separation.accepted f n ≡ separation.refused 7 → ⊥
apart f n e = let z : ◌≡◌ {A = ℕ} 0 7 = ap (λ (r : ℕ × ParallelSeparation). r.0) e in omega arith

same : (s t : SegmentColumns) (none : Unit {0}) (words : ℕ) → separation.Reordered s t → separation.Held s none → Passes separation s none words → Same separation s t none
unfolding all_pairs
same s t none words o h p =
    let all = all-pairs_any (lent_taken s t o) (passed_fit s words p h) in
    record { figures = ap (λ (c : Charged Figures). c.value) all; count = ap (λ (c : Charged Figures). c.cost) all }

walks : (s : SegmentColumns) (none : Unit {0}) (words : ℕ) → separation.Held s none → Passes separation s none words → separation.walk s none ≡ record { value = separation.figures s none; cost = separation.count s none }
unfolding all_pairs
walks s none words h p = walk-all-pairs (segments s) (passed_fit s words p h)

numbers : (s : SegmentColumns) (none : Unit {0}) (words : ℕ) → separation.Held s none → Passes separation s none words → All Reported (separation.floats (separation.figures s none))
unfolding figures least_of
numbers s none words h p =
    let good = gaps_good (segments s) (passed_fit s words p h) in
    all_append Reported (present (least_gap (gaps (segments s)))) _ (least_reported _ good) (least_reported _ (kept_good _ good))

pub separation_facts : Facts separation
separation_facts = record { refuses = refuses; settles = settles; apart = apart; same = same; walks = walks; numbers = numbers }
