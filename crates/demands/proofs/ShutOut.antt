-- The programs that are shut out, from the marked cases and the facts of each measure. Assumes nothing.
use Rattle.std.specs.Prelude.{Option, Result, Ok, Err}
use mathlib.Core.Path.{◌≡◌, refl, sym, ap, ◌∙◌}
use mathlib.Core.Bool.{Bool, true, false, cond}
use mathlib.Core.List.{List}
use Prim.Native.Nat.{ℕ, ◌+◌, ◌*◌, ◌≤◌}
use native.Mathlib.Nat.{le_refl}
use native.Mathlib.Omega.{arith}
use lib.Ieee.{Float}
use lib.ListN.{length}
use Rattle.laws.specs.Charged.{Charged}
use Rattle.laws.proofs.Tests.{cond_true, cond_false, ltb_same}
use Rattle.drawing.specs.declared.refusal.Refusal.{Refusal}
use Rattle.drawing.specs.declared.refusal.Refusal.TheVariants.{MalformedFile, ColumnsDiffer, TooManyEntries, ShortScratch, InvalidInput, OffGrid, WorkLimitExceeded, ShortOutput}
use Rattle.drawing.specs.Entries.{SegmentColumns}
use Rattle.drawing.specs.Refusals.{number_of, first_of, scratch_after}
use Rattle.drawing.specs.Conditions.{short_scratch}
use Rattle.drawing.specs.Checks.{segment_conditions}
use Rattle.clearance.specs.Conditions.{clearance_conditions}
use Rattle.separation.specs.Conditions.{separation_conditions}
use Rattle.congestion.specs.declared.report.ParallelCongestion.{ParallelCongestion}
use Rattle.congestion.specs.declared.report.CongestionReport.{CongestionReport}
use Rattle.congestion.specs.Conditions.{congestion_conditions}
use Rattle.congestion.specs.Answer.{density_answer, profile_answer, congestion_answer, without_density}
use Rattle.demands.specs.Measures.{Measure, Run, result_of_run, earlier, visits_reach, Lists, clearance, separation, of_congestion, density, profile, congestion}
use Rattle.demands.specs.Marked.{result_on}
use Rattle.demands.specs.ShutOut.{On, Measured, RefusedWith, Congestion, OffTheGrid, ShutOut}
use Rattle.demands.proofs.Facts.{Passes, Facts}
use Rattle.demands.proofs.ClearanceFacts.{clearance_facts}
use Rattle.demands.proofs.SeparationFacts.{separation_facts}
use Rattle.demands.proofs.CongestionFacts.{density_facts, profile_facts, congestion_facts}
use Rattle.demands.proofs.Marked.{marked}
use Rattle.clearance.proofs.Examples as clearanceExamples

-- no refusal has the number of a report
not_zero : (x : Refusal) → 0 ≡ number_of x → ⊥
unfolding number_of
not_zero MalformedFile e = omega arith
not_zero ColumnsDiffer e = omega arith
not_zero TooManyEntries e = omega arith
not_zero ShortScratch e = omega arith
not_zero InvalidInput e = omega arith
not_zero OffGrid e = omega arith
not_zero WorkLimitExceeded e = omega arith
not_zero ShortOutput e = omega arith

-- the results of a measure: a number, 0 for a report; a report has its figures and its visits
record Results (m : Measure) : Type 0 where
  number : m.Result → ℕ
  of_report : (f : m.Figures) (n : ℕ) → number (m.accepted f n) ≡ 0
  of-refusal : (k : ℕ) → number (m.refused k) ≡ k
  one_report : (f g : m.Figures) (i j : ℕ) → m.accepted f i ≡ m.accepted g j → (f ≡ g) × (i ≡ j)

-- the checks refuse by that number
record Stops (l : List (Bool × Refusal)) (k : ℕ) : Type 0 where
  refusal : Refusal
  first : first_of l ≡ Err refusal
  numbered : number_of refusal ≡ k

-- the checks are the same for every scratch that is long enough
module _ (m : Measure) (facts : Facts m) (results : Results m) (d : m.Drawing) (s : m.Settings) (words : ℕ) (roomy : (w : ℕ) → words ≤ w → m.conditions d s words ≡ m.conditions d s w) where
  checks : (r : Run m) → On m d s words r → first_of (earlier m r) ≡ first_of (m.conditions d s words)
  checks r on = (λ i. first_of (m.conditions (on.same-drawing i) (on.same-settings i) (length r.before))) ∙ ap first_of (sym (roomy (length r.before) on.enough))

  returns : (r : Run m) → On m d s words r → result_of_run m r ≡ m.result (m.answer d s r.allowance (length r.before))
  returns r on = ap m.result r.says.answers ∙ (λ i. m.result (m.answer (on.same-drawing i) (on.same-settings i) r.allowance (length r.before)))

  leaves : (r : Run m) → On m d s words r → (c : Result Unit Refusal) → first_of (m.conditions d s words) ≡ c → r.after ≡ scratch_after c r.before
  leaves r on c e = r.says.leaves ∙ ap (λ (x : Result Unit Refusal). scratch_after x r.before) (checks r on ∙ e)

  passes-there : Passes m d s words → (w : ℕ) → words ≤ w → Passes m d s w
  passes-there p w h = ap first_of (sym (roomy w h)) ∙ p

  -- ---- a fit drawing, from its figures and visits
  module _ (passes : Passes m d s words) (f : m.Figures) (n : ℕ) (figures-are : m.figures d s ≡ f) (count-is : m.count d s ≡ n) where
    settled : (r : Run m) → On m d s words r → result_of_run m r ≡ cond (m.reaches r.allowance n) (m.accepted f n) (m.refused 7)
    settled r on =
        returns r on ∙ facts.settles d s r.allowance (length r.before) (passes-there passes (length r.before) on.enough)
        ∙ (λ i. cond (m.reaches r.allowance (count-is i)) (m.accepted (figures-are i) (count-is i)) (m.refused 7))

    measured : Measured m d s words f n
    unfolding scratch_after
    measured = record {
      walk = λ h. facts.walks d s words h passes ∙ (λ i. record { value = figures-are i; cost = count-is i });
      accepted = λ r on t. settled r on ∙ cond_true (m.reaches r.allowance n) _ _ t;
      spent = λ r on t. settled r on ∙ cond_false (m.reaches r.allowance n) _ _ t;
      scratch = λ r on. leaves r on (Ok tt) passes;
    }

  -- ---- the same from the result of one call, with a scratch of this length or longer
  module _ (long : ℕ) (room : words ≤ long) (a : m.Allowance) (f : m.Figures) (n : ℕ) (is : result_on m d s a long ≡ m.accepted f n) where
    passed : (c : Result Unit Refusal) → first_of (m.conditions d s long) ≡ c → first_of (m.conditions d s long) ≡ Ok tt
    passed (Ok tt) e = e
    passed (Err x) e = absurd (not_zero x (sym (results.of_report f n) ∙ ap results.number (sym is) ∙ ap results.number (facts.refuses d s a long x e) ∙ results.of-refusal (number_of x)))

    passes-long : Passes m d s long
    passes-long = passed (first_of (m.conditions d s long)) refl

    passes : Passes m d s words
    passes = ap first_of (roomy long room) ∙ passes-long

    one : (b : Bool) → cond b (m.accepted (m.figures d s) (m.count d s)) (m.refused 7) ≡ m.accepted f n → (m.figures d s ≡ f) × (m.count d s ≡ n)
    one true e = results.one_report _ _ _ _ e
    one false e = absurd (facts.apart f n (sym e))

    figures_and_count : (m.figures d s ≡ f) × (m.count d s ≡ n)
    figures_and_count = one (m.reaches a (m.count d s)) (sym (facts.settles d s a long passes-long) ∙ is)

    from_told : Measured m d s words f n
    from_told = measured passes f n figures_and_count.0 figures_and_count.1

  -- ---- a drawing that is refused, from its refusal
  refused-by : (k : ℕ) → Stops (m.conditions d s words) k → RefusedWith m d s words k
  unfolding scratch_after
  refused-by k x r on = record {
    returned = returns r on ∙ facts.refuses d s r.allowance (length r.before) x.refusal (ap first_of (sym (roomy (length r.before) on.enough)) ∙ x.first) ∙ ap m.refused x.numbered;
    left = leaves r on (Err x.refusal) x.first;
  }

  -- and that from the result of one call
  module _ (long : ℕ) (room : words ≤ long) (a : m.Allowance) (k : ℕ) (is : result_on m d s a long ≡ m.refused k) (not-0 : 0 ≡ k → ⊥) (not-7 : 7 ≡ k → ⊥) where
    number_is : (c : m.Result) → result_on m d s a long ≡ c → results.number c ≡ k
    number_is c e = ap results.number (sym e ∙ is) ∙ results.of-refusal k

    not_settled : (b : Bool) → results.number (cond b (m.accepted (m.figures d s) (m.count d s)) (m.refused 7)) ≡ k → ⊥
    not_settled true g = not-0 (sym (results.of_report _ _) ∙ g)
    not_settled false g = not-7 (sym (results.of-refusal 7) ∙ g)

    which : (c : Result Unit Refusal) → first_of (m.conditions d s long) ≡ c → Stops (m.conditions d s words) k
    which (Err x) e = record { refusal = x; first = ap first_of (roomy long room) ∙ e; numbered = sym (results.of-refusal (number_of x)) ∙ number_is _ (facts.refuses d s a long x e) }
    which (Ok tt) e = absurd (not_settled (m.reaches a (m.count d s)) (number_is _ (facts.settles d s a long e)))

    stops : Stops (m.conditions d s words) k
    stops = which (first_of (m.conditions d s long)) refl

-- ---- the three kinds of results
clearance_results : Results clearance
clearance_results = record {
  number = λ r. r.0;
  of_report = λ f n. refl;
  of-refusal = λ k. refl;
  one_report = λ f g i j e. ((λ x. record { least = (e x).1.minimum_clearance; violations = (e x).1.violations }), ap (λ r. r.1.visits) e);
}

separation_results : Results separation
separation_results = record {
  number = λ r. r.0;
  of_report = λ f n. refl;
  of-refusal = λ k. refl;
  one_report = λ f g i j e. ((λ x. record { least = (e x).1.minimum; least_nonzero = (e x).1.minimum_positive }), ap (λ r. r.1.visits) e);
}

module _ (part : Charged (ParallelCongestion × Option Float) → Charged (ParallelCongestion × Option Float)) (A : Type 0) (reach : A → ℕ → Bool) (answers : SegmentColumns → Float → A → ℕ → (Result CongestionReport Refusal)) where
  congestion_results : Results (of_congestion part A reach answers)
  congestion_results = record {
    number = λ r. r.0;
    of_report = λ f n. refl;
    of-refusal = λ k. refl;
    one_report = λ f g i j e. ((λ x. ((e x).1.congestion, (e x).1.minimum_positive)), ap (λ r. r.1.visits) e);
  }

density_results : Results density
density_results = congestion_results (λ c. c) ℕ visits_reach density_answer

profile_results : Results profile
profile_results = congestion_results without_density ℕ visits_reach profile_answer

always_results : Results congestion
always_results = congestion_results (λ c. c) (Unit {0}) (λ always n. true) (λ s cutoff always words. congestion_answer s cutoff words)

-- ---- a longer scratch changes no condition
roomy : (v w segments nodes : ℕ) → 32 * (segments + nodes) + 64 ≤ v → v ≤ w → short_scratch v segments nodes ≡ short_scratch w segments nodes
unfolding short_scratch
roomy v w segments nodes h k = ltb_same v (32 * (segments + nodes) + 64) w (32 * (segments + nodes) + 64) (λ p. omega arith) (λ p. omega arith)

segments_roomy : (s : SegmentColumns) (v : ℕ) → 32 * (length s.net + 0) + 64 ≤ v → (w : ℕ) → v ≤ w → segment_conditions s v ≡ segment_conditions s w
unfolding segment_conditions
segments_roomy s v h w k = rw (roomy v w (length s.net) 0 h k)

separation_roomy : (s : SegmentColumns) (v : ℕ) → 32 * (length s.net + 0) + 64 ≤ v → (w : ℕ) → v ≤ w → separation_conditions s v ≡ separation_conditions s w
unfolding separation_conditions
separation_roomy s v h w k = segments_roomy s v h w k

congestion_roomy : (s : SegmentColumns) (cutoff : Float) (v : ℕ) → 32 * (length s.net + 0) + 64 ≤ v → (w : ℕ) → v ≤ w → congestion_conditions s cutoff v ≡ congestion_conditions s cutoff w
unfolding congestion_conditions
congestion_roomy s cutoff v h w k = rw (segments_roomy s v h w k)

clearance_roomy : (d : Lists) (threshold : Float) (v : ℕ) → 32 * (length d.segments.net + length d.nodes.id) + 64 ≤ v → (w : ℕ) → v ≤ w → clearance.conditions d threshold v ≡ clearance.conditions d threshold w
unfolding clearance_conditions
clearance_roomy d threshold v h w k = rw (roomy v w (length d.segments.net) (length d.nodes.id) h k)

-- ---- one drawing by each measure
by-clearance : (d : Lists) (threshold : Float) (words : ℕ) → 32 * (length d.segments.net + length d.nodes.id) + 64 ≤ words → (long : ℕ) → words ≤ long → (a : ℕ) (f : clearance.Figures) (n : ℕ) → result_on clearance d threshold a long ≡ clearance.accepted f n → Measured clearance d threshold words f n
by-clearance d threshold words h long room a f n e = from_told clearance clearance_facts clearance_results d threshold words (clearance_roomy d threshold words h) long room a f n e

by-separation : (s : SegmentColumns) (words : ℕ) → 32 * (length s.net + 0) + 64 ≤ words → (a : ℕ) (f : separation.Figures) (n : ℕ) → result_on separation s tt a words ≡ separation.accepted f n → Measured separation s tt words f n
by-separation s words h a f n e = from_told separation separation_facts separation_results s tt words (separation_roomy s words h) words (le_refl words) a f n e

-- the three calls have one count, and their figures are parts of one report
by-congestion : (s : SegmentColumns) (cutoff : Float) (words : ℕ) → 32 * (length s.net + 0) + 64 ≤ words → (a : ℕ) (f : ParallelCongestion × Option Float) (n : ℕ) → result_on density s cutoff a words ≡ density.accepted f n → Congestion s cutoff words f n
by-congestion s cutoff words h a f n e =
    let room = congestion_roomy s cutoff words h in
    let p = passes density density_facts density_results s cutoff words room words (le_refl words) a f n e in
    let q = figures_and_count density density_facts density_results s cutoff words room words (le_refl words) a f n e in
    record {
      by-density = measured density density_facts density_results s cutoff words room p f n q.0 q.1;
      by-profile = measured profile profile_facts profile_results s cutoff words room p _ n (ap (λ x. (without_density (record { value = x; cost = n })).value) q.0) q.1;
      by-congestion = measured congestion congestion_facts always_results s cutoff words room p f n q.0 q.1;
    }

off_the_grid : (s : SegmentColumns) (cutoff : Float) (words : ℕ) → 32 * (length s.net + 0) + 64 ≤ words → (a : ℕ) → result_on density s cutoff a words ≡ density.refused 6 → OffTheGrid s cutoff words
off_the_grid s cutoff words h a e =
    let room = congestion_roomy s cutoff words h in
    let x = stops density density_facts density_results s cutoff words room words (le_refl words) a 6 e (λ z. omega arith) (λ z. omega arith) in
    record {
      by-density = refused-by density density_facts density_results s cutoff words room 6 x;
      by-profile = refused-by profile profile_facts profile_results s cutoff words room 6 x;
      by-congestion = refused-by congestion congestion_facts always_results s cutoff words room 6 x;
    }

unfit : (d : Lists) (threshold : Float) (words : ℕ) → 32 * (length d.segments.net + length d.nodes.id) + 64 ≤ words → (long : ℕ) → words ≤ long → (a : ℕ) → result_on clearance d threshold a long ≡ clearance.refused 5 → RefusedWith clearance d threshold words 5
unfit d threshold words h long longer a e =
    let room = clearance_roomy d threshold words h in
    refused-by clearance clearance_facts clearance_results d threshold words room 5 (stops clearance clearance_facts clearance_results d threshold words room long longer a 5 e (λ z. omega arith) (λ z. omega arith))

pub shut_out : ShutOut
shut_out = record {
  D_clearance = by-clearance _ _ 160 (omega arith) 160 (omega arith) 1000 _ 2 marked.sheet;
  D_separation = by-separation _ 128 (omega arith) 16 _ 16 marked.b-accepted;
  D_congestion = by-congestion _ _ 128 (omega arith) 4 _ 4 marked.c-accepted;
  one_pruned = by-clearance _ _ 160 (omega arith) 160 (omega arith) 1000 _ 1 (clearanceExamples.marked).pruned;
  a = by-separation _ 96 (omega arith) 0 _ 0 marked.a;
  d = by-separation _ 128 (omega arith) 1000 _ 14 marked.d;
  e = by-separation _ 128 (omega arith) 1000 _ 10 marked.e;
  f = by-separation _ 128 (omega arith) 1000 _ 14 marked.f;
  g = by-clearance _ _ 128 (omega arith) 160 (omega arith) 1000 _ 1 marked.g;
  h = unfit _ _ 128 (omega arith) 160 (omega arith) 1000 marked.h;
  i = by-clearance _ _ 96 (omega arith) 160 (omega arith) 0 _ 0 marked.i;
  j = by-congestion _ _ 128 (omega arith) 2 _ 2 marked.j;
  k_passes = by-congestion _ _ 96 (omega arith) 0 _ 0 marked.k_passes;
  k_off_the_grid = off_the_grid _ _ 96 (omega arith) 0 marked.k_off_the_grid;
  l = by-congestion _ _ 128 (omega arith) 2 _ 2 marked.l;
}
