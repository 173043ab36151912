-- The facts of the three congestion calls. Assumes nothing.
use Rattle.std.specs.Prelude.{Option, Result, Ok, Err}
use mathlib.Core.Path.{◌≡◌, refl, sym, ap, subst, ◌∙◌}
use mathlib.Core.Bool.{Bool, cond}
use mathlib.Core.List.{List}
use Prim.Native.Nat.{ℕ}
use native.Mathlib.Omega.{arith}
use lib.Dec.{leb}
use lib.Ieee.{Float}
use Rattle.laws.specs.Lists.{All, pairs}
use Rattle.laws.specs.Charged.{Charged, settle}
use Rattle.laws.proofs.ListLaws.{mem_all, mem_pairs, all-chosen}
use Rattle.floats.specs.Values.{plus_zero, gap_of}
use Rattle.floats.proofs.Gaps.{Good, zero_good}
use Rattle.floats.proofs.Units.{gap_units}
use Rattle.drawing.specs.declared.refusal.Refusal.{Refusal}
use Rattle.drawing.specs.Entries.{SegmentColumns, segments}
use Rattle.drawing.specs.Refusals.{number_of, first_of}
use Rattle.drawing.proofs.AnyOrder.{lent_taken}
use Rattle.congestion.specs.declared.report.ParallelCongestion.{ParallelCongestion}
use Rattle.congestion.specs.declared.report.CongestionReport.{CongestionReport}
use Rattle.congestion.specs.Conditions.{congestion_conditions}
use Rattle.congestion.specs.AllPairs.{lengths, least_nonzero, all_pairs}
use Rattle.congestion.specs.Answer.{report_of, density_answer, without_density, profile_answer, congestion_answer, zeros, result_of}
use Rattle.congestion.proofs.Fitness.{fit_list, fit-cutoff}
use Rattle.congestion.proofs.SweepTheorem.{all-pairs-order, sweep-is-all-pairs}
use Rattle.congestion.proofs.Answers.{Settles, result_settles, density_settles, profile_settles, congestion-earlier, congestion-reached}
use Rattle.demands.specs.Measures.{visits_reach, Reported, of_congestion, density, profile, congestion}
use Rattle.demands.proofs.Numbers.{good_reported, least_reported, units_good}
use Rattle.demands.proofs.Facts.{Facts}

-- figures and the least gap, at a cost
abbrev Charges : Type 0
Charges = Charged (ParallelCongestion × Option Float)

refused-result : (r : Refusal) → result_of (Err r) ≡ (number_of r, zeros)
unfolding result_of
refused-result r = refl

reported : (r : CongestionReport) → result_of (Ok r) ≡ (0, r)
unfolding result_of
reported r = refl

-- the floats of the report: lengths of whole 64ths, and a gap of two coordinates on the grid
abbrev floats_of : ParallelCongestion × Option Float → List Float
floats_of f = density.floats f

all-numbers : (s : SegmentColumns) (cutoff : Float) (words : ℕ) → first_of (congestion_conditions s cutoff words) ≡ Ok tt → All Reported (floats_of (all_pairs cutoff (segments s)).value)
unfolding all_pairs lengths least_nonzero
all-numbers s cutoff words p =
    let f = fit_list s cutoff words p in (
      good_reported _ (units_good _),
      (
        good_reported _ (units_good _),
        (
          good_reported _ (units_good _),
          least_reported _
              (all-chosen Good _ (λ q. gap_of q.0.fixed q.1.fixed) (pairs (segments s)) (mem_all _ (pairs (segments s)) (λ q m.
              let k = mem_pairs q (segments s) m in
              subst Good (sym (gap_units q.0.fixed q.1.fixed (f.each q.0 k.0).fixed (f.each q.1 k.1).fixed)) (units_good _)))),
        ),
      ),
    )

-- one call, whose figures are a part of the report that costs the same
module _ (part : Charges → Charges) (A : Type 0) (reach : A → ℕ → Bool) (answers : SegmentColumns → Float → A → ℕ → (Result CongestionReport Refusal))
    (costs : (c : Charges) → (part c).cost ≡ c.cost)
    (parts : (c : Charges) → All Reported (floats_of c.value) → All Reported (floats_of (part c).value))
    (refuses : (s : SegmentColumns) (cutoff : Float) (a : A) (words : ℕ) (r : Refusal) → first_of (congestion_conditions s cutoff words) ≡ Err r → answers s cutoff a words ≡ Err r)
    (settles : (s : SegmentColumns) (cutoff : Float) (a : A) (words : ℕ) → first_of (congestion_conditions s cutoff words) ≡ Ok tt → result_of (answers s cutoff a words) ≡ cond (reach a (all_pairs cutoff (segments s)).cost) (0, report_of (part (all_pairs cutoff (segments s))).value (all_pairs cutoff (segments s)).cost) (7, zeros)) where
  facts : Facts (of_congestion part A reach answers)
  unfolding all_pairs
  facts = record {
    refuses = λ s cutoff a words r e. ap result_of (refuses s cutoff a words r e) ∙ refused-result r;
    settles = settles;
    apart = λ f n e. let z : ◌≡◌ {A = ℕ} 0 7 = ap (λ (r : ℕ × CongestionReport). r.0) e in omega arith;
    same = λ s t cutoff words o h p.
        let all = all-pairs-order cutoff (fit-cutoff s cutoff words p) (lent_taken s t o) (fit_list s cutoff words p) in
        record { figures = ap (λ (c : Charges). (part c).value) all; count = ap (λ (c : Charges). c.cost) all };
    walks = λ s cutoff words h p.
        let all = sweep-is-all-pairs cutoff (fit-cutoff s cutoff words p) (segments s) (fit_list s cutoff words p) in
        ap part all ∙ (λ i. record { value = (part (all_pairs cutoff (segments s))).value; cost = costs (all_pairs cutoff (segments s)) i });
    numbers = λ s cutoff words h p. parts (all_pairs cutoff (segments s)) (all-numbers s cutoff words p);
  }

-- a call with an allowance
module _ (part : Charges → Charges) (answers : SegmentColumns → Float → ℕ → ℕ → (Result CongestionReport Refusal)) (costs : (c : Charges) → (part c).cost ≡ c.cost) (parts : (c : Charges) → All Reported (floats_of c.value) → All Reported (floats_of (part c).value)) (d : Settles answers (λ cutoff l. part (all_pairs cutoff l))) where
  settled : (s : SegmentColumns) (cutoff : Float) (a words : ℕ) → first_of (congestion_conditions s cutoff words) ≡ Ok tt
      → result_of (answers s cutoff a words) ≡ cond (leb (part (all_pairs cutoff (segments s))).cost a) (0, report_of (part (all_pairs cutoff (segments s))).value (part (all_pairs cutoff (segments s))).cost) (7, zeros)
  unfolding settle
  settled s cutoff a words p = ap result_of (d.behind s cutoff a words p) ∙ result_settles a (part (all_pairs cutoff (segments s)))

  bounded : Facts (of_congestion part ℕ visits_reach answers)
  bounded = facts part ℕ visits_reach answers costs parts (λ s cutoff a words r e. d.earlier s cutoff a words r e)
      (λ s cutoff a words p. settled s cutoff a words p ∙ (λ i. cond (leb (costs (all_pairs cutoff (segments s)) i) a) (0, report_of (part (all_pairs cutoff (segments s))).value (costs (all_pairs cutoff (segments s)) i)) (7, zeros)))

pub density_facts : Facts density
density_facts = bounded (λ c. c) density_answer (λ c. refl) (λ c h. h) density_settles

pub profile_facts : Facts profile
profile_facts = bounded without_density profile_answer (λ c. refl) (λ c h. (h.0, (h.1.0, (good_reported plus_zero zero_good, h.1.1.1)))) profile_settles

pub congestion_facts : Facts congestion
congestion_facts =
    facts (λ c. c) (Unit {0}) _ (λ s cutoff always words. congestion_answer s cutoff words) (λ c. refl) (λ c h. h) (λ s cutoff always words r e. congestion-earlier s cutoff words r e)
    (λ s cutoff always words p. ap result_of (congestion-reached s cutoff words p) ∙ reported _)
