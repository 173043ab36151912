-- The facts of clearance. Assumes nothing.
use Rattle.std.specs.Prelude.{Err}
use mathlib.Core.Path.{◌≡◌, ap}
use mathlib.Core.Bool.{cond}
use Prim.Native.Nat.{ℕ}
use native.Mathlib.Omega.{arith}
use lib.Dec.{leb}
use lib.Ieee.{Float}
use Rattle.laws.specs.Lists.{All}
use Rattle.laws.specs.Charged.{Charged, settle}
use Rattle.drawing.specs.declared.refusal.Refusal.{Refusal}
use Rattle.drawing.specs.Entries.{segments, nodes, exemptions}
use Rattle.drawing.specs.Refusals.{number_of, first_of}
use Rattle.drawing.proofs.AnyOrder.{lent_taken}
use Rattle.clearance.specs.Figures.{Figures, figures}
use Rattle.clearance.specs.declared.report.EdgeNodeClearance.{EdgeNodeClearance}
use Rattle.clearance.specs.Answer.{all_pairs, clearance_answer, result_of}
use Rattle.clearance.proofs.Distances.{distances_good}
use Rattle.clearance.proofs.AllPairs.{walk-all-pairs}
use Rattle.clearance.proofs.AnyOrder.{all-pairs-any_order}
use Rattle.clearance.proofs.Answers.{FitCall, fit_call, result_settles}
use Rattle.demands.specs.Measures.{Reported, Lists, clearance}
use Rattle.demands.proofs.Numbers.{least_reported}
use Rattle.demands.proofs.Facts.{Passes, Same, Facts}

fit : (d : Lists) (t : Float) (words : ℕ) → clearance.Held d t → Passes clearance d t words → FitCall d.segments d.nodes t
fit d t words h p = fit_call d.segments d.nodes d.exemptions t words (record { segments-held = h.0; nodes-held = h.1; threshold-held = h.2 }) p

refuses : (d : Lists) (t : Float) (a words : ℕ) (r : Refusal) → first_of (clearance.conditions d t words) ≡ Err r → clearance.result (clearance.answer d t a words) ≡ clearance.refused (number_of r)
unfolding clearance_answer result_of
refuses d t a words r e = rw e

settles : (d : Lists) (t : Float) (a words : ℕ) → Passes clearance d t words
    → clearance.result (clearance.answer d t a words) ≡ cond (leb (clearance.count d t) a) (clearance.accepted (clearance.figures d t) (clearance.count d t)) (clearance.refused 7)
unfolding settle all_pairs
settles d t a words p = result_settles d.segments d.nodes d.exemptions t a words p

apart : (g : Figures) (n : ℕ) → clearance.accepted g n ≡ clearance.refused 7 → ⊥
apart g n z = let f : ◌≡◌ {A = ℕ} 0 7 = ap (λ (r : ℕ × EdgeNodeClearance). r.0) z in omega arith

same : (d e : Lists) (t : Float) (words : ℕ) → clearance.Reordered d e → clearance.Held d t → Passes clearance d t words → Same clearance d e t
unfolding all_pairs
same d e t words o h p =
    let f = fit d t words h p in
    let all = all-pairs-any_order (λ net. t) o.2 (lent_taken d.segments e.segments o.0) o.1 f.segments-fit f.nodes-fit in
    record { figures = ap (λ (c : Charged Figures). c.value) all; count = ap (λ (c : Charged Figures). c.cost) all }

walks : (d : Lists) (t : Float) (words : ℕ) → clearance.Held d t → Passes clearance d t words → clearance.walk d t ≡ record { value = clearance.figures d t; cost = clearance.count d t }
unfolding all_pairs
walks d t words h p = let f = fit d t words h p in walk-all-pairs (exemptions d.exemptions) (λ net. t) (segments d.segments) (nodes d.nodes) (λ net. f.threshold-fit) f.segments-fit f.nodes-fit

numbers : (d : Lists) (t : Float) (words : ℕ) → clearance.Held d t → Passes clearance d t words → All Reported (clearance.floats (clearance.figures d t))
unfolding figures
numbers d t words h p = let f = fit d t words h p in least_reported _ (distances_good (exemptions d.exemptions) (segments d.segments) (nodes d.nodes) f.segments-fit f.nodes-fit)

pub clearance_facts : Facts clearance
clearance_facts = record { refuses = refuses; settles = settles; apart = apart; same = same; walks = walks; numbers = numbers }
