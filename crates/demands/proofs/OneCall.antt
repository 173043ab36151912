-- The demands of one measure, from its facts. Assumes nothing.
use Rattle.std.specs.Prelude.{Result}
use mathlib.Core.Path.{◌≡◌, refl, sym, ap, ◌∙◌}
use mathlib.Core.Logic.{◌⊎◌, inl, inr, ◌↔◌}
use mathlib.Core.Bool.{Bool, true, false, cond}
use lib.ListN.{length}
use Rattle.laws.specs.Charged.{Charged}
use Rattle.laws.proofs.Tests.{cond_true, cond_false}
use Rattle.drawing.specs.declared.refusal.Refusal.{Refusal}
use Rattle.drawing.specs.Refusals.{number_of, scratch_after}
use Rattle.demands.specs.Applies.{First, NoneApplies}
use Rattle.demands.specs.Measures.{Measure, Run, result_of_run, visit_count, earlier, all_pairs_report}
use Rattle.demands.specs.Demand1.{Returns, cleared, Unfit, Refusing}
use Rattle.demands.specs.Demand2.{AllPairs}
use Rattle.demands.specs.Demand3.{AnyTwo, BothOrNeither, Depends}
use Rattle.demands.proofs.FirstMet.{Some, first-refused, none_passed, some_or_none}
use Rattle.demands.proofs.Facts.{Passes, Same, Facts}

module _ (m : Measure) (facts : Facts m) where
  -- a run's checks pass where no refusal applies
  passes : (r : Run m) → NoneApplies (earlier m r) → Passes m r.drawing r.settings (length r.before)
  passes r h = none_passed (earlier m r) h

  -- what it then returns
  settled : (r : Run m) → NoneApplies (earlier m r) → result_of_run m r ≡ cond (m.reaches r.allowance (visit_count m r)) (all_pairs_report m r) (m.refused 7)
  settled r h = ap m.result r.says.answers ∙ facts.settles r.drawing r.settings r.allowance (length r.before) (passes r h)

  reached : (r : Run m) → NoneApplies (earlier m r) → m.reaches r.allowance (visit_count m r) ≡ true → result_of_run m r ≡ all_pairs_report m r
  reached r h t = settled r h ∙ cond_true (m.reaches r.allowance (visit_count m r)) _ _ t

  short : (r : Run m) → NoneApplies (earlier m r) → m.reaches r.allowance (visit_count m r) ≡ false → result_of_run m r ≡ m.refused 7
  short r h f = settled r h ∙ cond_false (m.reaches r.allowance (visit_count m r)) _ _ f

  -- and the scratch after it
  clears : (r : Run m) → NoneApplies (earlier m r) → r.after ≡ cleared r.before
  unfolding scratch_after
  clears r h = r.says.leaves ∙ ap (λ (c : Result Unit Refusal). scratch_after c r.before) (passes r h)

  -- ---- demand 1
  some-unfit : (r : Run m) → Some (earlier m r) ⊎ NoneApplies (earlier m r) → Unfit m r ⊎ NoneApplies (earlier m r)
  some-unfit r (inl s) = inl (record { refusal = s.refusal; first = s.first })
  some-unfit r (inr h) = inr h

  refused : (r : Run m) (why : Refusal) → First (earlier m r) why → Returns m r (m.refused (number_of why)) r.before
  unfolding scratch_after
  refused r why f =
      let is = first-refused (earlier m r) why f in
      record {
        returned = ap m.result r.says.answers ∙ facts.refuses r.drawing r.settings r.allowance (length r.before) why is;
        left = r.says.leaves ∙ ap (λ (c : Result Unit Refusal). scratch_after c r.before) is;
      }

  pub refusing : Refusing m
  refusing = record {
    unfit_or_fit = λ r. some-unfit r (some_or_none (earlier m r));
    unfit = refused;
    spent = λ r h f. record { returned = short r h f; left = clears r h };
    accepted = λ r h t. record { returned = reached r h t; left = clears r h };
  }

  -- ---- demand 2
  held : (r : Run m) → NoneApplies (earlier m r) → m.Held r.drawing r.settings
  held r h = r.says.held (passes r h)

  walked : (r : Run m) → NoneApplies (earlier m r) → m.walk r.drawing r.settings ≡ record { value = m.figures r.drawing r.settings; cost = visit_count m r }
  walked r h = facts.walks r.drawing r.settings (length r.before) (held r h) (passes r h)

  pub all-pairs : AllPairs m
  all-pairs = record {
    numbers = λ r h. facts.numbers r.drawing r.settings (length r.before) (held r h) (passes r h);
    walk = walked;
    returned = λ r h t. reached r h t ∙ ap (m.accepted (m.figures r.drawing r.settings)) (sym (ap (λ (c : Charged m.Figures). c.cost) (walked r h)));
  }

  -- ---- demand 3
  module _ (a b : Run m) (two : AnyTwo m a b) where
    same : Same m a.drawing b.drawing a.settings
    same = facts.same a.drawing b.drawing a.settings (length a.before) two.reordered (held a two.one-fit) (passes a two.one-fit)

    one-count : visit_count m a ≡ visit_count m b
    one-count = same.count ∙ ap (m.count b.drawing) two.same-settings

    one_report : all_pairs_report m b ≡ all_pairs_report m a
    one_report = sym (λ i. m.accepted ((same.figures ∙ ap (m.figures b.drawing) two.same-settings) i) (one-count i))

    -- both results over the one count and the one report
    first-is : result_of_run m a ≡ cond (m.reaches a.allowance (visit_count m a)) (all_pairs_report m a) (m.refused 7)
    first-is = settled a two.one-fit

    second_is : result_of_run m b ≡ cond (m.reaches b.allowance (visit_count m a)) (all_pairs_report m a) (m.refused 7)
    second_is = settled b two.other-fit ∙ (λ i. cond (m.reaches b.allowance (sym one-count i)) (one_report i) (m.refused 7))

    to : (x y : Bool) → cond x (all_pairs_report m a) (m.refused 7) ≡ cond y (all_pairs_report m a) (m.refused 7) → ((x ≡ true) × (y ≡ true)) ⊎ ((x ≡ false) × (y ≡ false))
    to true true e = inl (refl, refl)
    to true false e = absurd (facts.apart _ _ e)
    to false true e = absurd (facts.apart _ _ (sym e))
    to false false e = inr (refl, refl)

    from : (x y : Bool) → ((x ≡ true) × (y ≡ true)) ⊎ ((x ≡ false) × (y ≡ false)) → x ≡ y
    from x y (inl e) = e.0 ∙ sym e.1
    from x y (inr e) = e.0 ∙ sym e.1

    equal : (result_of_run m a ≡ result_of_run m b) ↔ BothOrNeither m (visit_count m a) a.allowance b.allowance
    equal =
        let x = m.reaches a.allowance (visit_count m a) in
        let y = m.reaches b.allowance (visit_count m a) in
        (λ e. to x y (sym first-is ∙ e ∙ second_is), λ h. first-is ∙ ap (λ (z : Bool). cond z (all_pairs_report m a) (m.refused 7)) (from x y h) ∙ sym second_is)

  pub depends : Depends m
  depends = record { one-count = one-count; equal = equal; reached = reached; spent = short }
