-- A separation call that meets no refusal before 7: its segments are fit, and its result depends on its allowance only through whether that reaches the visit count. Assumes nothing.
use Rattle.std.specs.Prelude.{Ok, Err}
use mathlib.Core.Path.{◌≡◌, refl, sym, ap, ◌∙◌}
use mathlib.Core.Bool.{Bool, true, false, cond}
use Prim.Native.Nat.{ℕ}
use Rattle.laws.specs.Lists.{All}
use Rattle.laws.specs.Charged.{Charged, reaches, settle}
use Rattle.drawing.specs.declared.refusal.Refusal.TheVariants.{WorkLimitExceeded}
use Rattle.drawing.specs.Entries.{SegmentColumns, segments}
use Rattle.drawing.specs.Refusals.{number_of, first_of}
use Rattle.drawing.specs.Held.{SegmentHeld}
use Rattle.separation.specs.Conditions.{separation_conditions}
use Rattle.separation.specs.Figures.{Figures}
use Rattle.separation.specs.Walk.{walk_all}
use Rattle.separation.specs.Answer.{report_of, accepted, all_pairs, separation_answer, zeros, result_of}
use Rattle.separation.proofs.Checked.{separation-passes}
use Rattle.separation.proofs.Fit.{Fit, fit_all}
use Rattle.separation.proofs.AnyOrder.{walk-all-pairs}

-- ---- a call that meets no earlier refusal
module _ (s : SegmentColumns) (words : ℕ) (passed : first_of (separation_conditions s words) ≡ Ok tt) where
  answer-is : (m : ℕ) → separation_answer s m words ≡ settle accepted (Err WorkLimitExceeded) m (all_pairs (segments s))
  unfolding separation_answer
  answer-is m = rw passed

  -- SCOPE 8.3: "A call whose allowance reaches it returns the all-pairs report, whose visits are that count; a call whose allowance does not returns the spent-allowance refusal", which is 7
  pub result_settles : (m : ℕ) → result_of (separation_answer s m words) ≡ settle (λ f n. (0, report_of f n)) (7, zeros) m (all_pairs (segments s))
  unfolding settle result_of number_of
  result_settles m = ap result_of (answer-is m) ∙ go (reaches m (all_pairs (segments s))) (all_pairs (segments s))
    where
      go : (b : Bool) (c : Charged Figures) → result_of (cond b (accepted c.value c.cost) (Err WorkLimitExceeded)) ≡ cond b (0, report_of c.value c.cost) (7, zeros)
      go true c = refl
      go false c = refl

  -- none of its segments is unfit
  pub passed_fit : All SegmentHeld (segments s) → All Fit (segments s)
  passed_fit held = fit_all (segments s) held (separation-passes s words passed).fit

  -- and the answer is what the walk settles
  pub walk_settles : All SegmentHeld (segments s) → (m : ℕ) → separation_answer s m words ≡ settle accepted (Err WorkLimitExceeded) m (walk_all (segments s))
  walk_settles held m = answer-is m ∙ ap (settle accepted (Err WorkLimitExceeded) m) (sym (walk-all-pairs (segments s) (passed_fit held)))
