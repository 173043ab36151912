-- What the demands are proved from, for each measure. Assumes nothing.
use Rattle.std.specs.Prelude.{Ok, Err}
use mathlib.Core.Path.{◌≡◌}
use mathlib.Core.Bool.{cond}
use Prim.Native.Nat.{ℕ}
use Rattle.laws.specs.Lists.{All}
use Rattle.drawing.specs.declared.refusal.Refusal.{Refusal}
use Rattle.drawing.specs.Refusals.{number_of, first_of}
use Rattle.demands.specs.Measures.{Measure, Reported}

abbrev pub Passes : (m : Measure) → m.Drawing → m.Settings → ℕ → Type 0
Passes m d s words = first_of (m.conditions d s words) ≡ Ok tt

-- two drawings have one report
pub record Same (m : Measure) (d e : m.Drawing) (s : m.Settings) : Type 0 where
  pub figures : m.figures d s ≡ m.figures e s
  pub count : m.count d s ≡ m.count e s

pub record Facts (m : Measure) : Type 0 where
  -- the answer of a call whose checks refuse it
  pub refuses : (d : m.Drawing) (s : m.Settings) (a : m.Allowance) (words : ℕ) (r : Refusal) → first_of (m.conditions d s words) ≡ Err r → m.result (m.answer d s a words) ≡ m.refused (number_of r)
  -- and of one whose checks pass
  pub settles : (d : m.Drawing) (s : m.Settings) (a : m.Allowance) (words : ℕ) → Passes m d s words → m.result (m.answer d s a words) ≡ cond (m.reaches a (m.count d s)) (m.accepted (m.figures d s) (m.count d s)) (m.refused 7)
  -- a report is not the spent-allowance refusal
  pub apart : (f : m.Figures) (n : ℕ) → m.accepted f n ≡ m.refused 7 → ⊥
  -- the order of the lists decides nothing in the report
  pub same : (d e : m.Drawing) (s : m.Settings) (words : ℕ) → m.Reordered d e → m.Held d s → Passes m d s words → Same m d e s
  -- the walk's figures and visits
  pub walks : (d : m.Drawing) (s : m.Settings) (words : ℕ) → m.Held d s → Passes m d s words → m.walk d s ≡ record { value = m.figures d s; cost = m.count d s }
  -- every float of the figures has one bit pattern
  pub numbers : (d : m.Drawing) (s : m.Settings) (words : ℕ) → m.Held d s → Passes m d s words → All Reported (m.floats (m.figures d s))
