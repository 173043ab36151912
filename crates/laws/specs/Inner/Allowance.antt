-- A charged run within the remaining visits of an allowance, as inner functions compute it. Only contracts of inner functions cite this; `settle` is what a call answers.
use Rattle.std.specs.Prelude.{cond, ℕ, ◌-◌, leb}
use Rattle.laws.specs.Charged.{Charged}

-- the outcome of a run: its value with the remaining visits, or nothing where the allowance does not reach the cost
pub data Outcome (A : Type 0) : Type 0 where
  spent : Outcome A
  left : A → ℕ → Outcome A

unfoldable pub within : {A : Type 0} → ℕ → Charged A → Outcome A
within m c = cond (leb c.cost m) (left c.value (m - c.cost)) spent

-- the next run within the remaining visits; a spent allowance stays spent
unfoldable pub onward : {A B : Type 0} → Outcome A → (A → ℕ → Outcome B) → Outcome B
onward spent k = spent
onward (left a m) k = k a m

-- what a call answers, from its run's outcome: the visits used are the allowance less the remaining visits
unfoldable pub reply : {A R : Type 0} → (A → ℕ → R) → R → ℕ → Outcome A → R
reply report refusal m spent = refusal
reply report refusal m (left a r) = report a (m - r)
