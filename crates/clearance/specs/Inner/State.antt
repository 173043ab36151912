-- What inner contracts cite, and no reader of the answer needs: the state that a walk passes to the next, the tests on the edges of two boxes, the order of two halves, and the answer from the outcome of the walks.
use Rattle.drawing.specs.declared.refusal.Refusal.{Refusal}
use Rattle.std.specs.Prelude.{◌≡◌, ℕ, ◌-◌, Bool, cond, ◌&&◌, Float, Result, Ok, Err}
use Rattle.std.specs.Float.{nan, binary64}
use Rattle.std.specs.Float.Ieee.{sub, lt}
use Rattle.laws.specs.Inner.Allowance.{Outcome, spent, left}
use Rattle.drawing.specs.Inner.LeastFloats.{gap_of_float}
use Rattle.boxes.specs.declared.aabb.Aabb.{Aabb}
use Rattle.clearance.specs.declared.visit.Walking.{Walking}
use Rattle.clearance.specs.declared.report.EdgeNodeClearance.{EdgeNodeClearance}
use Rattle.clearance.specs.declared.halves.Subtree.{Subtree}
use Rattle.clearance.specs.declared.halves.Halves.{Halves}
use Rattle.clearance.specs.Figures.{Figures}
use Rattle.clearance.specs.Answer.{accepted}

-- the figures in a state
abbrev pub so_far : Walking → Figures
so_far w = record { least = gap_of_float w.least; violations = w.violations }

-- the state before the first walk: no pair measured, no distance yet, and the whole allowance remaining
abbrev pub at_start : ℕ → Walking
at_start allowance = record { violations = 0; least = nan; remaining = allowance }

-- the outcome of a run within the allowance, from what the code returns: its only refusal is that of a spent allowance
unfoldable pub outcome_of : Result Walking Refusal → Outcome Figures
outcome_of (Ok w) = left (so_far w) w.remaining
outcome_of (Err r) = spent

-- along one axis: d is less than the threshold beyond b, and c less than the threshold before a, each by one rounded subtraction
unfoldable pub axis_below : Float → Float → Float → Float → Float → Bool
axis_below a b c d t = lt (sub binary64 d b) t && lt (sub binary64 a c) t

-- the farthest edges of q are nearer to p than the threshold: where that is above 0, every box in q is too (Below: `below-within`)
unfoldable pub edges_below : Aabb → Aabb → Float → Bool
edges_below p q t = axis_below p.left p.right q.left q.right t && axis_below p.top p.bottom q.top q.bottom t

-- two halves in the order in which they are walked: the nearer first, the left one on a tie
unfoldable pub nearer_first : Subtree → Subtree → Halves
nearer_first l r = cond (lt r.lower l.lower) (record { nearer = r; farther = l }) (record { nearer = l; farther = r })

-- the answer of a call whose checks passed and whose walks returned this: a refusal stays what it is
abbrev pub Answers : Result Walking Refusal → ℕ → Result EdgeNodeClearance Refusal → Type 0
Answers (Ok w) allowance a = a ≡ accepted (so_far w) (allowance - w.remaining)
Answers (Err r) allowance a = a ≡ Err r
