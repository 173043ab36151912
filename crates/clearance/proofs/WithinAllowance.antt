-- The walk within an allowance gives the answer that follows the checks. Assumes nothing.
use Rattle.std.specs.Prelude.{Err}
use Rattle.std.proofs.Common.{◌≡◌, ℕ, List, ap, ◌∙◌}
use lib.Ieee.{Float}
use Rattle.laws.specs.Lists.{All}
use Rattle.laws.specs.Charged.{settle}
use Rattle.laws.specs.Inner.Allowance.{within, reply}
use Rattle.laws.proofs.Runs.{settle-within}
use Rattle.drawing.specs.declared.refusal.Refusal.TheVariants.{WorkLimitExceeded}
use Rattle.drawing.specs.Entries.{Segment, Node, Exemption}
use Rattle.clearance.specs.Walk.{walk_all}
use Rattle.clearance.specs.Answer.{accepted, all_pairs}
use Rattle.drawing.specs.Held.{FitSegment}
use Rattle.drawing.proofs.Fit.{FitNode, FitThreshold}
use Rattle.clearance.proofs.AllPairs.{walk-all-pairs}

-- for fit lists, the answer from the walk of all segments within the allowance is that of the all-pairs report
pub reply-within : (ex : List Exemption) (t : ℕ → Float) (ss : List Segment) (ns : List Node) → ((net : ℕ) → FitThreshold (t net)) → All FitSegment ss → All FitNode ns → (allowance : ℕ)
    → reply accepted (Err WorkLimitExceeded) allowance (within allowance (walk_all ex t ss ns)) ≡ settle accepted (Err WorkLimitExceeded) allowance (all_pairs ex t ss ns)
reply-within ex t ss ns q p h allowance =
    settle-within accepted (Err WorkLimitExceeded) allowance (walk_all ex t ss ns)
    ∙ ap (settle accepted (Err WorkLimitExceeded) allowance) (walk-all-pairs ex t ss ns q p h)
