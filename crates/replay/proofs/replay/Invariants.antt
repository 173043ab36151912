-- `replay::replay` is safe: each turn counts at most one record.
use Rattle.std.proofs.Common.{◌+◌, ◌≤◌}
use Rattle.replay.proofs.replay.Given as goal

abbrev pub invariant-loop-turn : goal.invariant-loop-turn
invariant-loop-turn g l = l.tally.agree + l.tally.differ ≤ l._turn
