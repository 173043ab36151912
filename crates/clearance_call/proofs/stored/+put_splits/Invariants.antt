use Rattle.clearance_call.proofs.stored.+put_splits.Given as goal

-- proposed from what the function passes where it calls itself
abbrev pub decreases-put_splits : goal.decreases-put_splits
decreases-put_splits l = l.n
