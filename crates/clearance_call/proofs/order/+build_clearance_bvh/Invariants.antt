use Rattle.clearance_call.proofs.order.+build_clearance_bvh.Given as goal

-- proposed from what the function passes where it calls itself
abbrev pub decreases-build_clearance_bvh : goal.decreases-build_clearance_bvh
decreases-build_clearance_bvh l = l.n
