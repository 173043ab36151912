use Rattle.clearance_call.proofs.StoredLeaves.{leaf-put}
use Rattle.clearance_call.proofs.stored.put_leaf.Goals as goal

pub returns : goal.returns
returns c = leaf-put _ _ _ _ _ c.requires c.put_box.ensures
