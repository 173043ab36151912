-- `exemptions::net_range` meets its contract: the net's words are those from its least word on and before the next net's. Assumes nothing.
use native.Mathlib.Omega.{arith}
use Rattle.exemptions.proofs.ExemptLaws.{own-between, own-last}
use Rattle.exemptions.proofs.net_range.Goals as goal

pub returns-then-net-eq4294967295 : goal.returns-then-net-eq4294967295
returns-then-net-eq4294967295 c = λ h. own-last c.args.words.now _ _ _ (c.first_at_least-from.ensures (omega arith) h.room h.order) c.if-net-eq4294967295.true (λ i. (c.type_inv.words i).fits)

pub returns : goal.returns
returns c = λ h.
    let f = c.first_at_least-from.ensures (omega arith) h.room h.order in
    own-between c.args.words.now _ _ _ f _ (c.first_at_least-to.ensures f.to h.room (λ i j p q t. h.order i j (omega arith) q t))
