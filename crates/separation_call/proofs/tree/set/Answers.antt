-- `separation_call::tree::set` meets its contract. The loop's invariant: the nodes from the cursor up to the root are still to be merged anew, and the visits so far are paid. The measure is the cursor. Assumes nothing.
use Rattle.separation_call.proofs.StoredSets.{spent_not_paid, set_stops, setting_stops, setting_goes_on, setting_pays, setting_renews}
use Rattle.separation_call.proofs.tree.set.Goals as goal

pub returns-then-remaining-eq0 : goal.returns-then-remaining-eq0
returns-then-remaining-eq0 c = record { charged = λ H e. set_stops _ c.if-remaining-eq0.true H; renewed = λ H m e x. absurd (spent_not_paid m x) }

pub returns-then-rest-eq0 : goal.returns-then-rest-eq0
returns-then-rest-eq0 c = record { charged = λ H e. setting_stops c.loop-cursor.invariant c.loop-cursor-test.true c.if-rest-eq0.true H e; renewed = λ H m e x. absurd (spent_not_paid m x) }

pub loop-cursor-preserved : goal.loop-cursor-preserved
loop-cursor-preserved c = setting_goes_on c.loop-cursor.invariant c.loop-cursor-test.true c.if-rest-eq0.false _ c.merged_word.ensures

pub returns : goal.returns
returns c = record { charged = λ H e. setting_pays c.loop-cursor.invariant c.loop-cursor-test.false H e; renewed = λ H m e x. setting_renews _ _ _ _ _ _ c.from.ensures c.requires.leaves c.requires.index_lt_leaves _ _ _ c.loop-cursor.invariant c.loop-cursor-test.false H e }
