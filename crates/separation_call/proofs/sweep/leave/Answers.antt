-- `separation_call::sweep::leave` meets its contract: the net is counted once less and then its line's summary is set. Assumes nothing.
use Rattle.std.proofs.lemmas.Result.{err_from_is_err_and}
use Rattle.separation_call.proofs.SweepWork.{pays_not, pays, taken_not, taken_out}
use mathlib.Core.Path.{refl}
use Rattle.separation_call.proofs.sweep.leave.Goals as goal

pub returns-in_err-remaining : goal.returns-in_err-remaining
returns-in_err-remaining c =
    let a = c.args in
    let set = c.set in
    let net = c.end_net-summary in
    let p = err_from_is_err_and c.from_residual.result c.from_residual.ensures.1 in
    rw (p.1, p.2) (record {
      pays = pays_not _ a.state _ set.ensures.charged _ c.in_err-remaining.was;
      taken_out = taken_not a.n _ _ _ _ a.work.now _ _;
    })

pub returns : goal.returns
returns c =
    let a = c.args in
    let set = c.set in
    let net = c.end_net-summary in
    record {
      pays = pays _ a.state _ set.ensures.charged _ c.in_ok-remaining.was;
      taken_out = taken_out a.n _ _ a.work.now net.new.c set.new.tree _ _ net.ensures.rest net.auto.c c.requires.endable.room refl (λ H k. set.ensures.renewed H _ k c.in_ok-remaining.was) _ _ _ net.ensures.counted;
    }
