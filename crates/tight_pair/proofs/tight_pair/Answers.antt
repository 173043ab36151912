-- `tight_pair::tight_pair` meets its contract: a refusal is returned, and otherwise the best pair of all is tight. Assumes nothing.
use mathlib.Core.Path.{sym, ◌∙◌}
use borrow.Author.Rules.{rules}
use Rattle.std.proofs.lemmas.Result.{err_from_is_err_and}
use Rattle.drawing.specs.Entries.{lent_segments, lent_nodes, lent_exemptions}
use Rattle.tight_pair.proofs.PairInput.{pair-exemptions, pair_columns}
use Rattle.tight_pair.proofs.PairLaws.{answer-refused, answered}
use Rattle.tight_pair.proofs.tight_pair.Goals as goal

pub returns-in_err-check_tight_pair : goal.returns-in_err-check_tight_pair
returns-in_err-check_tight_pair c = let p = err_from_is_err_and c.from_residual.result c.from_residual.ensures.1 in rw (p.1, p.2) (answer-refused _ _ _ _ (sym c.in_err-check_tight_pair.ensures))

pub look_at_segments-best-requires : goal.look_at_segments-best-requires
look_at_segments-best-requires c = pair_columns _ _ _ (sym c.check_tight_pair.ensures ∙ c.in_ok-check_tight_pair.was)

pub returns : goal.returns
returns c =
    let s = lent_segments c.args.segments.now in
    let n = lent_nodes c.args.nodes.now in
    let e = lent_exemptions c.args.exemptions.now in
    let passed = sym c.check_tight_pair.ensures ∙ c.in_ok-check_tight_pair.was in
    let agree = pair-exemptions s n e passed in
    let columns = pair_columns s n e passed in
    answered s n e passed (c.held.ensures.floats columns.0) (c.held-2.ensures columns.1) _ _ (c.gather.ensures agree.0 agree.1) _ c.look_at_segments-best.ensures _ (search rules)
