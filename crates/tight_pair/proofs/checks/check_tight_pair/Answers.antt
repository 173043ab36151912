-- `tight_pair::checks::check_tight_pair` meets its contract: the conditions of the lists come first, then those of the entries. Assumes nothing.
use mathlib.Core.Path.{refl, sym, ◌∙◌}
use Rattle.std.proofs.lemmas.Result.{err_from_is_err_and}
use Rattle.tight_pair.specs.Conditions.{tight_pair_conditions}
use Rattle.drawing.proofs.FirstRefusal.{first_stop, first_go_on, entries_compared}
use Rattle.tight_pair.proofs.checks.check_tight_pair.Goals as goal

pub returns-in_err-check_lists : goal.returns-in_err-check_lists
unfolding tight_pair_conditions
returns-in_err-check_lists c = let p = err_from_is_err_and c.from_residual.result c.from_residual.ensures.1 in rw (p.1, p.2) (first_stop _ _ _ _ c.in_err-check_lists.ensures refl)

pub returns : goal.returns
unfolding tight_pair_conditions
returns c = c.check_entries.ensures ∙ entries_compared _ _ _ (sym c.check_lists.ensures ∙ c.in_ok-check_lists.was) ∙ sym (first_go_on _ _ _ c.check_lists.ensures c.in_ok-check_lists.was)
