-- What a summary of the nets that are active on some lines answers: it holds none, one, or at least two different ones.
use Rattle.std.specs.Prelude.{Bool, true, false, not, cond, ℕ, ◌-◌, leb, eqb}
use Rattle.separation.specs.declared.summary.NetSummary.{NetSummary}
use Rattle.separation.specs.declared.summary.NetSummary.TheVariants.{Nothing, One, Two}

-- some net of the summary is not n: of two different nets at least one is not
unfoldable pub summary_has_other : NetSummary → ℕ → Bool
summary_has_other Nothing n = false
summary_has_other (One a) n = not (eqb a n)
summary_has_other Two n = true

-- a summary as a word: 0 is no net, a net plus 1 is that net, any greater word is two nets
unfoldable pub summary_of_word : ℕ → NetSummary
summary_of_word w = cond (eqb w 0) Nothing (cond (leb w 4294967296) (One (w - 1)) Two)
