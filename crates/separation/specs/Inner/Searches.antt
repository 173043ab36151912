-- The answer of a search of specs/Searches.antt, which only contracts of inner functions and proofs cite.
use Rattle.drawing.specs.declared.refusal.Refusal.{Refusal}
use Rattle.drawing.specs.declared.refusal.Refusal.TheVariants.{WorkLimitExceeded}
use Rattle.std.specs.Prelude.{ℕ, Option, Result, Ok, Err}
use Rattle.laws.specs.Inner.Allowance.{Outcome, spent, left}
use Rattle.separation.specs.declared.search.Search.{Search}

-- SCOPE 15.6: "a search answers found, empty or spent", by the outcome of its run within an allowance
unfoldable pub search_of : Outcome (Option ℕ) → Result Search Refusal
search_of spent = Err WorkLimitExceeded
search_of (left found m) = Ok (record { line = found; remaining = m })
