-- On the notion of specs/Rows.antt: what only contracts of inner functions and proofs cite.
use Rattle.std.specs.Prelude.{List, ℕ, ◌+◌, eqb}
use Rattle.laws.specs.Lists.{count}
use Rattle.rows.specs.Rows.{at_least_two}

-- how many of these orientation bytes are o
abbrev pub of_orientation : ℕ → List ℕ → ℕ
of_orientation o l = count (λ b. eqb b o) l

-- SCOPE 4.5: "segments in orientations holding at least two", from the column of their orientation bytes
unfoldable pub segments_to_sweep : List ℕ → ℕ
segments_to_sweep l = at_least_two (of_orientation 1 l) + at_least_two (of_orientation 0 l)
