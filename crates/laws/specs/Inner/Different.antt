-- On the notion of specs/Different.antt: what only contracts of inner functions and proofs cite.
use Rattle.std.specs.Prelude.{List, [], ◌∷◌, Bool, not, ℕ, ◌+◌, eqb}
use Rattle.laws.specs.Lists.{Mem, some_of, bit}

-- x is one of the numbers
abbrev pub among : ℕ → List ℕ → Bool
among x l = some_of (λ y. eqb x y) l

-- how many different numbers there are: a number counts where no later one equals it
unfoldable pub different : List ℕ → ℕ
different [] = 0
different (x ∷ l) = bit (not (among x l)) + different l

-- no number twice
abbrev pub Different : List ℕ → Type 0
Different [] = Unit {0}
Different (x ∷ l) = (Mem x l → ⊥) × Different l
