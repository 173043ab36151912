-- The different numbers of a sorted list, each once.
use Rattle.std.specs.Prelude.{List, [], ◌∷◌, Bool, true, not, ℕ, eqb}
use Rattle.laws.specs.Lists.{put}

-- x differs from the first number of a list
abbrev pub differs : ℕ → List ℕ → Bool
differs x [] = true
differs x (y ∷ l) = not (eqb x y)

-- of equal neighbours only the last stays: of sorted numbers, the different ones
unfoldable pub distinct : List ℕ → List ℕ
distinct [] = []
distinct (x ∷ l) = put (differs x l) x (distinct l)
