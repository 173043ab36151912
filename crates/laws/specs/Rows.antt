-- Rows of words in dictionary order. Every order of SCOPE 5 and 9.4 compares a few natural numbers; the first that differ decide.
use Rattle.std.specs.Prelude.{Bool, true, false, cond, List, [], ◌∷◌, ℕ, ltb, eqb}

-- the first row may come before the second
unfoldable pub row_le : List ℕ → List ℕ → Bool
row_le [] b = true
row_le (x ∷ a) [] = false
row_le (x ∷ a) (y ∷ b) = let r = row_le a b in cond (ltb x y) true (cond (eqb x y) r false)
