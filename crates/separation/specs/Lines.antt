-- The lines of one orientation (SCOPE 5.8): the different fixed values of its rows, and the levels of the tree over them.
use Rattle.std.specs.Prelude.{cond, List, [], ◌∷◌, map, ℕ, suc, ◌-◌, ltb}
use Rattle.std.specs.Float.Ieee.{size}
use Rattle.laws.specs.Different.{distinct}
use Rattle.rows.specs.Rows.{Row}

-- the different fixed values of rows in order, ascending
unfoldable pub lines : List Row → List ℕ
lines l = distinct (map (λ r. r.line) l)

-- the index of a fixed value among them
unfoldable pub index : List ℕ → ℕ → ℕ
index [] p = 0
index (q ∷ l) p = let i = index l p in cond (ltb q p) (suc i) 0

-- SCOPE 4.4, 5.8, 15.4: the levels h of the tree over n lines: "2 to the power h its leaf count", the least power of two that is not below n. h is the number of binary digits of n - 1.
unfoldable pub levels : ℕ → ℕ
levels n = size (n - 1)
