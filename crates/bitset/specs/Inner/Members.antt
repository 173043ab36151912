-- A set of indices stored as the bits of 64-bit words: index p is in it where bit p % 64 of word p / 64 is set. Beyond the words there are no members.
use Rattle.std.specs.Prelude.{Bool, cond, List, [], ◌∷◌, ◌++◌, ℕ, zero, suc, ◌+◌, ◌-◌, ◌*◌, ◌/◌, ◌%◌, ◌^◌, leb, eqb, length, get_or, set, take, Option, Some, None}

-- bit k of x is set
unfoldable pub bit_at : ℕ → ℕ → Bool
bit_at x k = eqb (x / 2 ^ k % 2) 1

-- p is in the set
unfoldable pub member : List ℕ → ℕ → Bool
member w p = bit_at (get_or w (p / 64) 0) (p % 64)

-- the words with p put in; where p is beyond them they stay as they are, since `set` changes nothing there
unfoldable pub inserted : List ℕ → ℕ → List ℕ
inserted w p = cond (member w p) w (set w (p / 64) (get_or w (p / 64) 0 + 2 ^ (p % 64)))

-- the words with p taken out, likewise
unfoldable pub removed : List ℕ → ℕ → List ℕ
removed w p = cond (member w p) (set w (p / 64) (get_or w (p / 64) 0 - 2 ^ (p % 64))) w

-- the rest below `to`: the word of `to` without the bits from `to` on; 0 beyond the words
unfoldable pub rest_below : List ℕ → ℕ → ℕ
rest_below w to = get_or w (to / 64) 0 % 2 ^ (to % 64)

-- the greatest member from `from` on and below `to`, searched from the top, with the rest below it
unfoldable pub last_below : List ℕ → ℕ → ℕ → Option (ℕ × ℕ)
last_below w from zero = None
last_below w from (suc t) = cond (leb from t) (cond (member w t) (Some (t, rest_below w t)) (last_below w from t)) None

-- the words before that of `to`, or all of them where `to` is beyond them, and `rest` after these
unfoldable pub words_with : List ℕ → ℕ → ℕ → List ℕ
words_with w to rest = take (to / 64) w ++ rest ∷ []

-- the greatest member of these words from `from` on, with the rest below it; where `rest` is the rest below `to` this is the greatest member of w from `from` on and below `to` (the law `last-with`)
unfoldable pub last_with : List ℕ → ℕ → ℕ → ℕ → Option (ℕ × ℕ)
last_with w from to rest = last_below (words_with w to rest) from (64 * length (words_with w to rest))
