-- Numbers as the bytes of text. SCOPE 11.3.
use Rattle.std.specs.Prelude.{cond, List, [], ◌∷◌, ◌++◌, ℕ, zero, suc, ◌+◌, ◌/◌, ◌%◌, ltb, Float}
use Rattle.std.specs.Float.{binary64}
use Rattle.std.specs.Float.Ieee.{to_bits}

-- the byte of a digit, `0` to `9` and `a` to `f`; `?` for a number above 15, which is no digit
unfoldable pub glyph : ℕ → ℕ
glyph d = cond (ltb d 10) (48 + d) (cond (ltb d 16) (87 + d) 63)

-- the last k hexadecimal digits of a number
unfoldable pub hexadecimal : ℕ → ℕ → List ℕ
hexadecimal zero n = []
hexadecimal (suc k) n = hexadecimal k (n / 16) ++ (glyph (n % 16) ∷ [])

-- the digits of a number without leading zeros, so none for 0; the first number only bounds the steps
unfoldable pub leading : ℕ → ℕ → List ℕ
leading zero n = []
leading (suc k) zero = []
leading (suc k) (suc n) = leading k (suc n / 10) ++ (glyph (suc n % 10) ∷ [])

-- SCOPE 11.3: "counts decimal"; n steps are enough, since a number n above 0 has at most n digits, and 0 has one
unfoldable pub decimal : ℕ → List ℕ
decimal zero = glyph 0 ∷ []
decimal (suc n) = leading (suc n) (suc n)

-- SCOPE 11.3: "Floats are 16 lower-case hexadecimal digits of their bits"
unfoldable pub float_text : Float → List ℕ
float_text x = hexadecimal 16 (to_bits binary64 x)
