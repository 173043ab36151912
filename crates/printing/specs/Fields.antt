-- The fields of a sheet's lines, as the bytes of text.
use Rattle.std.specs.Prelude.{List, [], ◌∷◌, ◌++◌, ℕ, Option, Some, None, Float}
use Rattle.text.specs.Text.{float_text}

-- SCOPE 11.3: "an absent gap is `none`"
unfoldable pub none_text : List ℕ
none_text = 110 ∷ 111 ∷ 110 ∷ 101 ∷ []

unfoldable pub gap_text : Option Float → List ℕ
gap_text None = none_text
gap_text (Some x) = float_text x

-- SCOPE 11.3: "one space parts two fields, a line feed closes each line": the fields after the first one of a line
unfoldable pub fields : List (List ℕ) → List ℕ
fields [] = 10 ∷ []
fields (f ∷ l) = 32 ∷ f ++ fields l
