-- An answer as an exported call returns and writes it: the status, and the words of the report, zeros where the call was refused.
use Rattle.std.specs.Prelude.{List, ℕ, replicate, Result, Ok, Err}
use Rattle.drawing.specs.declared.refusal.Refusal.{Refusal}
use Rattle.drawing.specs.Refusals.{number_of}

unfoldable pub status : {A : Type 0} → Result A Refusal → ℕ
status (Ok a) = 0
status (Err r) = number_of r

unfoldable pub words_or_zeros : {A : Type 0} → (A → List ℕ) → ℕ → Result A Refusal → List ℕ
words_or_zeros words n (Ok a) = words a
words_or_zeros words n (Err r) = replicate n 0
