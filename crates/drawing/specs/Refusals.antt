-- The refusals' numbers, the first refusal that applies, what a call answers and what is in the scratch at exit.
use Rattle.std.specs.Prelude.{Bool, cond, List, [], ◌∷◌, ℕ, length, replicate, Result, Ok, Err}
use Rattle.drawing.specs.declared.refusal.Refusal.{Refusal}
use Rattle.drawing.specs.declared.refusal.Refusal.TheVariants.{MalformedFile, ColumnsDiffer, TooManyEntries, ShortScratch, InvalidInput, OffGrid, WorkLimitExceeded, ShortOutput}

-- SCOPE 7.1 to 7.8: the number of each refusal
unfoldable pub number_of : Refusal → ℕ
number_of MalformedFile = 1
number_of ColumnsDiffer = 2
number_of TooManyEntries = 3
number_of ShortScratch = 4
number_of InvalidInput = 5
number_of OffGrid = 6
number_of WorkLimitExceeded = 7
number_of ShortOutput = 8

-- the number of what a check returns: 0 where it passed, as for an accepted call
unfoldable pub number_of_check : Result Unit Refusal → ℕ
number_of_check (Ok u) = 0
number_of_check (Err r) = number_of r

-- conditions with their refusals, in checking order. SCOPE 7.0, 8.1: "the first refusal that applies"
unfoldable pub first_of : List (Bool × Refusal) → Result Unit Refusal
first_of [] = Ok tt
first_of (c ∷ l) = let r = first_of l in cond c.0 (Err c.1) r

-- the answer of a call: the first refusal that applies, else what follows
abbrev pub checked : {A : Type 0} → (Refusal → A) → Result Unit Refusal → A → A
checked refused (Ok u) a = a
checked refused (Err r) a = refused r

-- the scratch at exit. SCOPE 6.5: "After an accepted call or a spent allowance the whole scratch is zero"; an earlier refusal leaves it as it was
unfoldable pub scratch_after : Result Unit Refusal → List ℕ → List ℕ
scratch_after (Ok u) s = replicate (length s) 0
scratch_after (Err r) s = s
