-- Which refusal applies (SCOPE 7.0, 8.4): one whose condition as stated holds, not one whose number a call returns; and in which order they are checked.
use Rattle.std.specs.Prelude.{◌≡◌, Bool, true, false, List, [], ◌∷◌, ◌++◌, ℕ, ◌≤◌, ◌<◌}
use Rattle.laws.specs.Lists.{All}
use Rattle.drawing.specs.declared.refusal.Refusal.{Refusal}
use Rattle.drawing.specs.declared.refusal.Refusal.TheVariants.{MalformedFile, ColumnsDiffer, TooManyEntries, ShortScratch, InvalidInput, OffGrid, WorkLimitExceeded, ShortOutput}

-- of conditions, each with its refusal, none holds
abbrev pub NoneApplies : List (Bool × Refusal) → Type 0
NoneApplies l = All (λ c. c.0 ≡ false) l

-- SCOPE 8.1: "the first refusal that applies in document 01's list", the conditions being in checking order: its condition holds, and none before it does
pub record First (l : List (Bool × Refusal)) (refusal : Refusal) : Type 0 where
  pub before : List (Bool × Refusal)
  pub after : List (Bool × Refusal)
  pub it : l ≡ before ++ ((true, refusal) ∷ after)
  pub none_before : NoneApplies before

-- SCOPE 7.0, "Turned down, in checking order": the place of each in that order, which is the order of the numbers but for 8, which is checked before 7
unfoldable pub place_in_list : Refusal → ℕ
place_in_list MalformedFile = 1
place_in_list ColumnsDiffer = 2
place_in_list TooManyEntries = 3
place_in_list ShortScratch = 4
place_in_list InvalidInput = 5
place_in_list OffGrid = 6
place_in_list ShortOutput = 7
place_in_list WorkLimitExceeded = 8

-- conditions that are checked in this order, from a place on: none follows one with a later place, and the spent allowance follows them all
abbrev pub InOrder : ℕ → List (Bool × Refusal) → Type 0
InOrder place [] = place < place_in_list WorkLimitExceeded
InOrder place (c ∷ l) = (place ≤ place_in_list c.1) × InOrder (place_in_list c.1) l
