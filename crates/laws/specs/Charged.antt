-- Charged runs: a value with its cost in visits (SCOPE 4), and what a call answers within its allowance.
use Rattle.std.specs.Prelude.{Bool, cond, List, [], ◌∷◌, ℕ, suc, ◌+◌, leb}

pub record Charged (A : Type 0) : Type 0 where
  pub value : A
  pub cost : ℕ

-- a value that costs nothing
abbrev pub free : {A : Type 0} → A → Charged A
free a = record { value = a; cost = 0 }

-- one visit, and then the run
abbrev pub visit : {A : Type 0} → Charged A → Charged A
visit c = record { value = c.value; cost = suc c.cost }

-- one run after another, which may depend on the first one's value: the costs add up
abbrev pub after : {A B : Type 0} → Charged A → (A → Charged B) → Charged B
after c k = record { value = (k c.value).value; cost = c.cost + (k c.value).cost }

-- a run for each entry of a list, each from the state that the run before it left
unfoldable pub runs : {S X : Type 0} → (S → X → Charged S) → S → List X → Charged S
runs step s [] = free s
runs step s (x ∷ l) = after (step s x) (λ s'. runs step s' l)

-- whether an allowance reaches the cost
abbrev pub reaches : {A : Type 0} → ℕ → Charged A → Bool
reaches m c = leb c.cost m

-- what a call answers (SCOPE 7.7, 8.3): the report of value and cost where its allowance reaches the cost, and the refusal where it does not
unfoldable pub settle : {A R : Type 0} → (A → ℕ → R) → R → ℕ → Charged A → R
settle report refusal m c = cond (reaches m c) (report c.value c.cost) refusal
