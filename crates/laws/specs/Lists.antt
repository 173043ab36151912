-- Membership, tests, counts and folds over a list, and the lists of all pairs that the figures of SCOPE 3.0 are defined over.
use Rattle.std.specs.Prelude.{◌≡◌, ◌⊎◌, List, [], ◌∷◌, ◌++◌, Bool, true, false, ◌||◌, ℕ, ◌+◌}

-- x is an entry of the list
abbrev pub Mem : {A : Type 0} → A → List A → Type 0
Mem x [] = ⊥
Mem x (y ∷ l) = (x ≡ y) ⊎ Mem x l

-- P holds of each entry
abbrev pub All : {A : Type 0} → (A → Type 0) → List A → Type 0
All P [] = Unit {0}
All P (x ∷ l) = P x × All P l

-- R holds of each entry and each later one
abbrev pub Pairwise : {A : Type 0} → (A → A → Type 0) → List A → Type 0
Pairwise R [] = Unit {0}
Pairwise R (x ∷ l) = ((y : _) → Mem y l → R x y) × Pairwise R l

-- some entry passes the test
unfoldable pub some_of : {A : Type 0} → (A → Bool) → List A → Bool
some_of p [] = false
some_of p (x ∷ l) = p x || some_of p l

abbrev pub put : {A : Type 0} → Bool → A → List A → List A
put true x l = x ∷ l
put false x l = l

-- h of those that pass the test, in their order
unfoldable pub chosen : {A C : Type 0} → (A → Bool) → (A → C) → List A → List C
chosen p h [] = []
chosen p h (x ∷ l) = put (p x) (h x) (chosen p h l)

-- those that pass the test
abbrev pub keep : {A : Type 0} → (A → Bool) → List A → List A
keep p l = chosen p (λ x. x) l

-- f over the entries, combined by an operation with the unit u: sums, greatest and least values
unfoldable pub fold : {A M : Type 0} → (M → M → M) → M → (A → M) → List A → M
fold ◌⊕◌ u f [] = u
fold ◌⊕◌ u f (x ∷ l) = ◌⊕◌ (f x) (fold ◌⊕◌ u f l)

abbrev pub bit : Bool → ℕ
bit true = 1
bit false = 0

-- the sum of f over the entries
abbrev pub sum : {A : Type 0} → (A → ℕ) → List A → ℕ
sum f l = fold ◌+◌ 0 f l

-- how many entries pass the test
abbrev pub count : {A : Type 0} → (A → Bool) → List A → ℕ
count p l = sum (λ x. bit (p x)) l

-- x with each entry of a list
abbrev pub beside : {A B : Type 0} → A → List B → List (A × B)
beside {A} {B} x [] = []
beside {A} {B} x (y ∷ l) = (x, y) ∷ beside x l

-- all pairs of an entry of one list with an entry of the other
unfoldable pub cross : {A B : Type 0} → List A → List B → List (A × B)
cross [] m = []
cross (x ∷ l) m = beside x m ++ cross l m

-- all pairs of two entries of one list at different indices, each unordered pair once, the earlier entry first
unfoldable pub pairs : {A : Type 0} → List A → List (A × A)
pairs [] = []
pairs (x ∷ l) = beside x l ++ pairs l
