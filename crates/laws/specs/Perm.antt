-- Two lists that hold the same entries, each equally often. SCOPE 6.6: "two orders hold the same whole entries, bit by bit, each equally often".
-- `proofs/Perms.antt` shows that the definition says this: related lists count alike under every test, and where equality can be tested lists that count alike are related.
use Rattle.std.specs.Prelude.{List, [], ◌∷◌}

pub data Perm {A : Type 0} : List A → List A → Type 0 where
  none : Perm [] []
  first : {x : A} {l r : List A} → Perm l r → Perm (x ∷ l) (x ∷ r)
  swap : {x y : A} {l : List A} → Perm (x ∷ y ∷ l) (y ∷ x ∷ l)
  via : {l m r : List A} → Perm l m → Perm m r → Perm l r
