-- Whether some entry of a list passes a test is what std's word says. Assumes nothing.
use mathlib.Core.Path.{◌≡◌, refl, ap}
use mathlib.Core.Bool.{Bool, ◌||◌}
use mathlib.Core.List.{List, [], ◌∷◌}
use Rattle.std.specs.List.{list_any}
use Rattle.laws.specs.Lists.{some_of}

pub some_any : {A : Type 0} (p : A → Bool) (l : List A) → some_of p l ≡ list_any p l
unfolding some_of
some_any p [] = refl
some_any p (x ∷ l) = ap (λ r. p x || r) (some_any p l)
