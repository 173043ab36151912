-- The indices of entries of one width: how many, what is at each, and the same indices moved by an offset. Assumes nothing.
use mathlib.Core.Path.{◌≡◌, refl, ap, ◌∙◌}
use mathlib.Core.Bool.{false}
use mathlib.Core.List.{List, [], ◌∷◌}
use Prim.Native.Nat.{ℕ, zero, suc, ◌+◌, ◌*◌, ◌<◌}
use native.Mathlib.Nat.{mul-suc, not-suc-le-zero, le_of_suc-le-suc}
use native.Mathlib.Omega.{arith}
use lib.ListN.{length, get_or, drop}
use lib.Seq.{drop-drop}
use Rattle.laws.specs.Lists.{some_of}
use Rattle.file.specs.Inner.Places.{places}

pub length-places : (w n : ℕ) (l : List ℕ) → length (places w n l) ≡ n
unfolding places
length-places w zero l = refl
length-places w (suc n) l = ap suc (length-places w n (drop w l))

pub places-at : (w n : ℕ) (l : List ℕ) (i : ℕ) → i < n → get_or (places w n l) i [] ≡ drop (w * i) l
unfolding places
places-at w zero l i h = absurd (not-suc-le-zero h)
places-at w (suc n) l zero h = let e : 0 ≡ w * 0 = omega arith in ap (λ (k : ℕ). drop k l) e
places-at w (suc n) l (suc i) h = let e : w + w * i ≡ w * suc i = omega (arith, mul-suc w i) in places-at w n (drop w l) i (le_of_suc-le-suc h) ∙ drop-drop (w * i) w l ∙ ap (λ (k : ℕ). drop k l) e

pub some_never : {A : Type 0} (l : List A) → some_of (λ x. false) l ≡ false
unfolding some_of
some_never [] = refl
some_never (x ∷ l) = some_never l
