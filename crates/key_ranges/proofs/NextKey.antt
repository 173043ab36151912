-- The word after a key is a word too. Assumes nothing.
use mathlib.Core.Path.{◌≡◌, refl, sym, ap, ◌∙◌}
use mathlib.Core.Logic.{inl, inr}
use Prim.Native.Nat.{ℕ, ◌+◌, ◌-◌, ◌^◌, ◌<◌}
use native.Mathlib.Omega.{arith}
use lib.Dec.{T, lit<}
use lib.Ieee.{Float, nan, binary64, sub, fits, of_bits, to_bits}
use lib.Ieee.Fits.{sub-fits}
use Rattle.laws.proofs.Tests.{same_or_not}
use Rattle.floats.specs.TotalOrder.{key, pattern_at, key_of, float_at}
use Rattle.floats.proofs.NumberKeys.{float_back, key-of-small}

-- no key is the greatest word, whose pattern is a NaN other than the one that `to_bits` writes
last_word : float_at (2 ^ 64 - 1) ≡ nan
unfolding float_at of_bits pattern_at
last_word = refl

nan-key : key_of nan < 2 ^ 64 - 1
unfolding key_of key to_bits
nan-key = lit< tt

key_next : (x : Float) → T (fits binary64 x) → key_of x + 1 < 2 ^ 64
key_next x p = elim (same_or_not (key_of x) (2 ^ 64 - 1)) [
  | inl e ↦ absurd (let f = ap key_of (sym (float_back x p) ∙ ap float_at e ∙ last_word) in omega (arith, nan-key))
  | inr n ↦ omega (arith, n, key-of-small x p)
]

-- the word after the lower key
pub next_fits : (b : ℕ) (x y : Float) → b ≡ key_of (sub binary64 x y) → b + 1 < 2 ^ 64
next_fits b x y e = omega (arith, key_next (sub binary64 x y) (sub-fits binary64 x y))
