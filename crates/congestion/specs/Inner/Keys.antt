-- What laws and inner contracts cite: words that hold coordinates, and least gaps that floats can hold.
use Rattle.std.specs.Prelude.{◌≡◌, ℕ, ◌^◌, ◌<◌, T, Option, None, Some}
use Rattle.floats.specs.Values.{canonical_zero}
use Rattle.floats.specs.TotalOrder.{float_at}
use Rattle.floats.specs.Grid.{on_grid, unit}

-- the word w is the key of a float on the grid, which is not -0, and `unit` counts its 64ths as u
pub record Key (w u : ℕ) : Type 0 where
  pub grid : T (on_grid (float_at w))
  pub plain : canonical_zero (float_at w) ≡ float_at w
  pub is : unit (float_at w) ≡ u

-- a least gap of 64ths that a float can hold
abbrev pub Representable : Option ℕ → Type 0
Representable None = Unit {0}
Representable (Some n) = n < 2 ^ 53
