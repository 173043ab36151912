-- What the code stores for `inserted` and `removed`, and that it fits a word. Assumes nothing.
use mathlib.Core.Path.{◌≡◌}
use mathlib.Core.List.{List}
use Prim.Native.Nat.{ℕ, ◌+◌, ◌-◌, ◌*◌, ◌/◌, ◌%◌, ◌^◌, ◌≤◌, ◌<◌}
use native.Mathlib.Omega.{arith}
use lib.ListN.{get_or, set}
use Rattle.bitset.specs.Inner.Members.{member, inserted, removed}
use Rattle.bitset.proofs.Digits.{more_fits, power_le, bit-on, bit_off, shift_one}

module _ (w : List ℕ) (place : ℕ) where
  abbrev word : ℕ
  word = get_or w (place / 64) 0

  abbrev bit : ℕ
  bit = place % 64

  abbrev one : 1 * 2 ^ bit % 2 ^ 64 ≡ 2 ^ bit
  one = shift_one 64 bit (omega arith)

  pub keeps-member : word / 2 ^ bit % 2 ≡ 1 → w ≡ inserted w place
  unfolding inserted member
  keeps-member e = rw (bit-on word bit e)

  pub keeps-none : word / 2 ^ bit % 2 ≡ 0 → w ≡ removed w place
  unfolding removed member
  keeps-none e = rw (bit_off word bit e)

  module _ (n : word / 2 ^ bit % 2 ≡ 1 → ⊥) where
    off : word / 2 ^ bit % 2 ≡ 0
    off = omega arith

    pub stores_more : set w (place / 64) (word + 1 * 2 ^ bit % 2 ^ 64) ≡ inserted w place
    unfolding inserted member
    stores_more = rw (bit_off word bit off, one)

    pub more_room : word < 2 ^ 64 → word + 1 * 2 ^ bit % 2 ^ 64 < 2 ^ 64
    more_room h = rw one (more_fits word bit off 64 h (omega arith))

  module _ (n : word / 2 ^ bit % 2 ≡ 0 → ⊥) where
    on : word / 2 ^ bit % 2 ≡ 1
    on = omega arith

    pub stores_less : set w (place / 64) (word - 1 * 2 ^ bit % 2 ^ 64) ≡ removed w place
    unfolding removed member
    stores_less = rw (bit-on word bit on, one)

    pub less_room : 1 * 2 ^ bit % 2 ^ 64 ≤ word
    less_room = rw one (power_le word bit on)
