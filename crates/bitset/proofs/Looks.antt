-- The code's search for the greatest member, word by word from the rest down. Assumes nothing.
use Rattle.std.specs.Prelude.{Some, None}
use mathlib.Core.Path.{◌≡◌, sym, ap, ◌∙◌}
use mathlib.Core.Logic.{inl, inr}
use mathlib.Core.List.{List}
use Prim.Native.Nat.{ℕ, suc, ◌+◌, ◌-◌, ◌*◌, ◌/◌, ◌%◌, ◌^◌, ◌≤◌, ◌<◌, min}
use native.Mathlib.Omega.{arith}
use lib.ListN.{length, get_or}
use Rattle.laws.proofs.Tests.{le_or_lt}
use Rattle.bitset.specs.Inner.Members.{bit_at, member, rest_below, words_with, last_with}
use Rattle.bitset.proofs.Digits.{bit-zero, shift_one, top_on, top_last, top_below, cut_top}
use Rattle.bitset.proofs.Lasts.{NoneIn, last_none, last-is}
use Rattle.bitset.proofs.Rests.{by_word, with_length, with_word, with_rest}

-- `bits` is word `at` of the words with the rest; the words above it have no members
pub record Looking (w : List ℕ) (to rest at bits : ℕ) : Type 0 where
  pub inside : at ≤ min (to / 64) (length w)
  pub word : get_or (words_with w to rest) at 0 ≡ bits
  pub short : bits < 2 ^ 64
  pub none : NoneIn (words_with w to rest) (at * 64 + 64) (64 * length (words_with w to rest))

pub looking_begins : (w : List ℕ) (to rest at : ℕ) → at ≡ min (to / 64) (length w) → rest < 2 ^ 64 → Looking w to rest at rest
looking_begins w to rest at e h = record {
  inside = omega arith;
  word = with_rest w to rest at e;
  short = h;
  none = λ q l g. let n = with_length w to rest in absurd (omega arith);
}

module _ {w : List ℕ} {to rest at bits : ℕ} (s : Looking w to rest at bits) where
  abbrev words : List ℕ
  words = words_with w to rest

  -- the word is empty
  module _ (z : bits ≡ 0) where
    none_here : NoneIn words (at * 64) (64 * length words)
    none_here p l h = elim (le_or_lt (at * 64 + 64) p) [
      | inl g ↦ s.none p g h
      | inr g ↦ by_word words at p l g ∙ ap (λ (x : ℕ). bit_at x (p - at * 64)) (s.word ∙ z) ∙ bit-zero (p - at * 64)
    ]

    pub looking_goes_on : (first : ℕ) → first < at → get_or w (at - 1) 0 < 2 ^ 64 → Looking w to rest (at - 1) (get_or w (at - 1) 0)
    looking_goes_on first f n = record {
      inside = omega (arith, s.inside);
      word = with_word w to rest (at - 1) (omega (arith, s.inside));
      short = n;
      none = λ p l h. none_here p (omega arith) h;
    }

    pub looking_ends : (from : ℕ) → at ≤ from / 64 → None ≡ last_with w from to rest
    unfolding last_with
    looking_ends from h = sym (last_none words from (64 * length words) (λ p l g. none_here p (omega arith) g))

  -- the greatest bit of the word, t
  module _ (t : ℕ) (least : 2 ^ t ≤ bits) (most : bits < 2 ^ (t + 1)) where
    pub top_short : t < 64
    top_short = top_below bits t least most 64 s.short

    pub top_fits : at * 64 + t ≤ to / 64 * 64 + 63
    top_fits = omega (arith, s.inside, top_short)

    pub top_shift : 1 * 2 ^ t % 2 ^ 64 ≡ 2 ^ t
    top_shift = shift_one 64 t top_short

    bit_here : (p : ℕ) → at * 64 ≤ p → p < at * 64 + 64 → member words p ≡ bit_at bits (p - at * 64)
    bit_here p l h = by_word words at p l h ∙ ap (λ (x : ℕ). bit_at x (p - at * 64)) s.word

    none_above : NoneIn words (suc (at * 64 + t)) (64 * length words)
    none_above p l h = elim (le_or_lt (at * 64 + 64) p) [
      | inl g ↦ s.none p g h
      | inr g ↦ bit_here p (omega arith) g ∙ top_last bits t least most (p - at * 64) (omega arith)
    ]

    -- without its greatest bit it is the rest below that bit's index
    bits_less : bits - 1 * 2 ^ t % 2 ^ 64 ≡ rest_below words (at * 64 + t)
    unfolding rest_below
    bits_less =
        let a : (at * 64 + t) / 64 ≡ at = omega (arith, top_short) in
        let b : (at * 64 + t) % 64 ≡ t = omega (arith, top_short) in
        rw (a, b) (ap (λ (z : ℕ). bits - z) top_shift ∙ sym (cut_top bits t least most) ∙ ap (λ (x : ℕ). x % 2 ^ t) (sym s.word))

    pub looking_found : (from : ℕ) → from ≤ at * 64 + t → Some (at * 64 + t, bits - 1 * 2 ^ t % 2 ^ 64) ≡ last_with w from to rest
    unfolding last_with
    looking_found from h = ap (λ (r : ℕ). Some (at * 64 + t, r)) bits_less ∙ sym (last-is words from (64 * length words) (at * 64 + t) (record {
      is_in = bit_here (at * 64 + t) (omega arith) (omega (arith, top_short)) ∙ ap (bit_at bits) (omega arith) ∙ top_on bits t least most;
      from_on = h;
      below = omega (arith, s.inside, top_short, with_length w to rest);
      last = none_above;
    }))

    pub looking_misses : (from : ℕ) → at * 64 + t < from → None ≡ last_with w from to rest
    unfolding last_with
    looking_misses from h = sym (last_none words from (64 * length words) (λ p l g. none_above p (omega arith) g))
