-- The words up to that of `to`, with the rest below `to` in place of that word: they have the members below `to`. Assumes nothing.
use mathlib.Core.Path.{◌≡◌, sym, ap, ◌∙◌, subst}
use mathlib.Core.Logic.{inl, inr}
use mathlib.Core.List.{List, [], ◌∷◌}
use Prim.Native.Nat.{ℕ, suc, ◌+◌, ◌-◌, ◌*◌, ◌/◌, ◌%◌, ◌^◌, ◌≤◌, ◌<◌, min}
use native.Mathlib.Nat.{mod-lt, zero-mod}
use native.Mathlib.Omega.{arith}
use lib.ListN.{length, get_or, take, length-take, length-append, get_or-append, get_or-eq_default}
use lib.Pow.{pow_pos, mod-mod-pow}
use lib.Seq.{get_or-take, get_or-append_seam}
use Rattle.laws.proofs.Tests.{le_or_lt}
use Rattle.bitset.specs.Inner.Members.{bit_at, member, rest_below, last_below, words_with, last_with}
use Rattle.bitset.proofs.Digits.{bit_cut, bit_high, shift_one}
use Rattle.bitset.proofs.Sets.{member_beyond}
use Rattle.bitset.proofs.Lasts.{NoneIn, last-same}

-- a member by the word and the bit of its index
pub by_word : (w : List ℕ) (at p : ℕ) → at * 64 ≤ p → p < at * 64 + 64 → member w p ≡ bit_at (get_or w at 0) (p - at * 64)
unfolding member
by_word w at p l h =
    let e : p / 64 ≡ at = omega arith in
    let f : p % 64 ≡ p - at * 64 = omega arith in
    rw (e, f)

-- ---- the rest below `to`
pub cut_beyond : (w : List ℕ) (to : ℕ) → length w ≤ to / 64 → 0 ≡ rest_below w to
unfolding rest_below
cut_beyond w to h = sym (ap (λ (x : ℕ). x % 2 ^ (to % 64)) (get_or-eq_default w 0 {n = to / 64} h) ∙ zero-mod (2 ^ (to % 64)))

pub cut_word : (w : List ℕ) (to : ℕ) → get_or w (to / 64) 0 % (1 * 2 ^ (to % 64) % 2 ^ 64) ≡ rest_below w to
unfolding rest_below
cut_word w to = ap (λ (y : ℕ). get_or w (to / 64) 0 % y) (shift_one 64 (to % 64) (omega arith))

pub cut_some : (to : ℕ) → 0 < 1 * 2 ^ (to % 64) % 2 ^ 64
cut_some to = rw (shift_one 64 (to % 64) (omega arith)) (pow_pos (to % 64))

rest-small : (w : List ℕ) (to : ℕ) → rest_below w to < 2 ^ (to % 64)
unfolding rest_below
rest-small w to = mod-lt (get_or w (to / 64) 0) (pow_pos (to % 64))

-- a word's bits below k, from those below b
cut_again : (x b k : ℕ) → k ≤ b → x % 2 ^ b % 2 ^ k ≡ x % 2 ^ k
cut_again x b k h =
    let e : b ≡ (b - k) + k = omega arith in
    ap (λ (z : ℕ). x % 2 ^ z % 2 ^ k) e ∙ mod-mod-pow x (b - k) k

rest-again : (w : List ℕ) (to k : ℕ) → k ≤ to % 64 → rest_below w to % 2 ^ k ≡ get_or w (to / 64) 0 % 2 ^ k
unfolding rest_below
rest-again w to k h = cut_again (get_or w (to / 64) 0) (to % 64) k h

-- words that agree up to an index agree about it and about the rest below it
same-up_to : (v w : List ℕ) (p : ℕ) → get_or v (p / 64) 0 % 2 ^ suc (p % 64) ≡ get_or w (p / 64) 0 % 2 ^ suc (p % 64) → (member v p ≡ member w p) × (rest_below v p ≡ rest_below w p)
unfolding member rest_below
same-up_to v w p e =
    let x = get_or v (p / 64) 0 in
    let y = get_or w (p / 64) 0 in
    let k = p % 64 in (
      sym (bit_cut x (suc k) k (omega arith)) ∙ ap (λ (z : ℕ). bit_at z k) e ∙ bit_cut y (suc k) k (omega arith),
      sym (cut_again x (suc k) k (omega arith)) ∙ ap (λ (z : ℕ). z % 2 ^ k) e ∙ cut_again y (suc k) k (omega arith),
    )

-- ---- the words with `rest` in place of that of `to`
module _ (w : List ℕ) (to rest : ℕ) where
  pub with_length : length (words_with w to rest) ≡ min (to / 64) (length w) + 1
  unfolding words_with
  with_length = length-append (take (to / 64) w) (rest ∷ []) ∙ ap (λ (n : ℕ). n + 1) (length-take (to / 64) w)

  pub with_word : (k : ℕ) → k < min (to / 64) (length w) → get_or (words_with w to rest) k 0 ≡ get_or w k 0
  unfolding words_with
  with_word k h =
      let e : length (take (to / 64) w) ≡ min (to / 64) (length w) = length-take (to / 64) w in
      get_or-append (take (to / 64) w) (rest ∷ []) 0 k (omega arith) ∙ get_or-take (to / 64) w k 0 (omega arith)

  pub with_rest : (k : ℕ) → k ≡ min (to / 64) (length w) → get_or (words_with w to rest) k 0 ≡ rest
  unfolding words_with
  with_rest k h = ap (λ (i : ℕ). get_or (words_with w to rest) i 0) (h ∙ sym (length-take (to / 64) w)) ∙ get_or-append_seam (take (to / 64) w) rest [] 0

  -- ---- where it is the rest below `to`
  module _ (e : rest ≡ rest_below w to) where
    rest-same : (p : ℕ) → p < to → p / 64 ≡ min (to / 64) (length w) → rest % 2 ^ suc (p % 64) ≡ get_or w (p / 64) 0 % 2 ^ suc (p % 64)
    rest-same p l a = elim (le_or_lt (length w) (to / 64)) [
      | inl h ↦ ap (λ (x : ℕ). x % 2 ^ suc (p % 64)) (e ∙ sym (cut_beyond w to h) ∙ sym (get_or-eq_default w 0 {n = p / 64} (omega arith)))
      | inr h ↦
          let b : to / 64 ≡ p / 64 = omega arith in
          ap (λ (x : ℕ). x % 2 ^ suc (p % 64)) e ∙ rest-again w to (suc (p % 64)) (omega arith) ∙ ap (λ (i : ℕ). get_or w i 0 % 2 ^ suc (p % 64)) b
    ]

    words_same : (p : ℕ) → p < 64 * length (words_with w to rest) → p < to → get_or (words_with w to rest) (p / 64) 0 % 2 ^ suc (p % 64) ≡ get_or w (p / 64) 0 % 2 ^ suc (p % 64)
    words_same p h l =
        let n = with_length in
        elim (le_or_lt (min (to / 64) (length w)) (p / 64)) [
          | inl g ↦ let a : p / 64 ≡ min (to / 64) (length w) = omega arith in ap (λ (x : ℕ). x % 2 ^ suc (p % 64)) (with_rest (p / 64) a) ∙ rest-same p l a
          | inr g ↦ ap (λ (x : ℕ). x % 2 ^ suc (p % 64)) (with_word (p / 64) g)
        ]

    none_with : NoneIn (words_with w to rest) to (64 * length (words_with w to rest))
    none_with q l h =
        let n = with_length in
        let at = to / 64 in
        let same : at ≡ min (to / 64) (length w) = omega arith in
        let small : rest < 2 ^ (to % 64) = subst (λ (x : ℕ). x < 2 ^ (to % 64)) (sym e) (rest-small w to) in
        by_word (words_with w to rest) at q (omega arith) (omega arith)
        ∙ ap (λ (x : ℕ). bit_at x (q - at * 64)) (with_rest at same)
        ∙ bit_high rest (to % 64) (q - at * 64) small (omega arith)

    none_without : NoneIn w (64 * length (words_with w to rest)) to
    none_without q l h = let n = with_length in member_beyond w q (omega arith)

    pub last-with : (from : ℕ) → last_with w from to rest ≡ last_below w from to
    unfolding last_with
    last-with from = last-same (words_with w to rest) w (64 * length (words_with w to rest)) to (λ p h l. same-up_to (words_with w to rest) w p (words_same p h l)) none_with none_without from
