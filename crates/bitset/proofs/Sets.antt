-- The members of a set of indices: none beyond the words; one more, one less. Assumes nothing.
use mathlib.Core.Path.{◌≡◌, refl, sym, ◌∙◌}
use mathlib.Core.Logic.{◌⊎◌, inl, inr}
use mathlib.Core.Bool.{Bool, true, false, not, ◌&&◌, ◌||◌}
use mathlib.Core.List.{List}
use Prim.Native.Nat.{ℕ, ◌+◌, ◌-◌, ◌/◌, ◌%◌, ◌^◌, ◌≤◌, ◌<◌}
use native.Mathlib.Omega.{arith}
use borrow.Author.Tests.{eqb-true, eq-eqb, ne_eqb}
use lib.Dec.{eqb}
use lib.ListN.{length, get_or, set, replicate, length-set, length-replicate, get_or-replicate, get_or-eq_default}
use lib.Seq.{get_or-set_same, get_or-set_other, set_out}
use Rattle.laws.proofs.Tests.{decide, or_elim, or_left, or_right, le_or_lt, same_or_not}
use Rattle.bitset.specs.Inner.Members.{bit_at, member, inserted, removed}
use Rattle.bitset.proofs.Digits.{bit-zero, bit-set, bit-set-other, bit_clear, bit_clear_other}

member-bit : (w : List ℕ) (p : ℕ) {b : Bool} → member w p ≡ b → bit_at (get_or w (p / 64) 0) (p % 64) ≡ b
unfolding member
member-bit w p m = m

-- ---- no members where the word is 0, nor beyond the words
none-at : (w : List ℕ) (p : ℕ) → get_or w (p / 64) 0 ≡ 0 → member w p ≡ false
unfolding member
none-at w p e = rw e (bit-zero (p % 64))

pub member_beyond : (w : List ℕ) (p : ℕ) → length w ≤ p / 64 → member w p ≡ false
member_beyond w p h = none-at w p (get_or-eq_default w 0 {n = p / 64} h)

-- where all words are 0
pub member-none : (n p : ℕ) → member (replicate n 0) p ≡ false
member-none n p = elim (le_or_lt n (p / 64)) [
  | inl h ↦ member_beyond (replicate n 0) p (let e = length-replicate {A = ℕ} n 0 in omega arith)
  | inr h ↦ none-at (replicate n 0) p (get_or-replicate n (p / 64) 0 0 h)
]

-- ---- another word v replaces the word of `place`
module _ (w : List ℕ) (place v : ℕ) (inside : place / 64 < length w) where
  put_here : member (set w (place / 64) v) place ≡ bit_at v (place % 64)
  unfolding member
  put_here = rw (get_or-set_same w (place / 64) v 0 inside)

  -- it differs in that bit alone
  put_other : ((j : ℕ) → (j ≡ place % 64 → ⊥) → bit_at v j ≡ bit_at (get_or w (place / 64) 0) j) → (p : ℕ) → (p ≡ place → ⊥) → member (set w (place / 64) v) p ≡ member w p
  unfolding member
  put_other keeps p n = elim (same_or_not (p / 64) (place / 64)) [
    | inl e ↦ rw (e, get_or-set_same w (place / 64) v 0 inside) (keeps (p % 64) (λ f. n (omega arith)))
    | inr e ↦ rw (get_or-set_other w (place / 64) (p / 64) v 0 e)
  ]

-- ---- an index put in
pub length_inserted : (w : List ℕ) (place : ℕ) → length (inserted w place) ≡ length w
unfolding inserted
length_inserted w place = elim (decide (member w place)) [ inl m ↦ rw m | inr m ↦ rw m (length-set w (place / 64) (get_or w (place / 64) 0 + 2 ^ (place % 64))) ]

pub inserted_beyond : (w : List ℕ) (place : ℕ) → length w ≤ place / 64 → inserted w place ≡ w
unfolding inserted
inserted_beyond w place h = rw (member_beyond w place h) (set_out w (place / 64) (get_or w (place / 64) 0 + 2 ^ (place % 64)) h)

pub member-inserted : (w : List ℕ) (place : ℕ) → place / 64 < length w → (p : ℕ) → member (inserted w place) p ≡ (eqb p place || member w p)
unfolding inserted
member-inserted w place h p = elim (same_or_not p place) [
  | inl e ↦ rw (e, eq-eqb place place refl) (elim (decide (member w place)) [ inl m ↦ rw m m | inr m ↦ rw m (put_here w place (x + 2 ^ k) h ∙ bit-set x k (member-bit w place m)) ])
  | inr n ↦ rw (ne_eqb p place n) (elim (decide (member w place)) [ inl m ↦ rw m | inr m ↦ rw m (put_other w place (x + 2 ^ k) h (bit-set-other x k (member-bit w place m)) p n) ])
]
  where
    x : ℕ
    x = get_or w (place / 64) 0

    k : ℕ
    k = place % 64

module _ (w : List ℕ) (place p : ℕ) where
  pub member-kept : member w p ≡ true → member (inserted w place) p ≡ true
  member-kept m = elim (le_or_lt (length w) (place / 64)) [
    | inl h ↦ rw (inserted_beyond w place h) m
    | inr h ↦ member-inserted w place h p ∙ or_right (eqb p place) (member w p) m
  ]

  pub member_new : place / 64 < length w → p ≡ place → member (inserted w place) p ≡ true
  member_new h e = member-inserted w place h p ∙ or_left (eqb p place) (member w p) (eq-eqb p place e)

  pub member-only : member (inserted w place) p ≡ true → (member w p ≡ true) ⊎ (p ≡ place)
  member-only m = elim (le_or_lt (length w) (place / 64)) [
    | inl h ↦ inl (rw (inserted_beyond w place h) at m)
    | inr h ↦ elim (or_elim (eqb p place) (member w p) (sym (member-inserted w place h p) ∙ m)) [ inl e ↦ inr (eqb-true p place e) | inr k ↦ inl k ]
  ]

-- ---- an index taken out
pub length_removed : (w : List ℕ) (place : ℕ) → length (removed w place) ≡ length w
unfolding removed
length_removed w place = elim (decide (member w place)) [ inl m ↦ rw m (length-set w (place / 64) (get_or w (place / 64) 0 - 2 ^ (place % 64))) | inr m ↦ rw m ]

pub removed_beyond : (w : List ℕ) (place : ℕ) → length w ≤ place / 64 → removed w place ≡ w
unfolding removed
removed_beyond w place h = rw (member_beyond w place h)

pub member-removed : (w : List ℕ) (place : ℕ) → place / 64 < length w → (p : ℕ) → member (removed w place) p ≡ (not (eqb p place) && member w p)
unfolding removed
member-removed w place h p = elim (same_or_not p place) [
  | inl e ↦ rw (e, eq-eqb place place refl) (elim (decide (member w place)) [ inl m ↦ rw m (put_here w place (x - 2 ^ k) h ∙ bit_clear x k (member-bit w place m)) | inr m ↦ rw m m ])
  | inr n ↦ rw (ne_eqb p place n) (elim (decide (member w place)) [ inl m ↦ rw m (put_other w place (x - 2 ^ k) h (bit_clear_other x k (member-bit w place m)) p n) | inr m ↦ rw m ])
]
  where
    x : ℕ
    x = get_or w (place / 64) 0

    k : ℕ
    k = place % 64
