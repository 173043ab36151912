-- The key of a bit pattern and the pattern of a key, as numbers. Assumes nothing.
use Rattle.std.proofs.Common.{◌≡◌, ℕ, ◌+◌, ◌-◌, ◌^◌, ◌<◌, ◌≤◌, true, false, ltb, sym, ap, ◌∙◌, inl, inr, arith, ltb→lt, lt→ltb}
use Rattle.laws.proofs.Tests.{cond_true, cond_false, is_true, is_false, le_or_lt}
use Rattle.floats.specs.TotalOrder.{key, pattern_at}

module _ (b : ℕ) where
  below_half : b < 2 ^ 63 → ltb b (2 ^ 63) ≡ true
  below_half h = is_true (ltb b (2 ^ 63)) (lt→ltb b (2 ^ 63) h)

  above_half : 2 ^ 63 ≤ b → ltb b (2 ^ 63) ≡ false
  above_half h = is_false (ltb b (2 ^ 63)) (λ t. omega (arith, ltb→lt b (2 ^ 63) t))

  pub key-low : b < 2 ^ 63 → key b ≡ b + 2 ^ 63
  unfolding key
  key-low h = cond_true (ltb b (2 ^ 63)) (b + 2 ^ 63) (2 ^ 64 - 1 - b) (below_half h)

  pub key-high : 2 ^ 63 ≤ b → key b ≡ 2 ^ 64 - 1 - b
  unfolding key
  key-high h = cond_false (ltb b (2 ^ 63)) (b + 2 ^ 63) (2 ^ 64 - 1 - b) (above_half h)

  pub pattern_low : b < 2 ^ 63 → pattern_at b ≡ 2 ^ 64 - 1 - b
  unfolding pattern_at
  pattern_low h = cond_true (ltb b (2 ^ 63)) (2 ^ 64 - 1 - b) (b - 2 ^ 63) (below_half h)

  pub pattern_high : 2 ^ 63 ≤ b → pattern_at b ≡ b - 2 ^ 63
  unfolding pattern_at
  pattern_high h = cond_false (ltb b (2 ^ 63)) (2 ^ 64 - 1 - b) (b - 2 ^ 63) (above_half h)

-- ---- the pattern of a pattern's key is the pattern itself
pub pattern_of_key : (b : ℕ) → b < 2 ^ 64 → pattern_at (key b) ≡ b
pattern_of_key b h = elim (le_or_lt (2 ^ 63) b) [
  | inl k ↦ ap pattern_at (key-high b k) ∙ pattern_low (2 ^ 64 - 1 - b) (omega arith) ∙ omega arith
  | inr k ↦ ap pattern_at (key-low b k) ∙ pattern_high (b + 2 ^ 63) (omega arith) ∙ omega arith
]

-- ---- so patterns with one key are equal; and a key has 64 bits too
pub key_one : (a b : ℕ) → a < 2 ^ 64 → b < 2 ^ 64 → key a ≡ key b → a ≡ b
key_one a b p q h = sym (pattern_of_key a p) ∙ ap pattern_at h ∙ pattern_of_key b q

pub key-small : (b : ℕ) → b < 2 ^ 64 → key b < 2 ^ 64
key-small b h = elim (le_or_lt (2 ^ 63) b) [ inl k ↦ omega (arith, key-high b k) | inr k ↦ omega (arith, key-low b k) ]
