-- `list_checks::short_scratch` meets its contract: the number of entries that the scratch is long enough for is compared with the number of segments and nodes. Assumes nothing.
use mathlib.Core.Path.{◌≡◌, sym}
use mathlib.Core.Bool.{true}
use Prim.Native.Nat.{ℕ, ◌+◌, ◌-◌, ◌*◌, ◌/◌, ◌≤◌, ◌<◌}
use native.Mathlib.Omega.{arith}
use borrow.Author.Tests.{lt-ltb}
use lib.Dec.{ltb}
use Rattle.laws.proofs.Tests.{ltb_same}
use Rattle.drawing.specs.Conditions.{short_scratch}
use Rattle.list_checks.proofs.short_scratch.Goals as goal

module _ (words segments nodes : ℕ) where
  below_64 : words < 64 → true ≡ short_scratch words segments nodes
  unfolding short_scratch
  below_64 h = sym (lt-ltb words (32 * (segments + nodes) + 64) (omega arith))

  too_few : 64 ≤ words → (words - 64) / 32 < segments → true ≡ short_scratch words segments nodes
  unfolding short_scratch
  too_few h k = sym (lt-ltb words (32 * (segments + nodes) + 64) (omega arith))

  the_rest : 64 ≤ words → segments ≤ (words - 64) / 32 → ltb ((words - 64) / 32 - segments) nodes ≡ short_scratch words segments nodes
  unfolding short_scratch
  the_rest h k = ltb_same ((words - 64) / 32 - segments) nodes words (32 * (segments + nodes) + 64) (λ p. omega arith) (λ p. omega arith)

pub returns-then-words-lt64 : goal.returns-then-words-lt64
returns-then-words-lt64 c = below_64 _ _ _ c.if-words-lt64.true

pub returns-then-entries-segments : goal.returns-then-entries-segments
returns-then-entries-segments c = too_few _ _ _ c.if-words-lt64.false c.if-entries-segments.true

pub returns : goal.returns
returns c = the_rest _ _ _ c.if-words-lt64.false c.if-entries-segments.false
