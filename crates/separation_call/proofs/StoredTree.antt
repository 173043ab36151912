-- The tree as words: how many leaves there are, and the numbers of the nodes below a node. Assumes nothing.
use mathlib.Core.Path.{◌≡◌, sym, ap, ◌∙◌}
use mathlib.Core.List.{List}
use Prim.Native.Nat.{ℕ, zero, suc, ◌+◌, ◌-◌, ◌*◌, ◌/◌, ◌%◌, ◌^◌, ◌≤◌, ◌<◌}
use native.Mathlib.Nat.{pow-succ', one-mul}
use native.Mathlib.Omega.{arith}
use lib.Count.{count_leading_zeros}
use lib.ListN.{length}
use lib.Pow.{pow_pos, shl_exact}
use Rattle.separation.specs.Lines.{levels}
use Rattle.separation.proofs.Lines.{levels-least, levels-zeros}
use Rattle.separation_call.specs.Inner.ActiveTree.{NodeAt, Leaves, Below}
use Rattle.separation_call.proofs.Trees.{node_root, node-low, node-high, node-small, inner_small}

-- ---- the leaf count
module _ (n : ℕ) (few : n ≤ 4096) where
  levels-few : levels n ≤ 12
  levels-few = levels-least n 12 few

  pub shift_few : 64 - count_leading_zeros 64 (n - 1) < 64
  shift_few = omega (arith, levels-zeros n (omega arith), levels-few)

  pub leaf_power : 1 * 2 ^ (64 - count_leading_zeros 64 (n - 1)) % 18446744073709551616 ≡ 2 ^ levels n
  leaf_power =
      let e = levels-zeros n (omega arith) in
      rw e (shl_exact {a = 1} 1 (levels n) 64 (omega arith) (omega (arith, levels-few)) ∙ one-mul (2 ^ levels n))

-- ---- nodes
-- the root is above all leaves
pub root_below : (t : List ℕ) (leaves : ℕ) → Leaves t leaves → Below t 1 0 leaves
root_below t leaves l = record { height = l.height; level = l.height; at = node_root l.height; to = omega (arith, l.count); room = omega (arith, l.count, l.room) }

module _ {t : List ℕ} {k s e : ℕ} (b : Below t k s e) where
  pub below-inside : k < length t
  below-inside = omega (arith, node-small b.height b.level k s b.at, b.room)

  pub below-some : s < e
  below-some = omega (arith, b.to, pow_pos b.level)

  pub below_end : s + e ≤ length t
  below_end = omega (arith, b.to, b.at.room, b.room)

  module _ (wide : e - s ≡ 1 → ⊥) where
    -- the level below
    next_level : (g : ℕ) × (b.level ≡ suc g)
    next_level = go b.level b.to
      where
        go : (h : ℕ) → e ≡ s + 2 ^ h → (g : ℕ) × (h ≡ suc g)
        go zero x = absurd (wide (omega arith))
        go (suc g) x = (g, λ i. suc g)

    inner : NodeAt b.height (suc next_level.0) k s
    inner = rw (sym next_level.1) b.at

    half : (s + e) / 2 ≡ s + 2 ^ next_level.0
    half = omega (arith, b.to, ap (λ (z : ℕ). 2 ^ z) next_level.1, pow-succ' 2 next_level.0)

    pub children_inside : 2 * k + 1 < length t
    children_inside = omega (arith, inner_small b.height next_level.0 k s inner, b.room)

    pub below-low : Below t (2 * k) s ((s + e) / 2)
    below-low = record { height = b.height; level = next_level.0; at = node-low b.height next_level.0 k s inner; to = half; room = b.room }

    pub below-high : Below t (2 * k + 1) ((s + e) / 2) e
    below-high = record {
      height = b.height;
      level = next_level.0;
      at = rw half (node-high b.height next_level.0 k s inner);
      to = omega (arith, half, b.to, ap (λ (z : ℕ). 2 ^ z) next_level.1, pow-succ' 2 next_level.0);
      room = b.room;
    }
