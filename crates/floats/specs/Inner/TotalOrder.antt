-- On the notion of specs/TotalOrder.antt: what only contracts of inner functions and proofs cite.
use Rattle.std.specs.Prelude.{ℕ, cond}
use Rattle.std.specs.declared.cmp.Ordering.{Ordering}
use Rattle.std.specs.declared.cmp.Ordering.TheVariants.{Less, Equal, Greater}
use Rattle.floats.specs.TotalOrder.{total_order}

-- two patterns compared: less where totalOrder(b, a) does not hold, equal where totalOrder holds both ways
unfoldable pub total_cmp : ℕ → ℕ → Ordering
total_cmp a b = cond (total_order b a) (cond (total_order a b) Equal Greater) Less
