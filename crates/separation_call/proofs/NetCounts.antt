-- How often a net is active on a line: a start adds one, an end takes one off, and the nets with a count above 0 make the line's summary. Assumes nothing.
use mathlib.Core.Path.{◌≡◌, refl}
use mathlib.Core.List.{List, ◌∷◌}
use Prim.Native.Nat.{ℕ, ◌+◌, ◌<◌}
use borrow.Author.Tests.{eqb-true, eq-eqb}
use lib.Dec.{eqb}
use Rattle.laws.specs.Lists.{Mem, fold, bit}
use Rattle.laws.proofs.Tests.{and_left, and_right, and_both}
use Rattle.rows.specs.Rows.{Row}
use Rattle.separation.specs.Lines.{index}
use Rattle.separation.specs.Walk.{remove}
use Rattle.separation.proofs.Summaries.{summary_of}
use Rattle.separation.proofs.ActiveRows.{mem_count, count_mem, remove-count}
use Rattle.separation_call.specs.Inner.ActiveTree.{Decides}
use Rattle.separation_call.specs.Inner.ActiveNets.{on_line, net_count}
use Rattle.separation_call.proofs.Trees.{leaf_decides}

module _ (ls : List ℕ) (active : List Row) (i : ℕ) where
  pub count-start : (m : ℕ) (x : Row) → net_count ls (x ∷ active) i m ≡ bit (on_line ls i m x) + net_count ls active i m
  unfolding fold
  count-start m x = refl

  pub count-end : (m : ℕ) (x : Row) → Mem x active → bit (on_line ls i m x) + net_count ls (remove x active) i m ≡ net_count ls active i m
  count-end m x k = remove-count (on_line ls i m) x active k

  -- any list of exactly the nets that have a count
  pub counts_decide : (l : List ℕ) → ((m : ℕ) → Mem m l → 0 < net_count ls active i m) → ((m : ℕ) → 0 < net_count ls active i m → Mem m l) → Decides ls active (summary_of l) i (i + 1)
  counts_decide l f g = leaf_decides ls active i l there listed
    where
      there : (m : ℕ) → Mem m l → (r : Row) × Mem r active × (index ls r.line ≡ i) × (r.net ≡ m)
      there m k =
          let x = count_mem (on_line ls i m) active (f m k) in
          let a = eqb (index ls x.0.line) i in
          let b = eqb x.0.net m in
          (x.0, x.1, eqb-true (index ls x.0.line) i (and_left a b x.2), eqb-true x.0.net m (and_right a b x.2))

      listed : (r : Row) → Mem r active → index ls r.line ≡ i → Mem r.net l
      listed r k e = g r.net (mem_count (on_line ls i r.net) r active k (and_both _ _ (eq-eqb (index ls r.line) i e) (eq-eqb r.net r.net refl)))
