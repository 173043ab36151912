-- The Rust's summaries of two nets decide, at every node and for every net, whether another one is active on the lines below. Assumes nothing.
use Rattle.std.specs.Prelude.{Option, None, Some}
use mathlib.Core.Path.{◌≡◌, refl, sym, ap, ◌∙◌}
use mathlib.Core.Logic.{inl, inr}
use mathlib.Core.Bool.{Bool, true, false, ◌||◌, or_assoc}
use mathlib.Core.List.{List, [], ◌∷◌}
use Prim.Native.Nat.{ℕ, zero, suc, ◌+◌, ◌^◌}
use native.Mathlib.Nat.{pow-succ'}
use native.Mathlib.Omega.{arith}
use borrow.Author.Tests.{eqb-true, eqb-false, eq-eqb}
use lib.Dec.{leb, eqb}
use Rattle.laws.specs.Lists.{Mem, some_of, chosen}
use Rattle.laws.specs.Sort.{sort_by}
use Rattle.laws.proofs.Tests.{decide, or_false}
use Rattle.laws.proofs.ListLaws.{mem_chosen, chosen_mem}
use Rattle.laws.proofs.Perms.{perm-some}
use Rattle.laws.proofs.Sorting.{sort_perm}
use Rattle.rows.specs.Rows.{Row}
use Rattle.separation.specs.Lines.{index}
use Rattle.separation.specs.Searches.{other_in}
use Rattle.separation.specs.TwoNets.{TwoNets, insert, insert_all, from_nets, listed, merged, is_other, has_other, summary_over}
use Rattle.separation.proofs.Summaries.{other_than, two_decide}
use Rattle.separation.proofs.Lines.{other_join, leaf-nets}

-- a second net is there only where a first one is, and the two differ
abbrev Apart : Option ℕ → Option ℕ → Type 0
Apart None None = Unit {0}
Apart None (Some b) = ⊥
Apart (Some a) None = Unit {0}
Apart (Some a) (Some b) = b ≡ a → ⊥

abbrev pair : Option ℕ → Option ℕ → TwoNets
pair a b = record { first = a; second = b }

-- t is s with m inserted: its nets are apart too, and another net than n is among them where one is among those of s, or m is one
record Inserts (s t : TwoNets) (m : ℕ) : Type 0 where
  apart : Apart t.first t.second
  decides : (n : ℕ) → has_other t n ≡ (has_other s n || other_than n m)

inserted : (a b : Option ℕ) (m : ℕ) → Apart a b → Inserts (pair a b) (insert (pair a b) m) m
unfolding insert has_other
inserted None (Some b) m h = elim h [ ]
inserted None None m h = record { apart = tt; decides = λ n. sym (or_false (other_than n m)) }
inserted (Some a) None m h = elim (decide (eqb a m)) [
  | inl t ↦ let e = eqb-true a m t in rw t (record { apart = tt; decides = λ n. rw (← e) (twice (other_than n a)) })
  | inr f ↦ rw f (record { apart = λ e. eqb-false a m f (sym e); decides = λ n. ap (λ (z : Bool). z || other_than n m) (or_false (other_than n a)) })
]
  where
    twice : (z : Bool) → (z || false) ≡ ((z || false) || z)
    twice true = refl
    twice false = refl
inserted (Some a) (Some b) m h = elim (decide (eqb a m || eqb b m)) [
  | inl t ↦ rw t full
  | inr f ↦ rw f full
]
  where
    full : Inserts (pair (Some a) (Some b)) (pair (Some a) (Some b)) m
    full = record { apart = h; decides = λ n. rw (two_decide a b n h) }

-- so the two nets of a list decide what the whole list does
all_inserted : (s : TwoNets) (l : List ℕ) (n : ℕ) → Apart s.first s.second → has_other (insert_all s l) n ≡ (has_other s n || some_of (other_than n) l)
unfolding insert_all some_of
all_inserted s [] n h = or_false (has_other s n)
all_inserted s (m ∷ l) n h =
    let i = inserted s.first s.second m h in
    all_inserted (insert s m) l n i.apart ∙ ap (λ (z : Bool). z || some_of (other_than n) l) (i.decides n) ∙ or_assoc (has_other s n) (other_than n m) (some_of (other_than n) l)

nets_decide : (l : List ℕ) (n : ℕ) → has_other (from_nets l) n ≡ some_of (other_than n) l
unfolding from_nets has_other
nets_decide l n = all_inserted (pair None None) l n tt

-- ---- two nodes' nets together
some-listed : (o : Option ℕ) (l : List ℕ) (n : ℕ) → some_of (other_than n) (listed o l) ≡ (is_other o n || some_of (other_than n) l)
unfolding some_of
some-listed None l n = refl
some-listed (Some m) l n = refl

merged_decides : (s t : TwoNets) (n : ℕ) → has_other (merged s t) n ≡ (has_other s n || has_other t n)
unfolding merged has_other some_of
merged_decides s t n = nets_decide _ n ∙ simp (some-listed, or_assoc, ← or_false)

-- ---- what the Rust's tree holds at a node decides, for every net, what the walk asks there
pub two-nets_decide : (ls : List ℕ) (active : List Row) (n h s : ℕ) → has_other (summary_over ls active h s) n ≡ other_in ls active n s (s + 2 ^ h)
unfolding summary_over
two-nets_decide ls active n zero s = nets_decide (sort_by leb nets) n ∙ perm-some (other_than n) (sort_perm leb nets) ∙ leaf-nets ls active s nets there taken n
  where
    on_line : Row → Bool
    on_line r = eqb (index ls r.line) s

    nets : List ℕ
    nets = chosen on_line (λ r. r.net) active

    there : (m : ℕ) → Mem m nets → (r : Row) × Mem r active × (index ls r.line ≡ s) × (r.net ≡ m)
    there m k = let x = mem_chosen on_line (λ r. r.net) m active k in (x.0, x.1, eqb-true (index ls x.0.line) s x.2, sym x.3)

    taken : (r : Row) → Mem r active → index ls r.line ≡ s → Mem r.net nets
    taken r k e = chosen_mem on_line (λ r. r.net) r active k (eq-eqb (index ls r.line) s e)
two-nets_decide ls active n (suc h) s =
    let m = s + 2 ^ h in
    merged_decides (summary_over ls active h s) (summary_over ls active h m) n
    ∙ (λ i. two-nets_decide ls active n h s i || two-nets_decide ls active n h m i)
    ∙ other_join ls active n s m (m + 2 ^ h) (omega arith) (omega arith)
    ∙ ap (other_in ls active n s) (omega (arith, pow-succ' 2 h))
