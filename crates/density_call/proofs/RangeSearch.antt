-- The range of each wire is found from the last wire's, and written to its two columns. Assumes nothing.
use mathlib.Core.Path.{◌≡◌, sym, ap, ap₂, ◌∙◌, subst}
use mathlib.Core.Logic.{inl, inr}
use mathlib.Core.Bool.{◌&&◌}
use mathlib.Core.List.{List}
use Prim.Native.Nat.{ℕ, ◌+◌, ◌-◌, ◌*◌, ◌^◌, ◌≤◌, ◌<◌}
use native.Mathlib.Omega.{arith}
use borrow.Rule.Slice.PartMut.{mid_of, mid_len}
use lib.Dec.{T, leb, ltb, leb→le, le→leb, ltb→lt, lt→ltb}
use lib.Ieee.{Float, binary64, add, sub}
use lib.ListN.{length, get_or, drop, set, length-set}
use lib.Seq.{get_or-take, get_or-drop, get_or-set_same, get_or-set_other, take-set-le, drop-set-lt}
use Rattle.laws.proofs.Tests.{same_test, ltb_same, le_or_lt}
use Rattle.floats.specs.TotalOrder.{key_of, float_at}
use Rattle.floats.specs.Grid.{on_grid}
use Rattle.key_ranges.specs.declared.range.Range.{Range}
use Rattle.key_ranges.specs.Inner.Reach.{Ascending, LowerBound, InBounds, Reached}
use Rattle.congestion.specs.Wires.{Wire, cutoff_of}
use Rattle.congestion.specs.Inner.Keys.{Key}
use Rattle.density_call.specs.Inner.Tables.{item_at, Ranged}
use Rattle.density_call.specs.Inner.Ranges.{Rangeable, RangesOnly, FillsRanges}
use Rattle.congestion.proofs.RangeFloats.{above_low, below-high}

-- the range of the wire at index j among n keys, by its two ends
pub record Found (n : ℕ) (cutoff : Float) (s : List ℕ) (j from to : ℕ) : Type 0 where
  pub inside : to ≤ n
  pub low : (i : ℕ) → i < n → leb from i ≡ ltb (key_of (sub binary64 (float_at (get_or s (4 * n + j) 0)) cutoff)) (get_or s (4 * n + i) 0)
  pub high : (i : ℕ) → i < n → ltb i to ≡ ltb (get_or s (4 * n + i) 0) (key_of (add binary64 (float_at (get_or s (4 * n + j) 0)) cutoff))

-- the keys are those of column 4
module _ (n : ℕ) (s keys : List ℕ) (len : length keys ≡ n) (same : (i : ℕ) → i < n → get_or keys i 0 ≡ get_or s (4 * n + i) 0) where
  by-low : (k r i : ℕ) → LowerBound keys (k + 1) r → i < n → leb r i ≡ ltb k (get_or s (4 * n + i) 0)
  by-low k r i b h =
      let e = same i h in
      same_test (leb r i) (ltb k (get_or s (4 * n + i) 0)) (λ t. lt→ltb k (get_or s (4 * n + i) 0) (omega (arith, b.above i (leb→le r i t) (omega arith))))
      (λ t. le→leb r i (elim (le_or_lt r i) [ inl p ↦ p | inr p ↦ absurd (omega (arith, b.below i p, ltb→lt k (get_or s (4 * n + i) 0) t)) ]))

  by_high : (k r i : ℕ) → LowerBound keys k r → i < n → ltb i r ≡ ltb (get_or s (4 * n + i) 0) k
  by_high k r i b h =
      let e = same i h in
      ltb_same i r (get_or s (4 * n + i) 0) k (λ p. omega (arith, b.below i p)) (λ p. elim (le_or_lt r i) [ inl q ↦ absurd (omega (arith, b.above i q (omega arith))) | inr q ↦ q ])

  found : (cutoff : Float) (j : ℕ) (r : Range) → j < n → Reached keys j cutoff r → Found n cutoff s j r.from r.to
  found cutoff j r h f = record {
    inside = omega (arith, f.to.inside);
    low = λ i q. by-low (key_of (sub binary64 (float_at (get_or s (4 * n + j) 0)) cutoff)) r.from i (subst (λ (w : ℕ). LowerBound keys (key_of (sub binary64 (float_at w) cutoff) + 1) r.from) (same j h) f.from) q;
    high = λ i q. by_high (key_of (add binary64 (float_at (get_or s (4 * n + j) 0)) cutoff)) r.to i (subst (λ (w : ℕ). LowerBound keys (key_of (add binary64 (float_at w) cutoff)) r.to) (same j h) f.to) q;
  }

-- ---- the ranges of the first j wires are written, and the search for the next one begins at `last`
pub record Filling (n : ℕ) (cutoff : Float) (s₀ s : List ℕ) (j : ℕ) (last : Range) : Type 0 where
  pub given : Rangeable s₀ n
  pub small : j ≤ n
  pub near : InBounds n last
  pub len : length s ≡ length s₀
  pub kept : RangesOnly n s₀ s
  pub done : (i : ℕ) → i < j → Found n cutoff s₀ i (get_or s (6 * n + i) 0) (get_or s (7 * n + i) 0)

module _ (n : ℕ) (cutoff : Float) (s₀ : List ℕ) where
  module _ (s : List ℕ) (j : ℕ) (last : Range) (f : Filling n cutoff s₀ s j last) where
    -- column 4 as it is lent
    abbrev column : List ℕ
    column = mid_of (4 * n) (5 * n - 4 * n) s

    column-length : length column ≡ n
    column-length = mid_len (4 * n) (5 * n) s (omega (arith, f.len, f.given.room)) ∙ omega arith

    column-at : (i : ℕ) → i < n → get_or column i 0 ≡ get_or s₀ (4 * n + i) 0
    column-at i h =
        get_or-take (5 * n - 4 * n) (drop (4 * n) s) i 0 (omega arith) ∙ get_or-drop (4 * n) s i 0
        ∙ sym (get_or-take (6 * n) s (4 * n + i) 0 (omega arith)) ∙ ap (λ (l : List ℕ). get_or l (4 * n + i) 0) f.kept.front ∙ get_or-take (6 * n) s₀ (4 * n + i) 0 (omega arith)

    pub askable : j < n → Ascending column × (j < length column) × InBounds (length column) last
    askable h = (
      λ i k p q. let r : k < n = omega (arith, column-length) in rw (column-at i (omega arith), column-at k r) (f.given.ascending i k p r),
      omega (arith, column-length),
      rw column-length f.near,
    )

    module _ (h : j < n) (r : Range) (found-r : Reached column j cutoff r) where
      abbrev next : List ℕ
      next = set (set s (6 * n + j) r.from) (7 * n + j) r.to

      room : 8 * n ≤ length s
      room = omega (arith, f.len, f.given.room)

      from_at : get_or next (6 * n + j) 0 ≡ r.from
      from_at = get_or-set_other (set s (6 * n + j) r.from) (7 * n + j) (6 * n + j) r.to 0 (λ e. omega arith) ∙ get_or-set_same s (6 * n + j) r.from 0 (omega (arith, room))

      to_at : get_or next (7 * n + j) 0 ≡ r.to
      to_at = get_or-set_same (set s (6 * n + j) r.from) (7 * n + j) r.to 0 (simp length-set (omega (arith, room)))

      other_at : (k : ℕ) → (k ≡ 6 * n + j → ⊥) → (k ≡ 7 * n + j → ⊥) → get_or next k 0 ≡ get_or s k 0
      other_at k p q = get_or-set_other (set s (6 * n + j) r.from) (7 * n + j) k r.to 0 q ∙ get_or-set_other s (6 * n + j) k r.from 0 p

      done_next : (i : ℕ) → i < j + 1 → Found n cutoff s₀ i (get_or next (6 * n + i) 0) (get_or next (7 * n + i) 0)
      done_next i p = elim (le_or_lt j i) [
        | inr q ↦ rw (other_at (6 * n + i) (λ e. omega arith) (λ e. omega arith), other_at (7 * n + i) (λ e. omega arith) (λ e. omega arith)) (f.done i q)
        | inl q ↦ let e : j ≡ i = omega arith in subst (λ (k : ℕ). Found n cutoff s₀ k (get_or next (6 * n + k) 0) (get_or next (7 * n + k) 0)) e (rw (from_at, to_at) (found n s₀ column column-length column-at cutoff j r h found-r))
      ]

      pub filling_next : Filling n cutoff s₀ next (j + 1) r
      filling_next = record {
        given = f.given;
        small = omega arith;
        near = record { from = omega (arith, column-length, found-r.from.inside); to = omega (arith, column-length, found-r.to.inside) };
        len = length-set (set s (6 * n + j) r.from) (7 * n + j) r.to ∙ length-set s (6 * n + j) r.from ∙ f.len;
        kept = record {
          front = take-set-le (6 * n) (set s (6 * n + j) r.from) (7 * n + j) r.to (omega arith) ∙ take-set-le (6 * n) s (6 * n + j) r.from (omega arith) ∙ f.kept.front;
          behind = drop-set-lt (8 * n) (set s (6 * n + j) r.from) (7 * n + j) r.to (omega arith) ∙ drop-set-lt (8 * n) s (6 * n + j) r.from (omega arith) ∙ f.kept.behind;
        };
        done = done_next;
      }

-- ---- on the grid the columns give the wires within the cutoff
module _ (c : ℕ) (L : List Wire) (cutoff : Float) (s₀ s : List ℕ) (words : (i : ℕ) → get_or s₀ i 0 < 2 ^ 64) (e : c ≡ cutoff_of cutoff) (h : 0 < c) (g : T (on_grid cutoff)) where
  abbrev Keyed : ℕ → Type 0
  Keyed n = (j : ℕ) → j < n → Key (get_or s₀ (4 * n + j) 0) (item_at L j).wire.fixed

  abbrev AllFound : ℕ → Type 0
  AllFound n = (j : ℕ) → j < n → Found n cutoff s₀ j (get_or s (6 * n + j) 0) (get_or s (7 * n + j) 0)

  all_ranged : Keyed (length L) → AllFound (length L) → Ranged c L s
  all_ranged keys f = record {
    inside = λ j p. (f j p).inside;
    range = λ i j p q.
        let w = get_or s₀ (4 * length L + j) 0 in
        let z = get_or s₀ (4 * length L + i) 0 in
        let u = (item_at L j).wire.fixed in
        let v = (item_at L i).wire.fixed in
        let small = words (4 * length L + i) in
        sym (ap₂ ◌&&◌ ((f j q).low i p ∙ above_low w z u v c cutoff small (keys j q) (keys i p) e h g) ((f j q).high i p ∙ below-high w z u v c cutoff small (keys j q) (keys i p) e h g));
  }

  ranged : (n : ℕ) → length L ≡ n → Keyed n → AllFound n → Ranged c L s
  ranged n size = subst (λ (n : ℕ). Keyed n → AllFound n → Ranged c L s) size all_ranged

pub filled : (n : ℕ) (cutoff : Float) (s₀ s : List ℕ) (j : ℕ) (last : Range) → Filling n cutoff s₀ s j last → n ≤ j → ((i : ℕ) → get_or s₀ i 0 < 2 ^ 64) → FillsRanges s₀ s n cutoff
filled n cutoff s₀ s j last f h words = λ c L size e p g keys. ranged c L cutoff s₀ s words e p g n size keys (λ i q. f.done i (omega arith))
