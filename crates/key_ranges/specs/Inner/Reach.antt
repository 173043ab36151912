-- Where sorted words are less than another, and the range of the keys within a cutoff of one of them.
use Rattle.std.specs.Prelude.{List, ℕ, ◌+◌, ◌≤◌, ◌<◌, Float, length, get_or}
use Rattle.std.specs.Float.{binary64}
use Rattle.std.specs.Float.Ieee.{add, sub}
use Rattle.floats.specs.TotalOrder.{key_of, float_at}
use Rattle.key_ranges.specs.declared.range.Range.{Range}

-- the words are sorted
abbrev pub Ascending : List ℕ → Type 0
Ascending l = (i k : ℕ) → i ≤ k → k < length l → get_or l i 0 ≤ get_or l k 0

-- the first r words are less than v
pub record Passed (l : List ℕ) (v r : ℕ) : Type 0 where
  pub inside : r ≤ length l
  pub below : (i : ℕ) → i < r → get_or l i 0 < v

-- r is the first index whose word is at least v, or the length where there is none
pub record LowerBound (l : List ℕ) (v r : ℕ) : Type 0 where
  pub inside : r ≤ length l
  pub below : (i : ℕ) → i < r → get_or l i 0 < v
  pub above : (i : ℕ) → r ≤ i → i < length l → v ≤ get_or l i 0

-- both ends are at most n
pub record InBounds (n : ℕ) (r : Range) : Type 0 where
  pub from : r.from ≤ n
  pub to : r.to ≤ n

-- the keys strictly between those of x - cutoff and x + cutoff, where x is the coordinate at index j
pub record Reached (keys : List ℕ) (j : ℕ) (cutoff : Float) (r : Range) : Type 0 where
  pub from : LowerBound keys (key_of (sub binary64 (float_at (get_or keys j 0)) cutoff) + 1) r.from
  pub to : LowerBound keys (key_of (add binary64 (float_at (get_or keys j 0)) cutoff)) r.to
