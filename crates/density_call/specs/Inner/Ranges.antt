-- What only inner contracts cite: for each wire the indices of the wires within the cutoff, which are adjacent.
use Rattle.std.specs.Prelude.{◌≡◌, List, ℕ, ◌+◌, ◌*◌, ◌≤◌, ◌<◌, T, Float, length, get_or, take, drop}
use Rattle.floats.specs.Grid.{on_grid}
use Rattle.congestion.specs.Wires.{Wire, cutoff_of}
use Rattle.congestion.specs.Inner.Keys.{Key}
use Rattle.density_call.specs.Inner.Tables.{item_at, Ranged}

-- the keys of the fixed coordinates of n wires ascend
pub record Rangeable (s : List ℕ) (n : ℕ) : Type 0 where
  pub room : 8 * n ≤ length s
  pub ascending : (i k : ℕ) → i ≤ k → k < n → get_or s (4 * n + i) 0 ≤ get_or s (4 * n + k) 0

-- the scratch s became t: only the two columns of the ranges changed
pub record RangesOnly (n : ℕ) (s t : List ℕ) : Type 0 where
  pub front : take (6 * n) t ≡ take (6 * n) s
  pub behind : drop (8 * n) t ≡ drop (8 * n) s

-- the columns give the wires within the cutoff, on the grid and for a cutoff above 0
abbrev pub FillsRanges : List ℕ → List ℕ → ℕ → Float → Type 0
FillsRanges s t n cutoff =
    (c : ℕ) (L : List Wire) → length L ≡ n → c ≡ cutoff_of cutoff → 0 < c → T (on_grid cutoff) → ((j : ℕ) → j < n → Key (get_or s (4 * n + j) 0) (item_at L j).wire.fixed) → Ranged c L t
