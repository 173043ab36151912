-- What only inner contracts cite: the rows of one orientation as wires that can be swept, and both orientations.
use Rattle.drawing.specs.declared.refusal.Refusal.TheVariants.{WorkLimitExceeded}
use Rattle.drawing.specs.declared.refusal.Refusal.{Refusal}
use Rattle.std.specs.Prelude.{◌≡◌, Bool, List, ℕ, ◌+◌, ◌*◌, ◌≤◌, ◌<◌, max, T, Float, length, drop, Option, None, Result, Ok, Err}
use Rattle.std.specs.Float.{binary64}
use Rattle.std.specs.Float.Ieee.{fits, add}
use Rattle.laws.specs.Lists.{Mem}
use Rattle.laws.specs.Inner.Sort.{Sorted}
use Rattle.laws.specs.Inner.Allowance.{Outcome, spent, left}
use Rattle.floats.specs.Values.{plus_zero, canonical_zero}
use Rattle.floats.specs.TotalOrder.{key_of, float_at}
use Rattle.floats.specs.Grid.{on_grid, unit}
use Rattle.drawing.specs.Entries.{SegmentColumns, segments}
use Rattle.drawing.specs.Inner.Lengths.{SegmentsAgree}
use Rattle.drawing.specs.Gaps.{lesser_gap}
use Rattle.rows.specs.Rows.{Row, rows_in_order, oriented}
use Rattle.rows.specs.Inner.Tables.{RowsOrdered}
use Rattle.congestion.specs.declared.report.ParallelCongestion.{ParallelCongestion}
use Rattle.congestion.specs.declared.found.Found.{Found}
use Rattle.congestion.specs.Wires.{Wire, cutoff_of}

-- the wire of a row
abbrev pub wire_of_row : Bool → Row → Wire
wire_of_row h r = record { net = r.net; horizontal = h; fixed = unit (float_at r.line); start = unit (float_at r.start); end = unit (float_at r.end) }

-- a word that is the key of a float on the grid, which is not -0
pub record Coordinate (w : ℕ) : Type 0 where
  pub float : Float
  pub held : T (fits binary64 float)
  pub grid : T (on_grid float)
  pub plain : canonical_zero float ≡ float
  pub is : w ≡ key_of float

-- a row of such words, its end after its start
pub record Proper (r : Row) : Type 0 where
  pub line : Coordinate r.line
  pub start : Coordinate r.start
  pub end : Coordinate r.end
  pub rises : unit (float_at r.start) < unit (float_at r.end)

-- a cutoff above 0, on the grid
pub record Cutoff (x : Float) : Type 0 where
  pub grid : T (on_grid x)
  pub some : 0 < cutoff_of x

-- rows in order, with room for their tables before them: they can be swept
pub record AtRows (s : List ℕ) (n from table : ℕ) : Type 0 where
  pub l : List Row
  pub across : Bool
  pub size : length l ≡ n
  pub many : 2 ≤ n
  pub few : n ≤ 4096
  pub sorted : Sorted rows_in_order l
  pub proper : (r : Row) → Mem r l → Proper r
  pub ordered : RowsOrdered l table (drop from s)
  pub front : 10 * n + 1 ≤ from
  pub apart : n ≤ table
  pub room : from + table + 4 * n ≤ length s

-- columns whose rows of one orientation can be swept, with a scratch whose length is `words`
pub record AtColumns (words wanted : ℕ) (c : SegmentColumns) : Type 0 where
  pub agree : SegmentsAgree c
  pub few : length c.net ≤ 4096
  pub room : 32 * length c.net + 64 ≤ words
  pub proper : (r : Row) → Mem r (oriented wanted (segments c)) → Proper r

-- the code's answer for the outcome of figures within an allowance
unfoldable pub found_of : Outcome (ParallelCongestion × Option Float) → Result Found Refusal
found_of spent = Err WorkLimitExceeded
found_of (left p m) = Ok (record {
  congested_length = p.0.congested_length;
  pair_overlap_length = p.0.pair_overlap_length;
  peak_close_neighbors = p.0.peak_close_neighbors;
  minimum_positive = p.1;
  remaining = m;
})

-- what is found where nothing is swept, with m remaining visits
abbrev pub none_of : ℕ → Found
none_of m = record { congested_length = plus_zero; pair_overlap_length = plus_zero; peak_close_neighbors = 0; minimum_positive = None; remaining = m }

-- both orientations' figures
abbrev pub combined_of : Found → Found → Found
combined_of a d = record {
  congested_length = add binary64 a.congested_length d.congested_length;
  pair_overlap_length = add binary64 a.pair_overlap_length d.pair_overlap_length;
  peak_close_neighbors = max a.peak_close_neighbors d.peak_close_neighbors;
  minimum_positive = lesser_gap a.minimum_positive d.minimum_positive;
  remaining = d.remaining;
}
