-- What only inner contracts cite: the state of the sweep, and what each of its steps makes of it.
-- After the tables of one orientation's n segments (9 n words) come the words that the sweep changes: 3 n that count the active nets, and the tree.
use Rattle.drawing.specs.declared.refusal.Refusal.{Refusal}
use Rattle.std.specs.Prelude.{◌≡◌, List, [], ◌∷◌, ℕ, ◌+◌, ◌*◌, ◌^◌, ◌≤◌, ◌<◌, length, get_or, take, drop, Option, Some, Result, Ok}
use Rattle.laws.specs.Lists.{Mem}
use Rattle.laws.specs.Inner.Sort.{Sorted}
use Rattle.laws.specs.Inner.Allowance.{Outcome, left, within, onward}
use Rattle.floats.specs.Values.{gap_of}
use Rattle.floats.specs.TotalOrder.{float_at}
use Rattle.drawing.specs.Entries.{SegmentColumns, segments}
use Rattle.drawing.specs.Inner.Lengths.{SegmentsAgree}
use Rattle.drawing.specs.Inner.LeastFloats.{Number}
use Rattle.rows.specs.Rows.{Row, rows_in_order, oriented}
use Rattle.rows.specs.Inner.Tables.{row_from, event_from, RowsOrdered}
use Rattle.separation.specs.declared.search.Search.{Search}
use Rattle.separation.specs.Figures.{Figures}
use Rattle.separation.specs.Inner.States.{met_by, Gives}
use Rattle.separation.specs.Lines.{lines, index}
use Rattle.separation.specs.Searches.{set_run}
use Rattle.separation.specs.Walk.{Sweep, remove, other_line, with_nearest, starts_at, ends_at, step}
use Rattle.separation.specs.declared.state.Sweeping.{Sweeping}
use Rattle.separation_call.specs.Inner.ActiveTree.{summary_at, Leaves, Covers}
use Rattle.separation_call.specs.Inner.ActiveNets.{Slots, Counted, Countable, Endable}
use Rattle.separation_call.specs.Inner.Prepared.{Prepared}

-- the gap of two of the lines is a number: their coordinates are finite
abbrev pub Gapped : List ℕ → Type 0
Gapped ls = (p q : ℕ) → Mem p ls → Mem q ls → Number (gap_of (float_at p) (float_at q))

-- ---- a search's answer
-- the line, and the one that a search found, are below n
pub record WithinLines (search : Result Search Refusal) (line n : ℕ) : Type 0 where
  pub own : line < n
  pub found : (answer : Search) (i : ℕ) → search ≡ Ok answer → answer.line ≡ Some i → i < n

-- the outcome of a search, joined to the figures
abbrev pub joined : List ℕ → ℕ → Figures → Outcome (Option ℕ) → Outcome Figures
joined ls p f o = onward o (λ found r. left (other_line ls p found f) r)

-- ---- what a start searches before its `set`
-- the tree and the fixed values can be read
pub record Searchable (t fixed : List ℕ) (leaves line : ℕ) : Type 0 where
  pub tree : Leaves t leaves
  pub inside : line < leaves
  pub values : leaves ≤ length fixed

-- the segment x of this net is on this line of ls, over which the tree has H levels
pub record Lined (ls : List ℕ) (H : ℕ) (active : List Row) (x : Row) (line net : ℕ) : Type 0 where
  pub enough : length ls ≤ 2 ^ H
  pub actives : (a : Row) → Mem a active → index ls a.line < length ls
  pub place : index ls x.line ≡ line
  pub there : line < length ls
  pub value : get_or ls line 0 ≡ x.line
  pub of : x.net ≡ net
  pub gaps : Gapped ls

abbrev pub WithNearest : List ℕ → List ℕ → ℕ → ℕ → ℕ → Sweeping → Result Sweeping Refusal → Type 0
WithNearest tree fixed leaves line net state r =
    (ls : List ℕ) (H : ℕ) (active : List Row) (x : Row) → leaves ≡ 2 ^ H → Covers ls active (summary_at tree) H → take (length ls) fixed ≡ ls → Lined ls H active x line net
    → Gives r (within state.remaining (with_nearest ls H active (met_by state) x))

-- ---- the words that the sweep changes
pub record Working (n b : ℕ) (ls : List ℕ) (H : ℕ) (line_of net_of slot_of : ℕ → ℕ) (active : List Row) (w : List ℕ) : Type 0 where
  pub counted : Counted n b ls line_of net_of slot_of active w
  pub covers : Covers ls active (summary_at (drop (3 * n) w)) H

-- the segment x has the index j
pub record At (n : ℕ) (ls : List ℕ) (line_of net_of slot_of : ℕ → ℕ) (x : Row) (j slot line net : ℕ) : Type 0 where
  pub slots : Slots n line_of net_of slot_of
  pub inside : j < n
  pub slot_is : slot_of j ≡ slot
  pub line-is : line_of j ≡ line
  pub net-is : net_of j ≡ net
  pub on : index ls x.line ≡ line
  pub of : x.net ≡ net

pub record Enterable (n leaves slot line net : ℕ) (w : List ℕ) : Type 0 where
  pub countable : Countable n slot line net w
  pub tree : Leaves (drop (3 * n) w) leaves
  pub inside : line < leaves

pub record Leavable (n leaves slot line net : ℕ) (w : List ℕ) : Type 0 where
  pub endable : Endable n slot line net w
  pub tree : Leaves (drop (3 * n) w) leaves
  pub inside : line < leaves

-- a `set` is paid from the remaining visits, and the figures stay
abbrev pub Pays : ℕ → Sweeping → Result Sweeping Refusal → Type 0
Pays leaves state r = (H : ℕ) → leaves ≡ 2 ^ H → Gives r (onward (within state.remaining (set_run H)) (λ done m. left (met_by state) m))

-- a segment is entered, or taken out: where the `set` was paid the words w became v
abbrev pub Entered : ℕ → ℕ → ℕ → ℕ → ℕ → List ℕ → List ℕ → Result Sweeping Refusal → Type 0
Entered n leaves slot line net w v r =
    (b : ℕ) (ls : List ℕ) (H : ℕ) (line_of net_of slot_of : ℕ → ℕ) (active : List Row) (x : Row) (j : ℕ) (to : Sweeping) → leaves ≡ 2 ^ H → At n ls line_of net_of slot_of x j slot line net
    → Working n b ls H line_of net_of slot_of active w → r ≡ Ok to → Working n (b + 1) ls H line_of net_of slot_of (x ∷ active) v

abbrev pub TakenOut : ℕ → ℕ → ℕ → ℕ → ℕ → List ℕ → List ℕ → Result Sweeping Refusal → Type 0
TakenOut n leaves slot line net w v r =
    (b : ℕ) (ls : List ℕ) (H : ℕ) (line_of net_of slot_of : ℕ → ℕ) (active : List Row) (x : Row) (j : ℕ) (to : Sweeping) → leaves ≡ 2 ^ H → At n ls line_of net_of slot_of x j slot line net
    → Working n b ls H line_of net_of slot_of active w → Mem x active → r ≡ Ok to → Working n (b + 1) ls H line_of net_of slot_of (remove x active) v

-- ---- the whole scratch after b events: the tables stay as they were made, in F; the sweep changes the words after them
pub record Ready (l : List Row) (F : List ℕ) (H b : ℕ) (active : List Row) (s : List ℕ) : Type 0 where
  pub front : take (9 * length l) s ≡ take (9 * length l) F
  pub prepared : Prepared l F
  pub sorted : Sorted rows_in_order l
  pub nets : (r : Row) → Mem r l → r.net < 2 ^ 32
  pub working : Working (length l) b (lines l) H (λ j. index (lines l) (row_from l j).line) (λ j. (row_from l j).net) (λ j. get_or F (7 * length l + j) 0) active (drop (9 * length l) s)
  pub enough : length (lines l) ≤ 2 ^ H
  pub fewer : 2 ^ H ≤ 2 * length l
  pub few : length l ≤ 4096
  pub room : 20 * length l ≤ length s
  pub from : (a : Row) → Mem a active → Mem a l
  pub gaps : Gapped (lines l)

-- segment j may start, and may end
pub record AtStart (s : List ℕ) (n leaves j : ℕ) : Type 0 where
  pub l : List Row
  pub F : List ℕ
  pub H : ℕ
  pub b : ℕ
  pub active : List Row
  pub size : length l ≡ n
  pub count : leaves ≡ 2 ^ H
  pub ready : Ready l F H b active s
  pub inside : j < n
  pub early : b < 8192

pub record AtEnd (s : List ℕ) (n leaves j : ℕ) : Type 0 where
  pub at : AtStart s n leaves j
  pub there : Mem (row_from at.l j) at.active

-- the figures after a step of the sweep
abbrev pub figures_of : Outcome Sweep → Outcome Figures
figures_of o = onward o (λ t m. left t.met m)

-- what a start makes of the scratch s, which becomes t, and of the state
abbrev pub Begins : List ℕ → List ℕ → ℕ → ℕ → ℕ → Sweeping → Result Sweeping Refusal → Type 0
Begins s t n leaves j state r =
    (l : List Row) (F : List ℕ) (H b : ℕ) (active : List Row) → length l ≡ n → leaves ≡ 2 ^ H → Ready l F H b active s
    → Gives r (figures_of (within state.remaining (starts_at (lines l) H (record { active = active; met = met_by state }) (row_from l j))))
    × ((to : Sweeping) → r ≡ Ok to → Ready l F H (b + 1) (row_from l j ∷ active) t)

abbrev pub Finishes : List ℕ → List ℕ → ℕ → ℕ → ℕ → Sweeping → Result Sweeping Refusal → Type 0
Finishes s t n leaves j state r =
    (l : List Row) (F : List ℕ) (H b : ℕ) (active : List Row) → length l ≡ n → leaves ≡ 2 ^ H → Ready l F H b active s → Mem (row_from l j) active
    → Gives r (figures_of (within state.remaining (ends_at H (record { active = active; met = met_by state }) (row_from l j))))
    × ((to : Sweeping) → r ≡ Ok to → Ready l F H (b + 1) (remove (row_from l j) active) t)

-- an event whose number is below 2 n; a segment that ends is active
pub record AtEvent (s : List ℕ) (n leaves e : ℕ) : Type 0 where
  pub l : List Row
  pub F : List ℕ
  pub H : ℕ
  pub b : ℕ
  pub active : List Row
  pub size : length l ≡ n
  pub count : leaves ≡ 2 ^ H
  pub ready : Ready l F H b active s
  pub inside : e < 2 * n
  pub early : b < 8192
  pub there : e < n → Mem (row_from l e) active

abbrev pub Handles : List ℕ → List ℕ → ℕ → ℕ → ℕ → Sweeping → Result Sweeping Refusal → Type 0
Handles s t n leaves e state r =
    (l : List Row) (F : List ℕ) (H b : ℕ) (active : List Row) → length l ≡ n → leaves ≡ 2 ^ H → Ready l F H b active s → (e < n → Mem (row_from l e) active)
    → let c = step (lines l) H (record { active = active; met = met_by state }) (event_from l e) in
    Gives r (figures_of (within state.remaining c)) × ((to : Sweeping) → r ≡ Ok to → Ready l F H (b + 1) c.value.active t)

-- the sweep may begin: no event is handled yet
pub record AtFirst (s : List ℕ) (n leaves : ℕ) : Type 0 where
  pub l : List Row
  pub F : List ℕ
  pub H : ℕ
  pub size : length l ≡ n
  pub count : leaves ≡ 2 ^ H
  pub ready : Ready l F H 0 [] s
  pub proper : (r : Row) → Mem r l → r.start < r.end

-- the tables are made, and the words after them are still to be cleared
pub record AtTables (s : List ℕ) (n many : ℕ) : Type 0 where
  pub l : List Row
  pub size : length l ≡ n
  pub some : 1 ≤ n
  pub few : n ≤ 4096
  pub count : many ≡ length (lines l)
  pub prepared : Prepared l s
  pub sorted : Sorted rows_in_order l
  pub proper : (r : Row) → Mem r l → (r.net < 2 ^ 32) × (r.start < r.end)
  pub gaps : Gapped (lines l)
  pub room : 20 * n ≤ length s

-- the rows are in order, and there is room for their tables before them
pub record AtRows (s : List ℕ) (n from table : ℕ) : Type 0 where
  pub l : List Row
  pub size : length l ≡ n
  pub few : n ≤ 4096
  pub sorted : Sorted rows_in_order l
  pub nets : (r : Row) → Mem r l → r.net < 2 ^ 32
  pub ordered : RowsOrdered l table (drop from s)
  pub front : 9 * n ≤ from
  pub apart : n ≤ table
  pub room : from + table + 4 * n ≤ length s

-- columns of segments whose rows of one orientation can be swept, with a scratch whose length is `words`
pub record AtColumns (words wanted : ℕ) (c : SegmentColumns) : Type 0 where
  pub agree : SegmentsAgree c
  pub few : length c.net ≤ 4096
  pub room : 32 * length c.net + 64 ≤ words
  pub proper : (r : Row) → Mem r (oriented wanted (segments c)) → (r.net < 2 ^ 32) × (r.start < r.end)
  pub gaps : Gapped (lines (oriented wanted (segments c)))
