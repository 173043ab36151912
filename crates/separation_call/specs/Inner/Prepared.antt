-- What only inner contracts cite: the tables of one orientation's segments in the scratch. There are n of them, in order: l.
-- The first 2 n words: the events in order, by number: event j < n is the end of segment j, event n + j its start.
-- From 2 n on, n words each: the keys of the ends, the keys of the starts, the lines, the nets, the different fixed values, the slots, and the words by which the slots were assigned.
use Rattle.std.specs.Prelude.{◌≡◌, List, map, ℕ, ◌+◌, ◌*◌, ◌<◌, length, get_or, take}
use Rattle.laws.specs.Lists.{All}
use Rattle.rows.specs.Rows.{Row, events}
use Rattle.rows.specs.Inner.Tables.{row_from, event_from, column}
use Rattle.separation.specs.Lines.{lines, index}
use Rattle.separation_call.specs.Inner.ActiveNets.{Slots}

-- the tables as the sweep reads them
pub record Prepared (l : List Row) (s : List ℕ) : Type 0 where
  pub small : All (λ e. e < 2 * length l) (take (2 * length l) s)
  pub ordered : map (event_from l) (take (2 * length l) s) ≡ events l
  pub places : column (length l) 4 s ≡ map (λ r. index (lines l) r.line) l
  pub nets : column (length l) 5 s ≡ map (λ r. r.net) l
  pub fixed : take (length (lines l)) (column (length l) 6 s) ≡ lines l
  pub slots : Slots (length l) (λ j. index (lines l) (row_from l j).line) (λ j. (row_from l j).net) (λ j. get_or s (7 * length l + j) 0)
