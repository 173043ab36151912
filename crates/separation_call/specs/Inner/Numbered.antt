-- What only inner contracts cite: the lines of the rows in order get their numbers, and each segment gets its slot. There are n segments; s is the slice before and e the slice after.
use Rattle.std.specs.Prelude.{◌≡◌, cond, List, map, ℕ, ◌+◌, ◌-◌, ◌*◌, ◌/◌, ◌%◌, ◌^◌, ◌≤◌, ◌<◌, eqb, leb, length, get_or, take, drop}
use Rattle.laws.specs.Lists.{Mem, All}
use Rattle.laws.specs.Inner.Sort.{Sorted}
use Rattle.rows.specs.Rows.{Row, rows_in_order}
use Rattle.rows.specs.Inner.Tables.{column}
use Rattle.separation.specs.Lines.{lines, index}
use Rattle.separation_call.specs.Inner.ActiveNets.{Slots}

-- ---- the numbers of the lines
-- the number of the line of a key, where m lines have begun, the last of them with the key `last`
unfoldable pub line_of : ℕ → ℕ → ℕ → ℕ
line_of m last key = cond (eqb m 0) 0 (cond (eqb key last) (m - 1) m)

-- the different keys of rows in order, and the number of each row's line
pub record Numbered (l : List Row) (e : List ℕ) (many : ℕ) : Type 0 where
  pub many_is : many ≡ length (lines l)
  pub fixed : take (length (lines l)) (column (length l) 6 e) ≡ lines l
  pub places : column (length l) 4 e ≡ map (λ r. index (lines l) r.line) l

pub record LinesNumbered (n : ℕ) (s e : List ℕ) (many : ℕ) : Type 0 where
  pub few : many ≤ n
  pub numbered : (l : List Row) → length l ≡ n → Sorted rows_in_order l → column n 4 s ≡ map (λ r. r.line) l → Numbered l e many
  pub front : take (4 * n) e ≡ take (4 * n) s
  pub nets : column n 5 e ≡ column n 5 s
  pub behind : drop (7 * n) e ≡ drop (7 * n) s

-- ---- the slots
-- line numbers and nets that fit into one word with a segment's index
pub record Slottable (n : ℕ) (s : List ℕ) : Type 0 where
  pub room : 9 * n ≤ length s
  pub few : n ≤ 4096
  pub lines : All (λ i. i < n) (column n 4 s)
  pub nets : All (λ m. m < 2 ^ 32) (column n 5 s)

-- the word of segment j: these words, sorted, are in order by line and net
abbrev pub slot_word : List ℕ → ℕ → ℕ → ℕ
slot_word s n j = get_or s (4 * n + j) 0 * 2 ^ 44 + get_or s (5 * n + j) 0 * 2 ^ 12 + j

pub record WordsFilled (n : ℕ) (s e : List ℕ) : Type 0 where
  pub front : take (8 * n) e ≡ take (8 * n) s
  pub words : (j : ℕ) → j < n → get_or e (8 * n + j) 0 ≡ slot_word s n j
  pub behind : drop (9 * n) e ≡ drop (9 * n) s

-- the segment's index in the low 12 bits of a word, and its line and net in the bits above
abbrev pub place_of : ℕ → ℕ
place_of w = w % 4096

abbrev pub group_of : ℕ → ℕ
group_of w = w / 4096

-- words in order, each of another segment
pub record WordsInOrder (n : ℕ) (l : List ℕ) : Type 0 where
  pub sorted : Sorted leb l
  pub inside : (w : ℕ) → Mem w l → place_of w < n
  pub one : (v w : ℕ) → Mem v l → Mem w l → place_of v ≡ place_of w → v ≡ w

-- the slot of the k-th word: a group's slot is the index of its first word
unfoldable pub slot_of : ℕ → ℕ → ℕ → ℕ → ℕ
slot_of k slot last group = cond (eqb group last) slot k

pub record SlotsPut (n : ℕ) (s e : List ℕ) : Type 0 where
  pub front : take (7 * n) e ≡ take (7 * n) s
  pub slots : (w : ℕ) → Mem w (column n 8 s) → get_or e (7 * n + place_of w) 0 ≡ index (map group_of (column n 8 s)) (group_of w)
  pub behind : drop (8 * n) e ≡ drop (8 * n) s

pub record SlotsAssigned (n : ℕ) (s e : List ℕ) : Type 0 where
  pub front : take (7 * n) e ≡ take (7 * n) s
  pub slots : Slots n (λ j. get_or e (4 * n + j) 0) (λ j. get_or e (5 * n + j) 0) (λ j. get_or e (7 * n + j) 0)
  pub behind : drop (9 * n) e ≡ drop (9 * n) s
