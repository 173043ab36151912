-- What only inner contracts cite: how often each net is active on each line, as words of the scratch.
-- A segment is known by its index 0 .. n - 1 in order. Those of one line and one net share a slot. The words are: for each slot how many of its segments are active; then for each line how many different nets are active on it; then for each line the sum of these nets, which is the net itself where there is one.
use Rattle.std.specs.Prelude.{◌≡◌, Bool, ◌&&◌, cond, List, ◌∷◌, ℕ, ◌+◌, ◌*◌, ◌%◌, ◌^◌, ◌≤◌, ◌<◌, eqb, length, get_or}
use Rattle.laws.specs.Lists.{Mem, sum, count}
use Rattle.laws.specs.Inner.Different.{Different}
use Rattle.rows.specs.Rows.{Row}
use Rattle.separation.specs.declared.summary.NetSummary.{NetSummary}
use Rattle.separation.specs.declared.summary.NetSummary.TheVariants.{Nothing, One, Two}
use Rattle.separation.specs.Lines.{index}
use Rattle.separation.specs.Walk.{remove}
use Rattle.separation_call.specs.Inner.ActiveTree.{Decides}

-- the row is of net m on line i
abbrev pub on_line : List ℕ → ℕ → ℕ → Row → Bool
on_line ls i m r = eqb (index ls r.line) i && eqb r.net m

-- the number of active rows that are
abbrev pub net_count : List ℕ → List Row → ℕ → ℕ → ℕ
net_count ls active i m = count (on_line ls i m) active

-- the different nets that are active on line i: how many they are, what their sum is, and that there are at most b
pub record NetsOn (ls : List ℕ) (active : List Row) (b i many total : ℕ) : Type 0 where
  pub nets : List ℕ
  pub different : Different nets
  pub there : (m : ℕ) → Mem m nets → 0 < net_count ls active i m
  pub all : (m : ℕ) → 0 < net_count ls active i m → Mem m nets
  pub small : (m : ℕ) → Mem m nets → m < 2 ^ 32
  pub length-is : length nets ≡ many
  pub sum_is : sum (λ m. m) nets ≡ total
  pub few : length nets ≤ b

-- the slots of n segments, each with its line and its net
pub record Slots (n : ℕ) (line net slot : ℕ → ℕ) : Type 0 where
  pub inside : (j : ℕ) → j < n → slot j < n
  pub apart : (i j : ℕ) → i < n → j < n → slot i ≡ slot j → (line i ≡ line j) × (net i ≡ net j)
  pub alike : (i j : ℕ) → i < n → j < n → line i ≡ line j → net i ≡ net j → slot i ≡ slot j

-- the words c count the active rows, after b events
pub record Counted (n b : ℕ) (ls : List ℕ) (line net slot : ℕ → ℕ) (active : List Row) (c : List ℕ) : Type 0 where
  pub room : 3 * n ≤ length c
  pub counts : (j : ℕ) → j < n → get_or c (slot j) 0 ≡ net_count ls active (line j) (net j)
  pub lines : (i : ℕ) → i < n → NetsOn ls active b i (get_or c (n + i) 0) (get_or c (2 * n + i) 0)
  pub few : (i m : ℕ) → net_count ls active i m ≤ b

-- words that can take one segment more: no count or sum exceeds 64 bits
pub record Countable (n slot line net : ℕ) (c : List ℕ) : Type 0 where
  pub room : 3 * n ≤ length c
  pub slot_inside : slot < n
  pub line-inside : line < n
  pub count : get_or c slot 0 + 1 < 2 ^ 64
  pub many : get_or c (n + line) 0 + 1 < 2 ^ 64
  pub total : get_or c (2 * n + line) 0 + net < 2 ^ 64

-- words that hold the segment that ends: its slot counts at least one, and the line's words hold its net
pub record Endable (n slot line net : ℕ) (c : List ℕ) : Type 0 where
  pub room : 3 * n ≤ length c
  pub slot_inside : slot < n
  pub line-inside : line < n
  pub count : 0 < get_or c slot 0
  pub many : 0 < get_or c (n + line) 0
  pub total : net ≤ get_or c (2 * n + line) 0

-- ---- the summary of a line, from its words: where one net is active, the sum is that net, which has 32 bits
unfoldable pub line_summary : ℕ → ℕ → NetSummary
line_summary many total = cond (eqb many 0) Nothing (cond (eqb many 1) (One (total % 4294967296)) Two)

abbrev pub summary_of_line : List ℕ → ℕ → ℕ → NetSummary
summary_of_line c n i = line_summary (get_or c (n + i) 0) (get_or c (2 * n + i) 0)

-- ---- a segment with this slot, line and net starts or ends: the words c become d, and the line's summary r. Whatever rows c counted, d counts them with the segment's row x or without it, and r decides for its line.
abbrev pub Starts : ℕ → ℕ → ℕ → ℕ → List ℕ → List ℕ → NetSummary → Type 0
Starts n slot line net c d r = (b : ℕ) (ls : List ℕ) (line_of net_of slot_of : ℕ → ℕ) (active : List Row) (x : Row) (j : ℕ)
    → Counted n b ls line_of net_of slot_of active c → Slots n line_of net_of slot_of
    → j < n → slot_of j ≡ slot → line_of j ≡ line → net_of j ≡ net → index ls x.line ≡ line → x.net ≡ net
    → Counted n (b + 1) ls line_of net_of slot_of (x ∷ active) d × Decides ls (x ∷ active) r line (line + 1)

abbrev pub Ends : ℕ → ℕ → ℕ → ℕ → List ℕ → List ℕ → NetSummary → Type 0
Ends n slot line net c d r = (b : ℕ) (ls : List ℕ) (line_of net_of slot_of : ℕ → ℕ) (active : List Row) (x : Row) (j : ℕ)
    → Counted n b ls line_of net_of slot_of active c → Slots n line_of net_of slot_of
    → j < n → slot_of j ≡ slot → line_of j ≡ line → net_of j ≡ net → index ls x.line ≡ line → x.net ≡ net
    → Mem x active
    → Counted n (b + 1) ls line_of net_of slot_of (remove x active) d × Decides ls (remove x active) r line (line + 1)
