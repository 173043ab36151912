-- What only inner contracts cite: the tables of one orientation's wires in the scratch. There are n of them, L, with ascending fixed coordinates; a wire is known by its index 0 .. n - 1.
-- The first 2 n words: the events in order, by number: event j < n is the end of wire j, event n + j its start.
-- From 2 n on, n words each: the keys of the ends, of the starts and of the fixed coordinates, the nets, and of the wires within the cutoff the first index and the one after the last.
-- After these 8 n words come those that the sweep changes: n counts of close neighbors, and the set of active wires as bits.
use Rattle.std.specs.Prelude.{◌≡◌, false, ◌&&◌, cond, List, map, ℕ, ◌+◌, ◌-◌, ◌*◌, ◌≤◌, ◌<◌, leb, ltb, length, get_or, take, drop}
use Rattle.laws.specs.Lists.{All}
use Rattle.sorting.specs.Inner.Sorted.{up_to}
use Rattle.bitset.specs.Inner.Members.{member}
use Rattle.congestion.specs.Wires.{Wire}
use Rattle.congestion.specs.Walk.{Item, WireEvent, WireState, State, numbered, wire_events, in_order, in_range}
use Rattle.congestion.specs.Inner.Keys.{Key}

-- the wire at an index, and the event of a number
abbrev pub no_wire : Wire
no_wire = record { net = 0; horizontal = false; fixed = 0; start = 0; end = 0 }

abbrev pub item_at : List Wire → ℕ → Item
item_at L j = record { wire = get_or L j no_wire; index = j }

abbrev pub event_at : List Wire → ℕ → WireEvent
event_at L e = record { ends = ltb e (length L); item = cond (ltb e (length L)) (item_at L e) (item_at L (e - length L)) }

-- the columns of the ranges give the wires within a cutoff of c 64ths
pub record Ranged (c : ℕ) (L : List Wire) (s : List ℕ) : Type 0 where
  pub inside : (j : ℕ) → j < length L → get_or s (7 * length L + j) 0 ≤ length L
  pub range : (i j : ℕ) → i < length L → j < length L → in_range c (item_at L j).wire (item_at L i).wire ≡ (leb (get_or s (6 * length L + j) 0) i && ltb i (get_or s (7 * length L + j) 0))

-- the tables as the sweep reads them, for a cutoff of c 64ths
pub record Tabled (c : ℕ) (L : List Wire) (s : List ℕ) : Type 0 where
  pub small : All (λ e. e < 2 * length L) (take (2 * length L) s)
  pub ordered : map (event_at L) (take (2 * length L) s) ≡ in_order (wire_events (numbered 0 L))
  pub ends : (j : ℕ) → j < length L → Key (get_or s (2 * length L + j) 0) (item_at L j).wire.end
  pub starts : (j : ℕ) → j < length L → Key (get_or s (3 * length L + j) 0) (item_at L j).wire.start
  pub fixed : (j : ℕ) → j < length L → Key (get_or s (4 * length L + j) 0) (item_at L j).wire.fixed
  pub nets : (j : ℕ) → j < length L → get_or s (5 * length L + j) 0 ≡ (item_at L j).wire.net
  pub ranges : Ranged c L s

-- ---- what the words after the tables hold for each wire
abbrev pub wire_state_from : List Wire → List ℕ → ℕ → WireState
wire_state_from L w j = record { item = item_at L j; active = member (drop (length L) w) j; neighbors = get_or w j 0 }

abbrev pub wire_states_from : List Wire → List ℕ → List WireState
wire_states_from L w = map (wire_state_from L w) (up_to (length L))

-- they hold the wires of a state
pub record Stored (L : List Wire) (st : State) (w : List ℕ) : Type 0 where
  pub wires : st.wires ≡ wire_states_from L w
  pub room : 2 * length L + 1 ≤ length w
