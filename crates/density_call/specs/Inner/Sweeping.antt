-- What only inner contracts cite: the state of the sweep over one orientation's wires, what each event makes of it, and the outcome of all events.
use Rattle.drawing.specs.declared.refusal.Refusal.TheVariants.{WorkLimitExceeded}
use Rattle.drawing.specs.declared.refusal.Refusal.{Refusal}
use Rattle.std.specs.Prelude.{◌≡◌, true, not, ◌&&◌, List, ◌++◌, ℕ, ◌+◌, ◌-◌, ◌*◌, ◌^◌, ◌≤◌, ◌<◌, max, pos, eqb, Float, length, get_or, take, drop, set, Result, Ok, Err}
use Rattle.std.specs.Bool.{beq}
use Rattle.std.specs.Float.{binary64}
use Rattle.std.specs.Float.Ieee.{add, sub, mul, of_int}
use Rattle.laws.specs.Lists.{Mem, bit, count}
use Rattle.laws.specs.Inner.Allowance.{Outcome, spent, left}
use Rattle.bitset.specs.Inner.Members.{inserted, removed}
use Rattle.floats.specs.TotalOrder.{float_at}
use Rattle.floats.specs.Grid.{of_units}
use Rattle.density_call.specs.declared.meet.Meeting.{Meeting}
use Rattle.density_call.specs.declared.sweep.Sweeping.{Sweeping}
use Rattle.congestion.specs.declared.found.Found.{Found}
use Rattle.congestion.specs.Wires.{Wire}
use Rattle.congestion.specs.Walk.{Item, WireEvent, WireState, State, at, neighbor, neighbors, was_congested, step, gap_of_units}
use Rattle.congestion.specs.Inner.Keys.{Key, Representable}
use Rattle.density_call.specs.Inner.Tables.{event_at, Tabled, Stored}
use Rattle.density_call.specs.Inner.Meeting.{least_float}

-- ---- the steps of an event, on the Rust's variables
-- `congested_length += congested_active as f64 * (coordinate.0 - previous)`, and the same for the pairs
abbrev pub passed_to : Sweeping → Float → Sweeping
passed_to s x = record {
  congested_active = s.congested_active;
  congested_length = add binary64 s.congested_length (mul binary64 (of_int binary64 (pos s.congested_active)) (sub binary64 x s.previous));
  close_pairs = s.close_pairs;
  pair_overlap_length = add binary64 s.pair_overlap_length (mul binary64 (of_int binary64 (pos s.close_pairs)) (sub binary64 x s.previous));
  peak_close_neighbors = s.peak_close_neighbors;
  minimum_positive = s.minimum_positive;
  previous = x;
  remaining = s.remaining;
}

-- the variables after a wire that met these others starts, and after it ends with its own count
abbrev pub started_by : Sweeping → Meeting → Sweeping
started_by s m = record {
  congested_active = s.congested_active + bit (not (eqb m.neighbors 0)) + m.changed;
  congested_length = s.congested_length;
  close_pairs = s.close_pairs + m.neighbors;
  pair_overlap_length = s.pair_overlap_length;
  peak_close_neighbors = max s.peak_close_neighbors (max m.highest m.neighbors);
  minimum_positive = m.least;
  previous = s.previous;
  remaining = m.remaining;
}

abbrev pub ended_by : Sweeping → ℕ → Meeting → Sweeping
ended_by s own m = record {
  congested_active = s.congested_active - bit (not (eqb own 0)) - m.changed;
  congested_length = s.congested_length;
  close_pairs = s.close_pairs - m.neighbors;
  pair_overlap_length = s.pair_overlap_length;
  peak_close_neighbors = s.peak_close_neighbors;
  minimum_positive = m.least;
  previous = s.previous;
  remaining = m.remaining;
}

-- ---- and on the scratch: wire j's own count and its bit in the set of active wires
unfoldable pub activated : ℕ → ℕ → ℕ → List ℕ → List ℕ
activated n j k s = take (9 * n) (set s (8 * n + j) k) ++ inserted (drop (9 * n) s) j

unfoldable pub deactivated : ℕ → ℕ → List ℕ → List ℕ
deactivated n j s = take (9 * n) (set s (8 * n + j) 0) ++ removed (drop (9 * n) s) j

-- ---- the state of the sweep
-- the variables hold the figures of a state; `previous` is the float of a key
pub record Follows (s : Sweeping) (st : State) : Type 0 where
  pub active : s.congested_active ≡ st.congested_active
  pub pairs : s.close_pairs ≡ st.close_pairs
  pub congested : s.congested_length ≡ of_units st.congested_length
  pub overlap : s.pair_overlap_length ≡ of_units st.pair_overlap_length
  pub peak : s.peak_close_neighbors ≡ st.peak_close_neighbors
  pub least : s.minimum_positive ≡ least_float st.minimum_positive
  pub held : Representable st.minimum_positive
  pub word : ℕ
  pub last : s.previous ≡ float_at word
  pub key : Key word st.previous

-- an end's subtractions do not go below 0
pub record Ending (c : ℕ) (i : Item) (st : State) : Type 0 where
  pub active : was_congested c i st + count (λ r. neighbor c i.wire r && eqb r.neighbors 1) st.wires ≤ st.congested_active
  pub pairs : neighbors c i st ≤ st.close_pairs
  pub some : (r : WireState) → Mem r st.wires → neighbor c i.wire r ≡ true → 1 ≤ r.neighbors

-- the event e comes next in the state st, and floats hold the lengths after it
pub record Due (c : ℕ) (st : State) (e : WireEvent) : Type 0 where
  pub past : st.previous ≤ at e
  pub active : st.congested_active ≤ 16777216
  pub pairs : st.close_pairs ≤ 16777216
  pub counts : (r : WireState) → Mem r st.wires → r.neighbors ≤ 4096
  pub congested : (step c st e).value.congested_length < 2 ^ 53
  pub overlap : (step c st e).value.pair_overlap_length < 2 ^ 53
  pub ending : e.ends ≡ true → Ending c e.item st

-- event e of n wires may be handled
pub record AtEvent (s : List ℕ) (n e : ℕ) (state : Sweeping) : Type 0 where
  pub c : ℕ
  pub L : List Wire
  pub st : State
  pub size : length L ≡ n
  pub few : n ≤ 4096
  pub inside : e < 2 * n
  pub room : 10 * n + 1 ≤ length s
  pub tabled : Tabled c L s
  pub stored : Stored L st (drop (8 * n) s)
  pub follows : Follows state st
  pub due : Due c st (event_at L e)

-- the sweep continued to the state st, with the scratch t and m remaining visits
pub record Onward (c : ℕ) (L : List Wire) (n : ℕ) (st : State) (t : List ℕ) (m : ℕ) (r : Result Sweeping Refusal) : Type 0 where
  pub to : Sweeping
  pub went : r ≡ Ok to
  pub remaining : to.remaining ≡ m
  pub follows : Follows to st
  pub tabled : Tabled c L t
  pub stored : Stored L st (drop (8 * n) t)

-- the outcome of the event e in the state st, with m remaining visits: a step of the sweep, where its visits can be paid; the scratch becomes t
abbrev pub Steps : ℕ → List Wire → ℕ → State → WireEvent → List ℕ → ℕ → Result Sweeping Refusal → Type 0
Steps c L n st e t m r =
    (m < (step c st e).cost → r ≡ Err WorkLimitExceeded) × ((step c st e).cost ≤ m → Onward c L n (step c st e).value t (m - (step c st e).cost) r)

-- event e of n wires: the scratch s becomes t
abbrev pub Handles : List ℕ → List ℕ → ℕ → ℕ → Sweeping → Result Sweeping Refusal → Type 0
Handles s t n e state r = (a : AtEvent s n e state) → Steps a.c a.L n a.st (event_at a.L e) t state.remaining r

-- ---- the sweep may begin: the tables are made, and the words after them are cleared
pub record AtFirst (s : List ℕ) (n : ℕ) : Type 0 where
  pub c : ℕ
  pub L : List Wire
  pub size : length L ≡ n
  pub some : 1 ≤ n
  pub few : n ≤ 4096
  pub room : 10 * n + 1 ≤ length s
  pub tabled : Tabled c L s
  pub cleared : (i : ℕ) → i < 2 * n → get_or s (8 * n + i) 0 ≡ 0
  pub ordered : (w : Wire) → Mem w L → w.start < w.end
  pub alike : (v w : Wire) → Mem v L → Mem w L → beq v.horizontal w.horizontal ≡ true

-- the code's answer for the outcome of a sweep within the allowance
unfoldable pub swept_of : Outcome State → Result Found Refusal
swept_of spent = Err WorkLimitExceeded
swept_of (left st m) = Ok (record {
  congested_length = of_units st.congested_length;
  pair_overlap_length = of_units st.pair_overlap_length;
  peak_close_neighbors = st.peak_close_neighbors;
  minimum_positive = gap_of_units st.minimum_positive;
  remaining = m;
})
