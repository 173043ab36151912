-- What only inner contracts cite: an event's wire meets the active wires within the cutoff, one visit each.
use Rattle.drawing.specs.declared.refusal.Refusal.TheVariants.{WorkLimitExceeded}
use Rattle.drawing.specs.declared.refusal.Refusal.{Refusal}
use Rattle.std.specs.Prelude.{◌≡◌, Bool, true, false, ◌&&◌, cond, List, map, ℕ, ◌+◌, ◌-◌, ◌*◌, ◌≤◌, ◌<◌, max, eqb, ltb, Float, length, get_or, take, drop, set, Option, Result, Ok, Err, None, Some}
use Rattle.std.specs.Float.{nan}
use Rattle.std.specs.Float.Ieee.{lt}
use Rattle.laws.specs.Lists.{Mem, bit, fold, count}
use Rattle.laws.specs.Least.{lesser}
use Rattle.floats.specs.Values.{plus_zero, lesser_of, gap_of}
use Rattle.floats.specs.TotalOrder.{float_at}
use Rattle.floats.specs.Grid.{of_units}
use Rattle.density_call.specs.declared.meet.Meeting.{Meeting}
use Rattle.congestion.specs.Wires.{Wire}
use Rattle.congestion.specs.Walk.{WireState, State, visited, neighbor, neighbors, least_here, risen, fallen}
use Rattle.congestion.specs.Inner.Keys.{Representable}
use Rattle.density_call.specs.Inner.Tables.{item_at, Tabled, wire_states_from, Stored}

-- the number of visits that wire j's event costs
abbrev pub visits_of : ℕ → List Wire → ℕ → State → ℕ
visits_of c L j st = count (visited c (item_at L j).wire) st.wires

-- what the code needs for wire j to meet the others, at its start where `starts` is true, else at its end
-- `some`: where an end lowers a neighbor's count, the count is not 0
pub record Meetable (starts : Bool) (s : List ℕ) (n j : ℕ) : Type 0 where
  pub c : ℕ
  pub L : List Wire
  pub st : State
  pub size : length L ≡ n
  pub few : n ≤ 4096
  pub inside : j < n
  pub tabled : Tabled c L s
  pub stored : Stored L st (drop (8 * n) s)
  pub room : 10 * n + 1 ≤ length s
  pub counts : (i : ℕ) → i < n → get_or s (8 * n + i) 0 ≤ 4096
  pub some : starts ≡ false → (r : WireState) → Mem r st.wires → neighbor c (item_at L j).wire r ≡ true → 1 ≤ r.neighbors

-- the scratch s became t: only counts changed
pub record CountsOnly (n : ℕ) (s t : List ℕ) : Type 0 where
  pub front : take (8 * n) t ≡ take (8 * n) s
  pub behind : drop (9 * n) t ≡ drop (9 * n) s

-- ---- an event of wire j: its start where `starts` is true, else its end
-- each neighbor's count rises by one, or falls by one
abbrev pub moved : Bool → Bool → WireState → WireState
moved true b r = risen false b 0 r
moved false b r = fallen false b r

-- the count at which a neighbor becomes congested, or ceases to be
abbrev pub changing_count : Bool → ℕ
changing_count true = 0
changing_count false = 1

-- the greatest count that a start makes; an end needs none
abbrev pub topmost : Bool → (WireState → Bool) → List WireState → ℕ
topmost true p l = fold max 0 (λ x. cond (p x) (x.neighbors + 1) 0) l
topmost false p l = 0

-- a least gap of 64ths as a float, a NaN where there is none yet
abbrev pub least_float : Option ℕ → Float
least_float None = nan
least_float (Some n) = of_units n

abbrev pub Meets : Bool → List ℕ → List ℕ → ℕ → ℕ → Float → ℕ → Result Meeting Refusal → Type 0
Meets starts s t n j least allowance r =
    (c : ℕ) (L : List Wire) (st : State) (m : Option ℕ) → length L ≡ n → Tabled c L s → Stored L st (drop (8 * n) s) → least ≡ least_float m → Representable m
    → (allowance < visits_of c L j st → r ≡ Err WorkLimitExceeded)
    × (visits_of c L j st ≤ allowance
    → (r ≡ Ok (record {
      neighbors = neighbors c (item_at L j) st;
      changed = count (λ x. neighbor c (item_at L j).wire x && eqb x.neighbors (changing_count starts)) st.wires;
      highest = topmost starts (neighbor c (item_at L j).wire) st.wires;
      least = least_float (lesser ltb m (least_here c (item_at L j) st));
      remaining = allowance - visits_of c L j st;
    }))
    × (wire_states_from L (drop (8 * n) t) ≡ map (λ x. moved starts (neighbor c (item_at L j).wire x) x) st.wires))

-- ---- its loop
-- a gap joins the least one where it is above 0; a NaN, which means none, is below nothing
abbrev pub with_gap : Float → Float → Float
with_gap least gap = cond (lt plus_zero gap) (lesser_of gap least) least

-- a neighbor whose count is k, at a gap: its new count, the greatest count so far, and the meeting with it
abbrev pub count_after : Bool → ℕ → ℕ
count_after true k = k + 1
count_after false k = k - 1

abbrev pub highest_after : Bool → ℕ → ℕ → ℕ
highest_after true h k = max h (k + 1)
highest_after false h k = h

abbrev pub with_neighbor : Bool → ℕ → Float → Meeting → Meeting
with_neighbor starts k gap t = record { neighbors = t.neighbors + 1; changed = t.changed + bit (eqb k (changing_count starts)); highest = highest_after starts t.highest k; least = with_gap t.least gap; remaining = t.remaining - 1 }

-- a wire of the same net costs a visit and changes nothing else
abbrev pub paid : Meeting → Meeting
paid t = record { neighbors = t.neighbors; changed = t.changed; highest = t.highest; least = t.least; remaining = t.remaining - 1 }

-- the count in the word `at` may be changed
pub record Countable (s : List ℕ) (at : ℕ) (starts : Bool) (t : Meeting) : Type 0 where
  pub inside : at < length s
  pub small : get_or s at 0 ≤ 4096
  pub some : starts ≡ false → 1 ≤ get_or s at 0
  pub neighbors : t.neighbors ≤ 4096
  pub changed : t.changed ≤ 4096
  pub remaining : 1 ≤ t.remaining

-- wire i may be visited
pub record Visitable (s : List ℕ) (n i net : ℕ) (starts : Bool) (t : Meeting) : Type 0 where
  pub few : n ≤ 4096
  pub inside : i < n
  pub room : 9 * n ≤ length s
  pub small : get_or s (8 * n + i) 0 ≤ 4096
  pub some : starts ≡ false → (get_or s (5 * n + i) 0 ≡ net → ⊥) → 1 ≤ get_or s (8 * n + i) 0
  pub neighbors : t.neighbors ≤ 4096
  pub changed : t.changed ≤ 4096
  pub remaining : 1 ≤ t.remaining

-- the scratch s becomes u, and the meeting t becomes r
pub record Visits (s u : List ℕ) (n i net : ℕ) (here : Float) (starts : Bool) (t r : Meeting) : Type 0 where
  pub passes : get_or s (5 * n + i) 0 ≡ net → (r ≡ paid t) × (u ≡ s)
  pub meets : (get_or s (5 * n + i) 0 ≡ net → ⊥) → (r ≡ with_neighbor starts (get_or s (8 * n + i) 0) (gap_of (float_at (get_or s (4 * n + i) 0)) here) t) × (u ≡ set s (8 * n + i) (count_after starts (get_or s (8 * n + i) 0)))
