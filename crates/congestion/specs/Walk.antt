-- The Rust's sweep with no limit (SCOPE 5.12), over wires: a state for each event, and the visits that each event costs.
use Rattle.std.specs.Prelude.{List, [], ◌∷◌, map, Bool, true, false, not, ◌&&◌, cond, ℕ, suc, ◌+◌, ◌-◌, ◌*◌, max, ltb, eqb, Float, length, Option, Some, None}
use Rattle.std.specs.Bool.{beq}
use Rattle.laws.specs.Lists.{keep, bit, fold, count}
use Rattle.laws.specs.Rows.{row_le}
use Rattle.laws.specs.Sort.{sort_by}
use Rattle.laws.specs.Least.{lesser}
use Rattle.laws.specs.Charged.{Charged, free, after, runs}
use Rattle.floats.specs.Grid.{zero_unit, of_units}
use Rattle.drawing.specs.Entries.{Segment}
use Rattle.drawing.specs.Orders.{segments_in_order}
use Rattle.congestion.specs.declared.report.ParallelCongestion.{ParallelCongestion}
use Rattle.congestion.specs.Wires.{Wire, wire_of, cutoff_of}
use Rattle.congestion.specs.Figures.{apart, other, total}
use Rattle.congestion.specs.AllPairs.{lengths}

-- a wire with its index in the list of its orientation
pub record Item : Type 0 where
  pub wire : Wire
  pub index : ℕ

abbrev pub numbered : ℕ → List Wire → List Item
numbered n [] = []
numbered n (s ∷ l) = record { wire = s; index = n } ∷ numbered (suc n) l

-- the end or the start of a wire
pub record WireEvent : Type 0 where
  pub ends : Bool
  pub item : Item

abbrev pub at : WireEvent → ℕ
at e = cond e.ends e.item.wire.end e.item.wire.start

-- SCOPE 5.9: `(coordinate, 0 for an end and 1 for a start, index)`, in dictionary order: ends come before starts at one coordinate
abbrev pub event_row : WireEvent → List ℕ
event_row e = at e ∷ cond e.ends 0 1 ∷ e.item.index ∷ []

-- both events of each wire
abbrev pub wire_events : List Item → List WireEvent
wire_events [] = []
wire_events (i ∷ l) = record { ends = true; item = i } ∷ record { ends = false; item = i } ∷ wire_events l

-- `events.sort_unstable()`
unfoldable pub in_order : List WireEvent → List WireEvent
in_order l = sort_by (λ a b. row_le (event_row a) (event_row b)) l

-- what the sweep stores for one wire: whether it is active, and its `close_neighbor_counts`
pub record WireState : Type 0 where
  pub item : Item
  pub active : Bool
  pub neighbors : ℕ

-- SCOPE 5.12: `Excluded(FloatKey(query.fixed - cutoff)), Excluded(FloatKey(query.fixed + cutoff))`, in 64ths
abbrev pub in_range : ℕ → Wire → Wire → Bool
in_range c s t = ltb s.fixed (t.fixed + c) && ltb t.fixed (s.fixed + c)

-- SCOPE 5.12: an active wire in the range costs a visit
abbrev pub visited : ℕ → Wire → WireState → Bool
visited c s r = r.active && in_range c s r.item.wire

-- it is a neighbor where its net differs
abbrev pub neighbor : ℕ → Wire → WireState → Bool
neighbor c s r = r.active && (in_range c s r.item.wire && other s r.item.wire)

abbrev pub same : Item → Item → Bool
same i j = eqb i.index j.index

-- the state of a wire after the start of an item with n neighbors, and after an end: that of the item itself, of a neighbor, of any other
abbrev pub risen : Bool → Bool → ℕ → WireState → WireState
risen true b n r = record { item = r.item; active = true; neighbors = n }
risen false true n r = record { item = r.item; active = r.active; neighbors = r.neighbors + 1 }
risen false false n r = r

abbrev pub fallen : Bool → Bool → WireState → WireState
fallen true b r = record { item = r.item; active = false; neighbors = 0 }
fallen false true r = record { item = r.item; active = r.active; neighbors = r.neighbors - 1 }
fallen false false r = r

-- the Rust's variables; `wires` represents its set of active wires and their counts
pub record State : Type 0 where
  pub wires : List WireState
  pub congested_active : ℕ
  pub close_pairs : ℕ
  pub previous : ℕ
  pub congested_length : ℕ
  pub pair_overlap_length : ℕ
  pub peak_close_neighbors : ℕ
  pub minimum_positive : Option ℕ

-- the gap of two wires, where it is not zero
abbrev pub gap_unless_zero : Bool → ℕ → Option ℕ
gap_unless_zero true g = None
gap_unless_zero false g = Some g

abbrev pub gap : Wire → Wire → Option ℕ
gap s t = gap_unless_zero (eqb s.fixed t.fixed) (apart s.fixed t.fixed)

-- an event of item i in a state
module _ (c : ℕ) (i : Item) (st : State) where
  -- `neighbors.len()`
  abbrev pub neighbors : ℕ
  neighbors = count (neighbor c i.wire) st.wires

  -- the least nonzero gap to a neighbor
  abbrev pub least_here : Option ℕ
  least_here = fold (lesser ltb) None (λ r. cond (neighbor c i.wire r) (gap i.wire r.item.wire) None) st.wires

  -- 1 where the item's own count is not 0
  abbrev pub was_congested : ℕ
  was_congested = count (λ r. same i r.item && not (eqb r.neighbors 0)) st.wires

  -- the greatest count that a start makes: a neighbor's, raised by one, or the item's own
  abbrev pub highest : ℕ
  highest = max (fold max 0 (λ r. cond (neighbor c i.wire r) (r.neighbors + 1) 0) st.wires) neighbors

  -- its start and its end at the coordinate x
  abbrev pub after_start : ℕ → State
  after_start x = record {
    wires = map (λ r. risen (same i r.item) (neighbor c i.wire r) neighbors r) st.wires;
    congested_active = st.congested_active + bit (not (eqb neighbors 0)) + count (λ r. neighbor c i.wire r && eqb r.neighbors 0) st.wires;
    close_pairs = st.close_pairs + neighbors;
    previous = x;
    congested_length = st.congested_length + st.congested_active * (x - st.previous);
    pair_overlap_length = st.pair_overlap_length + st.close_pairs * (x - st.previous);
    peak_close_neighbors = max st.peak_close_neighbors highest;
    minimum_positive = lesser ltb st.minimum_positive least_here;
  }

  abbrev pub after_end : ℕ → State
  after_end x = record {
    wires = map (λ r. fallen (same i r.item) (neighbor c i.wire r) r) st.wires;
    congested_active = st.congested_active - was_congested - count (λ r. neighbor c i.wire r && eqb r.neighbors 1) st.wires;
    close_pairs = st.close_pairs - neighbors;
    previous = x;
    congested_length = st.congested_length + st.congested_active * (x - st.previous);
    pair_overlap_length = st.pair_overlap_length + st.close_pairs * (x - st.previous);
    peak_close_neighbors = st.peak_close_neighbors;
    minimum_positive = lesser ltb st.minimum_positive least_here;
  }

-- SCOPE 5.12: one event: each active wire in the range costs one visit
abbrev pub step : ℕ → State → WireEvent → Charged State
step c st e = record { value = cond e.ends (after_end c e.item st (at e)) (after_start c e.item st (at e)); cost = count (visited c e.item.wire) st.wires }

-- `events.first().map_or(0.0, ..)`
abbrev pub first_at : List WireEvent → ℕ
first_at [] = zero_unit
first_at (e ∷ l) = at e

-- before the first event: nothing is active, and `previous` is the first coordinate
abbrev pub begin : List Item → State
begin l = record { wires = map (λ i. record { item = i; active = false; neighbors = 0 }) l; congested_active = 0; close_pairs = 0; previous = first_at (in_order (wire_events l)); congested_length = 0; pair_overlap_length = 0; peak_close_neighbors = 0; minimum_positive = None }

-- `congested_length_for_orientation`
unfoldable pub sweep : ℕ → List Wire → Charged State
sweep c l = let i = numbered 0 l in runs (step c) (begin i) (in_order (wire_events i))

-- SCOPE 5.12: the same `if oriented.len() >= 2`: else nothing is done
unfoldable pub along : ℕ → List Wire → Charged State
along c l = cond (ltb (length l) 2) (free (begin [])) (sweep c l)

-- the wires of one orientation
abbrev pub only : Bool → List Wire → List Wire
only h l = keep (λ s. beq h s.horizontal) l

-- the gap of a number of 64ths
abbrev pub gap_of_units : Option ℕ → Option Float
gap_of_units None = None
gap_of_units (Some n) = Some (of_units n)

-- SCOPE 3.16, 5.12: `measure_parallel_profile_bounded` with no limit; on an empty list, where the Rust returns early too, all is 0
unfoldable pub sweep_wires : ℕ → List Wire → Charged (ParallelCongestion × Option Float)
sweep_wires c l =
    cond (eqb c 0) (free (lengths (total l) 0 0 0, None))
    (after (along c (only true l)) (λ h. after (along c (only false l)) (λ v. free (
      lengths (total l) (h.congested_length + v.congested_length) (h.pair_overlap_length + v.pair_overlap_length) (max h.peak_close_neighbors v.peak_close_neighbors),
      gap_of_units (lesser ltb h.minimum_positive v.minimum_positive),
    ))))

-- SCOPE 9.4: "Each measure walks as if its segments came in the order net, orientation byte, fixed, start, end"
unfoldable pub walk_all : Float → List Segment → Charged (ParallelCongestion × Option Float)
walk_all cutoff l = sweep_wires (cutoff_of cutoff) (map wire_of (segments_in_order l))
