-- The loop over the wires that an event's wire meets, for whatever wires the tables are of. Assumes nothing.
use Rattle.drawing.specs.declared.refusal.Refusal.TheVariants.{WorkLimitExceeded}
use Rattle.std.specs.Prelude.{Ok, Err, Option, Some, None}
use mathlib.Core.Path.{◌≡◌, refl, sym, ap, ◌∙◌, subst}
use mathlib.Core.List.{List}
use mathlib.Core.Bool.{Bool}
use Prim.Native.Nat.{ℕ, ◌+◌, ◌-◌, ◌*◌, ◌≤◌, ◌<◌}
use native.Mathlib.Omega.{arith}
use lib.Ieee.{Float}
use lib.ListN.{length, get_or, drop}
use lib.Seq.{get_or-drop}
use borrow.Rule.Slice.PartMut.{mid_of}
use Rattle.laws.specs.Lists.{Mem}
use Rattle.laws.proofs.ListLaws.{map_mem}
use Rattle.laws.proofs.Parts.{tail_lent}
use Rattle.sorting.specs.Inner.Sorted.{up_to}
use Rattle.bitset.specs.Inner.Members.{rest_below, last_below, last_with}
use Rattle.bitset.proofs.Lasts.{Greatest, last_found, last_empty}
use Rattle.bitset.proofs.Rests.{last-with}
use Rattle.floats.specs.TotalOrder.{float_at}
use Rattle.density_call.specs.declared.meet.Meeting.{Meeting}
use Rattle.congestion.specs.Wires.{Wire}
use Rattle.congestion.specs.Walk.{WireState}
use Rattle.density_call.specs.Inner.Tables.{Tabled, wire_state_from}
use Rattle.density_call.specs.Inner.Meeting.{Meetable, CountsOnly, Meets, Visitable, Visits}
use Rattle.density_call.proofs.RowPlaces.{up_to_mem}
use Rattle.density_call.proofs.MeetingLaws.{Going, Next, going_few, going_none, old_count, next_place, differ, visit_next, visit_stops, spent-meets, went-meets}

-- the invariant at the head of the loop, for whatever wires the tables are of: `rest` is the part of a word of bits below `to`, and the bits stay as they were at the entry
pub record Turn (starts : Bool) (n j : ℕ) (s₀ : List ℕ) (least₀ : Float) (allowance : ℕ) (met : Meeting) (s : List ℕ) (to rest : ℕ) : Type 0 where
  pub meetable : Meetable starts s₀ n j
  pub long : length s ≡ length s₀
  pub going : (c : ℕ) (L : List Wire) → length L ≡ n → Tabled c L s₀ → Going starts n j s₀ least₀ allowance c L met s to
  pub rest-is : rest ≡ rest_below (drop (9 * n) s₀) to

pub first-turn : {starts : Bool} {n j : ℕ} {s₀ : List ℕ} {least₀ : Float} {allowance : ℕ} {met : Meeting} {rest : ℕ} → Meetable starts s₀ n j
    → met ≡ record { neighbors = 0; changed = 0; highest = 0; least = least₀; remaining = allowance }
    → rest ≡ rest_below (mid_of (9 * n) (length s₀ - 9 * n) s₀) (get_or s₀ (7 * n + j) 0)
    → Turn starts n j s₀ least₀ allowance met s₀ (get_or s₀ (7 * n + j) 0) rest
first-turn {starts} {n} {j} {s₀} {least₀} {allowance} {met} a e b = record {
  meetable = a;
  long = refl;
  going = λ c L size tabled. going_none starts n j s₀ least₀ allowance c L size tabled a.inside met e;
  rest-is = b ∙ ap (λ (w : List ℕ). rest_below w (get_or s₀ (7 * n + j) 0)) (tail_lent (9 * n) s₀);
}

module _ {starts : Bool} {n j : ℕ} {s₀ : List ℕ} {least₀ : Float} {allowance : ℕ} {met : Meeting} {s : List ℕ} {to rest : ℕ} (a : Turn starts n j s₀ least₀ allowance met s to rest) where
  abbrev known : Meetable starts s₀ n j
  known = a.meetable

  -- the wires that the caller knows of
  the_going : Going starts n j s₀ least₀ allowance known.c known.L met s to
  the_going = a.going known.c known.L known.size known.tabled

  pub turn-only : CountsOnly n s₀ s
  turn-only = the_going.only

  module _ {r : Option (ℕ × ℕ)} (told : r ≡ last_with (mid_of (9 * n) (length s - 9 * n) s) (get_or s₀ (6 * n + j) 0) to rest) where
    last-is : last_below (drop (9 * n) s) (get_or s₀ (6 * n + j) 0) to ≡ r
    last-is =
        sym (last-with (drop (9 * n) s) to rest (a.rest-is ∙ ap (λ (w : List ℕ). rest_below w to) (sym turn-only.behind)) (get_or s₀ (6 * n + j) 0))
        ∙ ap (λ (w : List ℕ). last_with w (get_or s₀ (6 * n + j) 0) to rest) (sym (tail_lent (9 * n) s))
        ∙ sym told

    pub turn-ends : r ≡ None → Meets starts s₀ s n j least₀ allowance (Ok met)
    turn-ends e c L st m size tabled stored f h = went-meets starts n j s₀ least₀ allowance c L size tabled known.inside st stored met s to (a.going c L size tabled) (last_empty (drop (9 * n) s) (get_or s₀ (6 * n + j) 0) to (last-is ∙ e)) m f h

    module _ {i x : ℕ} (found : r ≡ Some (i, x)) where
      last : Greatest (drop (9 * n) s) (get_or s₀ (6 * n + j) 0) to i × (x ≡ rest_below (drop (9 * n) s) i)
      last = last_found (drop (9 * n) s) (get_or s₀ (6 * n + j) 0) to i x (last-is ∙ found)

      room : 9 * n ≤ length s
      room = omega (arith, known.room, a.long)

      pub turn_falls : i < to
      turn_falls = last.0.below

      place : Next starts n j s₀ least₀ allowance known.c known.L to i
      place = next_place starts n j s₀ least₀ allowance known.c known.L known.size known.tabled known.inside met s to the_going i last.0

      abbrev the_row : WireState
      the_row = wire_state_from known.L (drop (8 * n) s₀) i

      count_was : get_or s (8 * n + i) 0 ≡ get_or s₀ (8 * n + i) 0
      count_was = old_count starts n j s₀ least₀ allowance known.c known.L known.size known.tabled known.inside met s to the_going i place.inside turn_falls ∙ get_or-drop (8 * n) s₀ i 0

      few : (met.neighbors ≤ n) × (met.changed ≤ n)
      few = going_few starts n j s₀ least₀ allowance known.c known.L met s to the_going

      pub turn_stops : met.remaining ≡ 0 → Meets starts s₀ s n j least₀ allowance (Err WorkLimitExceeded)
      turn_stops e c L st m size tabled stored f h = spent-meets starts n j s₀ least₀ allowance c L size tabled known.inside st stored (visit_stops starts n j s₀ least₀ allowance c L size tabled known.inside met s to (a.going c L size tabled) i last.0 e) m s

      module _ (left : met.remaining ≡ 0 → ⊥) {net : ℕ} (of : net ≡ get_or s₀ (5 * n + j) 0) where
        pub turn_visitable : Visitable s n i net starts met
        turn_visitable = record {
          few = known.few;
          inside = place.inside;
          room = room;
          small = let e = count_was in let b = known.counts i place.inside in omega arith;
          some = λ b d.
              let k : 1 ≤ the_row.neighbors = known.some b the_row (subst (Mem the_row) (sym known.stored.wires) (map_mem (wire_state_from known.L (drop (8 * n) s₀)) (up_to (length known.L)) i (up_to_mem (length known.L) i (omega (arith, known.size, place.inside))))) (differ starts n j s₀ least₀ allowance known.c known.L known.size known.tabled known.inside met s to the_going i last.0 net of d) in
              let e = count_was in
              let f = get_or-drop (8 * n) s₀ i 0 in
              omega arith;
          neighbors = omega (arith, few.0, known.few);
          changed = omega (arith, few.1, known.few);
          remaining = omega arith;
        }

        pub next_turn : {here : Float} → here ≡ float_at (get_or s₀ (4 * n + j) 0) → {t : List ℕ} {next : Meeting} → length t ≡ length s → Visits s t n i net here starts met next → Turn starts n j s₀ least₀ allowance next t i x
        next_turn {here} at {t} {next} kept v = record {
          meetable = a.meetable;
          long = kept ∙ a.long;
          going = λ c L size tabled. visit_next starts n j s₀ least₀ allowance c L size tabled known.inside met s to (a.going c L size tabled) i last.0 net of here at room (omega (arith, known.room)) t next v;
          rest-is = last.1 ∙ ap (λ (w : List ℕ). rest_below w i) turn-only.behind;
        }
