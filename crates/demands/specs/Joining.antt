-- SCOPE 16, request No. 2: "Add a joiner: from segment columns it writes, into lent output columns, the fewest pieces of each net, orientation and fixed coordinate that cover the same points of the real line". What holds of the joined list is `JoinedLists`, in the crate `joining`; here it is said of every run of the call. `proofs/Joining.antt` proves `Joining`.
use Rattle.std.specs.Prelude.{◌≡◌, ◌⊎◌, false, ℕ, ◌-◌, length, take, Result, Ok}
use Rattle.laws.specs.Lists.{All}
use Rattle.laws.specs.Perm.{Perm}
use Rattle.drawing.specs.declared.refusal.Refusal.{Refusal}
use Rattle.drawing.specs.Conditions.{short_output}
use Rattle.drawing.specs.Checks.{segment_list_conditions}
use Rattle.drawing.specs.Entries.{SegmentColumns, segment_columns, as_lent, segments}
use Rattle.drawing.specs.Held.{SegmentsHeld, FitSegment}
use Rattle.drawing.specs.Refusals.{number_of, first_of}
use Rattle.joining.specs.declared.answer.Joined.{Joined}
use Rattle.joining.specs.Points.{NumberLine, SamePoints}
use Rattle.joining.specs.Joined.{joined}
use Rattle.joining.specs.JoinedLists.{JoinedLists}
use Rattle.joining.specs.Conditions.{output_lengths, join_conditions}
use Rattle.joining.specs.Answer.{join_answer, written, output_after, result_of}
use Rattle.demands.specs.Applies.{First, NoneApplies, InOrder}
use Rattle.demands.specs.Directions.{columns_as_taken}

-- what the call's contract says (`readability`, specs/Calls) of the columns that it was lent to read, of what its output columns held before, of what it returned, and of what they hold after it
pub record JoinSays (lent before : SegmentColumns) (returned : Result Joined Refusal) (after : SegmentColumns) : Type 0 where
  pub answers : returned ≡ join_answer lent before
  pub leaves : after ≡ output_after lent before
  pub held : first_of (segment_list_conditions lent) ≡ Ok tt → SegmentsHeld lent

-- a call of the joiner
pub record JoinRun : Type 0 where
  pub lent : SegmentColumns
  pub before : SegmentColumns
  pub returned : Result Joined Refusal
  pub after : SegmentColumns
  pub says : JoinSays lent before returned after

-- SCOPE 16.8: none of 2, 3 and 5 applies, which are of the segments alone; 8 may
abbrev pub ListFit : JoinRun → Type 0
ListFit r = NoneApplies (segment_list_conditions r.lent)

-- SCOPE 16.8: no refusal applies
abbrev pub JoinFit : JoinRun → Type 0
JoinFit r = NoneApplies (join_conditions r.lent r.before)

-- SCOPE 7.0: a refusal applies first
pub record JoinUnfit (r : JoinRun) : Type 0 where
  pub refusal : Refusal
  pub first : First (join_conditions r.lent r.before) refusal

-- SCOPE 16.6, 16.7, of an accepted call: its segments are such that `JoinedLists` speaks of them; how many pieces there are and "how many pieces went away"; and the pieces, with "Output entries past the last piece keep their contents"
pub record JoinAccepted (r : JoinRun) : Type 0 where
  pub fit : All FitSegment (segments r.lent)
  pub returns : result_of r.returned ≡ (0, length (joined (segments r.lent)), length (segments r.lent) - length (joined (segments r.lent)))
  pub writes : r.after ≡ written (joined (segments r.lent)) r.before

-- SCOPE 16.8, of a refused call: its number with zeros, and "with nothing written"
pub record JoinRefused (r : JoinRun) (refusal : Refusal) : Type 0 where
  pub returns : result_of r.returned ≡ (number_of refusal, 0, 0)
  pub writes : r.after ≡ r.before

-- SCOPE 16.7: what a caller reads after a call, "at the front of the output columns": the first k entries of each column
abbrev pub front : ℕ → SegmentColumns → SegmentColumns
front k c = segment_columns (take k c.net) (take k c.orientation) (take k c.fixed) (take k c.start) (take k c.end)

-- two calls that return the same number and as many pieces, and leave the same; how many went away differs with the lengths of the lists
pub record SamePieces (a b : JoinRun) : Type 0 where
  pub number : (result_of a.returned).0 ≡ (result_of b.returned).0
  pub pieces : (result_of a.returned).1 ≡ (result_of b.returned).1
  pub after : a.after ≡ b.after

-- two calls that return the same and leave the same
pub record SameJoin (a b : JoinRun) : Type 0 where
  pub returned : a.returned ≡ b.returned
  pub after : a.after ≡ b.after

pub record Joining : Type 1 where
  pub lists : JoinedLists
  -- SCOPE 8.1, 16.8: every call meets a first refusal, or none
  pub unfit_or_fit : (r : JoinRun) → JoinUnfit r ⊎ JoinFit r
  pub unfit : (r : JoinRun) (refusal : Refusal) → First (join_conditions r.lent r.before) refusal → JoinRefused r refusal
  pub accepted : (r : JoinRun) → JoinFit r → JoinAccepted r
  -- SCOPE 7.0, 16.8: "after 2, 3 and 5", in the order of the list of refusals
  pub checks_in_order : (lent before : SegmentColumns) → InOrder 0 (join_conditions lent before)
  -- SCOPE 16.7: "from segment columns it writes, into lent output columns": as many entries as the call returns pieces, read from the front of the columns, are the pieces, each field in its column
  pub read_back : (r : JoinRun) → JoinFit r → as_lent (front (result_of r.returned).1 r.after) ≡ joined (segments r.lent)
  -- SCOPE 16.5: "two lists covering the same points per net and line join to equal lists", entry by entry and bit by bit, in output columns that held the same; 8 is met by both or by neither
  pub one_list : (L : NumberLine) (a b : JoinRun) → ListFit a → ListFit b → a.before ≡ b.before → SamePoints L (segments a.lent) (segments b.lent) → SamePieces a b
  -- SCOPE 16.5: "Joining a joined list gives it back": a call that is lent what another has written is accepted wherever that fits into its output columns, writes it again, and nothing goes away
  pub again : (a b : JoinRun) → JoinFit a → b.lent ≡ front (result_of a.returned).1 a.after → short_output (result_of a.returned).1 (output_lengths b.before) ≡ false
      → (result_of b.returned ≡ (0, (result_of a.returned).1, 0)) × (front (result_of a.returned).1 b.after ≡ b.lent)
  -- SCOPE 16.5: the order of the list decides nothing, 8 included
  pub any_order : (a b : JoinRun) → ListFit a → ListFit b → a.before ≡ b.before → Perm (as_lent a.lent) (as_lent b.lent) → SameJoin a b
  -- SCOPE 2.8: neither does the direction in which a segment is given, and no refusal is for that alone
  pub directions : (a b : JoinRun) → a.before ≡ b.before → columns_as_taken a.lent ≡ columns_as_taken b.lent → SameJoin a b
