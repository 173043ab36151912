-- Request 2, SCOPE 16.2 to 16.5, clause by clause: what holds of the joined list, whichever way it is computed, on every number line. `proofs/JoinedLists.antt` proves `JoinedLists`. Lists are of segments as they are taken and accepted (`FitSegment`): refusal 5 lets no others pass.
use Rattle.std.specs.Prelude.{◌≡◌, true, List, ◌≤◌, length}
use Rattle.std.specs.Float.Ieee.{lt}
use Rattle.laws.specs.Lists.{All, Pairwise, count}
use Rattle.laws.specs.Perm.{Perm}
use Rattle.floats.specs.Values.{canonical_zero}
use Rattle.drawing.specs.declared.lists.Segment.{Segment}
use Rattle.drawing.specs.Entries.{as_taken}
use Rattle.drawing.specs.Held.{Binary64, FitSegment}
use Rattle.joining.specs.Points.{NumberLine, NetLine, net_line_of, SamePoints, SameOnLine, is_on}
use Rattle.joining.specs.Joined.{is_in_order, joined}

-- no coordinate is -0
pub record NoMinusZero (s : Segment) : Type 0 where
  pub fixed : canonical_zero s.fixed ≡ s.fixed
  pub start : canonical_zero s.start ≡ s.start
  pub end : canonical_zero s.end ≡ s.end

pub record JoinedLists : Type 1 where
  -- SCOPE 16.2: "that cover the same points of the real line", "of each net, orientation and fixed coordinate"
  pub same_points : (L : NumberLine) (l : List Segment) → All FitSegment l → SamePoints L l (joined l)
  -- SCOPE 16.3: "the fewest pieces of each net, orientation and fixed coordinate": any pieces of that line that reach over the same points are at least as many, wherever they end
  pub fewest : (L : NumberLine) (l : List Segment) → All FitSegment l → (t : NetLine) → Binary64 t.fixed → (m : List (L.Point × L.Point)) → SameOnLine L l t m → count (is_on t) (joined l) ≤ length m
  -- the pieces that are counted there are those of the line, and no others
  pub counted : (t : NetLine) (s : Segment) → net_line_of s ≡ t → is_on t s ≡ true
  pub only-counted : (t : NetLine) (s : Segment) → Binary64 t.fixed → FitSegment s → is_on t s ≡ true → net_line_of s ≡ t
  -- SCOPE 16.3: "pieces that touch at an end becoming one": of two pieces of one line the earlier one ends below the start of the later one
  pub apart : (l : List Segment) → All FitSegment l → Pairwise (λ a b. net_line_of a ≡ net_line_of b → lt a.end b.start ≡ true) (joined l)
  -- SCOPE 16.4: "each written with start below end"
  pub rises : (l : List Segment) → All FitSegment l → All (λ s. lt s.start s.end ≡ true) (joined l)
  -- SCOPE 16.4: "ordered by net, horizontal first, then fixed, start and end by totalOrder"
  pub in_order : (l : List Segment) → All FitSegment l → Pairwise (λ a b. is_in_order a b ≡ true) (joined l)
  -- SCOPE 16.4: "with zeros made +0"
  pub zeros : (l : List Segment) → All FitSegment l → All NoMinusZero (joined l)
  -- SCOPE 16.5: "Joining a joined list gives it back"; it is accepted, and taken as it is
  pub again : (l : List Segment) → All FitSegment l → joined (joined l) ≡ joined l
  pub joined-fit : (l : List Segment) → All FitSegment l → All FitSegment (joined l)
  pub joined_taken : (l : List Segment) → All FitSegment l → All (λ s. as_taken s ≡ s) (joined l)
  -- SCOPE 16.5: "two lists covering the same points per net and line join to equal lists", bit by bit; the same points on one number line are enough
  pub one_list : (L : NumberLine) (l m : List Segment) → All FitSegment l → All FitSegment m → SamePoints L l m → joined l ≡ joined m
  -- SCOPE 16.5: the order of the list decides nothing
  pub any_order : (l m : List Segment) → All FitSegment l → Perm l m → joined l ≡ joined m
  -- SCOPE 16.6: there are no more pieces than segments, so the number that went away is a difference
  pub no_more : (l : List Segment) → length (joined l) ≤ length l
  -- there is a number line
  pub some-line : NumberLine
