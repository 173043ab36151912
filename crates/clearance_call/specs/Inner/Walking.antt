-- What the walk of one segment requires and returns. Only inner contracts cite this.
use Rattle.drawing.specs.declared.refusal.Refusal.{Refusal}
use Rattle.std.specs.Prelude.{◌≡◌, true, List, map, ℕ, suc, ◌+◌, ◌*◌, ◌^◌, ◌≤◌, ◌<◌, Float, length, take, Result, Ok, Err}
use Rattle.laws.specs.Lists.{All}
use Rattle.laws.specs.Charged.{Charged, after, runs}
use Rattle.laws.specs.Inner.Allowance.{within}
use Rattle.drawing.specs.Entries.{Segment, Exemption, SegmentColumns}
use Rattle.drawing.specs.Inner.Entries.{segment_at}
use Rattle.drawing.specs.Inner.Lengths.{SegmentsAgree}
use Rattle.drawing.specs.Inner.LeastFloats.{gap_of_float}
use Rattle.boxes.specs.declared.aabb.Aabb.{Aabb}
use Rattle.clearance.specs.declared.visit.Walking.{Walking}
use Rattle.clearance.specs.declared.halves.Subtree.{Subtree}
use Rattle.clearance.specs.declared.halves.Halves.{Halves}
use Rattle.clearance_call.specs.declared.walk.Step.{Step}
use Rattle.clearance_call.specs.declared.walk.Step.TheVariants.{Done, Split}
use Rattle.boxes.specs.Boxes.{segment_box, distance}
use Rattle.boxes.specs.Inner.Fitting.{FitBox}
use Rattle.clearance.specs.Figures.{Figures}
use Rattle.clearance.specs.Tree.{bounds_of}
use Rattle.clearance_call.specs.Inner.Stored.{stored_tree}
use Rattle.clearance.specs.Walk.{contributes, walk, no_figures}
use Rattle.clearance.specs.Inner.State.{so_far, outcome_of}
use Rattle.clearance_call.specs.Inner.Nested.{Nested}
use Rattle.exemptions.specs.Inner.Exempting.{Holds}
use Rattle.clearance_call.specs.Inner.Marks.{MarksOf}

-- there are n leaves from leaf i on, at least one
pub record Part (w : List ℕ) (i n : ℕ) : Type 0 where
  pub some : 1 ≤ n
  pub inside : 9 * (i + n) ≤ length w

-- d is the distance to the box around them; the number that bounds the tree's depth does not matter
abbrev pub Near : Float → Aabb → List ℕ → ℕ → ℕ → Type 0
Near d p w i n = (k : ℕ) → n ≤ k → d ≡ distance p (bounds_of (stored_tree k w i n))

-- they may be walked from a state by a segment with the box p, all boxes being fit: each remaining visit may still add a violation, and the sum of both fits a word
pub record Walkable (w : List ℕ) (i n : ℕ) (d : Float) (p : Aabb) (state : Walking) : Type 0 where
  pub part : Part w i n
  pub near : Near d p w i n
  pub room : state.violations + state.remaining < 2 ^ 64
  pub segment : Segment
  pub box : segment_box segment ≡ p
  pub fit : FitBox p
  pub nested : Nested (stored_tree n w i n)

-- a part with fewer leaves than n, its boxes fit, and the distance to its box
pub record Smaller (w : List ℕ) (n : ℕ) (p : Aabb) (h : Subtree) : Type 0 where
  pub part : Part w h.first h.count
  pub fewer : h.count < n
  pub near : Near h.lower p w h.first h.count
  pub nested : Nested (stored_tree h.count w h.first h.count)

-- two parts of n leaves, each with at most half of them, rounded up: where the n leaves are not pruned, their walk is that of the one and then of the other
pub record Halved (w : List ℕ) (i n : ℕ) (p : Aabb) (h : Halves) : Type 0 where
  pub nearer : Smaller w n p h.nearer
  pub farther : Smaller w n p h.farther
  pub together : h.nearer.count + h.farther.count ≡ n
  pub half : (2 * h.nearer.count ≤ n + 1) × (2 * h.farther.count ≤ n + 1)
  pub turn : (ex : List Exemption) (t : Float) (s : Segment) → segment_box s ≡ p → (k : ℕ) → n ≤ suc k → (g : Figures) → contributes (distance p (bounds_of (stored_tree (suc k) w i n))) t g.least ≡ true
      → walk ex t s (stored_tree (suc k) w i n) g ≡ after (walk ex t s (stored_tree k w h.nearer.first h.nearer.count) g) (λ f. walk ex t s (stored_tree k w h.farther.first h.farther.count) f)

-- the marks are those of some net, for some exemptions, and every leaf has a group
pub record NetMarks (marks groups w : List ℕ) : Type 0 where
  pub ex : List Exemption
  pub net : ℕ
  pub marked : MarksOf marks groups w ex net
  pub room : length w ≤ 9 * length groups

-- what the walk over them returns, for every segment with the box p
abbrev pub Walks : List Exemption → Float → List ℕ → ℕ → ℕ → Aabb → ℕ → Walking → Result Walking Refusal → Type 0
Walks ex threshold w i n p net state r =
    (s : Segment) → segment_box s ≡ p → s.net ≡ net → (k : ℕ) → n ≤ k → outcome_of r ≡ within state.remaining (walk ex threshold s (stored_tree k w i n) (so_far state))

-- what the step at a part returns: the outcome of its walk, or, where it is not pruned, the halves whose walks are its walk
abbrev pub Steps : List Exemption → Float → List ℕ → Aabb → ℕ → Subtree → Walking → Result Step Refusal → Type 0
Steps ex t w p net part state (Err r) = Walks ex t w part.first part.count p net state (Err r)
Steps ex t w p net part state (Ok (Done v)) = Walks ex t w part.first part.count p net state (Ok v)
Steps ex t w p net part state (Ok (Split h)) = Halved w part.first part.count p h × (contributes part.lower t (gap_of_float state.least) ≡ true) × (1 < part.count)

-- the words hold k exemptions
pub record HoldsCount (packed : List ℕ) (k : ℕ) : Type 0 where
  pub ex : List Exemption
  pub holds : Holds packed ex
  pub count : length ex ≡ k

-- the first words are indices of the segments, one for each, and the segments' boxes are fit
pub record SegmentPlaces (order : List ℕ) (c : SegmentColumns) : Type 0 where
  pub agree : SegmentsAgree c
  pub inside : length c.net ≤ length order
  pub small : All (λ i. i < length c.net) (take (length c.net) order)
  pub fit : (i : ℕ) → i < length c.net → FitBox (segment_box (segment_at c i))

-- the walks of the segments at these indices, one after another, each with its net's threshold, over the n leaves from leaf 0 on
abbrev pub all_walks : List Exemption → (ℕ → Float) → List ℕ → ℕ → List ℕ → SegmentColumns → Charged Figures
all_walks ex threshold w n order c = runs (λ g s. walk ex (threshold s.net) s (stored_tree n w 0 n) g) no_figures (map (segment_at c) (take (length c.net) order))
