-- The walk of the part that is next and then of the parts that wait, the last one first, is the rest of the whole walk: the loop, step by step. Assumes nothing.
use Rattle.drawing.specs.declared.refusal.Refusal.{Refusal}
use Rattle.std.specs.Prelude.{Result, Ok, Err}
use mathlib.Core.Path.{◌≡◌, refl, sym, ap, subst, ◌∙◌}
use mathlib.Core.Logic.{inl, inr}
use mathlib.Core.Bool.{true}
use mathlib.Core.List.{List}
use Prim.Native.Nat.{ℕ, zero, suc, ◌+◌, ◌-◌, ◌*◌, ◌^◌, ◌≤◌, ◌<◌}
use native.Mathlib.Nat.{le_refl}
use native.Mathlib.Omega.{arith}
use lib.Ieee.{Float, nan}
use lib.ListN.{length, get_or, set, length-set}
use lib.Seq.{get_or-set_same, get_or-set_other}
use lib.Pow.{pow-add}
use Rattle.laws.specs.Charged.{Charged, free, after}
use Rattle.laws.specs.Inner.Allowance.{within, onward}
use Rattle.laws.proofs.Runs.{after_nothing, after-after, within-free, within-after}
use Rattle.laws.proofs.Tests.{le_or_lt}
use Rattle.drawing.specs.Entries.{Segment, Exemption}
use Rattle.drawing.specs.Inner.LeastFloats.{gap_of_float}
use Rattle.boxes.specs.declared.aabb.Aabb.{Aabb}
use Rattle.clearance.specs.declared.visit.Walking.{Walking}
use Rattle.clearance.specs.declared.halves.Subtree.{Subtree}
use Rattle.clearance.specs.declared.halves.Halves.{Halves}
use Rattle.clearance_call.specs.declared.walk.Step.{Step}
use Rattle.clearance_call.specs.declared.walk.Step.TheVariants.{Done, Split}
use Rattle.boxes.specs.Boxes.{segment_box}
use Rattle.clearance.specs.Figures.{Figures}
use Rattle.clearance.specs.Tree.{Tree}
use Rattle.clearance_call.specs.Inner.Stored.{stored_tree}
use Rattle.clearance.specs.Walk.{contributes, walk}
use Rattle.clearance_call.specs.Inner.Marks.{MarksOf}
use Rattle.clearance_call.specs.Inner.Nested.{Nested}
use Rattle.clearance.specs.Inner.State.{so_far, outcome_of}
use Rattle.clearance_call.specs.Inner.Walking.{Part, Near, Walkable, Halved, NetMarks, Walks, Steps}
use Rattle.clearance_call.proofs.NestedTrees.{stored_same}
use Rattle.clearance_call.proofs.StoredWalk.{onward_stopped, onward-went, next_room, half_walkable}

-- ---- how many parts wait: a half has at most half of the leaves, rounded up, so after j halvings a part has at most 2 ^ (12 - j)
half_power : (j : ℕ) → j < 12 → 2 ^ (12 - j) ≡ 2 * 2 ^ (12 - (j + 1))
half_power j h = let e : 12 - j ≡ 1 + (12 - (j + 1)) = omega arith in ap (λ (z : ℕ). 2 ^ z) e ∙ pow-add 2 1 (12 - (j + 1))

room-left : (n j : ℕ) → 2 ≤ n → j ≤ 12 → n ≤ 2 ^ (12 - j) → j < 12
room-left n j more low level = elim (le_or_lt 12 j) [
  | inl h ↦ let e : 12 - j ≡ 0 = omega arith in let f : 2 ^ (12 - j) ≡ 1 = ap (λ (z : ℕ). 2 ^ z) e in absurd (omega arith)
  | inr h ↦ h
]

halved_level : (n m j : ℕ) → j < 12 → n ≤ 2 ^ (12 - j) → 2 * m ≤ n + 1 → m ≤ 2 ^ (12 - (j + 1))
halved_level n m j h level half = let e = half_power j h in omega arith

-- the bound after one halving more implies the bound here
raised_level : (m j : ℕ) → j < 12 → m ≤ 2 ^ (12 - (j + 1)) → m ≤ 2 ^ (12 - j)
raised_level m j h level = let e = half_power j h in omega arith

-- ---- the parts that wait
-- the value of `get_or` outside a list, which is never read
abbrev pub no_part : Subtree
no_part = record { first = 0; count = 0; lower = nan }

-- the most steps that the first j of them can still take: a part of n leaves takes at most 2 n - 1
unfoldable pub steps_left : List Subtree → ℕ → ℕ
steps_left l zero = 0
steps_left l (suc j) = 2 * (get_or l j no_part).count - 1 + steps_left l j

steps-left-same : (l m : List Subtree) (j : ℕ) → ((i : ℕ) → i < j → get_or m i no_part ≡ get_or l i no_part) → steps_left m j ≡ steps_left l j
unfolding steps_left
steps-left-same l m zero h = refl
steps-left-same l m (suc j) h =
    let e = h j (omega arith) in
    let f = steps-left-same l m j (λ i g. h i (omega arith)) in
    λ i. 2 * (e i).count - 1 + f i

-- one more part waits
module _ (l m : List Subtree) (top : ℕ) (put : Subtree) (room : top < length l) (e : m ≡ set l top put) where
  at_top : get_or m top no_part ≡ put
  at_top = ap (λ (y : List Subtree). get_or y top no_part) e ∙ get_or-set_same l top put no_part room

  other : (j : ℕ) → j < top → get_or m j no_part ≡ get_or l j no_part
  other j g = ap (λ (y : List Subtree). get_or y j no_part) e ∙ get_or-set_other l top j put no_part (λ f. omega arith)

  -- the next part has k leaves: with the part put on the stack, the n of the part that was halved
  pub split_less : (k n : ℕ) → 1 ≤ k → 1 ≤ put.count → k + put.count ≡ n → 2 * k - 1 + steps_left m (top + 1) < 2 * n - 1 + steps_left l top
  unfolding steps_left
  split_less k n some more sum =
      let y : top + 1 ≡ suc top = omega arith in
      let z : steps_left m (top + 1) ≡ steps_left m (suc top) = ap (steps_left m) y in
      let a : (get_or m top no_part).count ≡ put.count = ap (λ (y : Subtree). y.count) at_top in
      let b = steps-left-same l m top other in
      omega arith

module _ (t : Float) (w : List ℕ) (p : Aabb) where
  abbrev pub tree : Subtree → Tree
  tree h = stored_tree h.count w h.first h.count

  -- the walks of the first j of them, the last one first
  unfoldable pub rest_walk : List Exemption → Segment → List Subtree → ℕ → Figures → Charged Figures
  rest_walk ex s l zero g = free g
  rest_walk ex s l (suc j) g = after (walk ex t s (tree (get_or l j no_part)) g) (λ f. rest_walk ex s l j f)

  rest-walk-same : (ex : List Exemption) (s : Segment) (l m : List Subtree) (j : ℕ) → ((i : ℕ) → i < j → get_or m i no_part ≡ get_or l i no_part) → (g : Figures) → rest_walk ex s m j g ≡ rest_walk ex s l j g
  unfolding rest_walk
  rest-walk-same ex s l m zero h g = refl
  rest-walk-same ex s l m (suc j) h g =
      let e = h j (omega arith) in
      let f = rest-walk-same ex s l m j (λ i k. h i (omega arith)) in
      λ i. after (walk ex t s (tree (e i)) g) (λ x. f x i)

  -- the waiting part at index j
  pub record Waits (h : Subtree) (j : ℕ) : Type 0 where
    pub part : Part w h.first h.count
    pub near : Near h.lower p w h.first h.count
    pub nested : Nested (stored_tree h.count w h.first h.count)
    pub level : h.count ≤ 2 ^ (12 - (j + 1))

  module _ (whole : Subtree) (marks groups : List ℕ) (from : Walking) where
    -- the loop at a part, with `top` parts that wait: its walk and then theirs have the outcome of the whole walk
    pub record Underway (part : Subtree) (state : Walking) (l : List Subtree) (top : ℕ) : Type 0 where
      pub ready : Walkable w part.first part.count part.lower p state
      pub level : part.count ≤ 2 ^ (12 - top)
      pub low : top ≤ 12
      pub long : length l ≡ 12
      pub waits : (j : ℕ) → j < top → Waits (get_or l j no_part) j
      pub onwards : (ex : List Exemption) (s : Segment) → MarksOf marks groups w ex s.net → segment_box s ≡ p → within state.remaining (after (walk ex t s (tree part) (so_far state)) (λ f. rest_walk ex s l top f)) ≡ within from.remaining (walk ex t s (tree whole) (so_far from))

    pub underway_start : (l : List Subtree) → Walkable w whole.first whole.count whole.lower p from → whole.count ≤ 4096 → length l ≡ 12 → Underway whole from l 0
    unfolding rest_walk
    underway_start l ready small long = record {
      ready = ready;
      level = omega arith;
      low = omega arith;
      long = long;
      waits = λ j h. absurd (omega arith);
      onwards = λ ex s h on. ap (within from.remaining) (after_nothing (walk ex t s (tree whole) (so_far from)));
    }

    -- what the whole walk returns, for every bound of the tree's depth
    answers : (r : Result Walking Refusal) → ((ex : List Exemption) (s : Segment) → MarksOf marks groups w ex s.net → segment_box s ≡ p → outcome_of r ≡ within from.remaining (walk ex t s (tree whole) (so_far from)))
        → (ex : List Exemption) (net : ℕ) → MarksOf marks groups w ex net → Walks ex t w whole.first whole.count p net from r
    answers r h ex net l s on of k q = h ex s (rw of l) on ∙ ap (λ (z : Tree). within from.remaining (walk ex t s z (so_far from))) (stored_same whole.count k w whole.first whole.count (le_refl whole.count) q)

    module _ (part : Subtree) (state : Walking) (l : List Subtree) (top : ℕ) (u : Underway part state l top) (q : Result Step Refusal) (h : (ex : List Exemption) (net : ℕ) → MarksOf marks groups w ex net → Steps ex t w p net part state q) where
      -- the walk of the part, and then those of the others
      onward-rest-walk : (ex : List Exemption) (s : Segment) → MarksOf marks groups w ex s.net → segment_box s ≡ p
          → onward (within state.remaining (walk ex t s (tree part) (so_far state))) (λ g m. within m (rest_walk ex s l top g)) ≡ within from.remaining (walk ex t s (tree whole) (so_far from))
      onward-rest-walk ex s k on = sym (within-after state.remaining (walk ex t s (tree part) (so_far state)) (λ f. rest_walk ex s l top f)) ∙ u.onwards ex s k on

      pub underway_stopped : (why : Refusal) → q ≡ Err why → (ex : List Exemption) (net : ℕ) → MarksOf marks groups w ex net → Walks ex t w whole.first whole.count p net from (Err why)
      underway_stopped why e = answers (Err why) (λ ex s k on. onward_stopped _ _ (Err why) why refl ((rw e at h ex s.net k) s on refl part.count (le_refl part.count)) ∙ onward-rest-walk ex s k on)

      module _ (v : Walking) (e : q ≡ Ok (Done v)) where
        went : (ex : List Exemption) (s : Segment) → MarksOf marks groups w ex s.net → segment_box s ≡ p → within v.remaining (rest_walk ex s l top (so_far v)) ≡ within from.remaining (walk ex t s (tree whole) (so_far from))
        went ex s k on = onward-went _ (λ g m. within m (rest_walk ex s l top g)) (Ok v) v refl ((rw e at h ex s.net k) s on refl part.count (le_refl part.count)) ∙ onward-rest-walk ex s k on

        pub underway_done : top ≡ 0 → (ex : List Exemption) (net : ℕ) → MarksOf marks groups w ex net → Walks ex t w whole.first whole.count p net from (Ok v)
        unfolding rest_walk outcome_of
        underway_done z = answers (Ok v) (λ ex s k on. sym (ap (λ (y : ℕ). within v.remaining (rest_walk ex s l y (so_far v))) z ∙ within-free v.remaining (so_far v)) ∙ went ex s k on)

        -- the last of the waiting parts is the next part
        module _ (j : ℕ) (z : top ≡ suc j) (next : Subtree) (x : next ≡ get_or l j no_part) where
          pub underway_next : NetMarks marks groups w → Underway next v l j
          unfolding rest_walk
          underway_next some =
              let y = u.waits j (omega arith) in
              let room = next_room some.ex t u.ready some.net (Ok v) (rw e at h some.ex some.net some.marked) v refl in
              rw x
              (record {
                ready = record { part = y.part; near = y.near; room = omega (arith, u.ready.room, room); segment = u.ready.segment; box = u.ready.box; fit = u.ready.fit; nested = y.nested };
                level = raised_level _ j (omega (arith, u.low)) y.level;
                low = omega (arith, u.low);
                long = u.long;
                waits = λ m g. u.waits m (omega arith);
                onwards = λ ex s k on. ap (λ (y : ℕ). within v.remaining (rest_walk ex s l y (so_far v))) (sym z) ∙ went ex s k on;
              })

          pub next_less : 2 * next.count - 1 + steps_left l j < 2 * part.count - 1 + steps_left l top
          unfolding steps_left
          next_less = let a = u.ready.part.some in let b : next.count ≡ (get_or l j no_part).count = ap (λ (y : Subtree). y.count) x in let c : steps_left l top ≡ steps_left l (suc j) = ap (steps_left l) z in omega arith

      -- the part is halved
      module _ (x : Halves) (e : q ≡ Ok (Split x)) (some : NetMarks marks groups w) where
        told : Halved w part.first part.count p x × (contributes part.lower t (gap_of_float state.least) ≡ true) × (1 < part.count)
        told = rw e at h some.ex some.net some.marked

        pub underway_halves : Halved w part.first part.count p x
        underway_halves = told.0

        pub underway_room : top < 12
        underway_room = room-left part.count top told.2 u.low u.level

        turned : (ex : List Exemption) (s : Segment) → segment_box s ≡ p → walk ex t s (tree part) (so_far state) ≡ after (walk ex t s (tree x.nearer) (so_far state)) (λ f. walk ex t s (tree x.farther) f)
        turned ex s on =
            let k = part.count - 1 in
            let more : part.count ≡ suc k = omega (arith, told.2) in
            let a = stored_same k x.nearer.count w x.nearer.first x.nearer.count (omega (arith, told.0.nearer.fewer)) (le_refl x.nearer.count) in
            let b = stored_same k x.farther.count w x.farther.first x.farther.count (omega (arith, told.0.farther.fewer)) (le_refl x.farther.count) in
            ap (λ (z : ℕ). walk ex t s (stored_tree z w part.first part.count) (so_far state)) more
            ∙ told.0.turn ex t s on k (omega arith) (so_far state) (ap (λ (z : Float). contributes z t (gap_of_float state.least)) (sym (u.ready.near (suc k) (omega arith))) ∙ told.1)
            ∙ (λ j. after (walk ex t s (a j) (so_far state)) (λ f. walk ex t s (b j) f))

        -- the farther half waits
        module _ (m : List Subtree) (put : m ≡ set l top x.farther) where
          here : top < length l
          here = omega (arith, u.long, underway_room)

          both : (ex : List Exemption) (s : Segment) (f : Figures) → rest_walk ex s m (top + 1) f ≡ after (walk ex t s (tree x.farther) f) (λ y. rest_walk ex s l top y)
          unfolding rest_walk
          both ex s f =
              let z : top + 1 ≡ suc top = omega arith in
              ap (λ (y : ℕ). rest_walk ex s m y f) z ∙ (λ j. after (walk ex t s (tree (at_top l m top x.farther here put j)) f) (λ y. rest-walk-same ex s l m top (other l m top x.farther here put) y j))

          pub underway_split : Underway x.nearer state m (top + 1)
          underway_split = record {
            ready = half_walkable u.ready told.0.nearer state (omega arith);
            level = halved_level part.count x.nearer.count top underway_room u.level told.0.half.0;
            low = omega (arith, underway_room);
            long = ap length put ∙ length-set l top x.farther ∙ u.long;
            waits = λ j g. elim (le_or_lt top j) [
              | inl b ↦
                  let same : top ≡ j = omega arith in
                  let half = told.0.farther in
                  subst (λ (y : ℕ). Waits (get_or m y no_part) y) same (rw (at_top l m top x.farther here put) (record { part = half.part; near = half.near; nested = half.nested; level = halved_level part.count x.farther.count top underway_room u.level told.0.half.1 }))
              | inr b ↦ rw (other l m top x.farther here put j b) (u.waits j b)
            ];
            onwards = λ ex s k on.
                let c = walk ex t s (tree x.nearer) (so_far state) in
                (λ j. within state.remaining (after c (λ f. both ex s f j)))
                ∙ ap (within state.remaining) (sym (after-after c (λ f. walk ex t s (tree x.farther) f) (λ y. rest_walk ex s l top y)) ∙ ap (λ (y : Charged Figures). after y (λ f. rest_walk ex s l top f)) (sym (turned ex s on)))
                ∙ u.onwards ex s k on;
          }
