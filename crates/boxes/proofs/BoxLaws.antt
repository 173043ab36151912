-- Boxes of fit entries are fit, and: the distance to a box is not larger than the distance to a box inside it, so boxes that contain each other are equally far away. Assumes nothing.
use mathlib.Core.Path.{◌≡◌, sym, ap, ◌∙◌}
use mathlib.Core.Logic.{inl, inr}
use mathlib.Core.Bool.{Bool, true, false}
use Prim.Native.Nat.{ℕ, ◌-◌, ◌≤◌, ◌<◌, min, max}
use native.Mathlib.Nat.{le_refl, le_trans, le_antisymm, le_of_lt}
use native.Mathlib.Omega.{arith}
use lib.Dec.{T, eqb}
use lib.Ieee.{Float, binary64, sub, lt, le}
use borrow.Author.Tests.{ltb-false}
use Rattle.laws.proofs.Tests.{decide, of_true}
use Rattle.floats.specs.Values.{lesser_of, greater_of}
use Rattle.floats.proofs.Rank.{mag, rank, Num, Fin, fin_num, lt_rank, lt→, le→, →le, distance as apart}
use Rattle.floats.proofs.Rounding.{rnd, rnd_mono, rnd_zero}
use Rattle.floats.proofs.Difference.{sub_mag}
use Rattle.floats.proofs.Gaps.{Good, zero_good, zero_mag, sub_good, good_one}
use Rattle.floats.proofs.Extremes.{greater, picked, lesser_rank, greater_rank}
use Rattle.drawing.specs.Entries.{Segment, Node}
use Rattle.drawing.specs.Held.{FitSegment}
use Rattle.drawing.proofs.Fit.{FitNode, Line, line_of, across-of, down-of}
use Rattle.boxes.specs.declared.aabb.Aabb.{Aabb}
use Rattle.boxes.specs.Boxes.{from_node, from_segment, node_box, segment_box, union, axis_gap, distance}
use Rattle.boxes.specs.Inner.Fitting.{Span, Inside, FitBox, Within}
use Rattle.boxes.proofs.Growth.{grows}

-- the rank of a float, which orders the values
abbrev pub at : Float → ℕ
at x = rank binary64 x

-- a float that is not below another
pub not_below : (x y : Float) → Num binary64 x → Num binary64 y → lt x y ≡ false → at y ≤ at x
not_below x y p q e = ltb-false (at x) (at y) (sym (lt_rank binary64 x y p q) ∙ e)

below : (x y : Float) → Fin binary64 x → Fin binary64 y → lt x y ≡ true → at x < at y
below x y p q e = lt→ binary64 x y (fin_num binary64 x p) (fin_num binary64 y q) (of_true (lt x y) e)

-- ---- at most, as ranks
le-at : (x y : Float) → Fin binary64 x → Fin binary64 y → T (le x y) → at x ≤ at y
le-at x y p q h = le→ binary64 x y (fin_num binary64 x p) (fin_num binary64 y q) h

at-le : (x y : Float) → Fin binary64 x → Fin binary64 y → at x ≤ at y → T (le x y)
at-le x y p q h = →le binary64 x y (fin_num binary64 x p) (fin_num binary64 y q) h

pub le_self : (x : Float) → Fin binary64 x → T (le x x)
le_self x p = at-le x x p p (le_refl (at x))

pub le-via : (x y z : Float) → Fin binary64 x → Fin binary64 y → Fin binary64 z → T (le x y) → T (le y z) → T (le x z)
le-via x y z p q r h k = at-le x z p r (le_trans (le-at x y p q h) (le-at y z q r k))

-- ---- the lesser and the greater of two
module _ (x y : Float) (p : Fin binary64 x) (q : Fin binary64 y) where
  lesser_fin : Fin binary64 (lesser_of x y)
  unfolding lesser_of
  lesser_fin = picked (Fin binary64) (lt y x) x y p q

  greater_fin : Fin binary64 (greater_of x y)
  unfolding greater_of
  greater_fin = picked (Fin binary64) (lt x y) x y p q

  lesser-at : at (lesser_of x y) ≡ min (at x) (at y)
  lesser-at = lesser_rank x y (fin_num binary64 x p) (fin_num binary64 y q)

  greater_at : at (greater_of x y) ≡ max (at x) (at y)
  greater_at = greater_rank x y (fin_num binary64 x p) (fin_num binary64 y q)

-- ---- along one axis
pub span-at : (a b : Float) → Span a b → at a ≤ at b
span-at a b p = le-at a b p.low p.high p.rising

module _ (a b c d : Float) (p : Span a b) (q : Span c d) (w : Inside a b c d) where
  pub low-at : at c ≤ at a
  low-at = le-at c a q.low p.low w.low

  pub high-at : at b ≤ at d
  high-at = le-at b d p.high q.high w.high

inside_self : (a b : Float) → Span a b → Inside a b a b
inside_self a b p = record { low = le_self a p.low; high = le_self b p.high }

inside-trans : (a b c d u v : Float) → Span a b → Span c d → Span u v → Inside a b c d → Inside c d u v → Inside a b u v
inside-trans a b c d u v p q r h k = record { low = le-via u c a r.low q.low p.low k.low h.low; high = le-via b d v p.high q.high r.high h.high k.high }

-- two spans and the least one around both
module _ (a b c d : Float) (p : Span a b) (q : Span c d) where
  low_fin : Fin binary64 (lesser_of a c)
  low_fin = lesser_fin a c p.low q.low

  high_fin : Fin binary64 (greater_of b d)
  high_fin = greater_fin b d p.high q.high

  low-is : at (lesser_of a c) ≡ min (at a) (at c)
  low-is = lesser-at a c p.low q.low

  high_is : at (greater_of b d) ≡ max (at b) (at d)
  high_is = greater_at b d p.high q.high

  join_first : Inside a b (lesser_of a c) (greater_of b d)
  join_first = record { low = at-le (lesser_of a c) a low_fin p.low (omega (arith, low-is)); high = at-le b (greater_of b d) p.high high_fin (omega (arith, high_is)) }

  join_second : Inside c d (lesser_of a c) (greater_of b d)
  join_second = record { low = at-le (lesser_of a c) c low_fin q.low (omega (arith, low-is)); high = at-le d (greater_of b d) q.high high_fin (omega (arith, high_is)) }

  join : Span (lesser_of a c) (greater_of b d)
  join = record { low = low_fin; high = high_fin; rising = at-le (lesser_of a c) (greater_of b d) low_fin high_fin (omega (arith, low-is, high_is, span-at a b p)) }

join_least : (a b c d u v : Float) → Inside a b u v → Inside c d u v → Inside (lesser_of a c) (greater_of b d) u v
unfolding lesser_of greater_of
join_least a b c d u v h k = record { low = picked (λ z. T (le u z)) (lt c a) a c h.low k.low; high = picked (λ z. T (le z v)) (lt b d) b d h.high k.high }

-- the gap of two spans before rounding, in units of the format's smallest positive value: `-` stops at 0
abbrev between : Float → Float → Float → Float → ℕ
between a b c d = max (at c - at b) (at a - at d)

-- one rounded subtraction
difference : (x y : Float) (n : ℕ) → Fin binary64 x → Fin binary64 y → lt y x ≡ true → at x - at y ≡ n → Good (sub binary64 x y) × (mag binary64 (sub binary64 x y) ≡ rnd binary64 n)
difference x y n h k e g = (sub_good x y h k (of_true (lt y x) e), sub_mag binary64 x y h k ∙ ap (rnd binary64) (over (at x) (at y) (below y x k h e) ∙ g))
  where
    over : (m n : ℕ) → n < m → apart m n ≡ m - n
    over m n h = omega arith

module _ (a b c d : Float) (p : Span a b) (q : Span c d) where
  axis_gap-is : Good (axis_gap a b c d) × (mag binary64 (axis_gap a b c d) ≡ rnd binary64 (between a b c d))
  unfolding axis_gap
  axis_gap-is = elim (decide (lt b c)) [
    | inl e ↦ let h = below b c p.high q.low e in rw e (difference c b (between a b c d) q.low p.high e (omega (arith, span-at a b p, span-at c d q)))
    | inr e ↦ let h = not_below b c (fin_num binary64 b p.high) (fin_num binary64 c q.low) e in elim (decide (lt d a)) [
      | inl g ↦ let k = below d a q.high p.low g in rw (e, g) (difference a d (between a b c d) p.low q.high g (omega arith))
      | inr g ↦
          let k = not_below d a (fin_num binary64 d q.high) (fin_num binary64 a p.low) g in
          let z : between a b c d ≡ 0 = omega arith in
          rw (e, g) (zero_good, zero_mag ∙ sym (ap (rnd binary64) z ∙ rnd_zero binary64))
    ]
  ]

  pub axis_gap_good : Good (axis_gap a b c d)
  axis_gap_good = axis_gap-is.0

  pub axis_gap_mag : mag binary64 (axis_gap a b c d) ≡ rnd binary64 (between a b c d)
  axis_gap_mag = axis_gap-is.1

-- a wider span is not further away
axis_gap_wider : (a b c d u v : Float) → Span a b → Span c d → Span u v → Inside c d u v → mag binary64 (axis_gap a b u v) ≤ mag binary64 (axis_gap a b c d)
axis_gap_wider a b c d u v p q r w =
    rw (axis_gap_mag a b u v p r, axis_gap_mag a b c d p q) (rnd_mono binary64 (between a b u v) (between a b c d) (omega (arith, low-at c d u v q r w, high-at c d u v q r w)))

-- ---- boxes
pub within_self : (b : Aabb) → FitBox b → Within b b
within_self b p = record { across = inside_self b.left b.right p.across; down = inside_self b.top b.bottom p.down }

pub within-trans : (a b c : Aabb) → FitBox a → FitBox b → FitBox c → Within a b → Within b c → Within a c
within-trans a b c p q r h k = record {
  across = inside-trans a.left a.right b.left b.right c.left c.right p.across q.across r.across h.across k.across;
  down = inside-trans a.top a.bottom b.top b.bottom c.top c.bottom p.down q.down r.down h.down k.down;
}

pub fit-node : (n : Node) → FitNode n → FitBox (node_box n)
unfolding node_box from_node
fit-node n p =
    let a = across-of n p in
    let d = down-of n p in
    record {
      across = record { low = a.corner_fin; high = a.edge_fin; rising = at-le _ _ a.corner_fin a.edge_fin (grows binary64 n.x n.width a.corner_fin a.extent_fin a.positive) };
      down = record { low = d.corner_fin; high = d.edge_fin; rising = at-le _ _ d.corner_fin d.edge_fin (grows binary64 n.y n.height d.corner_fin d.extent_fin d.positive) };
    }

pub fit-segment : (s : Segment) → FitSegment s → FitBox (segment_box s)
unfolding segment_box from_segment
fit-segment s p = go (eqb s.orientation 1)
  where
    l : Line s
    l = line_of s p.passes

    along : Span s.start s.end
    along =
        let a : Fin binary64 s.start = (p.held.start, l.start) in
        let b : Fin binary64 s.end = (p.held.end, l.end) in
        record { low = a; high = b; rising = at-le s.start s.end a b (le_of_lt (lt→ binary64 s.start s.end (fin_num binary64 s.start a) (fin_num binary64 s.end b) l.rising)) }

    crossing : Span s.fixed s.fixed
    crossing = let a : Fin binary64 s.fixed = (p.held.fixed, l.fixed) in record { low = a; high = a; rising = le_self s.fixed a }

    go : (b : Bool) → FitBox (from_segment b s.fixed s.start s.end)
    go true = record { across = along; down = crossing }
    go false = record { across = crossing; down = along }

module _ (b c : Aabb) (p : FitBox b) (q : FitBox c) where
  pub fit-union : FitBox (union b c)
  unfolding union
  fit-union = record { across = join b.left b.right c.left c.right p.across q.across; down = join b.top b.bottom c.top c.bottom p.down q.down }

  pub union-first : Within b (union b c)
  unfolding union
  union-first = record { across = join_first b.left b.right c.left c.right p.across q.across; down = join_first b.top b.bottom c.top c.bottom p.down q.down }

  pub union-second : Within c (union b c)
  unfolding union
  union-second = record { across = join_second b.left b.right c.left c.right p.across q.across; down = join_second b.top b.bottom c.top c.bottom p.down q.down }

  pub distance_good : Good (distance b c)
  unfolding distance
  distance_good = greater.good _ _ (axis_gap_good b.left b.right c.left c.right p.across q.across) (axis_gap_good b.top b.bottom c.top c.bottom p.down q.down)

  distance_mag : mag binary64 (distance b c) ≡ max (mag binary64 (axis_gap b.left b.right c.left c.right)) (mag binary64 (axis_gap b.top b.bottom c.top c.bottom))
  unfolding distance
  distance_mag = greater.size _ _ (axis_gap_good b.left b.right c.left c.right p.across q.across) (axis_gap_good b.top b.bottom c.top c.bottom p.down q.down)

-- the union lies in every box in which both lie
pub union-least : (b c u : Aabb) → Within b u → Within c u → Within (union b c) u
unfolding union
union-least b c u h k = record {
  across = join_least b.left b.right c.left c.right u.left u.right h.across k.across;
  down = join_least b.top b.bottom c.top c.bottom u.top u.bottom h.down k.down;
}

-- SCOPE 15.7: "monotone rounding justifies pruning"
pub distance-within : (s b u : Aabb) → FitBox s → FitBox b → FitBox u → Within b u → mag binary64 (distance s u) ≤ mag binary64 (distance s b)
distance-within s b u p q r w =
    let x = axis_gap_wider s.left s.right b.left b.right u.left u.right p.across q.across r.across w.across in
    let y = axis_gap_wider s.top s.bottom b.top b.bottom u.top u.bottom p.down q.down r.down w.down in
    omega (arith, distance_mag s u p r, distance_mag s b p q)

-- boxes that contain each other differ at most in the signs of zeros
pub record Alike (b c : Aabb) : Type 0 where
  pub into : Within b c
  pub back : Within c b

-- no distance depends on these: a distance is never -0
pub distance-alike : (s b c : Aabb) → FitBox s → FitBox b → FitBox c → Alike b c → distance s b ≡ distance s c
distance-alike s b c p q r h = good_one (distance s b) (distance s c) (distance_good s b p q) (distance_good s c p r) (le_antisymm (distance-within s c b p r q h.back) (distance-within s b c p q r h.into))
