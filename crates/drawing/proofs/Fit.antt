-- Entries that refusal 5 does not apply to: what is known about their numbers. Assumes nothing.
use mathlib.Core.Path.{◌≡◌}
use mathlib.Core.Bool.{false, not, ◌||◌}
use mathlib.Core.List.{List}
use Prim.Native.Nat.{◌≤◌}
use lib.Dec.{T, ltb}
use lib.Ieee.{Float, binary64, add, lt, fits}
use lib.Ieee.Fits.{add-fits}
use lib.Ieee.Scale.{finite}
use borrow.Author.Tests.{ltb-false, not-false}
use Rattle.laws.specs.Lists.{All, some_of}
use Rattle.laws.proofs.Tests.{of_true, neither_left, neither_right}
use Rattle.laws.proofs.ListLaws.{all_mem, mem_all, none-all}
use Rattle.floats.specs.Values.{plus_zero}
use Rattle.floats.proofs.Rank.{Num, Fin, fin_num}
use Rattle.drawing.specs.Entries.{Segment, Node}
use Rattle.drawing.specs.Conditions.{unfit_fields, unfit_segment, unfit_extent, unfit_box, unfit_node, unfit_threshold}
use Rattle.drawing.specs.Held.{SegmentHeld, NodeHeld, FitSegment}

-- ---- fit entries: their floats are values of binary64, and the conditions of refusal 5 do not hold of them
pub record FitNode (n : Node) : Type 0 where
  pub held : NodeHeld n
  pub passes : unfit_node n ≡ false

pub record FitThreshold (t : Float) : Type 0 where
  pub held : T (fits binary64 t)
  pub passes : unfit_threshold t ≡ false

-- segments of which none is unfit
pub fit-segments : (l : List Segment) → All SegmentHeld l → some_of unfit_segment l ≡ false → All FitSegment l
fit-segments l h e = let a = none-all unfit_segment l e in mem_all FitSegment l (λ x m. record { held = all_mem SegmentHeld l h x m; passes = all_mem _ l a x m })

-- ---- what is known about them
finite_of : (x : Float) → not (finite x) ≡ false → T (finite x)
finite_of x e = of_true (finite x) (not-false (finite x) e)

below_of : (x y : Float) → not (lt x y) ≡ false → T (lt x y)
below_of x y e = of_true (lt x y) (not-false (lt x y) e)

pub record Line (s : Segment) : Type 0 where
  pub orientation : s.orientation ≤ 1
  pub fixed : T (finite s.fixed)
  pub start : T (finite s.start)
  pub end : T (finite s.end)
  pub rising : T (lt s.start s.end)

pub line_of : (s : Segment) → unfit_segment s ≡ false → Line s
unfolding unfit_segment unfit_fields
line_of s e =
    let a = ltb 1 s.orientation in
    let b = a || not (finite s.fixed) in
    let c = b || not (finite s.start) in
    let d = c || not (finite s.end) in
    let d0 = neither_left d (not (lt s.start s.end)) e in
    let c0 = neither_left c (not (finite s.end)) d0 in
    let b0 = neither_left b (not (finite s.start)) c0 in
    record {
      orientation = ltb-false 1 s.orientation (neither_left a (not (finite s.fixed)) b0);
      fixed = finite_of s.fixed (neither_right a (not (finite s.fixed)) b0);
      start = finite_of s.start (neither_right b (not (finite s.start)) c0);
      end = finite_of s.end (neither_right c (not (finite s.end)) d0);
      rising = below_of s.start s.end (neither_right d (not (lt s.start s.end)) e);
    }

-- along one axis of a node's box
pub record Extent (corner extent : Float) : Type 0 where
  pub corner_fin : Fin binary64 corner
  pub extent_fin : Fin binary64 extent
  pub positive : T (lt plus_zero extent)
  pub edge_fin : Fin binary64 (add binary64 corner extent)

extent-of : (x w : Float) → T (fits binary64 x) → T (fits binary64 w) → unfit_extent x w ≡ false → Extent x w
unfolding unfit_extent
extent-of x w h k e =
    let a = not (finite x) in
    let b = a || not (finite w) in
    let c = b || not (lt plus_zero w) in
    let c0 = neither_left c (not (finite (add binary64 x w))) e in
    let b0 = neither_left b (not (lt plus_zero w)) c0 in
    record {
      corner_fin = (h, finite_of x (neither_left a (not (finite w)) b0));
      extent_fin = (k, finite_of w (neither_right a (not (finite w)) b0));
      positive = below_of plus_zero w (neither_right b (not (lt plus_zero w)) c0);
      edge_fin = (add-fits binary64 x w, finite_of (add binary64 x w) (neither_right c (not (finite (add binary64 x w))) e));
    }

pub across-of : (n : Node) → FitNode n → Extent n.x n.width
unfolding unfit_node unfit_box
across-of n p = extent-of n.x n.width p.held.x p.held.width (neither_left (unfit_extent n.x n.width) (unfit_extent n.y n.height) p.passes)

pub down-of : (n : Node) → FitNode n → Extent n.y n.height
unfolding unfit_node unfit_box
down-of n p = extent-of n.y n.height p.held.y p.held.height (neither_right (unfit_extent n.x n.width) (unfit_extent n.y n.height) p.passes)

pub threshold_num : (t : Float) → FitThreshold t → Num binary64 t
unfolding unfit_threshold
threshold_num t p = fin_num binary64 t (p.held, finite_of t (neither_left (not (finite t)) (lt t plus_zero) p.passes))
