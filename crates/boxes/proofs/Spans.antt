-- The right and bottom edges of the boxes of fit nodes, and of unions of these, are never -0, so their spans are never -0 either. Assumes nothing.
use mathlib.Core.Path.{◌≡◌, ap, ◌∙◌}
use mathlib.Core.Logic.{inl, inr}
use mathlib.Core.Bool.{Bool, true, false, not, cond}
use Prim.Native.Nat.{ℕ, ◌+◌, ◌-◌, ◌≤◌, ◌<◌}
use native.Mathlib.Omega.{arith}
use lib.IntN.{pos}
use lib.Dec.{T}
use lib.Ieee.{Float, nan, inf, fin, Format, binary64, neg, add, sub, lt}
use lib.Ieee.Scale.{overflow}
use Rattle.laws.proofs.Tests.{of_false, le_or_lt}
use Rattle.floats.specs.Values.{greater_of}
use Rattle.floats.proofs.Rank.{mag, sgn, at, rank, rank_is, Fin, fits_turned, mag_le, over_pos}
use Rattle.floats.proofs.Rounding.{round_shape, rnd, rnd_pos}
use Rattle.floats.proofs.Difference.{sign_of, plus_sign, sub_round, sub_num, sub_rank, shift_down}
use Rattle.floats.proofs.Gaps.{Good}
use Rattle.drawing.specs.Entries.{Node}
use Rattle.drawing.proofs.Fit.{FitNode, across-of, down-of}
use Rattle.boxes.specs.declared.aabb.Aabb.{Aabb}
use Rattle.boxes.specs.Boxes.{from_node, node_box, union}
use Rattle.boxes.specs.Inner.Fitting.{Span, FitBox}
use Rattle.boxes.proofs.BoxLaws.{span-at, fit-node, fit-union}

-- not -0: where the value is not below zero the sign is plus
abbrev pub Firm : Format → Float → Type 0
Firm f x = overflow f ≤ rank f x → sgn x ≡ false

-- ---- a difference that is not below zero has the sign plus, except for -0 - +0
sub-plain : (f : Format) (x y : Float) → Fin f x → Fin f y → (T (sgn x) → T (not (sgn y)) → 0 < mag f x + mag f y) → rank f y ≤ rank f x → sgn (sub f x y) ≡ false
sub-plain f x y p q z h =
    ap sgn (sub_round f x y p q)
    ∙ (round_shape f (sign_of (sgn x) (sgn y) (mag f x) (mag f y)) _ _).0
    ∙ plus_sign (overflow f) (sgn x) (sgn y) (mag f x) (mag f y) (mag_le f x p.0) (mag_le f y q.0) z (rw (← rank_is f x, ← rank_is f y) h)

sub_firm : (f : Format) (x y : Float) → Fin f x → Fin f y → Firm f x → rank f y ≤ rank f x → sgn (sub f x y) ≡ false
sub_firm f x y p q firm h = sub-plain f x y p q (λ u v. absurd (of_false (sgn x) (firm (above (sgn y) (overflow f) (mag f y) (rank f y) (rank f x) v (rank_is f y) h)) u)) h
  where
    above : (s : Bool) (B m r x : ℕ) → T (not s) → r ≡ at B s m → r ≤ x → B ≤ x
    above true B m r x v e h = absurd v
    above false B m r x v e h = omega arith

-- x + w with w above zero
edge_firm : (f : Format) (x w : Float) → Fin f x → Fin f w → T (lt (fin false 0 (pos 0)) w) → Firm f (add f x w)
unfolding lt sub neg sgn
edge_firm f x nan p q h = absurd q.1
edge_firm f x (inf s) p q h = absurd q.1
edge_firm f x (fin true n d) p q h = absurd h
edge_firm f x (fin false n d) p q h = λ o. elim (le_or_lt (rank f y) (rank f x)) [
  | inl k ↦ sub-plain f x y p t (λ u v. absurd v) k
  | inr k ↦ absurd (none (overflow f) (rank f (sub f x y)) (rnd f (rank f y - rank f x)) (sub_rank f x y p t ∙ shift_down f (rank f x) (rank f y) k) (rnd_pos f (rank f y - rank f x) (room (rank f x) (rank f y) k)) (over_pos f) o)
]
  where
    y : Float
    y = fin true n d

    t : Fin f y
    t = (fits_turned f false true n d q.0, tt)

    room : (a b : ℕ) → a < b → 0 < b - a
    room a b h = omega arith

    none : (B r m : ℕ) → r ≡ B - m → 0 < m → 0 < B → B ≤ r → ⊥
    none B r m e h k o = omega arith

-- ---- boxes whose right and bottom edges are not -0
pub record Whole (b : Aabb) : Type 0 where
  pub fit : FitBox b
  pub right : Firm binary64 b.right
  pub bottom : Firm binary64 b.bottom

pub whole-node : (n : Node) → FitNode n → Whole (node_box n)
unfolding node_box from_node
whole-node n p =
    let a = across-of n p in
    let d = down-of n p in
    record {
      fit = fit-node n p;
      right = edge_firm binary64 n.x n.width a.corner_fin a.extent_fin a.positive;
      bottom = edge_firm binary64 n.y n.height d.corner_fin d.extent_fin d.positive;
    }

pub whole-union : (b c : Aabb) → Whole b → Whole c → Whole (union b c)
unfolding union greater_of
whole-union b c p q = record { fit = fit-union b c p.fit q.fit; right = picked (lt b.right c.right) b.right c.right p.right q.right; bottom = picked (lt b.bottom c.bottom) b.bottom c.bottom p.bottom q.bottom }
  where
    picked : (o : Bool) (x y : Float) → Firm binary64 x → Firm binary64 y → Firm binary64 (cond o y x)
    picked true x y p q = q
    picked false x y p q = p

span_good : (a b : Float) → Span a b → Firm binary64 b → Good (sub binary64 b a)
span_good a b p h = record { num = sub_num binary64 b a p.high p.low; plus = sub_firm binary64 b a p.high p.low h (span-at a b p) }

pub width_good : (b : Aabb) → Whole b → Good (sub binary64 b.right b.left)
width_good b p = span_good b.left b.right p.fit.across p.right

pub height_good : (b : Aabb) → Whole b → Good (sub binary64 b.bottom b.top)
height_good b p = span_good b.top b.bottom p.fit.down p.bottom
