-- Pieces of four words: what the code finds of them, and what they are to the segments that they stand for. Assumes nothing.
use mathlib.Core.Path.{◌≡◌, refl, ap, ◌∙◌}
use mathlib.Core.Bool.{Bool, true, false, not, ◌&&◌, cond}
use mathlib.Core.List.{List, [], ◌∷◌, map}
use Prim.Native.Nat.{ℕ, ◌+◌, ◌-◌, ◌*◌, ◌≤◌}
use native.Mathlib.Omega.{arith}
use lib.Dec.{leb, ltb, eqb}
use borrow.Author.Tests.{eq-eqb, eqb-true}
use Rattle.laws.specs.Lists.{put}
use Rattle.laws.proofs.Tests.{same_test, is_true, of_true, and_left, and_right, and_both}
use Rattle.floats.specs.TotalOrder.{key_of}
use Rattle.drawing.specs.declared.lists.Segment.{Segment}
use Rattle.joining.specs.declared.piece.Piece.{Piece}
use Rattle.joining.specs.Joined.{touches, extended, join_from, pieces}
use Rattle.joining.specs.Inner.Pieces.{piece_of, touches_piece, extended_piece, next_piece, begun, join_pieces_from, joined_pieces}

-- ---- where x begins a piece of its own
module _ (c x : Piece) where
  pub none-begun : (n : ℕ) → touches_piece c x ≡ true → n ≡ n + begun c x
  none-begun n t = rw t (omega arith)

  pub one-begun : (n : ℕ) → touches_piece c x ≡ false → n + 1 ≡ n + begun c x
  one-begun n f = rw f

-- ---- pieces of segments touch and grow as the segments do
heads : (n v m w : ℕ) → v ≤ 1 → w ≤ 1 → 2 * n + v ≡ 2 * m + w → (n ≡ m) × (v ≡ w)
heads n v m w a b e = (omega arith, omega arith)

upright : (o : ℕ) → 1 - o ≤ 1
upright o = omega arith

pub touches-is : (c x : Segment) → touches_piece (piece_of c) (piece_of x) ≡ touches c x
unfolding touches_piece piece_of touches
touches-is c x = same (eqb (key_of c.fixed) (key_of x.fixed) && leb (key_of x.start) (key_of c.end))
  where
    same : (r : Bool) → (eqb (2 * c.net + (1 - c.orientation)) (2 * x.net + (1 - x.orientation)) && r) ≡ (eqb c.net x.net && (eqb (1 - c.orientation) (1 - x.orientation) && r))
    same r =
        let a = 1 - c.orientation in
        let b = 1 - x.orientation in
        let n = eqb c.net x.net in
        let o = eqb a b in
        let h = eqb (2 * c.net + a) (2 * x.net + b) in
        same_test (h && r) (n && (o && r))
        (λ t.
        let e = is_true (h && r) t in
        let q = heads c.net a x.net b (upright c.orientation) (upright x.orientation) (eqb-true (2 * c.net + a) (2 * x.net + b) (and_left h r e)) in
        of_true (n && (o && r)) (and_both n (o && r) (eq-eqb c.net x.net q.0) (and_both o r (eq-eqb a b q.1) (and_right h r e))))
        (λ t.
        let e = is_true (n && (o && r)) t in
        let f = and_right n (o && r) e in
        let p = eqb-true c.net x.net (and_left n (o && r) e) in
        let q = eqb-true a b (and_left o r f) in
        of_true (h && r) (and_both h r (eq-eqb (2 * c.net + a) (2 * x.net + b) (λ i. 2 * p i + q i)) (and_right o r f)))

pub extended-is : (c x : Segment) → extended_piece (piece_of c) (piece_of x) ≡ piece_of (extended c x)
unfolding extended_piece piece_of extended
extended-is c x = (λ i. record { net_and_orientation = 2 * c.net + (1 - c.orientation); fixed = key_of c.fixed; start = key_of c.start; end = pick (ltb (key_of c.end) (key_of x.end)) i })
  where
    pick : (b : Bool) → cond b (key_of x.end) (key_of c.end) ≡ key_of (cond b x.end c.end)
    pick true = refl
    pick false = refl

next_is : (c x : Segment) → next_piece (piece_of c) (piece_of x) ≡ piece_of (cond (touches c x) (extended c x) x)
unfolding next_piece
next_is c x = (λ i. cond (touches-is c x i) (extended-is c x i) (piece_of x)) ∙ pick (touches c x)
  where
    pick : (b : Bool) → cond b (piece_of (extended c x)) (piece_of x) ≡ piece_of (cond b (extended c x) x)
    pick true = refl
    pick false = refl

-- ---- so their runs are the pieces of the runs
run_is : (c : Segment) (l : List Segment) → join_pieces_from (piece_of c) (map piece_of l) ≡ map piece_of (join_from c l)
unfolding join_pieces_from join_from
run_is c [] = refl
run_is c (x ∷ l) =
    (λ i. put (not (touches-is c x i)) (piece_of c) (join_pieces_from (next_is c x i) (map piece_of l)))
    ∙ ap (put (not (touches c x)) (piece_of c)) (run_is (cond (touches c x) (extended c x) x) l)
    ∙ outside (not (touches c x)) (join_from (cond (touches c x) (extended c x) x) l)
  where
    outside : (b : Bool) (r : List Segment) → put b (piece_of c) (map piece_of r) ≡ map piece_of (put b c r)
    outside true r = refl
    outside false r = refl

pub words_join : (l : List Segment) → joined_pieces (map piece_of l) ≡ map piece_of (pieces l)
unfolding joined_pieces pieces
words_join [] = refl
words_join (x ∷ l) = run_is x l
