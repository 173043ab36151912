-- The loop that writes the pieces: which are written so far, and what the columns hold then. Assumes nothing.
use mathlib.Core.Path.{◌≡◌, refl, sym, ap, ◌∙◌, subst}
use mathlib.Core.Logic.{◌⊎◌, inl, inr}
use mathlib.Core.Bool.{Bool, true, false, not, cond}
use mathlib.Core.List.{List, [], ◌∷◌, ◌++◌, map, map-append}
use Prim.Native.Nat.{ℕ, suc, ◌+◌, ◌≤◌, ◌<◌}
use native.Mathlib.Numerals.{add-one}
use native.Mathlib.Omega.{arith}
use lib.ListN.{length, get_or, set, drop, length-append, length-map, length-drop}
use lib.Seq.{drop-cons, set_at, append_snoc}
use Rattle.laws.specs.Lists.{put, bit}
use Rattle.laws.proofs.Tests.{decide, cond_true, cond_false}
use Rattle.floats.specs.TotalOrder.{float_at}
use Rattle.drawing.specs.Entries.{SegmentColumns}
use Rattle.drawing.specs.Outputs.{written_over}
use Rattle.joining.specs.declared.piece.Piece.{Piece}
use Rattle.joining.specs.Inner.Pieces.{touches_piece, next_piece, begun, join_pieces_from, joined_pieces}
use Rattle.join_call.specs.declared.output.Output.{Output}
use Rattle.join_call.specs.Inner.Output.{net_of, orientation_of, written_pieces, put_piece, Room, SameColumns}
use Rattle.join_call.proofs.Runs.{left, left_next, left-last, whole-none, whole-first, put-length}

-- ---- a column with its first entries written
module _ {A : Type 0} (f : Piece → A) (l : List Piece) (old : List A) where
  col_length : length l ≤ length old → length (written_over f l old) ≡ length old
  col_length h = length-append (map f l) (drop (length l) old) ∙ omega (arith, length-map l f, length-drop (length l) old)

  col_put : (p : Piece) → length l + 1 ≤ length old → set (written_over f l old) (length l) (f p) ≡ written_over f (l ++ (p ∷ [])) old
  col_put p h =
      let n = length l in
      let more : suc n ≡ length (l ++ (p ∷ [])) = sym (add-one n) ∙ sym (length-append l (p ∷ [])) in
      ap (λ (z : List A). set (map f l ++ z) n (f p)) (drop-cons old n (f p) (omega arith))
      ∙ set_at (map f l) (get_or old n (f p)) (drop (suc n) old) (f p) n (length-map l f)
      ∙ sym (append_snoc (map f l) (f p) (drop (suc n) old))
      ∙ (λ i. sym (map-append f l (p ∷ [])) i ++ drop (more i) old)

pub room_less : (m n : ℕ) (c : SegmentColumns) → m ≤ n → Room n c → Room m c
room_less m n c h r = record { net = omega (arith, r.net); orientation = omega (arith, r.orientation); fixed = omega (arith, r.fixed); start = omega (arith, r.start); end = omega (arith, r.end) }

room-written : (l : List Piece) (old : SegmentColumns) (k : ℕ) → length l ≤ k → Room k old → Room k (written_pieces l old)
unfolding written_pieces
room-written l old k h r = record {
  net = omega (arith, r.net, col_length net_of l old.net (omega (arith, r.net)));
  orientation = omega (arith, r.orientation, col_length orientation_of l old.orientation (omega (arith, r.orientation)));
  fixed = omega (arith, r.fixed, col_length (λ (p : Piece). float_at p.fixed) l old.fixed (omega (arith, r.fixed)));
  start = omega (arith, r.start, col_length (λ (p : Piece). float_at p.start) l old.start (omega (arith, r.start)));
  end = omega (arith, r.end, col_length (λ (p : Piece). float_at p.end) l old.end (omega (arith, r.end)));
}

put_more : (l : List Piece) (p : Piece) (old : SegmentColumns) → Room (length l + 1) old → put_piece (written_pieces l old) (length l) p ≡ written_pieces (l ++ (p ∷ [])) old
unfolding put_piece written_pieces
put_more l p old r =
    let a = col_put net_of l old.net p r.net in
    let b = col_put orientation_of l old.orientation p r.orientation in
    let c = col_put (λ (q : Piece). float_at q.fixed) l old.fixed p r.fixed in
    let d = col_put (λ (q : Piece). float_at q.start) l old.start p r.start in
    let e = col_put (λ (q : Piece). float_at q.end) l old.end p r.end in
    (λ i. record { net = a i; orientation = b i; fixed = c i; start = d i; end = e i })

none_written : (old : SegmentColumns) → old ≡ written_pieces [] old
unfolding written_pieces
none_written old = refl

-- ---- the stores of one piece
pub one-put : (old : SegmentColumns) (at : ℕ) (p : Piece) (f s e : _) → f ≡ float_at p.fixed → s ≡ float_at p.start → e ≡ float_at p.end
    → ◌≡◌ {A = SegmentColumns} (record { net = set old.net at (net_of p); orientation = set old.orientation at (orientation_of p); fixed = set old.fixed at f; start = set old.start at s; end = set old.end at e }) (put_piece old at p)
unfolding put_piece
one-put old at p f s e x y z = (λ i. record { net = set old.net at (net_of p); orientation = set old.orientation at (orientation_of p); fixed = set old.fixed at (x i); start = set old.start at (y i); end = set old.end at (z i) })

-- ---- the pieces that are written, and those that are left
run_some : (c : Piece) (l : List Piece) → 1 ≤ length (join_pieces_from c l)
unfolding join_pieces_from
run_some c [] = omega arith
run_some c (x ∷ l) = let h = run_some (next_piece c x) l in let e = put-length (not (touches_piece c x)) c (join_pieces_from (next_piece c x) l) in omega arith

pub record Writing (l : List Piece) (old out : SegmentColumns) (c : Piece) (at k : ℕ) : Type 0 where
  pub small : k ≤ length l
  pub fewer : at < k
  pub done : List Piece
  pub whole : joined_pieces l ≡ done ++ left l k c
  pub count : at ≡ length done
  pub is : out ≡ written_pieces done old

pub write_none : (l : List Piece) (old : SegmentColumns) → length l ≡ 0 → old ≡ written_pieces (joined_pieces l) old
write_none l old e = none_written old ∙ ap (λ (m : List Piece). written_pieces m old) (sym (whole-none l e))

pub write_start : (l : List Piece) (old : SegmentColumns) (c : Piece) → (length l ≡ 0 → ⊥) → get_or l 0 c ≡ c → Writing l old old c 0 1
write_start l old c h e = record { small = omega arith; fewer = omega arith; done = []; whole = whole-first l c h e; count = refl; is = none_written old }

module _ (l : List Piece) (old : SegmentColumns) (room : Room (length (joined_pieces l)) old) where
  write_fits : (out : SegmentColumns) (c : Piece) (at k : ℕ) (w : Writing l old out c at k) → length w.done + 1 ≤ length (joined_pieces l)
  write_fits out c at k w = let h = run_some c (drop k l) in let e = ap length w.whole ∙ length-append w.done (left l k c) in omega arith

  pub write_room : (out : SegmentColumns) (c : Piece) (at k : ℕ) → Writing l old out c at k → Room (at + 1) out
  write_room out c at k w =
      let h = write_fits out c at k w in
      let r : Room (at + 1) old = room_less (at + 1) (length (joined_pieces l)) old (omega (arith, w.count)) room in
      subst (Room (at + 1)) (sym w.is) (room-written w.done old (at + 1) (omega (arith, w.count)) r)

  -- the columns once c is written too
  more : (out : SegmentColumns) (c : Piece) (at k : ℕ) (w : Writing l old out c at k) → put_piece out at c ≡ written_pieces (w.done ++ (c ∷ [])) old
  more out c at k w =
      let h = write_fits out c at k w in
      (λ i. put_piece (w.is i) (w.count i) c) ∙ put_more w.done c old (room_less (length w.done + 1) (length (joined_pieces l)) old h room)

  pub write_next : (out new : SegmentColumns) (c d x : Piece) (at m k : ℕ) → Writing l old out c at k → k < length l → get_or l k x ≡ x → m ≡ at + begun c x → new ≡ cond (touches_piece c x) out (put_piece out at c) → d ≡ next_piece c x → Writing l old new d m (k + 1)
  write_next out new c d x at m k w h e f g u = go (decide (touches_piece c x))
    where
      split : left l k c ≡ put (not (touches_piece c x)) c (left l (k + 1) d)
      split = left_next l k c x h e ∙ ap (λ (z : Piece). put (not (touches_piece c x)) c (left l (k + 1) z)) (sym u)

      go : (touches_piece c x ≡ true) ⊎ (touches_piece c x ≡ false) → Writing l old new d m (k + 1)
      go (inl t) = record {
        small = omega arith;
        fewer = let z : begun c x ≡ 0 = ap (λ (b : Bool). bit (not b)) t in omega (arith, w.fewer);
        done = w.done;
        whole = w.whole ∙ ap (λ (m : List Piece). w.done ++ m) (split ∙ ap (λ (b : Bool). put (not b) c (left l (k + 1) d)) t);
        count = let z : begun c x ≡ 0 = ap (λ (b : Bool). bit (not b)) t in omega (arith, w.count);
        is = g ∙ cond_true (touches_piece c x) out (put_piece out at c) t ∙ w.is;
      }
      go (inr t) = record {
        small = omega arith;
        fewer = let z : begun c x ≡ 1 = ap (λ (b : Bool). bit (not b)) t in omega (arith, w.fewer);
        done = w.done ++ (c ∷ []);
        whole = w.whole ∙ ap (λ (m : List Piece). w.done ++ m) (split ∙ ap (λ (b : Bool). put (not b) c (left l (k + 1) d)) t) ∙ sym (append_snoc w.done c (left l (k + 1) d));
        count = let z : begun c x ≡ 1 = ap (λ (b : Bool). bit (not b)) t in omega (arith, w.count, length-append w.done (c ∷ []));
        is = g ∙ cond_false (touches_piece c x) out (put_piece out at c) t ∙ more out c at k w;
      }

  pub write_end : (out new : SegmentColumns) (c : Piece) (at k : ℕ) → Writing l old out c at k → length l ≤ k → new ≡ put_piece out at c → new ≡ written_pieces (joined_pieces l) old
  write_end out new c at k w h g = g ∙ more out c at k w ∙ ap (λ (m : List Piece). written_pieces m old) (sym (w.whole ∙ ap (λ (m : List Piece). w.done ++ m) (left-last l k c h)))

  pub write_count : (out : SegmentColumns) (c : Piece) (at k : ℕ) → Writing l old out c at k → length l ≤ k → at + 1 ≡ length (joined_pieces l)
  write_count out c at k w h = omega (arith, w.count, ap length (w.whole ∙ ap (λ (m : List Piece). w.done ++ m) (left-last l k c h)), length-append w.done (c ∷ []))

-- ---- the columns stay the caller's
pub columns-trans : (x y z : Output) → SameColumns x y → SameColumns y z → SameColumns x z
columns-trans x y z p q = record { net = q.net ∙ p.net; orientation = q.orientation ∙ p.orientation; fixed = q.fixed ∙ p.fixed; start = q.start ∙ p.start; end = q.end ∙ p.end }
