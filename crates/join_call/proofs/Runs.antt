-- The loops over the pieces in order: what is counted and what is written so far. Assumes nothing.
use mathlib.Core.Path.{◌≡◌, refl, sym, ap, ◌∙◌}
use mathlib.Core.Bool.{Bool, true, false, not}
use mathlib.Core.List.{List, [], ◌∷◌}
use Prim.Native.Nat.{ℕ, ◌+◌, ◌≤◌, ◌<◌}
use native.Mathlib.Omega.{arith}
use native.Mathlib.Numerals.{add-one}
use lib.ListN.{length, get_or, drop, drop_of_length-le}
use lib.Seq.{drop-cons}
use Rattle.laws.specs.Lists.{put, bit}
use Rattle.joining.specs.declared.piece.Piece.{Piece}
use Rattle.joining.specs.Inner.Pieces.{touches_piece, next_piece, begun, join_pieces_from, joined_pieces}

-- ---- the pieces from a place on
drop_next : (l : List Piece) (k : ℕ) (x : Piece) → k < length l → get_or l k x ≡ x → drop k l ≡ x ∷ drop (k + 1) l
drop_next l k x h e = drop-cons l k x h ∙ (λ i. e i ∷ drop (sym (add-one k) i) l)

abbrev pub left : List Piece → ℕ → Piece → List Piece
left l k c = join_pieces_from c (drop k l)

pub left_next : (l : List Piece) (k : ℕ) (c x : Piece) → k < length l → get_or l k x ≡ x → left l k c ≡ put (not (touches_piece c x)) c (left l (k + 1) (next_piece c x))
unfolding join_pieces_from
left_next l k c x h e = ap (join_pieces_from c) (drop_next l k x h e)

pub left-last : (l : List Piece) (k : ℕ) (c : Piece) → length l ≤ k → left l k c ≡ c ∷ []
unfolding join_pieces_from
left-last l k c h = ap (join_pieces_from c) (drop_of_length-le l h)

pub whole-none : (l : List Piece) → length l ≡ 0 → joined_pieces l ≡ []
unfolding joined_pieces
whole-none [] e = refl
whole-none (x ∷ l) e = absurd (omega arith)

pub whole-first : (l : List Piece) (c : Piece) → (length l ≡ 0 → ⊥) → get_or l 0 c ≡ c → joined_pieces l ≡ left l 1 c
unfolding joined_pieces
whole-first [] c h e = absurd (h refl)
whole-first (x ∷ l) c h e = ap (λ (z : Piece). join_pieces_from z l) e

-- ---- counting, the piece that extends included
pub record Counting (l : List Piece) (c : Piece) (count k : ℕ) : Type 0 where
  pub small : k ≤ length l
  pub fewer : count ≤ k
  pub total : length (joined_pieces l) + 1 ≡ count + length (left l k c)

pub count-start : (l : List Piece) (c : Piece) → (length l ≡ 0 → ⊥) → get_or l 0 c ≡ c → Counting l c 1 1
count-start l c h e = record { small = omega arith; fewer = omega arith; total = let t = ap length (whole-first l c h e) in omega arith }

pub put-length : (b : Bool) (c : Piece) (l : List Piece) → length (put b c l) ≡ bit b + length l
put-length true c l = omega arith
put-length false c l = omega arith

pub count_next : (l : List Piece) (c d x : Piece) (count m k : ℕ) → Counting l c count k → k < length l → get_or l k x ≡ x → m ≡ count + begun c x → d ≡ next_piece c x → Counting l d m (k + 1)
count_next l c d x count m k i h e f g =
    let t : length (left l k c) ≡ begun c x + length (left l (k + 1) d) = ap length (left_next l k c x h e) ∙ put-length (not (touches_piece c x)) c (left l (k + 1) (next_piece c x)) ∙ ap (λ (z : Piece). begun c x + length (left l (k + 1) z)) (sym g) in
    let b : begun c x ≤ 1 = few (not (touches_piece c x)) in
    record { small = omega arith; fewer = omega (arith, i.fewer); total = omega (arith, i.total) }
  where
    few : (b : Bool) → bit b ≤ 1
    few true = omega arith
    few false = omega arith

pub count-end : (l : List Piece) (c : Piece) (count k : ℕ) → Counting l c count k → length l ≤ k → count ≡ length (joined_pieces l)
count-end l c count k i h = let e = ap length (left-last l k c h) in omega (arith, i.total)
