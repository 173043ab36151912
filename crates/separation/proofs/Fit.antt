-- Segments that pass check 5: with zeros made +0 their coordinates are finite and not -0, and pairs that count are rows that meet. Assumes nothing.
use mathlib.Core.Path.{◌≡◌, sym, ap, ◌∙◌}
use mathlib.Core.Bool.{true, false, not, ◌&&◌}
use mathlib.Core.List.{List, [], ◌∷◌}
use Prim.Native.Nat.{◌≤◌, ◌<◌, min, max}
use native.Mathlib.Omega.{arith}
use borrow.Author.Tests.{ltb-true, lt-ltb, eqb-true, eqb-false, eq-eqb, ne_eqb, not-true}
use lib.Dec.{ltb, eqb}
use lib.Ieee.{Float, binary64, lt}
use Rattle.laws.specs.Lists.{All, some_of}
use Rattle.laws.proofs.Tests.{and_left, and_right, and_both}
use Rattle.laws.proofs.ListLaws.{none-all}
use Rattle.floats.specs.Values.{canonical_zero, lesser_of, greater_of}
use Rattle.floats.specs.TotalOrder.{float_at}
use Rattle.floats.proofs.Rank.{rank, Num, Fin, fin_num, lt_rank, lt→}
use Rattle.floats.proofs.Extremes.{picked, lesser_rank, greater_rank}
use Rattle.floats.proofs.Zeros.{canonical_again, canonical_rank, canonical_fin}
use Rattle.floats.proofs.NumberKeys.{float_back}
use Rattle.drawing.specs.Entries.{Segment}
use Rattle.drawing.specs.Conditions.{unfit_segment}
use Rattle.drawing.specs.Held.{SegmentHeld}
use Rattle.drawing.proofs.Fit.{line_of}
use Rattle.rows.specs.Rows.{Row, fixed_of, start_of, end_of, row_of}
use Rattle.separation.specs.Figures.{overlapping, is_counted}
use Rattle.separation.proofs.Places.{Plain, Placed, placed, key-of_rank, rank_below_key}
use Rattle.separation.proofs.Sweeps.{Meet}

pub record Fit (s : Segment) : Type 0 where
  pub orientation : s.orientation ≤ 1
  pub fixed : Plain (fixed_of s)
  pub start : Plain (start_of s)
  pub end : Plain (end_of s)
  pub rising : rank binary64 (start_of s) < rank binary64 (end_of s)

-- zeros made +0
plain_of : (x : Float) → Fin binary64 x → Plain (canonical_zero x)
plain_of x p = record { fin = canonical_fin binary64 x p; plus = canonical_again x }

pub fit_of : (s : Segment) → SegmentHeld s → unfit_segment s ≡ false → Fit s
unfolding fixed_of start_of end_of
fit_of s p e =
    let l = line_of s e in
    let up = lt→ binary64 s.start s.end (fin_num binary64 s.start (p.start, l.start)) (fin_num binary64 s.end (p.end, l.end)) l.rising in
    record {
      orientation = l.orientation;
      fixed = plain_of s.fixed (p.fixed, l.fixed);
      start = plain_of s.start (p.start, l.start);
      end = plain_of s.end (p.end, l.end);
      rising = omega (arith, canonical_rank binary64 s.start p.start, canonical_rank binary64 s.end p.end);
    }

pub fit_all : (l : List Segment) → All SegmentHeld l → some_of unfit_segment l ≡ false → All Fit l
fit_all l p e = go l p (none-all unfit_segment l e)
  where
    go : (l : List Segment) → All SegmentHeld l → All (λ s. unfit_segment s ≡ false) l → All Fit l
    go [] p h = tt
    go (s ∷ l) p h = (fit_of s p.0 h.0, go l p.1 h.1)

-- ---- its row
pub row-rises : (s : Segment) → Fit s → (row_of s).start < (row_of s).end
unfolding row_of
row-rises s p = key-of_rank (start_of s) (end_of s) p.start.fin p.end.fin p.rising

pub row-placed : (s : Segment) → Fit s → Placed (row_of s).line
unfolding row_of
row-placed s p = placed (fixed_of s) p.fixed

pub row_float : (s : Segment) → Fit s → float_at (row_of s).line ≡ fixed_of s
unfolding row_of
row_float s p = float_back (fixed_of s) p.fixed.fin.0

-- ---- a pair that counts is two rows that meet
module _ (a b : Segment) (p : Fit a) (q : Fit b) where
  overlap_rank : overlapping a b ≡ ltb (max (rank binary64 (start_of a)) (rank binary64 (start_of b))) (min (rank binary64 (end_of a)) (rank binary64 (end_of b)))
  unfolding overlapping greater_of lesser_of
  overlap_rank =
      let na = fin_num binary64 (start_of a) p.start.fin in
      let nb = fin_num binary64 (start_of b) q.start.fin in
      let ma = fin_num binary64 (end_of a) p.end.fin in
      let mb = fin_num binary64 (end_of b) q.end.fin in
      lt_rank binary64 _ _ (picked (Num binary64) (lt (start_of a) (start_of b)) (start_of a) (start_of b) na nb) (picked (Num binary64) (lt (end_of b) (end_of a)) (end_of a) (end_of b) ma mb)
      ∙ (λ i. ltb (greater_rank (start_of a) (start_of b) na nb i) (lesser_rank (end_of a) (end_of b) ma mb i))

  pub counted→ : is_counted (a, b) ≡ true → (a.orientation ≡ b.orientation) × Meet (row_of a) (row_of b)
  unfolding is_counted row_of
  counted→ t =
      let o = eqb a.orientation b.orientation in
      let n = not (eqb a.net b.net) in
      let u = and_right o (n && overlapping a b) t in
      let h = ltb-true (max (rank binary64 (start_of a)) (rank binary64 (start_of b))) (min (rank binary64 (end_of a)) (rank binary64 (end_of b))) (sym overlap_rank ∙ and_right n (overlapping a b) u) in (
        eqb-true a.orientation b.orientation (and_left o (n && overlapping a b) t),
        record {
          nets = eqb-false a.net b.net (not-true (eqb a.net b.net) (and_left n (overlapping a b) u));
          before-end = key-of_rank (start_of a) (end_of b) p.start.fin q.end.fin (omega arith);
          after-start = key-of_rank (start_of b) (end_of a) q.start.fin p.end.fin (omega arith);
        },
      )

  pub →counted : a.orientation ≡ b.orientation → Meet (row_of a) (row_of b) → is_counted (a, b) ≡ true
  unfolding is_counted row_of
  →counted e m =
      let h = rank_below_key (start_of a) (end_of b) p.start q.end m.before-end in
      let k = rank_below_key (start_of b) (end_of a) q.start p.end m.after-start in
      let x = p.rising in
      let y = q.rising in
      and_both _ _ (eq-eqb a.orientation b.orientation e) (and_both _ _ (ap not (ne_eqb a.net b.net m.nets)) (overlap_rank ∙ lt-ltb (max (rank binary64 (start_of a)) (rank binary64 (start_of b))) (min (rank binary64 (end_of a)) (rank binary64 (end_of b))) (omega arith)))

pub meet_sym : (a b : Row) → Meet a b → Meet b a
meet_sym a b m = record { nets = λ e. m.nets (sym e); before-end = m.after-start; after-start = m.before-end }
