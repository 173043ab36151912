-- For segments that are fit the walk finds the figures over all pairs, bit by bit; no gap is NaN or -0. Assumes nothing.
use mathlib.Core.Path.{◌≡◌, refl, sym, ap, ◌∙◌, subst}
use mathlib.Core.Logic.{inl, inr}
use mathlib.Core.List.{List, [], ◌∷◌, ◌++◌, map}
use mathlib.Core.Bool.{true}
use Prim.Native.Nat.{ℕ, ◌≤◌, ◌<◌}
use native.Mathlib.Nat.{le_refl}
use native.Mathlib.Omega.{arith}
use lib.Ieee.{Float, binary64}
use Rattle.laws.specs.Lists.{Mem, All, keep, pairs}
use Rattle.laws.specs.Inner.Sort.{Sorted}
use Rattle.laws.proofs.Tests.{clash, le_or_lt}
use Rattle.laws.proofs.ListLaws.{all_mem, mem_all, all_append, mem_append, append_left, append_right, mem_map, map_mem, mem_chosen, chosen_mem, mem_pairs, pairs_mem}
use Rattle.laws.proofs.Leasts.{Reaches, least-same}
use Rattle.floats.specs.Values.{gap_of}
use Rattle.floats.specs.TotalOrder.{float_at}
use Rattle.floats.proofs.Rank.{mag}
use Rattle.floats.proofs.Gaps.{Good, gap_good, gap-swap}
use Rattle.drawing.specs.Entries.{Segment}
use Rattle.drawing.specs.Gaps.{least_gap}
use Rattle.drawing.proofs.GapLaws.{gaps_ranked}
use Rattle.rows.specs.Rows.{Row, fixed_of, row_of, rows_in_order, oriented}
use Rattle.rows.proofs.Oriented.{oriented-sorted, mem_oriented, oriented_mem}
use Rattle.separation.specs.Figures.{is_counted, gap_between, gaps, nonzero, least_of, figures}
use Rattle.separation.specs.Walk.{lesser_figures, along, walk_all}
use Rattle.separation.proofs.Places.{Placed, gap_at, at_one, at-two, nearer}
use Rattle.separation.proofs.Sweeps.{Meet, Pair, Covered, sweep_sights, sweep_sound, sweep_complete}
use Rattle.separation.proofs.Running.{kept_good, no_zero, least-of-none, least-of_join, sweep-least}
use Rattle.separation.proofs.Fit.{Fit, row-rises, row-placed, row_float, counted→, →counted, meet_sym}

-- ---- the figures of two lists of gaps that reach equally low
-- some gap of l is no larger than x, and nonzero where x is
pub record Reached (l : List Float) (x : Float) : Type 0 where
  pub gap : Float
  pub there : Mem gap l
  pub low : mag binary64 gap ≤ mag binary64 x
  pub true_one : nonzero x ≡ true → nonzero gap ≡ true

pub least-of-same : (l r : List Float) → All Good l → All Good r → ((x : Float) → Mem x l → Reached r x) → ((x : Float) → Mem x r → Reached l x) → least_of l ≡ least_of r
unfolding least_of least_gap
least-of-same l r p q f g = λ i. record {
  least = (least-same gaps_ranked l r p q (λ x m. reach r x (f x m)) (λ x m. reach l x (g x m))) i;
  least_nonzero = (least-same gaps_ranked (keep nonzero l) (keep nonzero r) (kept_good l p) (kept_good r q) (λ x m. kept l r f x m) (λ x m. kept r l g x m)) i;
}
  where
    reach : (r : List Float) (x : Float) → Reached r x → Reaches (mag binary64) r x
    reach r x w = (w.gap, w.there, w.low)

    kept : (l r : List Float) → ((x : Float) → Mem x l → Reached r x) → (x : Float) → Mem x (keep nonzero l) → Reaches (mag binary64) (keep nonzero r) x
    kept l r f x m =
        let k = mem_chosen nonzero (λ (y : Float). y) x l m in
        let w = f x (subst (λ (z : Float). Mem z l) (sym k.3) k.1) in
        (w.gap, chosen_mem nonzero (λ (y : Float). y) w.gap r w.there (w.true_one (ap nonzero k.3 ∙ k.2)), w.low)

-- ---- a pair of the list that counts, and its gap
pub record PairOf (l : List Segment) (x : Float) : Type 0 where
  pub one : Segment
  pub other : Segment
  pub one_in : Mem one l
  pub other_in : Mem other l
  pub parallel : one.orientation ≡ other.orientation
  pub meet : Meet (row_of one) (row_of other)
  pub is : x ≡ gap_between (one, other)

module _ (l : List Segment) (fit : All Fit l) where
  fits : (s : Segment) → Mem s l → Fit s
  fits s m = all_mem Fit l fit s m

  pub mem_gaps : (x : Float) → Mem x (gaps l) → PairOf l x
  unfolding gaps
  mem_gaps x m =
      let g = mem_chosen is_counted gap_between x (pairs l) m in
      let k = mem_pairs g.0 l g.1 in
      let c = counted→ g.0.0 g.0.1 (fits g.0.0 k.0) (fits g.0.1 k.1) g.2 in
      record { one = g.0.0; other = g.0.1; one_in = k.0; other_in = k.1; parallel = c.0; meet = c.1; is = g.3 }

  pub gaps_mem : (x : Float) → PairOf l x → Mem x (gaps l)
  unfolding gaps gap_between
  gaps_mem x p =
      let a = p.one in
      let b = p.other in
      let fa = fits a p.one_in in
      let fb = fits b p.other_in in
      elim (pairs_mem a b l p.one_in p.other_in (λ e. p.meet.nets (ap (λ (s : Segment). (row_of s).net) e))) [
        | inl m ↦ subst (λ (z : Float). Mem z (gaps l)) (sym p.is) (chosen_mem is_counted gap_between (a, b) (pairs l) m (→counted a b fa fb p.parallel p.meet))
        | inr m ↦ subst (λ (z : Float). Mem z (gaps l)) (sym (p.is ∙ gap-swap (fixed_of a) (fixed_of b) fa.fixed.fin fb.fixed.fin)) (chosen_mem is_counted gap_between (b, a) (pairs l) m (→counted b a fb fa (sym p.parallel) (meet_sym (row_of a) (row_of b) p.meet)))
      ]

  pair_good : (x : Float) → PairOf l x → Good x
  unfolding gap_between
  pair_good x p = subst Good (sym p.is) (gap_good (fixed_of p.one) (fixed_of p.other) (fits p.one p.one_in).fixed.fin (fits p.other p.other_in).fixed.fin)

  -- no gap is NaN or -0
  pub gaps_good : All Good (gaps l)
  gaps_good = mem_all Good (gaps l) (λ x m. pair_good x (mem_gaps x m))

-- ---- what is compared along one orientation: nothing where it has fewer than two segments
unfoldable along_sights : List Row → List (ℕ × ℕ)
along_sights [] = []
along_sights (r ∷ []) = []
along_sights (r ∷ t ∷ l) = sweep_sights (r ∷ t ∷ l)

-- rows that meet are two
along_meet : (l : List Row) (a b : Row) → Mem a l → Mem b l → Meet a b → along_sights l ≡ sweep_sights l
unfolding along_sights
along_meet [] a b m n k = absurd m
along_meet (x ∷ []) a b (inl d) (inl e) k = absurd (k.nets (ap (λ (z : Row). z.net) (d ∙ sym e)))
along_meet (x ∷ []) a b (inl d) (inr n) k = absurd n
along_meet (x ∷ []) a b (inr m) n k = absurd m
along_meet (x ∷ y ∷ l) a b m n k = refl

module _ (l : List Row) (sorted : Sorted rows_in_order l) (proper : (r : Row) → Mem r l → r.start < r.end) (places : (r : Row) → Mem r l → Placed r.line) where
  along-least : (along l).value ≡ least_of (map gap_at (along_sights l))
  unfolding along along_sights
  along-least = go l sorted proper places
    where
      go : (l : List Row) → Sorted rows_in_order l → ((r : Row) → Mem r l → r.start < r.end) → ((r : Row) → Mem r l → Placed r.line) → (along l).value ≡ least_of (map gap_at (along_sights l))
      go [] s p q = least-of-none
      go (r ∷ []) s p q = least-of-none
      go (r ∷ t ∷ l) s p q = sweep-least (r ∷ t ∷ l) s p q

  along_sound : (c : ℕ × ℕ) → Mem c (along_sights l) → Pair l c
  unfolding along_sights
  along_sound = go l sorted proper
    where
      go : (l : List Row) → Sorted rows_in_order l → ((r : Row) → Mem r l → r.start < r.end) → (c : ℕ × ℕ) → Mem c (along_sights l) → Pair l c
      go [] s p c m = absurd m
      go (r ∷ []) s p c m = absurd m
      go (r ∷ t ∷ l) s p c m = sweep_sound (r ∷ t ∷ l) s p c m

  along_complete : (a b : Row) → Mem a l → Mem b l → Meet a b → Covered a b (along_sights l)
  along_complete a b m n k = subst (Covered a b) (sym (along_meet l a b m n k)) (sweep_complete l sorted proper a b m n k)

-- ---- the walk over fit segments
module _ (l : List Segment) (fit : All Fit l) where
  rises : (o : ℕ) (r : Row) → Mem r (oriented o l) → r.start < r.end
  rises o r m = let g = mem_oriented o l r m in subst (λ (z : Row). z.start < z.end) (sym g.is) (row-rises g.segment (all_mem Fit l fit g.segment g.there))

  places : (o : ℕ) (r : Row) → Mem r (oriented o l) → Placed r.line
  places o r m = let g = mem_oriented o l r m in subst (λ (z : Row). Placed z.line) (sym g.is) (row-placed g.segment (all_mem Fit l fit g.segment g.there))

  -- the gaps that the walk compares along one orientation
  compared : ℕ → List Float
  compared o = map gap_at (along_sights (oriented o l))

  -- the gap at two lines is that of their segments
  gap_is : (s t : Segment) → Mem s l → Mem t l → (c : ℕ × ℕ) → c.0 ≡ (row_of s).line → c.1 ≡ (row_of t).line → gap_at c ≡ gap_between (s, t)
  unfolding gap_between
  gap_is s t m n c e g = λ i. gap_of ((ap float_at e ∙ row_float s (all_mem Fit l fit s m)) i) ((ap float_at g ∙ row_float t (all_mem Fit l fit t n)) i)

  compared_sound : (o : ℕ) (x : Float) → Mem x (compared o) → PairOf l x
  unfolding compared
  compared_sound o x m =
      let u = mem_map gap_at (along_sights (oriented o l)) x m in
      let p = along_sound (oriented o l) (oriented-sorted o l) (rises o) (places o) u.0 u.1 in
      let a = mem_oriented o l p.one p.one_in in
      let b = mem_oriented o l p.other p.other_in in
      record {
        one = a.segment;
        other = b.segment;
        one_in = a.there;
        other_in = b.there;
        parallel = a.orientation ∙ sym b.orientation;
        meet = subst (λ (z : Row). Meet (row_of a.segment) z) b.is (subst (λ (z : Row). Meet z p.other) a.is p.meet);
        is = u.2 ∙ gap_is a.segment b.segment a.there b.there u.0 (p.first ∙ ap (λ (z : Row). z.line) a.is) (p.second ∙ ap (λ (z : Row). z.line) b.is);
      }

  compared_reached : (o : ℕ) (x : Float) (p : PairOf l x) → p.one.orientation ≡ o → Reached (compared o) x
  unfolding compared
  compared_reached o x p e =
      let r = row_of p.one in
      let t = row_of p.other in
      let m = oriented_mem o l p.one p.one_in e in
      let n = oriented_mem o l p.other p.other_in (sym p.parallel ∙ e) in
      let k = along_complete (oriented o l) (oriented-sorted o l) (rises o) (places o) r t m n p.meet in
      let c = k.0 in
      let q = along_sound (oriented o l) (oriented-sorted o l) (rises o) (places o) c k.1 in
      let u = subst Placed (sym q.first) (places o q.one q.one_in) in
      let v = subst Placed (sym q.second) (places o q.other q.other_in) in
      let d : ℕ × ℕ = (r.line, t.line) in
      let is : x ≡ gap_at d = p.is ∙ sym (gap_is p.one p.other p.one_in p.other_in d refl refl) in
      record {
        gap = gap_at c;
        there = map_mem gap_at (along_sights (oriented o l)) c k.1;
        low = rw is (nearer c d u v (places o r m) (places o t n) k.2);
        true_one = λ w. at-two c u v (λ z. clash (nonzero x) w (ap nonzero (is ∙ at_one d (places o r m) (places o t n) (k.2.level z)) ∙ no_zero));
      }

  compared_good : (o : ℕ) → All Good (compared o)
  compared_good o = mem_all Good (compared o) (λ x m. pair_good l fit x (compared_sound o x m))

  -- the walk's figures are the figures over all pairs
  pub walk-figures : (walk_all l).value ≡ figures l
  unfolding walk_all figures compared
  walk-figures =
      (λ i. lesser_figures (along-least (oriented 1 l) (oriented-sorted 1 l) (rises 1) (places 1) i) (along-least (oriented 0 l) (oriented-sorted 0 l) (rises 0) (places 0) i))
      ∙ least-of_join (compared 1) (compared 0) (compared_good 1) (compared_good 0)
      ∙ least-of-same (compared 1 ++ compared 0) (gaps l) (all_append Good (compared 1) (compared 0) (compared_good 1) (compared_good 0)) (gaps_good l fit) down up
    where
      down : (x : Float) → Mem x (compared 1 ++ compared 0) → Reached (gaps l) x
      down x m =
          let p : PairOf l x = elim (mem_append x (compared 1) (compared 0) m) [ inl n ↦ compared_sound 1 x n | inr n ↦ compared_sound 0 x n ] in
          record { gap = x; there = gaps_mem l fit x p; low = le_refl (mag binary64 x); true_one = λ w. w }

      up : (x : Float) → Mem x (gaps l) → Reached (compared 1 ++ compared 0) x
      up x m =
          let p = mem_gaps l fit x m in
          let t = (all_mem Fit l fit p.one p.one_in).orientation in
          elim (le_or_lt 1 p.one.orientation) [
            | inl h ↦ let r = compared_reached 1 x p (omega arith) in record { gap = r.gap; there = append_left r.gap (compared 1) (compared 0) r.there; low = r.low; true_one = r.true_one }
            | inr h ↦ let r = compared_reached 0 x p (omega arith) in record { gap = r.gap; there = append_right r.gap (compared 1) (compared 0) r.there; low = r.low; true_one = r.true_one }
          ]
