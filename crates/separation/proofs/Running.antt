-- The figures that the sweep keeps from event to event are those of the gaps of all that it compares. Assumes nothing.
use Rattle.std.specs.Prelude.{Option, Some, None}
use mathlib.Core.Path.{◌≡◌, refl, sym, ap, ◌∙◌, subst}
use mathlib.Core.Logic.{inl}
use mathlib.Core.List.{List, [], ◌∷◌, ◌++◌, map, map-append, append-nil, append_assoc}
use mathlib.Core.Bool.{Bool, true, false}
use Prim.Native.Nat.{ℕ, ◌^◌, ◌≤◌, ◌<◌}
use native.Mathlib.Omega.{arith}
use lib.ListN.{length, get_or}
use lib.Ieee.{Float, binary64, eq}
use Rattle.laws.specs.Lists.{Mem, All, chosen, keep}
use Rattle.laws.specs.Charged.{runs}
use Rattle.laws.specs.Inner.Sort.{Sorted}
use Rattle.laws.proofs.Tests.{is_true}
use Rattle.laws.proofs.ListLaws.{all_append, all_mem, mem_all, mem_chosen, chosen-append, append_right, mem_map}
use Rattle.laws.proofs.Leasts.{least_unique}
use Rattle.floats.specs.Values.{plus_zero}
use Rattle.floats.proofs.Rank.{→eq}
use Rattle.floats.proofs.Gaps.{Good, zero_good, zero_mag}
use Rattle.drawing.specs.Gaps.{least_gap}
use Rattle.drawing.proofs.GapLaws.{gaps_ranked, least-none, least-one, least_join}
use Rattle.rows.specs.Rows.{Row, rows_in_order, Event, ends, starts, events}
use Rattle.separation.specs.Figures.{Figures, nonzero, least_of}
use Rattle.separation.specs.Lines.{lines, levels}
use Rattle.separation.specs.Walk.{no_figures, lesser_figures, own_line, other_line, remove, with_nearest, starts_at, ends_at, step, sweep}
use Rattle.separation.proofs.Lines.{Rising, lines-rising, line_mem}
use Rattle.separation.proofs.NearestLines.{own, sight, own_other, below, above, meets, Sees, meets_sound, below_sees, above_sees}
use Rattle.separation.proofs.Places.{Placed, gap_at, at_good, at_one, at-two}
use Rattle.separation.proofs.Sweeps.{State, sights, sweep_sights, begin, enough, after-start, after-end}

-- ---- the figures of lists after one another
pub kept_good : (l : List Float) → All Good l → All Good (keep nonzero l)
kept_good l h = mem_all Good (keep nonzero l) (λ x m. let g = mem_chosen nonzero (λ (y : Float). y) x l m in subst Good (sym g.3) (all_mem Good l h g.0 g.1))

pub least-of-none : no_figures ≡ least_of []
unfolding least_of chosen
least-of-none = λ i. record { least = sym least-none i; least_nonzero = sym least-none i }

pub least-of_join : (l r : List Float) → All Good l → All Good r → lesser_figures (least_of l) (least_of r) ≡ least_of (l ++ r)
unfolding least_of lesser_figures
least-of_join l r p q = λ i. record {
  least = sym (least_join l r p q) i;
  least_nonzero = (sym (least_join (keep nonzero l) (keep nonzero r) (kept_good l p) (kept_good r q)) ∙ ap least_gap (sym (chosen-append nonzero (λ x. x) l r))) i;
}

-- ---- a start's own line: +0 is the least of all, and no nonzero one
zero-least : (l : List Float) → All Good l → Mem plus_zero l → Some plus_zero ≡ least_gap l
unfolding least_gap
zero-least l h m = (least_unique gaps_ranked l h (Some plus_zero) (m, λ x k. omega (arith, zero_mag)))

pub no_zero : nonzero plus_zero ≡ false
unfolding nonzero
no_zero = rw (is_true (eq plus_zero plus_zero) (→eq binary64 plus_zero plus_zero zero_good.num zero_good.num refl))

zero_dropped : (l : List Float) → keep nonzero (l ++ plus_zero ∷ []) ≡ keep nonzero l
unfolding chosen
zero_dropped l = chosen-append nonzero (λ x. x) l (plus_zero ∷ []) ∙ rw (no_zero, append-nil)

own-least : (p : ℕ) → Placed p → (b : Bool) (l : List Float) → All Good l → own_line b (least_of l) ≡ least_of (l ++ map gap_at (own b p))
unfolding least_of
own-least p a false l h = rw append-nil
own-least p a true l h = rw (at_one (p, p) a a refl) (λ i. record {
  least = zero-least (l ++ plus_zero ∷ []) (all_append Good l (plus_zero ∷ []) h (zero_good, tt)) (append_right plus_zero l (plus_zero ∷ []) (inl refl)) i;
  least_nonzero = ap least_gap (sym (zero_dropped l)) i;
})

own_good : (p : ℕ) → Placed p → (b : Bool) → All Good (map gap_at (own b p))
own_good p a false = tt
own_good p a true = (at_good (p, p) a a, tt)

-- ---- another line
one-least : (x : Float) → nonzero x ≡ true → least_of (x ∷ []) ≡ record { least = Some x; least_nonzero = Some x }
unfolding least_of chosen
one-least x e = rw e (λ i. record { least = least-one x i; least_nonzero = least-one x i })

-- the line that a search found is the key of a finite float, and not p
abbrev Off : List ℕ → Option ℕ → ℕ → Type 0
Off ls None p = Unit {0}
Off ls (Some i) p = Placed (get_or ls i 0) × (get_or ls i 0 ≡ p → ⊥)

sight_good : (ls : List ℕ) (p : ℕ) → Placed p → (v : Option ℕ) → Off ls v p → All Good (map gap_at (sight ls v p))
sight_good ls p a None o = tt
sight_good ls p a (Some i) o = (at_good (get_or ls i 0, p) o.0 a, tt)

sight_least : (ls : List ℕ) (p : ℕ) → Placed p → (v : Option ℕ) → Off ls v p → (l : List Float) → All Good l → other_line ls p v (least_of l) ≡ least_of (l ++ map gap_at (sight ls v p))
sight_least ls p a None o l h = rw append-nil
sight_least ls p a (Some i) o l h =
    let c : ℕ × ℕ = (get_or ls i 0, p) in
    ap (lesser_figures (least_of l)) (sym (one-least (gap_at c) (at-two c o.0 a o.1))) ∙ least-of_join l (gap_at c ∷ []) h (at_good c o.0 a, tt)

-- ---- a whole start
module _ (ls : List ℕ) (h : ℕ) (rising : Rising ls) (room : length ls ≤ 2 ^ h) (active : List Row) (x : Row) (lined : (a : Row) → Mem a active → Mem a.line ls) (mine : Mem x.line ls) (places : (a : Row) → Mem a active → Placed a.line) (place : Placed x.line) where
  off : (v : Option ℕ) → Sees ls active x v → Off ls v x.line
  off None s = tt
  off (Some i) s = (subst Placed (sym s.0.first) (places s.0.other s.0.there), s.1)

  meets-parts : map gap_at (meets ls h active x) ≡ map gap_at (own (own_other ls active x) x.line) ++ (map gap_at (sight ls (below ls h active x) x.line) ++ map gap_at (sight ls (above ls h active x) x.line))
  unfolding meets
  meets-parts = map-append gap_at (own (own_other ls active x) x.line) _ ∙ ap (λ (z : List Float). map gap_at (own (own_other ls active x) x.line) ++ z) (map-append gap_at (sight ls (below ls h active x) x.line) _)

  meets_good : All Good (map gap_at (meets ls h active x))
  meets_good = mem_all Good (map gap_at (meets ls h active x)) (λ y m.
      let g = mem_map gap_at (meets ls h active x) y m in
      let k = meets_sound ls h rising room active x lined mine g.0 g.1 in
      subst Good (sym g.2) (at_good g.0 (subst Placed (sym k.first) (places k.other k.there)) (subst Placed (sym k.second) place)))

  start-least : (l : List Float) → All Good l → other_line ls x.line (above ls h active x) (other_line ls x.line (below ls h active x) (own_line (own_other ls active x) (least_of l))) ≡ least_of (l ++ map gap_at (meets ls h active x))
  start-least l g =
      let p = x.line in
      let u = below ls h active x in
      let v = above ls h active x in
      let o = off u (below_sees ls h rising room active x lined mine) in
      let q = off v (above_sees ls h rising room active x lined mine) in
      let A = map gap_at (own (own_other ls active x) p) in
      let B = map gap_at (sight ls u p) in
      let C = map gap_at (sight ls v p) in
      let ga = all_append Good l A g (own_good p place (own_other ls active x)) in
      let gb = all_append Good (l ++ A) B ga (sight_good ls p place u o) in
      ap (λ (f : Figures). other_line ls p v (other_line ls p u f)) (own-least p place (own_other ls active x) l g)
      ∙ ap (other_line ls p v) (sight_least ls p place u o (l ++ A) ga)
      ∙ sight_least ls p place v q ((l ++ A) ++ B) gb
      ∙ ap least_of (append_assoc (l ++ A) B C ∙ append_assoc l A (B ++ C) ∙ ap (λ (z : List Float). l ++ z) (sym meets-parts))

-- ---- the sweep over a list l of rows with start < end, whose lines are keys of finite floats
module _ (l : List Row) (ls : List ℕ) (h : ℕ) (rising : Rising ls) (room : length ls ≤ 2 ^ h) (lined : (r : Row) → Mem r l → Mem r.line ls) (proper : (r : Row) → Mem r l → r.start < r.end) (places : (r : Row) → Mem r l → Placed r.line) where
  runs-least : (active : List Row) (es : List Event) → State l active es → (seen : List Float) → All Good seen → (runs (step ls h) (record { active = active; met = least_of seen }) es).value.met ≡ least_of (seen ++ map gap_at (sights ls h active es))
  unfolding runs sights step ends_at starts_at with_nearest
  runs-least active [] s seen g = rw append-nil
  runs-least active (ends i x ∷ es) s seen g = runs-least (remove x active) es (after-end l proper active i x es s) seen g
  runs-least active (starts i x ∷ es) s seen g =
      let on : (a : Row) → Mem a active → Mem a.line ls = λ a m. lined a (s.from a m) in
      let at : (a : Row) → Mem a active → Placed a.line = λ a m. places a (s.from a m) in
      let here = s.still (starts i x) (inl refl) in
      let new = map gap_at (meets ls h active x) in
      let good = meets_good ls h rising room active x on (lined x here) at (places x here) in
      ap (λ (f : Figures). (runs (step ls h) (record { active = x ∷ active; met = f }) es).value.met) (start-least ls h rising room active x on (lined x here) at (places x here) seen g)
      ∙ runs-least (x ∷ active) es (after-start l proper active i x es s) (seen ++ new) (all_append Good seen new g good)
      ∙ ap least_of (append_assoc seen new (map gap_at (sights ls h (x ∷ active) es)) ∙ ap (λ (z : List Float). seen ++ z) (sym (map-append gap_at (meets ls h active x) (sights ls h (x ∷ active) es))))

pub sweep-least : (l : List Row) → Sorted rows_in_order l → ((r : Row) → Mem r l → r.start < r.end) → ((r : Row) → Mem r l → Placed r.line) → (sweep l).value ≡ least_of (map gap_at (sweep_sights l))
unfolding sweep sweep_sights
sweep-least l sorted proper places =
    ap (λ (f : Figures). (runs (step (lines l) (levels (length (lines l)))) (record { active = []; met = f }) (events l)).value.met) least-of-none
    ∙ runs-least l (lines l) (levels (length (lines l))) (lines-rising l sorted) (enough l) (λ r m. line_mem r l m) proper places [] (events l) (begin l) [] tt
