-- Points and keys: on one line a canonical_zeros entry reaches over a point where the keys say so, and a list covers the points that its canonical_zeros form covers. Assumes nothing.
use mathlib.Core.Path.{◌≡◌, refl, sym, ◌∙◌, subst}
use mathlib.Core.Logic.{◌⊎◌, inl, inr}
use mathlib.Core.List.{List, [], ◌∷◌, map}
use Prim.Native.Nat.{◌≤◌}
use native.Mathlib.Omega.{arith}
use lib.Ieee.{Float}
use Rattle.laws.specs.Lists.{Mem, All}
use Rattle.laws.proofs.Tests.{le_or_lt}
use Rattle.floats.specs.TotalOrder.{key_of}
use Rattle.floats.specs.Values.{canonical_zero}
use Rattle.floats.proofs.Zeros.{canonical_again}
use Rattle.drawing.specs.declared.lists.Segment.{Segment}
use Rattle.drawing.specs.Held.{FitSegment}
use Rattle.joining.specs.Points.{NumberLine, NetLine, net_line_of, Covers}
use Rattle.joining.specs.Joined.{canonical_zeros}
use Rattle.joining.proofs.Canonical.{Number, Canonical, key_below, key_upto, canonical_number, zero_up, zero-down, finite_start, finite_end}

-- P holds of some entry
abbrev pub Some : {A : Type 0} → (A → Type 0) → List A → Type 0
Some P [] = ⊥
Some P (x ∷ l) = P x ⊎ Some P l

module _ {A : Type 0} (P : A → Type 0) where
  pub mem_some : (x : A) (l : List A) → Mem x l → P x → Some P l
  mem_some x [] x3 h = elim x3 [ ]
  mem_some x (y ∷ l) (inl e) h = inl (subst P e h)
  mem_some x (y ∷ l) (inr m) h = inr (mem_some x l m h)

  pub some_mem : (l : List A) → Some P l → (x : A) × Mem x l × P x
  some_mem [] x' = elim x' [ ]
  some_mem (y ∷ l) (inl h) = (y, inl refl, h)
  some_mem (y ∷ l) (inr h) = let r = some_mem l h in (r.0, inr r.1, r.2)

module _ (L : NumberLine) where
  -- ---- the points of floats
  pub reach : (x y : Float) → Number x → Number y → key_of x ≤ key_of y → L.up_to (L.at x) (L.at y)
  reach x y p q h = L.keeps x y p.fin q.fin (key_upto x y p q h)

  pub self : (x : Float) → Number x → L.up_to (L.at x) (L.at x)
  self x p = reach x x p p (omega arith)

  -- a point that is not up to another has it behind it
  pub other : (p q : L.Point) → (L.up_to p q → ⊥) → L.up_to q p
  other p q n = elim (L.total p q) [ inl h ↦ absurd (n h) | inr h ↦ h ]

  pub back : (x y : Float) → Number x → Number y → L.up_to (L.at x) (L.at y) → key_of x ≤ key_of y
  back x y p q h = elim (le_or_lt (key_of x) (key_of y)) [
    | inl k ↦ k
    | inr k ↦
        let b = L.between y x q.fin p.fin (key_below y x q p k) in
        absurd (b.1 (L.trans b.0 (L.at x) (L.at y) (other (L.at x) b.0 b.2) h))
  ]

  -- ---- a canonical_zeros entry over a point of a line
  pub record Over (t : NetLine) (p : L.Point) (s : Segment) : Type 0 where
    pub on : net_line_of s ≡ t
    pub from : L.up_to (L.at s.start) p
    pub to : L.up_to p (L.at s.end)

  -- its own ends
  pub over_start : (s : Segment) → Canonical s → Over (net_line_of s) (L.at s.start) s
  over_start s p = record { on = refl; from = self s.start p.start; to = reach s.start s.end p.start p.end p.rises }

  -- ---- a list covers what some segment is over
  module _ (t : NetLine) (p : L.Point) where
    pub covers-some : (l : List Segment) → Covers L l t p → Some (Over t p) l
    covers-some l c = mem_some (Over t p) c.by l c.there (record { on = c.on; from = c.from; to = c.to })

    pub some-covers : (l : List Segment) → Some (Over t p) l → Covers L l t p
    some-covers l h = let w = some_mem (Over t p) l h in record { by = w.0; there = w.1; on = w.2.on; from = w.2.from; to = w.2.to }

    -- and so it is once zeros are made +0
    same_line : (s : Segment) → net_line_of (canonical_zeros s) ≡ net_line_of s
    unfolding canonical_zeros
    same_line s = λ i. record { net = s.net; orientation = s.orientation; fixed = canonical_again s.fixed i }

    into_canonical : (s : Segment) → FitSegment s → Over t p s → Over t p (canonical_zeros s)
    unfolding canonical_zeros
    into_canonical s f o =
        let x = s.start in
        let y = s.end in
        let u = finite_start s f in
        let v = finite_end s f in
        record {
          on = same_line s ∙ o.on;
          from = L.trans (L.at (canonical_zero x)) (L.at x) p (L.keeps (canonical_zero x) x (canonical_number x u).fin u (zero-down x u)) o.from;
          to = L.trans p (L.at y) (L.at (canonical_zero y)) o.to (L.keeps y (canonical_zero y) v (canonical_number y v).fin (zero_up y v));
        }

    out_of_canonical : (s : Segment) → FitSegment s → Over t p (canonical_zeros s) → Over t p s
    unfolding canonical_zeros
    out_of_canonical s f o =
        let x = s.start in
        let y = s.end in
        let u = finite_start s f in
        let v = finite_end s f in
        record {
          on = sym (same_line s) ∙ o.on;
          from = L.trans (L.at x) (L.at (canonical_zero x)) p (L.keeps x (canonical_zero x) u (canonical_number x u).fin (zero_up x u)) o.from;
          to = L.trans p (L.at (canonical_zero y)) (L.at y) o.to (L.keeps (canonical_zero y) y (canonical_number y v).fin v (zero-down y v));
        }

    pub to_canonical : (l : List Segment) → All FitSegment l → Some (Over t p) l → Some (Over t p) (map canonical_zeros l)
    to_canonical [] a x'' = elim x'' [ ]
    to_canonical (s ∷ l) a (inl o) = inl (into_canonical s a.0 o)
    to_canonical (s ∷ l) a (inr h) = inr (to_canonical l a.1 h)

    pub from_canonical : (l : List Segment) → All FitSegment l → Some (Over t p) (map canonical_zeros l) → Some (Over t p) l
    from_canonical [] a x'' = elim x'' [ ]
    from_canonical (s ∷ l) a (inl o) = inl (out_of_canonical s a.0 o)
    from_canonical (s ∷ l) a (inr h) = inr (from_canonical l a.1 h)
