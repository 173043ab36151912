-- What a start meets among the active segments: its own line and the nearest line on either side, where another net is active. Assumes nothing.
use Rattle.std.specs.Prelude.{Option, None, Some}
use mathlib.Core.Path.{◌≡◌, refl, sym, ap, subst}
use mathlib.Core.Logic.{inl, inr}
use mathlib.Core.List.{List, [], ◌∷◌, ◌++◌}
use mathlib.Core.Bool.{Bool, true, false}
use Prim.Native.Nat.{ℕ, suc, ◌+◌, ◌^◌, ◌≤◌, ◌<◌, min, max, zero-le}
use native.Mathlib.Nat.{le_refl, eq-or-lt_of_le, le_antisymm}
use native.Mathlib.Omega.{arith}
use lib.ListN.{length, get_or}
use Rattle.laws.specs.Lists.{Mem}
use Rattle.laws.proofs.Tests.{clash, le_or_lt}
use Rattle.laws.proofs.ListLaws.{mem_append, append_left, append_right}
use Rattle.rows.specs.Rows.{Row}
use Rattle.separation.specs.Lines.{index}
use Rattle.separation.specs.Searches.{other_in, rightmost, leftmost}
use Rattle.separation.proofs.Lines.{Rising, index-lt, at-index, index_strict, index_back, other→, →other, other_widen}
use Rattle.separation.proofs.Searches.{Best, In, Below, From, right_best, left_best}

-- ---- the pairs of lines that are compared, the other segment's first
abbrev pub own : Bool → ℕ → List (ℕ × ℕ)
own true p = (p, p) ∷ []
own false p = []

abbrev pub sight : List ℕ → Option ℕ → ℕ → List (ℕ × ℕ)
sight ls None p = []
sight ls (Some i) p = (get_or ls i 0, p) ∷ []

-- what `has_other_at` and the two searches find when x starts
abbrev pub own_other : List ℕ → List Row → Row → Bool
own_other ls active x = other_in ls active x.net (index ls x.line) (suc (index ls x.line))

abbrev pub below : List ℕ → ℕ → List Row → Row → Option ℕ
below ls h active x = (rightmost (λ k. other_in ls active x.net) (index ls x.line) h 1 0).value

abbrev pub above : List ℕ → ℕ → List Row → Row → Option ℕ
above ls h active x = (leftmost (λ k. other_in ls active x.net) (suc (index ls x.line)) h 1 0).value

unfoldable pub meets : List ℕ → ℕ → List Row → Row → List (ℕ × ℕ)
meets ls h active x = own (own_other ls active x) x.line ++ (sight ls (below ls h active x) x.line ++ sight ls (above ls h active x) x.line)

-- the lines c are no further apart than p and q, and one line only where p and q are
pub record Closer (c : ℕ × ℕ) (p q : ℕ) : Type 0 where
  pub low : min p q ≤ min c.0 c.1
  pub high : max c.0 c.1 ≤ max p q
  pub level : c.0 ≡ c.1 → p ≡ q

pub closer_sym : (c : ℕ × ℕ) (p q : ℕ) → Closer c p q → Closer c q p
closer_sym c p q k = let l = k.low in let h = k.high in record { low = omega arith; high = omega arith; level = λ e. sym (k.level e) }

-- an active segment of another net than x, by the lines that are compared
pub record Met (active : List Row) (x : Row) (c : ℕ × ℕ) : Type 0 where
  pub other : Row
  pub there : Mem other active
  pub nets : other.net ≡ x.net → ⊥
  pub first : c.0 ≡ other.line
  pub second : c.1 ≡ x.line

-- a search's answer: the line of such a segment, and not x's own
abbrev pub Sees : List ℕ → List Row → Row → Option ℕ → Type 0
Sees ls active x None = Unit {0}
Sees ls active x (Some i) = Met active x (get_or ls i 0, x.line) × (get_or ls i 0 ≡ x.line → ⊥)

module _ (ls : List ℕ) (h : ℕ) (rising : Rising ls) (room : length ls ≤ 2 ^ h) (active : List Row) (x : Row) (lined : (a : Row) → Mem a active → Mem a.line ls) (mine : Mem x.line ls) where
  -- an active segment of another net on the line with index i
  record On (i : ℕ) : Type 0 where
    row : Row
    there : Mem row active
    nets : row.net ≡ x.net → ⊥
    place : index ls row.line ≡ i

  on : (i : ℕ) → other_in ls active x.net i (i + 1) ≡ true → On i
  on i t = let g = other→ ls active x.net i (i + 1) t in record { row = g.0; there = g.1; nets = g.2.0; place = le_antisymm (omega (arith, g.2.2)) g.2.1 }

  on_value : (i : ℕ) (o : On i) → get_or ls i 0 ≡ o.row.line
  on_value i o = subst (λ (z : ℕ). get_or ls z 0 ≡ o.row.line) o.place (at-index ls o.row.line rising (lined o.row o.there))

  on-met : (i : ℕ) → On i → Met active x (get_or ls i 0, x.line)
  on-met i o = record { other = o.row; there = o.there; nets = o.nets; first = on_value i o; second = refl }

  -- an active segment of another net is wanted at its index
  off : (a : Row) → Mem a active → (a.net ≡ x.net → ⊥) → other_in ls active x.net (index ls a.line) (index ls a.line + 1) ≡ true
  off a m n = →other ls active x.net (index ls a.line) (index ls a.line + 1) a m (n, le_refl (index ls a.line), omega arith)

  inside : (a : Row) → Mem a active → In 0 (2 ^ h) (index ls a.line)
  inside a m = (zero-le, omega (arith, index-lt ls a.line (lined a m)))

  abbrev Right : Option ℕ → Type 0
  Right v = Best (In 0 (2 ^ h)) (Below (other_in ls active x.net) (index ls x.line)) (λ i j. i < j) v

  abbrev Left : Option ℕ → Type 0
  Left v = Best (In 0 (2 ^ h)) (From (other_in ls active x.net) (suc (index ls x.line))) (λ i j. j < i) v

  right_is : Right (below ls h active x)
  right_is = right_best (other_in ls active x.net) (other_widen ls active x.net) (index ls x.line) h 1 0

  left_is : Left (above ls h active x)
  left_is = left_best (other_in ls active x.net) (other_widen ls active x.net) (suc (index ls x.line)) h 1 0

  -- ---- lines and their indices
  same_line : (a : Row) → Mem a active → index ls a.line ≡ index ls x.line → a.line ≡ x.line
  same_line a m e = le_antisymm (index_back ls a.line x.line rising mine (omega arith)) (index_back ls x.line a.line rising (lined a m) (omega arith))

  -- of two lines the one with the lesser index lies below
  lower : (p q : ℕ) → Mem q ls → index ls p < index ls q → p < q
  lower p q m k = elim (le_or_lt q p) [
    | inr g ↦ g
    | inl g ↦ absurd (elim (eq-or-lt_of_le g) [
      | inl e ↦ omega (arith, ap (index ls) e)
      | inr l ↦ omega (arith, index_strict ls q p rising m l)
    ])
  ]

  below-line : (i : ℕ) → Right (Some i) → get_or ls i 0 < x.line
  below-line i r =
      let o = on i r.1.1 in
      let v = on_value i o in
      let g = lower o.row.line x.line mine (omega (arith, o.place, r.1.0)) in
      omega arith

  above-line : (i : ℕ) → Left (Some i) → x.line < get_or ls i 0
  above-line i r =
      let o = on i r.1.1 in
      let v = on_value i o in
      let g = lower x.line o.row.line (lined o.row o.there) (omega (arith, o.place, r.1.0)) in
      omega arith

  -- ---- every line met is that of an active segment of another net
  right_sees : (v : Option ℕ) → Right v → Sees ls active x v
  right_sees None r = tt
  right_sees (Some i) r = (on-met i (on i r.1.1), λ e. omega (arith, below-line i r))

  left_sees : (v : Option ℕ) → Left v → Sees ls active x v
  left_sees None r = tt
  left_sees (Some i) r = (on-met i (on i r.1.1), λ e. omega (arith, above-line i r))

  pub below_sees : Sees ls active x (below ls h active x)
  below_sees = right_sees (below ls h active x) right_is

  pub above_sees : Sees ls active x (above ls h active x)
  above_sees = left_sees (above ls h active x) left_is

  sight_met : (v : Option ℕ) → Sees ls active x v → (c : ℕ × ℕ) → Mem c (sight ls v x.line) → Met active x c
  sight_met None r c m = absurd m
  sight_met (Some i) r c (inl e) = subst (Met active x) (sym e) r.0
  sight_met (Some i) r c (inr m) = absurd m

  own-met : (b : Bool) → own_other ls active x ≡ b → (c : ℕ × ℕ) → Mem c (own b x.line) → Met active x c
  own-met false e c m = absurd m
  own-met true e c (inr m) = absurd m
  own-met true e c (inl k) =
      let i = index ls x.line in
      let g = other→ ls active x.net i (suc i) e in
      subst (Met active x) (sym k) (record { other = g.0; there = g.1; nets = g.2.0; first = sym (same_line g.0 g.1 (le_antisymm (omega (arith, g.2.2)) g.2.1)); second = refl })

  pub meets_sound : (c : ℕ × ℕ) → Mem c (meets ls h active x) → Met active x c
  unfolding meets
  meets_sound c m = elim (mem_append c (own (own_other ls active x) x.line) _ m) [
    | inl n ↦ own-met (own_other ls active x) refl c n
    | inr n ↦ elim (mem_append c (sight ls (below ls h active x) x.line) _ n) [
      | inl o ↦ sight_met (below ls h active x) below_sees c o
      | inr o ↦ sight_met (above ls h active x) above_sees c o
    ]
  ]

  -- ---- every active segment of another net has a line met that is no further off
  abbrev pub Seen : Row → List (ℕ × ℕ) → Type 0
  Seen a l = (c : ℕ × ℕ) × Mem c l × Closer c a.line x.line

  seen_in : (a : Row) (l r : List (ℕ × ℕ)) → Seen a l → Seen a (l ++ r)
  seen_in a l r s = (s.0, append_left s.0 l r s.1, s.2)

  seen_after : (a : Row) (l r : List (ℕ × ℕ)) → Seen a r → Seen a (l ++ r)
  seen_after a l r s = (s.0, append_right s.0 l r s.1, s.2)

  right_seen : (v : Option ℕ) → Right v → (a : Row) → Mem a active → (a.net ≡ x.net → ⊥) → a.line < x.line → Seen a (sight ls v x.line)
  right_seen None r a m n l = absurd (r (index ls a.line) (inside a m) (index_strict ls a.line x.line rising (lined a m) l, off a m n))
  right_seen (Some i) r a m n l =
      let o = on i r.1.1 in
      let v = on_value i o in
      let p = below-line i r in
      let near : index ls a.line ≤ i = elim (le_or_lt (index ls a.line) i) [ inl g ↦ g | inr g ↦ absurd (r.2 (index ls a.line) (inside a m) g (index_strict ls a.line x.line rising (lined a m) l, off a m n)) ] in
      let q = index_back ls a.line o.row.line rising (lined o.row o.there) (omega (arith, o.place)) in
      ((get_or ls i 0, x.line), inl refl, record { low = omega arith; high = omega arith; level = λ z. absurd (omega arith) })

  left_seen : (v : Option ℕ) → Left v → (a : Row) → Mem a active → (a.net ≡ x.net → ⊥) → x.line < a.line → Seen a (sight ls v x.line)
  left_seen None r a m n l = absurd (r (index ls a.line) (inside a m) (index_strict ls x.line a.line rising mine l, off a m n))
  left_seen (Some i) r a m n l =
      let o = on i r.1.1 in
      let v = on_value i o in
      let p = above-line i r in
      let near : i ≤ index ls a.line = elim (le_or_lt i (index ls a.line)) [ inl g ↦ g | inr g ↦ absurd (r.2 (index ls a.line) (inside a m) g (index_strict ls x.line a.line rising mine l, off a m n)) ] in
      let q = index_back ls o.row.line a.line rising (lined a m) (omega (arith, o.place)) in
      ((get_or ls i 0, x.line), inl refl, record { low = omega arith; high = omega arith; level = λ z. absurd (omega arith) })

  own_seen : (b : Bool) → own_other ls active x ≡ b → (a : Row) → Mem a active → (a.net ≡ x.net → ⊥) → a.line ≡ x.line → Seen a (own b x.line)
  own_seen true e a m n l = ((x.line, x.line), inl refl, record { low = omega arith; high = omega arith; level = λ z. l })
  own_seen false e a m n l =
      let i = index ls x.line in
      let k : index ls a.line ≡ i = ap (index ls) l in
      clash (own_other ls active x) (→other ls active x.net i (suc i) a m (n, omega arith, omega arith)) e

  pub meets_complete : (a : Row) → Mem a active → (a.net ≡ x.net → ⊥) → Seen a (meets ls h active x)
  unfolding meets
  meets_complete a m n =
      let o = own (own_other ls active x) x.line in
      let r = sight ls (below ls h active x) x.line in
      let l = sight ls (above ls h active x) x.line in
      elim (le_or_lt a.line x.line) [
        | inr g ↦ seen_after a o (r ++ l) (seen_after a r l (left_seen (above ls h active x) left_is a m n g))
        | inl g ↦ elim (eq-or-lt_of_le g) [
          | inl e ↦ seen_in a o (r ++ l) (own_seen (own_other ls active x) refl a m n e)
          | inr k ↦ seen_after a o (r ++ l) (seen_in a r l (right_seen (below ls h active x) right_is a m n k))
        ]
      ]
