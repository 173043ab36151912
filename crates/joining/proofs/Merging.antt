-- What becomes of canonical_zeros entries in order of line and start: their pieces are canonical_zeros, apart from each other, and cover the same points. Assumes nothing.
use mathlib.Core.Path.{◌≡◌, refl, sym, ap, ◌∙◌, subst}
use mathlib.Core.Logic.{◌⊎◌, inl, inr, ⊎_elim}
use mathlib.Core.Bool.{Bool, true, false, ◌&&◌}
use mathlib.Core.List.{List, [], ◌∷◌, ◌++◌}
use Prim.Native.Nat.{ℕ, ◌-◌, ◌≤◌}
use native.Mathlib.Omega.{arith}
use lib.Dec.{leb, ltb, eqb}
use lib.Ieee.{Float}
use lib.ListN.{length}
use borrow.Author.Tests.{ltb-true, ltb-false, eqb-true, eq-eqb, leb-true, le-leb}
use Rattle.laws.specs.Lists.{Mem, All}
use Rattle.laws.specs.Rows.{row_le}
use Rattle.laws.specs.Inner.Sort.{Sorted}
use Rattle.laws.proofs.Tests.{decide, clash, and_left, and_right, and_both, cond_true, cond_false}
use Rattle.laws.proofs.Orders.{Order}
use Rattle.laws.proofs.RowLaws.{by_rows}
use Rattle.laws.proofs.Sorting.{own}
use Rattle.floats.specs.TotalOrder.{key_of}
use Rattle.drawing.specs.declared.lists.Segment.{Segment}
use Rattle.joining.specs.Points.{NumberLine, NetLine, net_line_of}
use Rattle.joining.specs.Joined.{line_row, touches, extended, join_from}
use Rattle.joining.proofs.LineRows.{lead, on_one, one_up}
use Rattle.joining.proofs.Canonical.{Number, Canonical, Strict, line-of-row}
use Rattle.joining.proofs.Spans.{Some, Over, reach}

-- a piece begins at its start row and ends at its end row, in the order of rows
abbrev pub start_row : Segment → List ℕ
start_row s = line_row s ++ (key_of s.start ∷ [])

abbrev pub end_row : Segment → List ℕ
end_row s = line_row s ++ (key_of s.end ∷ [])

abbrev pub starts : Segment → Segment → Bool
starts a b = row_le (start_row a) (start_row b)

pub starts-order : Order starts
starts-order = by_rows start_row

pub rows-order : Order row_le
rows-order = by_rows (λ (r : List ℕ). r)

pub row-rises : (s : Segment) → Canonical s → row_le (start_row s) (end_row s) ≡ true
row-rises s p = on_one (line_row s) (line_row s) (key_of s.start) (key_of s.end) refl ∙ le-leb (key_of s.start) (key_of s.end) p.rises

-- b begins behind the end of a
abbrev pub Apart : Segment → Segment → Type 0
Apart a b = row_le (start_row b) (end_row a) ≡ false

-- each piece is apart from every later one
abbrev pub Normal : List Segment → Type 0
Normal [] = Unit {0}
Normal (a ∷ l) = ((b : Segment) → Mem b l → Apart a b) × Normal l

-- ---- entries that touch are on one line
pub record Touching (c x : Segment) : Type 0 where
  pub row : line_row c ≡ line_row x
  pub meets : key_of x.start ≤ key_of c.end

pub touching : (c x : Segment) → touches c x ≡ true → Touching c x
unfolding touches
touching c x h =
    let n = eqb c.net x.net in
    let o = eqb (1 - c.orientation) (1 - x.orientation) in
    let f = eqb (key_of c.fixed) (key_of x.fixed) in
    let m = leb (key_of x.start) (key_of c.end) in
    let h1 = and_right n (o && (f && m)) h in
    let h2 = and_right o (f && m) h1 in
    let p = eqb-true c.net x.net (and_left n (o && (f && m)) h) in
    let q = eqb-true (1 - c.orientation) (1 - x.orientation) (and_left o (f && m) h1) in
    let r = eqb-true (key_of c.fixed) (key_of x.fixed) (and_left f m h2) in
    record { row = (λ i. p i ∷ q i ∷ r i ∷ []); meets = leb-true (key_of x.start) (key_of c.end) (and_right f m h2) }

touch : (c x : Segment) → Touching c x → touches c x ≡ true
unfolding touches
touch c x t =
    let e = t.row in
    let n = eqb c.net x.net in
    let o = eqb (1 - c.orientation) (1 - x.orientation) in
    let f = eqb (key_of c.fixed) (key_of x.fixed) in
    let m = leb (key_of x.start) (key_of c.end) in
    and_both n (o && (f && m)) (eq-eqb c.net x.net (cc e)) (and_both o (f && m) (eq-eqb (1 - c.orientation) (1 - x.orientation) (cc e)) (and_both f m (eq-eqb (key_of c.fixed) (key_of x.fixed) (cc e)) (le-leb (key_of x.start) (key_of c.end) t.meets)))

-- and where the next one does not touch, it begins behind the end
pub apart : (c x : Segment) → starts c x ≡ true → touches c x ≡ false → Apart c x
apart c x s n = elim (decide (row_le (start_row x) (end_row c))) [
  | inr h ↦ h
  | inl h ↦ elim (lead (line_row x) (line_row c) (key_of x.start ∷ []) (key_of c.end ∷ []) refl h) [
    | inl e ↦ clash (touches c x) (touch c x (record { row = sym e.0; meets = one_up (line_row x) (line_row c) (key_of x.start) (key_of c.end) e.0 h })) n
    | inr u ↦ clash (starts c x) s (u (key_of x.start ∷ []) (key_of c.start ∷ [])).1
  ]
]

-- ---- one step of `join_from`
pub join_touching : (c x : Segment) (l : List Segment) → touches c x ≡ true → join_from c (x ∷ l) ≡ join_from (extended c x) l
unfolding join_from
join_touching c x l h = rw h

pub join_apart : (c x : Segment) (l : List Segment) → touches c x ≡ false → join_from c (x ∷ l) ≡ c ∷ join_from x l
unfolding join_from
join_apart c x l h = rw h

pub join_last : (c : Segment) → join_from c [] ≡ c ∷ []
unfolding join_from
join_last c = refl

-- the extended piece
abbrev Extended : (c x g : Segment) → Type 0
Extended c x g = ((g.end ≡ x.end) × (key_of c.end ≤ key_of x.end)) ⊎ ((g.end ≡ c.end) × (key_of x.end ≤ key_of c.end))

extends : (c x : Segment) → Extended c x (extended c x)
unfolding extended
extends c x = elim (decide (ltb (key_of c.end) (key_of x.end))) [
  | inl t ↦ let h = ltb-true (key_of c.end) (key_of x.end) t in inl (cond_true (ltb (key_of c.end) (key_of x.end)) x.end c.end t, omega arith)
  | inr f ↦ inr (cond_false (ltb (key_of c.end) (key_of x.end)) x.end c.end f, ltb-false (key_of c.end) (key_of x.end) f)
]

pub extended_canonical : (c x : Segment) → Canonical c → Canonical x → Canonical (extended c x)
unfolding extended
extended_canonical c x p q = record { orientation = p.orientation; fixed = p.fixed; start = p.start; end = number (extends c x); rises = rises (extends c x) }
  where
    number : Extended c x (extended c x) → Number (extended c x).end
    number (inl g) = subst Number (sym g.0) q.end
    number (inr g) = subst Number (sym g.0) p.end

    rises : Extended c x (extended c x) → key_of c.start ≤ key_of (extended c x).end
    rises (inl g) = let e = ap key_of g.0 in let r = p.rises in omega (arith, g.1)
    rises (inr g) = let e = ap key_of g.0 in let r = p.rises in omega arith

pub extended_strict : (c x : Segment) → Strict c → Strict x → Strict (extended c x)
unfolding extended
extended_strict c x p q = elim (extends c x) [ inl g ↦ let e = ap key_of g.0 in omega (arith, g.1) | inr g ↦ let e = ap key_of g.0 in omega arith ]

pub extended-starts : (c x y : Segment) → starts (extended c x) y ≡ starts c y
unfolding extended
extended-starts c x y = refl

pub extended-from : (c x y : Segment) → starts y (extended c x) ≡ starts y c
unfolding extended
extended-from c x y = refl

-- what is in order behind c and x is in order behind the extended piece
pub extended-sorted : (c x : Segment) (l : List Segment) → Sorted starts (c ∷ x ∷ l) → Sorted starts (extended c x ∷ l)
extended-sorted c x l s = (λ y m. extended-starts c x y ∙ s.0 y (inr m), s.1.1)

-- ---- the pieces are canonical_zeros, none begins before c, and each is apart from the later ones
pub join_all : (P : Segment → Type 0) → ((c x : Segment) → P c → P x → P (extended c x)) → (c : Segment) (l : List Segment) → All P (c ∷ l) → All P (join_from c l)
join_all P g c [] a = rw join_last a
join_all P g c (x ∷ l) a = elim (decide (touches c x)) [
  | inl t ↦ rw (join_touching c x l t) (join_all P g (extended c x) l (g c x a.0 a.1.0, a.1.1))
  | inr f ↦ rw (join_apart c x l f) (a.0, join_all P g x l a.1)
]

pub join_length : (c : Segment) (l : List Segment) → length (join_from c l) ≤ length (c ∷ l)
join_length c [] = rw join_last (omega arith)
join_length c (x ∷ l) = elim (decide (touches c x)) [
  | inl t ↦ let h = join_length (extended c x) l in rw (join_touching c x l t) (omega arith)
  | inr f ↦ let h = join_length x l in rw (join_apart c x l f) (omega arith)
]

pub join_behind : (c : Segment) (l : List Segment) → Sorted starts (c ∷ l) → (y : Segment) → Mem y (join_from c l) → starts c y ≡ true
join_behind c [] s y m = behind (subst (Mem y) (join_last c) m)
  where
    behind : Mem y (c ∷ []) → starts c y ≡ true
    behind (inl e) = rw e (own starts starts-order c)
    behind (inr m) = absurd m
join_behind c (x ∷ l) s y m = elim (decide (touches c x)) [
  | inl t ↦ sym (extended-starts c x y) ∙ join_behind (extended c x) l (extended-sorted c x l s) y (subst (Mem y) (join_touching c x l t) m)
  | inr f ↦ behind (join_behind x l s.1 y) (subst (Mem y) (join_apart c x l f) m)
]
  where
    behind : (Mem y (join_from x l) → starts x y ≡ true) → Mem y (c ∷ join_from x l) → starts c y ≡ true
    behind r (inl e) = rw e (own starts starts-order c)
    behind r (inr m) = starts-order.trans c x y (s.0 x (inl refl)) (r m)

pub join_normal : (c : Segment) (l : List Segment) → Sorted starts (c ∷ l) → Normal (join_from c l)
join_normal c [] s = rw join_last (λ b m. absurd m, tt)
join_normal c (x ∷ l) s = elim (decide (touches c x)) [
  | inl t ↦ rw (join_touching c x l t) (join_normal (extended c x) l (extended-sorted c x l s))
  | inr f ↦ rw (join_apart c x l f) (λ b m. later (apart c x (s.0 x (inl refl)) f) b (join_behind x l s.1 b m), join_normal x l s.1)
]
  where
    later : Apart c x → (b : Segment) → starts x b ≡ true → Apart c b
    later a b h = elim (decide (row_le (start_row b) (end_row c))) [ inr f ↦ f | inl t ↦ clash (row_le (start_row x) (end_row c)) (rows-order.trans (start_row x) (start_row b) (end_row c) h t) a ]

-- ---- they cover the same points
module _ (L : NumberLine) (t : NetLine) (p : L.Point) where
  into : (c x : Segment) → Canonical c → Canonical x → starts c x ≡ true → Touching c x → Over L t p c ⊎ Over L t p x → Over L t p (extended c x)
  unfolding extended
  into c x a b s h o = come (extends c x) o
    where
      e : net_line_of x ≡ net_line_of c
      e = sym (line-of-row c x a b h.row)

      low : L.up_to (L.at c.start) (L.at x.start)
      low = reach L c.start x.start a.start b.start (one_up (line_row c) (line_row x) (key_of c.start) (key_of x.start) h.row s)

      come : Extended c x (extended c x) → Over L t p c ⊎ Over L t p x → Over L t p (extended c x)
      come (inl g) (inl o) = record { on = o.on; from = o.from; to = subst (λ (z : Float). L.up_to p (L.at z)) (sym g.0) (L.trans p (L.at c.end) (L.at x.end) o.to (reach L c.end x.end a.end b.end g.1)) }
      come (inr g) (inl o) = record { on = o.on; from = o.from; to = subst (λ (z : Float). L.up_to p (L.at z)) (sym g.0) o.to }
      come (inl g) (inr o) = record { on = sym e ∙ o.on; from = L.trans (L.at c.start) (L.at x.start) p low o.from; to = subst (λ (z : Float). L.up_to p (L.at z)) (sym g.0) o.to }
      come (inr g) (inr o) = record { on = sym e ∙ o.on; from = L.trans (L.at c.start) (L.at x.start) p low o.from; to = subst (λ (z : Float). L.up_to p (L.at z)) (sym g.0) (L.trans p (L.at x.end) (L.at c.end) o.to (reach L x.end c.end b.end a.end g.1)) }

  out_of : (c x : Segment) → Canonical c → Canonical x → Touching c x → Over L t p (extended c x) → Over L t p c ⊎ Over L t p x
  unfolding extended
  out_of c x a b h o = go (extends c x) (L.total p (L.at c.end))
    where
      go : Extended c x (extended c x) → L.up_to p (L.at c.end) ⊎ L.up_to (L.at c.end) p → Over L t p c ⊎ Over L t p x
      go g (inl u) = inl (record { on = o.on; from = o.from; to = u })
      go (inr g) (inr u) = inl (record { on = o.on; from = o.from; to = subst (λ (z : Float). L.up_to p (L.at z)) g.0 o.to })
      go (inl g) (inr u) = inr (record { on = sym (line-of-row c x a b h.row) ∙ o.on; from = L.trans (L.at x.start) (L.at c.end) p (reach L x.start c.end b.start a.end h.meets) u; to = subst (λ (z : Float). L.up_to p (L.at z)) g.0 o.to })

  pub join_into : (c : Segment) (l : List Segment) → All Canonical (c ∷ l) → Sorted starts (c ∷ l) → Some (Over L t p) (c ∷ l) → Some (Over L t p) (join_from c l)
  join_into c [] a s o = rw join_last o
  join_into c (x ∷ l) a s o = elim (decide (touches c x)) [
    | inl h ↦ rw (join_touching c x l h) (join_into (extended c x) l (extended_canonical c x a.0 a.1.0, a.1.1) (extended-sorted c x l s) (first (into c x a.0 a.1.0 (s.0 x (inl refl)) (touching c x h)) o))
    | inr f ↦ rw (join_apart c x l f) (⊎_elim (λ q. inl q) (λ q. inr (join_into x l a.1 s.1 q)) o)
  ]
    where
      first : {A B C D : Type 0} → (A ⊎ B → D) → A ⊎ (B ⊎ C) → D ⊎ C
      first f (inl q) = inl (f (inl q))
      first f (inr (inl q)) = inl (f (inr q))
      first f (inr (inr q)) = inr q

  pub join_out : (c : Segment) (l : List Segment) → All Canonical (c ∷ l) → Some (Over L t p) (join_from c l) → Some (Over L t p) (c ∷ l)
  join_out c [] a o = rw join_last at o
  join_out c (x ∷ l) a o = elim (decide (touches c x)) [
    | inl h ↦ last (out_of c x a.0 a.1.0 (touching c x h)) (join_out (extended c x) l (extended_canonical c x a.0 a.1.0, a.1.1) (rw (join_touching c x l h) at o))
    | inr f ↦ ⊎_elim (λ q. inl q) (λ q. inr (join_out x l a.1 q)) (rw (join_apart c x l f) at o)
  ]
    where
      last : {A B C D : Type 0} → (D → A ⊎ B) → D ⊎ C → A ⊎ (B ⊎ C)
      last f (inl q) = ⊎_elim (λ z. inl z) (λ z. inr (inl z)) (f q)
      last f (inr q) = inr (inr q)
