-- Two lists of canonical_zeros pieces, each apart from the later ones, that cover the same points are one list. Assumes nothing.
use mathlib.Core.Path.{◌≡◌, refl, sym, ap, ◌∙◌, subst}
use mathlib.Core.Logic.{inl, inr}
use mathlib.Core.Bool.{true, false}
use mathlib.Core.List.{List, [], ◌∷◌, ◌++◌}
use Prim.Native.Nat.{◌≤◌, ◌<◌}
use native.Mathlib.Omega.{arith}
use lib.Ieee.{Float}
use borrow.Author.Tests.{le-leb}
use Rattle.laws.specs.Lists.{Mem, All}
use Rattle.laws.specs.Rows.{row_le}
use Rattle.laws.proofs.Tests.{decide, clash, le_or_lt}
use Rattle.laws.proofs.ListLaws.{all_mem}
use Rattle.laws.proofs.RowLaws.{row_antisym}
use Rattle.laws.proofs.Sorting.{own}
use Rattle.floats.specs.TotalOrder.{key_of}
use Rattle.drawing.specs.declared.lists.Segment.{Segment}
use Rattle.joining.specs.Points.{NumberLine, NetLine, net_line_of}
use Rattle.joining.specs.Joined.{line_row}
use Rattle.joining.proofs.LineRows.{lead, on_one, one_up, one-above}
use Rattle.joining.proofs.Canonical.{Number, Canonical, key_below, number-one, line-of-row, row-of-line, piece_one}
use Rattle.joining.proofs.Spans.{Some, some_mem, Over, over_start, reach, other, back}
use Rattle.joining.proofs.Merging.{start_row, end_row, starts, starts-order, rows-order, row-rises, Apart, Normal}

-- ---- in a list of pieces that are apart the first one begins first
pub apart-starts : (a b : Segment) → Canonical a → Apart a b → starts a b ≡ true
apart-starts a b p n = rows-order.trans (start_row a) (end_row a) (start_row b) (row-rises a p) (rows-order.total (start_row b) (end_row a) n)

pub first-starts : (a : Segment) (l : List Segment) → Canonical a → Normal (a ∷ l) → (y : Segment) → Mem y (a ∷ l) → starts a y ≡ true
first-starts a l p n y (inl e) = rw e (own starts starts-order a)
first-starts a l p n y (inr m) = apart-starts a y p (n.0 y m)

-- on one line the keys are apart
pub apart_keys : (a b : Segment) → line_row b ≡ line_row a → Apart a b → key_of a.end < key_of b.start
apart_keys a b e n = one-above (line_row b) (line_row a) (key_of b.start) (key_of a.end) e n

-- ---- a number above the end of a, not above z, and not above the start of any piece of a's line
pub record Cut (a : Segment) (z : Float) (l : List Segment) : Type 0 where
  pub at : Float
  pub number : Number at
  pub above : key_of a.end < key_of at
  pub below : key_of at ≤ key_of z
  pub free : (y : Segment) → Mem y l → line_row y ≡ line_row a → key_of at ≤ key_of y.start

pub cut : (a : Segment) (z : Float) → Number z → key_of a.end < key_of z → (l : List Segment) → All Canonical l → ((y : Segment) → Mem y l → Apart a y) → Cut a z l
cut a z p h [] q n = record { at = z; number = p; above = h; below = omega arith; free = λ y m e. absurd m }
cut a z p h (y ∷ l) q n = go (cut a z p h l q.1 (λ x m. n x (inr m)))
  where
    lower : (c : Cut a z l) → line_row y ≡ line_row a → key_of y.start ≤ key_of c.at → Cut a z (y ∷ l)
    lower c e k = record { at = y.start; number = q.0.start; above = apart_keys a y e (n y (inl refl)); below = let b = c.below in omega arith; free = free }
      where
        free : (x : Segment) → Mem x (y ∷ l) → line_row x ≡ line_row a → key_of y.start ≤ key_of x.start
        free x (inl w) t = rw w (omega arith)
        free x (inr m) t = let f = c.free x m t in omega arith

    same : (c : Cut a z l) → row_le (start_row y) (line_row a ++ (key_of c.at ∷ [])) ≡ false → Cut a z (y ∷ l)
    same c f = record { at = c.at; number = c.number; above = c.above; below = c.below; free = free }
      where
        free : (x : Segment) → Mem x (y ∷ l) → line_row x ≡ line_row a → key_of c.at ≤ key_of x.start
        free x (inl w) t = rw w (let k = one-above (line_row y) (line_row a) (key_of y.start) (key_of c.at) (ap line_row (sym w) ∙ t) f in omega arith)
        free x (inr m) t = c.free x m t

    go : Cut a z l → Cut a z (y ∷ l)
    go c = elim (decide (row_le (start_row y) (line_row a ++ (key_of c.at ∷ [])))) [
      | inr f ↦ same c f
      | inl t ↦ elim (lead (line_row y) (line_row a) (key_of y.start ∷ []) (key_of c.at ∷ []) refl t) [
        | inl e ↦ lower c e.0 (one_up (line_row y) (line_row a) (key_of y.start) (key_of c.at) e.0 t)
        | inr u ↦ clash (row_le (start_row y) (end_row a)) (u (key_of y.start ∷ []) (key_of a.end ∷ [])).0 (n y (inl refl))
      ]
    ]

module _ (L : NumberLine) where
  -- every point that is covered by l is covered by m
  abbrev pub Within : List Segment → List Segment → Type 0
  Within l m = (t : NetLine) (p : L.Point) → Some (Over L t p) l → Some (Over L t p) m

  -- ---- a point behind the end of a, up to z, that no piece behind a covers
  pub record Gap (a : Segment) (z : Float) (l : List Segment) : Type 0 where
    pub point : L.Point
    pub past : L.up_to point (L.at a.end) → ⊥
    pub upto : L.up_to point (L.at z)
    pub bare : Some (Over L (net_line_of a) point) l → ⊥

  pub gap : (a : Segment) (z : Float) → Canonical a → Number z → key_of a.end < key_of z → (l : List Segment) → All Canonical l → ((y : Segment) → Mem y l → Apart a y) → Gap a z l
  gap a z p q h l ps n =
      let c = cut a z q h l ps n in
      let b = L.between a.end c.at p.end.fin c.number.fin (key_below a.end c.at p.end c.number c.above) in
      record {
        point = b.0;
        past = b.1;
        upto = L.trans b.0 (L.at c.at) (L.at z) (other L (L.at c.at) b.0 b.2) (reach L c.at z c.number q c.below);
        bare = λ s.
            let r = some_mem (Over L (net_line_of a) b.0) l s in
            let y = r.0 in
            let k = all_mem Canonical l ps y r.1 in
            b.2 (L.trans (L.at c.at) (L.at y.start) b.0 (reach L c.at y.start c.number k.start (c.free y r.1 (row-of-line y a k p r.2.on))) r.2.from);
      }

  -- ---- the first pieces
  no_later : (a b : Segment) (l m : List Segment) → All Canonical (a ∷ l) → All Canonical (b ∷ m) → Normal (b ∷ m) → Within (a ∷ l) (b ∷ m) → starts b a ≡ true
  no_later a b l m p q n w =
      let r = some_mem (Over L (net_line_of a) (L.at a.start)) (b ∷ m) (w (net_line_of a) (L.at a.start) (inl (over_start L a p.0))) in
      let y = r.0 in
      let k = all_mem Canonical (b ∷ m) q y r.1 in
      starts-order.trans b y a (first-starts b m q.0 n y r.1) (on_one (line_row y) (line_row a) (key_of y.start) (key_of a.start) (row-of-line y a k p.0 r.2.on) ∙ le-leb (key_of y.start) (key_of a.start) (back L y.start a.start k.start p.0.start r.2.from))

  -- b, which begins where a does, ends no later
  no_longer : (a b : Segment) (l : List Segment) (m : List Segment) → All Canonical (a ∷ l) → All Canonical (b ∷ m) → Normal (a ∷ l) → Within (b ∷ m) (a ∷ l) → net_line_of b ≡ net_line_of a → b.start ≡ a.start → key_of b.end ≤ key_of a.end
  no_longer a b l m p q n w e s = elim (le_or_lt (key_of b.end) (key_of a.end)) [
    | inl h ↦ h
    | inr h ↦
        let g = gap a b.end p.0 q.0.end h l p.1 n.0 in
        let x = g.point in
        let f : L.up_to (L.at b.start) x = subst (λ (z : Float). L.up_to (L.at z) x) (sym s) (L.trans (L.at a.start) (L.at a.end) x (reach L a.start a.end p.0.start p.0.end p.0.rises) (other L x (L.at a.end) g.past)) in
        absurd (none g (w (net_line_of a) x (inl (record { on = e; from = f; to = g.upto }))))
  ]
    where
      none : (g : Gap a b.end l) → Some (Over L (net_line_of a) g.point) (a ∷ l) → ⊥
      none g (inl o) = g.past o.to
      none g (inr o) = g.bare o

  -- ---- the later pieces
  tails : (a : Segment) (l m : List Segment) → All Canonical (a ∷ l) → Normal (a ∷ l) → Within (a ∷ l) (a ∷ m) → Within l m
  tails a l m p n w t x s = go (w t x (inr s))
    where
      go : Some (Over L t x) (a ∷ m) → Some (Over L t x) m
      go (inr o) = o
      go (inl o) =
          let r = some_mem (Over L t x) l s in
          let y = r.0 in
          let k = all_mem Canonical l p.1 y r.1 in
          let u = apart_keys a y (row-of-line y a k p.0 (r.2.on ∙ sym o.on)) (n.0 y r.1) in
          let v = back L y.start a.end k.start p.0.end (L.trans (L.at y.start) x (L.at a.end) r.2.from o.to) in
          absurd (omega arith)

  pub one_normal : (l m : List Segment) → All Canonical l → All Canonical m → Normal l → Normal m → Within l m → Within m l → l ≡ m
  one_normal [] [] p q n k v w = refl
  one_normal [] (b ∷ m) p q n k v w = absurd (w (net_line_of b) (L.at b.start) (inl (over_start L b q.0)))
  one_normal (a ∷ l) [] p q n k v w = absurd (v (net_line_of a) (L.at a.start) (inl (over_start L a p.0)))
  one_normal (a ∷ l) (b ∷ m) p q n k v w =
      go (row_antisym (start_row a) (start_row b) (no_later b a m l q p n w) (no_later a b l m p q k v)) (λ e. one_normal l m p.1 q.1 n.1 k.1 (tails a l m p n (subst (λ (z : Segment). Within (a ∷ l) (z ∷ m)) (sym e) v)) (tails b m l q k (subst (λ (z : Segment). Within (b ∷ m) (z ∷ l)) e w)))
    where
      go : start_row a ≡ start_row b → (a ≡ b → l ≡ m) → a ∷ l ≡ b ∷ m
      go r tail =
          let row : line_row a ≡ line_row b = cc r in
          let first : key_of a.start ≡ key_of b.start = cc r in
          let t = line-of-row a b p.0 q.0 row in
          let s = number-one a.start b.start p.0.start q.0.start first in
          let x = no_longer a b l m p q n w (sym t) (sym s) in
          let y = no_longer b a m l q p k v t s in
          let e = piece_one a b p.0 q.0 row first (omega arith) in
          cc (e, tail e)
