-- Pieces that are apart are the fewest that cover their points: on one line no span of points can reach the starts of two of them. Assumes nothing.
use mathlib.Core.Path.{◌≡◌, refl, sym, ap, ◌∙◌, subst}
use mathlib.Core.Logic.{◌⊎◌, inl, inr}
use mathlib.Core.Bool.{true, ◌&&◌}
use mathlib.Core.List.{List, [], ◌∷◌}
use Prim.Native.Nat.{suc, ◌≤◌, zero-le}
use native.Mathlib.Omega.{arith}
use lib.Dec.{eqb}
use lib.ListN.{length}
use borrow.Author.Tests.{eqb-true, eq-eqb}
use Rattle.laws.specs.Lists.{Mem, All, fold, count}
use Rattle.laws.proofs.Tests.{decide, and_left, and_right, and_both}
use Rattle.laws.proofs.ListLaws.{all_mem}
use Rattle.floats.specs.TotalOrder.{key_of}
use Rattle.floats.specs.Values.{canonical_zero}
use Rattle.floats.proofs.NumberKeys.{key-of-one}
use Rattle.drawing.specs.declared.lists.Segment.{Segment}
use Rattle.drawing.specs.Held.{Binary64}
use Rattle.joining.specs.Points.{Finite, NumberLine, NetLine, net_line_of, is_on}
use Rattle.joining.proofs.Canonical.{Canonical, canonical_number, row-of-line}
use Rattle.joining.proofs.Spans.{Some, Over, reach, other, back}
use Rattle.joining.proofs.Merging.{Normal}
use Rattle.joining.proofs.OneList.{apart_keys, Gap, gap}

-- ---- a list without one entry of which P holds
pub record Without {B : Type 0} (P : B → Type 0) (m : List B) : Type 1 where
  pub one : B
  pub has : P one
  pub rest : List B
  pub fewer : length m ≡ suc (length rest)
  pub others : (Q : B → Type 0) → Some Q m → Q one ⊎ Some Q rest
  pub first : (Q : B → Type 0) → Q one → Some Q m
  pub all : (Q : B → Type 0) → Some Q rest → Some Q m

without : {B : Type 0} (P : B → Type 0) (m : List B) → Some P m → Without P m
without {B = B} P [] x' = elim x' [ ]
without P (y ∷ m) (inl h) = record { one = y; has = h; rest = m; fewer = refl; others = λ Q s. s; first = λ Q q. inl q; all = λ Q s. inr s }
without P (y ∷ m) (inr h) = go (without P m h)
  where
    go : Without P m → Without P (y ∷ m)
    go w = record { one = w.one; has = w.has; rest = y ∷ w.rest; fewer = ap suc w.fewer; others = others; first = λ Q q. inr (w.first Q q); all = all }
      where
        others : (Q : _ → Type 0) → Some Q (y ∷ m) → Q w.one ⊎ Some Q (y ∷ w.rest)
        others Q (inl q) = inr (inl q)
        others Q (inr s) = elim (w.others Q s) [ inl q ↦ inl q | inr q ↦ inr (inr q) ]

        all : (Q : _ → Type 0) → Some Q (y ∷ w.rest) → Some Q (y ∷ m)
        all Q (inl q) = inl q
        all Q (inr s) = inr (w.all Q s)

-- ---- the test of a line
pub is-on : (t : NetLine) (s : Segment) → net_line_of s ≡ t → is_on t s ≡ true
unfolding is_on
is-on t s e =
    let n = eqb s.net t.net in
    let o = eqb s.orientation t.orientation in
    let f = eqb (key_of (canonical_zero s.fixed)) (key_of t.fixed) in
    and_both n (o && f) (eq-eqb s.net t.net (ap (λ (u : NetLine). u.net) e))
    (and_both o f (eq-eqb s.orientation t.orientation (ap (λ (u : NetLine). u.orientation) e)) (eq-eqb (key_of (canonical_zero s.fixed)) (key_of t.fixed) (ap (λ (u : NetLine). key_of u.fixed) e)))

pub on_line : (t : NetLine) (s : Segment) → Binary64 t.fixed → Finite s.fixed → is_on t s ≡ true → net_line_of s ≡ t
unfolding is_on
on_line t s b p h =
    let n = eqb s.net t.net in
    let o = eqb s.orientation t.orientation in
    let f = eqb (key_of (canonical_zero s.fixed)) (key_of t.fixed) in
    let k = and_right n (o && f) h in
    let x = eqb-true s.net t.net (and_left n (o && f) h) in
    let y = eqb-true s.orientation t.orientation (and_left o f k) in
    let z = key-of-one (canonical_zero s.fixed) t.fixed (canonical_number s.fixed p).fin.0 b (eqb-true (key_of (canonical_zero s.fixed)) (key_of t.fixed) (and_right o f k)) in
    (λ i. record { net = x i; orientation = y i; fixed = z i })

module _ (L : NumberLine) (t : NetLine) (b : Binary64 t.fixed) where
  abbrev Span : Type 0
  Span = L.Point × L.Point

  -- the span reaches over the point
  abbrev pub In : L.Point → Span → Type 0
  In p y = L.up_to y.0 p × L.up_to p y.1

  -- what the spans reach over, from the start of some piece of the line on, the pieces cover
  abbrev pub Kept : List Segment → List Span → Type 0
  Kept l m = (q : Segment) → Mem q l → net_line_of q ≡ t → (p : L.Point) → L.up_to (L.at q.start) p → Some (In p) m → Some (Over L t p) l

  abbrev pub Met : List Segment → List Span → Type 0
  Met l m = (q : Segment) → Mem q l → net_line_of q ≡ t → Some (In (L.at q.start)) m

  kept_later : (a : Segment) (l : List Segment) (m : List Span) → All Canonical (a ∷ l) → Normal (a ∷ l) → Kept (a ∷ l) m → Kept l m
  kept_later a l m ps n k q i e p f s = go (k q (inr i) e p f s)
    where
      go : Some (Over L t p) (a ∷ l) → Some (Over L t p) l
      go (inr o) = o
      go (inl o) =
          let z = all_mem Canonical l ps.1 q i in
          let u = apart_keys a q (row-of-line q a z ps.0 (e ∙ sym o.on)) (n.0 q i) in
          let v = back L q.start a.end z.start ps.0.end (L.trans (L.at q.start) p (L.at a.end) f o.to) in
          absurd (omega arith)

  -- no span that reaches the start of a reaches the start of a later piece of the line
  apart_spans : (a : Segment) (l : List Segment) (m : List Span) → All Canonical (a ∷ l) → Normal (a ∷ l) → Kept (a ∷ l) m → net_line_of a ≡ t → (y : Span) → ((Q : Span → Type 0) → Q y → Some Q m) → In (L.at a.start) y
      → (q : Segment) → Mem q l → net_line_of q ≡ t → In (L.at q.start) y → ⊥
  apart_spans a l m ps n k e y i w q j d v =
      let z = all_mem Canonical l ps.1 q j in
      let u = apart_keys a q (row-of-line q a z ps.0 (d ∙ sym e)) (n.0 q j) in
      let g = gap L a q.start ps.0 z.start u l ps.1 n.0 in
      let p = g.point in
      let f : L.up_to (L.at a.start) p = L.trans (L.at a.start) (L.at a.end) p (reach L a.start a.end ps.0.start ps.0.end ps.0.rises) (other L p (L.at a.end) g.past) in
      let s : In p y = (L.trans y.0 (L.at a.start) p w.0 f, L.trans p (L.at q.start) y.1 g.upto v.1) in
      go g (k a (inl refl) e p f (i (In p) s))
    where
      go : (g : Gap L a q.start l) → Some (Over L t g.point) (a ∷ l) → ⊥
      go g (inl o) = g.past o.to
      go g (inr o) = g.bare (subst (λ (r : NetLine). Some (Over L r g.point) l) (sym e) o)

  pub fewest_spans : (l : List Segment) (m : List Span) → All Canonical l → Normal l → Kept l m → Met l m → count (is_on t) l ≤ length m
  unfolding fold
  fewest_spans [] m ps n k r = zero-le
  fewest_spans (a ∷ l) m ps n k r = elim (decide (is_on t a)) [
    | inr f ↦
        let c : count (is_on t) l ≤ length m = fewest_spans l m ps.1 n.1 (kept_later a l m ps n k) (λ q i e. r q (inr i) e) in
        rw f (omega arith)
    | inl h ↦
        let e = on_line t a b ps.0.fixed.fin h in
        let w = without (In (L.at a.start)) m (r a (inl refl) e) in
        let met : Met l w.rest = λ q i d. elim (w.others (In (L.at q.start)) (r q (inr i) d)) [ inr s ↦ s | inl v ↦ absurd (apart_spans a l m ps n k e w.one w.first w.has q i d v) ] in
        let later : Kept l w.rest = λ q i d p u s. kept_later a l m ps n k q i d p u (w.all (In p) s) in
        let c : count (is_on t) l ≤ length w.rest = fewest_spans l w.rest ps.1 n.1 later met in
        let x = w.fewer in
        rw h (omega arith)
  ]
