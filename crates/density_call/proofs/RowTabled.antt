-- The tables of rows in order are those of their wires: the keys are those of coordinates on the grid, and events in order of keys are in order of 64ths. Assumes nothing.
use mathlib.Core.Path.{◌≡◌, refl, sym, ap, ◌∙◌, subst}
use mathlib.Core.Logic.{inl, inr}
use mathlib.Core.List.{List, [], ◌∷◌, map, map-map}
use mathlib.Core.Bool.{Bool, true, false, cond}
use Prim.Native.Nat.{ℕ, suc, ◌+◌, ◌-◌, ◌*◌, ◌<◌}
use native.Mathlib.Omega.{arith}
use borrow.Author.Tests.{eqb-true, eqb-false, eq-eqb, ne_eqb, lt-ltb, le-ltb}
use lib.Dec.{T, ltb, eqb}
use lib.Ieee.{Float, binary64, fits}
use lib.ListN.{length, get_or, take, length-map}
use Rattle.laws.specs.Lists.{Mem, All}
use Rattle.laws.specs.Rows.{row_le}
use Rattle.laws.specs.Sort.{sort_by, insert_by}
use Rattle.laws.proofs.Tests.{decide, clash, le_or_lt, cond_true, cond_false}
use Rattle.laws.proofs.ListLaws.{all_mem, map_same}
use Rattle.laws.proofs.Places.{at_mem}
use Rattle.laws.proofs.Perms.{perm_mem}
use Rattle.laws.proofs.Sorting.{sort_perm}
use Rattle.floats.specs.Values.{canonical_zero}
use Rattle.floats.specs.TotalOrder.{key_of, float_at}
use Rattle.floats.specs.Grid.{on_grid, unit}
use Rattle.floats.proofs.NumberKeys.{float_back, canonical_key}
use Rattle.floats.proofs.Units.{canonical_grid, lt_units, unit-one, grid_num}
use Rattle.floats.proofs.Zeros.{canonical_again}
use Rattle.drawing.specs.Entries.{Segment}
use Rattle.drawing.specs.Held.{SegmentHeld}
use Rattle.rows.specs.Rows.{fixed_of, start_of, end_of, Row, row_of, events_from, moment, events_in_order, ends, starts}
use Rattle.rows.specs.Rows as rows
use Rattle.rows.specs.Inner.Tables.{no_row, row_from, event_from, column}
use Rattle.rows.proofs.SpreadTables.{Spread}
use Rattle.rows.proofs.ColumnParts.{get_d_map, column-at}
use Rattle.congestion.specs.Wires.{Wire}
use Rattle.congestion.specs.Walk.{WireEvent, numbered, wire_events, in_order, event_row}
use Rattle.congestion.specs.Inner.Keys.{Key}
use Rattle.density_call.specs.Inner.Tables.{no_wire, item_at, event_at, Ranged, Tabled}
use Rattle.density_call.specs.Inner.Measuring.{wire_of_row, Coordinate, Proper}
use Rattle.congestion.proofs.Fitness.{GridSegment}
use Rattle.congestion.proofs.KeyUnits.{canonical_fits, key-unit}

-- ---- a key of a coordinate on the grid
pub coordinate-of : (x : Float) → T (fits binary64 x) → T (on_grid x) → Coordinate (key_of (canonical_zero x))
coordinate-of x h g = record { float = canonical_zero x; held = canonical_fits x h; grid = subst T (sym (canonical_grid x)) g; plain = canonical_again x; is = refl }

pub coordinate-key : (w : ℕ) → Coordinate w → Key w (unit (float_at w))
coordinate-key w c =
    let e : float_at w ≡ c.float = ap float_at c.is ∙ float_back c.float c.held in
    record { grid = subst (λ x. T (on_grid x)) (sym e) c.grid; plain = subst (λ x. canonical_zero x ≡ x) (sym e) c.plain; is = refl }

-- keys are in the order of their 64ths
module _ (a b : ℕ) (c : Coordinate a) (d : Coordinate b) where
  abbrev x : Float
  x = c.float

  abbrev y : Float
  y = d.float

  unit-at : (w : ℕ) (k : Coordinate w) → unit (float_at w) ≡ unit k.float
  unit-at w k = ap unit (ap float_at k.is ∙ float_back k.float k.held)

  key-before : ltb a b ≡ ltb (unit (float_at a)) (unit (float_at b))
  key-before =
      (λ i. ltb (c.is i) (d.is i))
      ∙ sym (canonical_key x y (grid_num x c.held c.grid) (grid_num y d.held d.grid) c.plain d.plain)
      ∙ lt_units x y c.grid d.grid
      ∙ (λ i. ltb (sym (unit-at a c) i) (sym (unit-at b d) i))

  key-equal : eqb a b ≡ eqb (unit (float_at a)) (unit (float_at b))
  key-equal = elim (decide (eqb (unit (float_at a)) (unit (float_at b)))) [
    | inl e ↦
        let u : unit x ≡ unit y = sym (unit-at a c) ∙ eqb-true (unit (float_at a)) (unit (float_at b)) e ∙ unit-at b d in
        let z : x ≡ y = sym c.plain ∙ unit-one x y c.held d.held c.grid d.grid u ∙ d.plain in
        eq-eqb a b (c.is ∙ ap key_of z ∙ sym d.is) ∙ sym e
    | inr e ↦ ne_eqb a b (λ k. eqb-false (unit (float_at a)) (unit (float_at b)) e (ap (λ (w : ℕ). unit (float_at w)) k)) ∙ sym e
  ]

  pub first-word-same : (p q : List ℕ) → row_le (a ∷ p) (b ∷ q) ≡ row_le (unit (float_at a) ∷ p) (unit (float_at b) ∷ q)
  unfolding row_le
  first-word-same p q = λ i. cond (key-before i) true (cond (key-equal i) (row_le p q) false)

-- ---- a sort of entries, and of their images under g
module _ {A B : Type 0} (le : A → A → Bool) (leq : B → B → Bool) (g : A → B) where
  insert-map : (x : A) (l : List A) → ((y : A) → Mem y l → le x y ≡ leq (g x) (g y)) → map g (insert_by le x l) ≡ insert_by leq (g x) (map g l)
  unfolding insert_by
  insert-map x [] h = refl
  insert-map x (y ∷ l) h = go (le x y) (leq (g x) (g y)) (h y (inl refl)) (insert-map x l (λ z m. h z (inr m)))
    where
      go : (p q : Bool) → p ≡ q → map g (insert_by le x l) ≡ insert_by leq (g x) (map g l) → map g (cond p (x ∷ y ∷ l) (y ∷ insert_by le x l)) ≡ cond q (g x ∷ g y ∷ map g l) (g y ∷ insert_by leq (g x) (map g l))
      go true true e k = refl
      go false false e k = ap (λ (t : List B). g y ∷ t) k
      go true false e k = clash true refl e
      go false true e k = clash true refl (sym e)

  pub sort_map : (l : List A) → ((x y : A) → Mem x l → Mem y l → le x y ≡ leq (g x) (g y)) → map g (sort_by le l) ≡ sort_by leq (map g l)
  unfolding sort_by
  sort_map [] h = refl
  sort_map (x ∷ l) h =
      insert-map x (sort_by le l) (λ y m. h x y (inl refl) (inr (perm_mem y (sort_perm le l) m)))
      ∙ ap (insert_by leq (g x)) (sort_map l (λ a b m n. h a b (inr m) (inr n)))

-- ---- the events of rows and of their wires
pub row-proper : (s : Segment) → SegmentHeld s → GridSegment s → Proper (row_of s)
unfolding row_of fixed_of start_of end_of
row-proper s h f = record {
  line = coordinate-of s.fixed h.fixed f.fixed;
  start = coordinate-of s.start h.start f.start;
  end = coordinate-of s.end h.end f.end;
  rises = omega (arith, f.rises, key-unit s.start h.start, key-unit s.end h.end);
}

module _ (h : Bool) where
  abbrev pub event_of : rows.Event → WireEvent
  event_of (ends i r) = record { ends = true; item = record { wire = wire_of_row h r; index = i } }
  event_of (starts i r) = record { ends = false; item = record { wire = wire_of_row h r; index = i } }

  abbrev row_in : rows.Event → Row
  row_in (ends i r) = r
  row_in (starts i r) = r

  same-order : (d e : rows.Event) → Proper (row_in d) → Proper (row_in e) → events_in_order d e ≡ row_le (event_row (event_of d)) (event_row (event_of e))
  unfolding moment
  same-order (ends i r) (ends j t) p q = first-word-same r.end t.end p.end q.end (0 ∷ i ∷ []) (0 ∷ j ∷ [])
  same-order (ends i r) (starts j t) p q = first-word-same r.end t.start p.end q.start (0 ∷ i ∷ []) (1 ∷ j ∷ [])
  same-order (starts i r) (ends j t) p q = first-word-same r.start t.end p.start q.end (1 ∷ i ∷ []) (0 ∷ j ∷ [])
  same-order (starts i r) (starts j t) p q = first-word-same r.start t.start p.start q.start (1 ∷ i ∷ []) (1 ∷ j ∷ [])

  events-map : (k : ℕ) (l : List Row) → map event_of (events_from k l) ≡ wire_events (numbered k (map (wire_of_row h) l))
  unfolding events_from
  events-map k [] = refl
  events-map k (r ∷ l) = ap (λ (t : List WireEvent). event_of (ends k r) ∷ event_of (starts k r) ∷ t) (events-map (suc k) l)

  event-row : (k : ℕ) (l : List Row) (e : rows.Event) → Mem e (events_from k l) → Mem (row_in e) l
  unfolding events_from
  event-row k [] e m = absurd m
  event-row k (r ∷ l) e (inl p) = inl (ap row_in p)
  event-row k (r ∷ l) e (inr (inl p)) = inl (ap row_in p)
  event-row k (r ∷ l) e (inr (inr m)) = inr (event-row (suc k) l e m)

  pub events-in_order : (l : List Row) → ((r : Row) → Mem r l → Proper r) → map event_of (rows.events l) ≡ in_order (wire_events (numbered 0 (map (wire_of_row h) l)))
  unfolding rows.events in_order
  events-in_order l fit =
      sort_map events_in_order (λ a b. row_le (event_row a) (event_row b)) event_of (events_from 0 l) (λ d e m n. same-order d e (fit (row_in d) (event-row 0 l d m)) (fit (row_in e) (event-row 0 l e n)))
      ∙ ap (sort_by (λ a b. row_le (event_row a) (event_row b))) (events-map 0 l)

-- ---- the tables
module _ (h : Bool) (l : List Row) (fit : (r : Row) → Mem r l → Proper r) where
  abbrev L : List Wire
  L = map (wire_of_row h) l

  as_many : length L ≡ length l
  as_many = length-map l (wire_of_row h)

  wire-at : (j : ℕ) → j < length l → (item_at L j).wire ≡ wire_of_row h (row_from l j)
  wire-at j b = get_d_map (wire_of_row h) l j no_row no_wire b

  fit_at : (j : ℕ) → j < length l → Proper (row_from l j)
  fit_at j b = fit (row_from l j) (at_mem l j no_row b)

  -- a word of a column
  row_word : (k j : ℕ) (s : List ℕ) (f : Row → ℕ) → column (length l) k s ≡ map f l → j < length l → get_or s (k * length l + j) 0 ≡ f (row_from l j)
  row_word k j s f e b = sym (column-at (length l) k s j b) ∙ ap (λ (c : List ℕ). get_or c j 0) e ∙ get_d_map f l j no_row 0 b

  word-key : (w v u : ℕ) → Coordinate v → w ≡ v → u ≡ unit (float_at v) → Key w u
  word-key w v u c e k = subst (λ (z : ℕ). Key z u) (sym e) (subst (Key v) (sym k) (coordinate-key v c))

  same_event : (e : ℕ) → e < 2 * length l → event_at L e ≡ event_of h (event_from l e)
  same_event e b = elim (le_or_lt (length l) e) [
    | inl g ↦
        let a : event_from l e ≡ starts (e - length l) (row_from l (e - length l)) = cond_false (ltb e (length l)) _ _ (le-ltb e (length l) g) in
        let d : ltb e (length L) ≡ false = le-ltb e (length L) (omega (arith, as_many)) in
        let k : e - length L ≡ e - length l = omega (arith, as_many) in
        (λ i. record { ends = d i; item = cond (d i) (item_at L e) (item_at L (k i)) }) ∙ (λ i. record { ends = false; item = record { wire = wire-at (e - length l) (omega arith) i; index = e - length l } }) ∙ ap (event_of h) (sym a)
    | inr g ↦
        let a : event_from l e ≡ ends e (row_from l e) = cond_true (ltb e (length l)) _ _ (lt-ltb e (length l) g) in
        let d : ltb e (length L) ≡ true = lt-ltb e (length L) (omega (arith, as_many)) in
        (λ i. record { ends = d i; item = cond (d i) (item_at L e) (item_at L (e - length L)) }) ∙ (λ i. record { ends = true; item = record { wire = wire-at e g i; index = e } }) ∙ ap (event_of h) (sym a)
  ]

  pub tabled : (c : ℕ) (s : List ℕ) → Spread l s → All (λ e. e < 2 * length l) (take (2 * length l) s) → map (event_from l) (take (2 * length l) s) ≡ rows.events l → Ranged c L s → Tabled c L s
  tabled c s spread small ordered ranged = record {
    small = subst (λ (n : ℕ). All (λ e. e < 2 * n) (take (2 * n) s)) (sym as_many) small;
    ordered = ap (λ (n : ℕ). map (event_at L) (take (2 * n) s)) as_many ∙ map_same (event_at L) (λ e. event_of h (event_from l e)) (take (2 * length l) s) (λ e m. same_event e (all_mem (λ e. e < 2 * length l) (take (2 * length l) s) small e m)) ∙ sym (map-map (event_of h) (event_from l) (take (2 * length l) s)) ∙ ap (map (event_of h)) ordered ∙ events-in_order h l fit;
    ends = λ j b. let d : j < length l = omega (arith, as_many) in word-key _ _ _ (fit_at j d).end (at 2 j ∙ row_word 2 j s (λ r. r.end) spread.ends d) (ap (λ (w : Wire). w.end) (wire-at j d));
    starts = λ j b. let d : j < length l = omega (arith, as_many) in word-key _ _ _ (fit_at j d).start (at 3 j ∙ row_word 3 j s (λ r. r.start) spread.starts d) (ap (λ (w : Wire). w.start) (wire-at j d));
    fixed = λ j b. let d : j < length l = omega (arith, as_many) in word-key _ _ _ (fit_at j d).line (at 4 j ∙ row_word 4 j s (λ r. r.line) spread.keys d) (ap (λ (w : Wire). w.fixed) (wire-at j d));
    nets = λ j b. let d : j < length l = omega (arith, as_many) in at 5 j ∙ row_word 5 j s (λ r. r.net) spread.nets d ∙ sym (ap (λ (w : Wire). w.net) (wire-at j d));
    ranges = ranged;
  }
    where
      at : (k j : ℕ) → get_or s (k * length L + j) 0 ≡ get_or s (k * length l + j) 0
      at k j = ap (λ (n : ℕ). get_or s (k * n + j) 0) as_many
