-- Exemptions as words in ascending order: how they are gathered and found by halving. Assumes nothing.
use mathlib.Core.Path.{◌≡◌, refl, sym, ap, ◌∙◌, subst}
use mathlib.Core.Logic.{inl, inr}
use mathlib.Core.Bool.{Bool, true, false, not, ◌&&◌}
use mathlib.Core.List.{List, [], ◌∷◌, map}
use Prim.Native.Nat.{ℕ, zero, suc, ◌+◌, ◌-◌, ◌*◌, ◌/◌, ◌%◌, ◌^◌, ◌≤◌, ◌<◌}
use native.Mathlib.Nat.{not-suc-le-zero, le_of_suc-le-suc, le_refl, zero-add, add-zero, mul-zero, mul-one}
use native.Mathlib.Omega.{arith}
use borrow.Author.Count.{below_more}
use borrow.Author.Tests.{lt-ltb, ltb-true, ltb-false, leb-true, le-leb, eqb-true, eqb-false, eq-eqb, not-false}
use lib.Dec.{leb, ltb, eqb}
use Rattle.std.specs.List.Sorted.{IsPartitionPoint, IsPartitionedBy}
use Rattle.std.proofs.lemmas.List.{get_or_default, get_or-drop, length-drop}
use lib.ListN.{length, get_or, take, drop, set, length-map}
use lib.Seq.{take_all, get_or-take, length-take-le, paste, take-paste, drop-paste}
use Rattle.laws.specs.Lists.{All, some_of}
use Rattle.laws.specs.Perm.{via}
use Rattle.laws.specs.Inner.Sort.{Sorted}
use Rattle.laws.proofs.Tests.{decide, clash, and_left, and_right, and_both, le_or_lt}
use Rattle.laws.proofs.ListLaws.{all_mem, some_mem, none-all, some-map}
use Rattle.laws.proofs.Places.{at_all, first-at, at_first}
use Rattle.laws.proofs.Perms.{perm-eq, perm-map, perm-some}
use Rattle.laws.proofs.Sorting.{sort_sorted}
use Rattle.laws.proofs.SortedLists.{sorted-at}
use Rattle.laws.proofs.Columns.{Written, written_none, written_next, written_all}
use Rattle.sorting.specs.Inner.Sorted.{before, sortable, sorted}
use Rattle.sorting.proofs.RowOrder.{before-order, compare_start, compare_end}
use Rattle.sorting.proofs.Fitting.{no_rows}
use Rattle.sorting.proofs.Entries.{sorted-column, sorted-perm, sorted_rest, sorted-length}
use Rattle.drawing.specs.Entries.{Exemption, ExemptionColumns, exemptions_of, exemptions}
use Rattle.drawing.specs.Inner.Lengths.{ExemptionsAgree}
use Rattle.drawing.specs.Conditions.{differ}
use Rattle.drawing.specs.Checks.{exemptions_differ}
use Rattle.drawing.proofs.EntryLaws.{length-exemptions}
use Rattle.clearance.specs.Figures.{exempt}
use Rattle.exemptions.specs.declared.Range.{Range}
use Rattle.exemptions.specs.Inner.Exempting.{word, unpacked, word_at, node_of, Ascending, Rising, Holds, Gathered, LowerBound, Own, Listed}

-- ---- the search by halving: if the keys ascend, the index sought is one of the n from `at` on, or the one after them
pub record Halving (key : ℕ → ℕ) (a b v at n : ℕ) : Type 0 where
  pub from : a ≤ at
  pub to : at + n ≤ b
  pub below : Ascending key a b → (i : ℕ) → a ≤ i → i < at → key i < v
  pub above : Ascending key a b → (i : ℕ) → at + n ≤ i → i < b → v ≤ key i

module _ (key : ℕ → ℕ) (a b v : ℕ) where
  pub halving_start : a ≤ b → Halving key a b v a (b - a)
  halving_start h = record { from = omega arith; to = omega arith; below = λ o i p q. absurd (omega arith); above = λ o i p q. absurd (omega arith) }

  module _ (at n : ℕ) (s : Halving key a b v at n) where
    pub halving_end : n ≤ 0 → Ascending key a b → LowerBound key a b v at
    halving_end h o = record { from = s.from; to = omega (arith, s.to); below = s.below o; above = λ i p q. s.above o i (omega arith) q }

    -- the key in the middle is compared
    module _ (h : 0 < n) where
      pub halving_up : key (at + (n - n / 2) - 1) < v → Halving key a b v (at + (n - n / 2)) (n / 2)
      halving_up k = record {
        from = omega (arith, s.from);
        to = omega (arith, s.to);
        below = λ o i p q. let z = o i (at + (n - n / 2) - 1) p (omega arith) (omega (arith, s.to)) in omega arith;
        above = λ o i p q. s.above o i (omega arith) q;
      }

      pub halving_stay : v ≤ key (at + (n - n / 2) - 1) → Halving key a b v at (n / 2)
      halving_stay k = record {
        from = s.from;
        to = omega (arith, s.to);
        below = s.below;
        above = λ o i p q. let z = o (at + (n - n / 2) - 1) i (omega (arith, s.from)) (omega arith) q in omega arith;
      }

      -- the step is taken once or not at all
      halving_step : (t : ℕ) → (key (at + (n - n / 2) - 1) < v → t ≡ 1) → (v ≤ key (at + (n - n / 2) - 1) → t ≡ 0) → Halving key a b v (at + (n - n / 2) * t) (n / 2)
      halving_step t one none = elim (le_or_lt v (key (at + (n - n / 2) - 1))) [
        | inl k ↦ subst (λ (x : ℕ). Halving key a b v (at + (n - n / 2) * x) (n / 2)) (sym (none k)) (rw (mul-zero, add-zero) (halving_stay k))
        | inr k ↦ subst (λ (x : ℕ). Halving key a b v (at + (n - n / 2) * x) (n / 2)) (sym (one k)) (rw mul-one (halving_up k))
      ]

-- ---- the words at the indices from a on and before b as a part of their own: where they ascend, those below v come first, and the first of the others is the index sought
module _ (words part : List ℕ) (a b v : ℕ) (e : part ≡ take (b - a) (drop a words)) (h : a ≤ b) (k : b ≤ length words) where
  part-length : length part ≡ b - a
  part-length = ap length e ∙ length-take-le (b - a) (drop a words) (omega (arith, length-drop a words))

  part_get : (i d : ℕ) → i < b - a → get_or part i d ≡ word_at words (a + i)
  part_get i d g =
      ap (λ (l : List ℕ). get_or l i d) e
      ∙ get_or-take (b - a) (drop a words) i d g
      ∙ get_or-drop a words i d
      ∙ get_or_default words (a + i) d 0 (omega arith)

  pub part_lower_bound : (i : ℕ) → i ≤ length part → (IsPartitionedBy (λ y. ltb y v) part → IsPartitionPoint (λ y. ltb y v ≡ true) (λ y. ltb y v ≡ false) part i) → Ascending (word_at words) a b → LowerBound (word_at words) a b v (a + i)
  part_lower_bound i g point o =
      let q = point (λ m n d p l t.
      let x = part_get m d (omega (arith, part-length)) in
      let y = part_get n d (omega (arith, part-length)) in
      lt-ltb (get_or part m d) v (omega (arith, x, y, ltb-true (get_or part n d) v t, o (a + m) (a + n) (omega arith) (omega arith) (omega (arith, part-length))))) in
      record {
        from = omega arith;
        to = omega (arith, part-length);
        below = λ j p l.
            let m : a + (j - a) ≡ j = omega arith in
            let x = part_get (j - a) 0 (omega (arith, part-length)) in
            subst (λ (z : ℕ). word_at words z < v) m (omega (arith, x, ltb-true (get_or part (j - a) 0) v (q.0 (j - a) 0 (omega arith) (omega arith))));
        above = λ j p l.
            let m : a + (j - a) ≡ j = omega arith in
            let x = part_get (j - a) 0 (omega arith) in
            subst (λ (z : ℕ). v ≤ word_at words z) m (omega (arith, x, ltb-false (get_or part (j - a) 0) v (q.1 (j - a) 0 (omega arith) (omega (arith, part-length)))));
      }

-- for nodes the step is a quotient
module _ (words : List ℕ) (a b id at n : ℕ) (s : Halving (node_of words) a b id at n) (h : 0 < n) (small : id < 4294967296) where
  pub nodes_halved : Halving (node_of words) a b id (at + (n - n / 2) * ((id + 4294967295 - node_of words (at + (n - n / 2) - 1)) / 4294967296)) (n / 2)
  nodes_halved = halving_step (node_of words) a b id at n s h _ (λ k. omega arith) (λ k. omega arith)

-- ---- the range of a net: between its least word and the least word of the next net
module _ (words : List ℕ) (k net from : ℕ) (f : LowerBound (word_at words) 0 k (net * 4294967296) from) where
  -- no word of the net is before it
  own-from : (i : ℕ) → word_at words i / 4294967296 ≡ net → from ≤ i
  own-from i e = elim (le_or_lt from i) [ inl p ↦ p | inr p ↦ absurd (omega (arith, f.below i (omega arith) p)) ]

  pub own-between : (to : ℕ) → LowerBound (word_at words) from k ((net + 1) * 4294967296) to → Own words k net (record { from = from; to = to })
  own-between to t = record {
    ordered = t.from;
    inside = t.to;
    own = λ i p q. omega (arith, f.above i p (omega (arith, t.to)), t.below i p q);
    others = λ i h e. (own-from i e, elim (le_or_lt to i) [ inl p ↦ absurd (omega (arith, t.above i p h)) | inr p ↦ p ]);
  }

  -- no words follow those of the last net
  pub own-last : net ≡ 4294967295 → ((i : ℕ) → word_at words i < 2 ^ 64) → Own words k net (record { from = from; to = k })
  own-last last fit = record { ordered = f.to; inside = omega arith; own = λ i p q. omega (arith, f.above i p q, fit i); others = λ i h e. (own-from i e, h) }

-- the range of a net can be searched by node
nodes_ascend : (words : List ℕ) (k net : ℕ) (r : Range) → Rising words k → Own words k net r → Ascending (node_of words) r.from r.to
nodes_ascend words k net r h o i j p q t = omega (arith, o.own i p (omega arith), o.own j (omega arith) t, h.order i j (omega arith) q (omega (arith, o.inside)))

-- the range found among the first k words is that of the net's exemptions
pub listed_of : (packed : List ℕ) (k net : ℕ) (range : Range) → Own packed k net range → (ex : List Exemption) → Holds packed ex → length ex ≡ k → Listed packed ex net range
listed_of packed k net range o ex h e = record { holds = h; places = subst (λ (z : ℕ). Own packed z net range) (sym e) o }

-- ---- what a search finds
module _ (words : List ℕ) (ex : List Exemption) (net : ℕ) (r : Range) (l : Listed words ex net r) (id : ℕ) where
  -- a word is the exemption of the net and the node
  test : ℕ → Bool
  test u = eqb (unpacked u).net net && eqb (unpacked u).node id

  by-words : exempt ex net id ≡ some_of test (take (length ex) words)
  unfolding exempt test
  by-words = sym (sym (some-map (λ e. eqb e.net net && eqb e.node id) unpacked (take (length ex) words)) ∙ perm-some (λ e. eqb e.net net && eqb e.node id) l.holds.same)

  passes : (u : ℕ) → (unpacked u).net ≡ net → (unpacked u).node ≡ id → test u ≡ true
  unfolding test
  passes u a b = and_both (eqb (u / 4294967296) net) (eqb (u % 4294967296) id) (eq-eqb (u / 4294967296) net a) (eq-eqb (u % 4294967296) id b)

  passes-only : (u : ℕ) → test u ≡ true → ((unpacked u).net ≡ net) × ((unpacked u).node ≡ id)
  unfolding test
  passes-only u t = (eqb-true (u / 4294967296) net (and_left (eqb (u / 4294967296) net) (eqb (u % 4294967296) id) t), eqb-true (u % 4294967296) id (and_right (eqb (u / 4294967296) net) (eqb (u % 4294967296) id) t))

  pub listed : (i : ℕ) → i < length ex → (unpacked (get_or words i 0)).net ≡ net → node_of words i ≡ id → true ≡ exempt ex net id
  listed i h a b = elim (decide (some_of test (take (length ex) words))) [
    | inl t ↦ sym (by-words ∙ t)
    | inr f ↦ clash (test (get_or words i 0)) (passes (get_or words i 0) a b) (first-at (λ u. test u ≡ false) 0 (length ex) words l.holds.rising.room (none-all test (take (length ex) words) f) i h)
  ]

  pub unlisted : ((i : ℕ) → i < length ex → (unpacked (get_or words i 0)).net ≡ net → node_of words i ≡ id → ⊥) → false ≡ exempt ex net id
  unlisted n = elim (decide (some_of test (take (length ex) words))) [
    | inl t ↦
        let w = some_mem test (take (length ex) words) t in
        let z = passes-only w.0 w.2 in
        absurd (all_mem (λ u. (unpacked u).net ≡ net → (unpacked u).node ≡ id → ⊥) (take (length ex) words) (at_first (λ u. (unpacked u).net ≡ net → (unpacked u).node ≡ id → ⊥) 0 (length ex) words l.holds.rising.room n) w.0 w.1 z.0 z.1)
    | inr f ↦ sym (by-words ∙ f)
  ]

  pub none-there : r.to ≤ r.from → false ≡ exempt ex net id
  none-there e = unlisted (λ i h a b. let z = l.places.others i h a in omega arith)

  -- the range does not extend beyond the words
  pub never_beyond : length words < r.to → false ≡ exempt ex net id
  never_beyond h = absurd (omega (arith, l.places.inside, l.holds.rising.room))

  order : Ascending (node_of words) r.from r.to
  order = nodes_ascend words (length ex) net r l.holds.rising l.places

  module _ (at : ℕ) (search : Ascending (node_of words) r.from r.to → LowerBound (node_of words) r.from r.to id at) where
    b : LowerBound (node_of words) r.from r.to id at
    b = search order

    pub not_found : r.to ≤ at → false ≡ exempt ex net id
    not_found h = unlisted (λ i k a g. let z = l.places.others i k a in omega (arith, b.below i z.0 (omega arith)))

    pub found : at < r.to → eqb (node_of words at) id ≡ exempt ex net id
    found h = elim (decide (eqb (node_of words at) id)) [
      | inl t ↦ t ∙ listed at (omega (arith, l.places.inside)) (l.places.own at b.from h) (eqb-true (node_of words at) id t)
      | inr f ↦ f ∙ unlisted (λ i k a g. eqb-false (node_of words at) id f (same i k a g))
    ]
      where
        same : (i : ℕ) → i < length ex → (unpacked (get_or words i 0)).net ≡ net → node_of words i ≡ id → node_of words at ≡ id
        same i k a g = let z = l.places.others i k a in elim (le_or_lt at i) [
          | inl p ↦ omega (arith, b.above at (omega arith) h, order at i b.from p z.1)
          | inr p ↦ absurd (omega (arith, b.below i z.0 p))
        ]

-- ---- columns that pass the check of their lengths agree
pub exemptions-agree : (e : ExemptionColumns) → exemptions_differ e ≡ false → ExemptionsAgree e
unfolding exemptions_differ differ
exemptions-agree e h =
    let a = none-all (λ (m : ℕ). not (eqb (length e.net) m)) (length e.node ∷ []) h in
    record { node = sym (eqb-true (length e.net) (length e.node) (not-false (eqb (length e.net) (length e.node)) a.0)) }

-- ---- gathering: the words are written one by one
abbrev packed : Exemption → ℕ
packed e = word e.net e.node

exemptions_get : (ns ms : List ℕ) → length ms ≡ length ns → (z : Exemption) (i : ℕ) → i < length ns → get_or (exemptions_of ns ms) i z ≡ record { net = get_or ns i 0; node = get_or ms i 0 }
unfolding exemptions_of
exemptions_get [] ms p z i h = absurd (not-suc-le-zero h)
exemptions_get (n ∷ ns) [] p z i h = absurd (omega arith)
exemptions_get (n ∷ ns) (m ∷ ms) p z zero h = refl
exemptions_get (n ∷ ns) (m ∷ ms) p z (suc i) h = exemptions_get ns ms (omega arith) z i (le_of_suc-le-suc h)

abbrev exemption_at : ExemptionColumns → ℕ → Exemption
exemption_at c i = record { net = get_or c.net i 0; node = get_or c.node i 0 }

pub record Packing (c : ExemptionColumns) (s₀ s : List ℕ) (i : ℕ) : Type 0 where
  pub agree : ExemptionsAgree c
  pub small : (j : ℕ) → j < i → get_or c.node j 0 < 4294967296
  pub written : Written s₀ 0 (map packed (exemptions c)) s i

module _ (c : ExemptionColumns) (s₀ : List ℕ) where
  pub packing_start : ExemptionsAgree c → length c.net ≤ length s₀ → Packing c s₀ s₀ 0
  packing_start a h = record { agree = a; small = λ j g. absurd (omega arith); written = written_none packed s₀ 0 (exemptions c) (omega (arith, length-exemptions c a)) }

  module _ (s : List ℕ) (i : ℕ) (p : Packing c s₀ s i) where
    pub packing_next : i < length c.net → get_or c.node i 0 < 4294967296 → (v : ℕ) → v ≡ packed (exemption_at c i) → Packing c s₀ (set s i v) (i + 1)
    packing_next h g v e = record {
      agree = p.agree;
      small = below_more (λ j. get_or c.node j 0 < 4294967296) i p.small g;
      written = rw zero-add at (written_next packed s₀ 0 (exemptions c) (exemption_at c i) s i v p.written (omega (arith, length-exemptions c p.agree)) (e ∙ sym (ap packed (exemptions_get c.net c.node p.agree.node (exemption_at c i) i h))));
    }

-- ---- and put in order: with a table whose rows are empty, the words themselves are compared
by_word : (s : List ℕ) (t i j : ℕ) → t ≤ length s → leb i j ≡ before (drop t s) 0 i j
by_word s t i j h = compare_end s t 0 i j (t + i * 0) (t + j * 0) 0 (compare_start s t 0 i j h (row i) (row j)) (omega arith)
  where
    row : (i : ℕ) → leb (i * 0 + 0) (length (drop t s)) ≡ true
    row i = le-leb (i * 0 + 0) (length (drop t s)) (omega (arith, mul-zero i))

module _ (s : List ℕ) (n : ℕ) (h : n ≤ length s) where
  pub words-sortable : sortable s n n 0 ≡ true
  words-sortable = sym (no_rows s n n 0 (omega arith) h refl)

  pub words-rising : Rising (sorted s n n 0) n
  words-rising = record { room = omega (arith, sorted-length s n n 0); order = λ i j z p q. order i j p q }
    where
      t : List ℕ
      t = sorted s n n 0

      in_order : Sorted (before (drop n s) 0) (take n t)
      in_order = subst (Sorted (before (drop n s) 0)) (sym (sorted-column s n n 0 words-sortable)) (sort_sorted (before (drop n s) 0) (before-order (drop n s) 0) (take n s))

      order : (i j : ℕ) → i ≤ j → j < n → get_or t i 0 ≤ get_or t j 0
      order i j p q = subst (λ (x : ℕ). x ≤ get_or t j 0) (get_or-take n t i 0 (omega arith)) (subst (λ (x : ℕ). get_or (take n t) i 0 ≤ x) (get_or-take n t j 0 q)
          (sorted-at (before (drop n s) 0) ◌≤◌ le_refl (λ x y e. leb-true x y (by_word s n x y h ∙ e)) 0 (take n t) in_order i j p (omega (arith, length-take-le n t (omega (arith, sorted-length s n n 0))))))

-- unpacking a packed exemption yields that exemption
unpacked_packed : (l : List Exemption) → All (λ e. e.node < 4294967296) l → map unpacked (map packed l) ≡ l
unpacked_packed [] h = refl
unpacked_packed (e ∷ l) h = λ i. one h.0 i ∷ unpacked_packed l h.1 i
  where
    one : e.node < 4294967296 → unpacked (packed e) ≡ e
    one b =
        let p : packed e / 4294967296 ≡ e.net = omega arith in
        let q : packed e % 4294967296 ≡ e.node = omega arith in
        λ i. record { net = p i; node = q i }

module _ (c : ExemptionColumns) (a : ExemptionsAgree c) where
  all_small : ((i : ℕ) → i < length c.net → get_or c.node i 0 < 4294967296) → All (λ e. e.node < 4294967296) (exemptions c)
  all_small small = at_all (λ e. e.node < 4294967296) (exemption_at c 0) (exemptions c)
      (λ i h. subst (λ (e : Exemption). e.node < 4294967296) (sym (exemptions_get c.net c.node a.node (exemption_at c 0) i (omega (arith, length-exemptions c a)))) (small i (omega (arith, length-exemptions c a))))

  pub gathered : (s₀ s s' : List ℕ) (i : ℕ) → Packing c s₀ s i → length c.net ≤ i → s' ≡ sorted s (length c.net) (length c.net) 0 → Gathered c s₀ s'
  gathered s₀ s s' i p h e = subst (Gathered c s₀) (sym (e ∙ ap (λ (k : ℕ). sorted s k k 0) (sym count))) (record {
    holds = record {
      rising = words-rising s m room;
      same = via (perm-map unpacked (sorted-perm s m m 0 (words-sortable s m room))) (perm-eq (ap (map unpacked) front ∙ unpacked_packed ex (all_small (λ j g. p.small j (omega arith)))));
    };
    count = count;
    rest = subst (λ (k : ℕ). drop k (sorted s m m 0) ≡ drop k s₀) count (sorted_rest s m m 0 (words-sortable s m room) ∙ back);
  })
    where
      ex : List Exemption
      ex = exemptions c

      m : ℕ
      m = length ex

      count : m ≡ length c.net
      count = length-exemptions c a

      wide : length (map packed ex) ≡ m
      wide = length-map ex packed

      room : m ≤ length s
      room = omega (arith, p.written.fits, p.written.len, wide)

      is : s ≡ paste s₀ 0 (map packed ex) m
      is = written_all packed s₀ 0 ex s i p.written (omega (arith, count))

      front : take m s ≡ map packed ex
      front = ap (take m) is ∙ ap (λ (k : ℕ). take k (paste s₀ 0 (map packed ex) m)) (sym (zero-add m)) ∙ take-paste s₀ 0 (map packed ex) m (omega arith) (omega (arith, wide)) ∙ take_all m (map packed ex) (omega (arith, wide))

      back : drop m s ≡ drop m s₀
      back = ap (drop m) is ∙ ap (λ (k : ℕ). drop k (paste s₀ 0 (map packed ex) m)) (sym (zero-add m)) ∙ drop-paste s₀ 0 (map packed ex) m (omega arith) (omega (arith, wide)) ∙ ap (λ (k : ℕ). drop k s₀) (zero-add m)
