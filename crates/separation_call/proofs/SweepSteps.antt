-- The steps of the sweep as the code takes them: a search's answer joined to the figures, what a start searches, and a paid `set`. Assumes nothing.
use Rattle.drawing.specs.declared.refusal.Refusal.TheVariants.{WorkLimitExceeded}
use Rattle.drawing.specs.declared.refusal.Refusal.{Refusal}
use Rattle.std.specs.Prelude.{Option, Result, Ok, Err, None, Some}
use mathlib.Core.Path.{◌≡◌, refl, sym, ap, ◌∙◌}
use mathlib.Core.Bool.{Bool, true, false, ◌&&◌}
use mathlib.Core.List.{List}
use Prim.Native.Nat.{ℕ, zero, suc, ◌+◌, ◌*◌, ◌^◌, ◌≤◌, ◌<◌}
use native.Mathlib.Nat.{pow-succ'}
use native.Mathlib.Omega.{arith}
use lib.Dec.{ltb}
use lib.Ieee.{Float}
use lib.ListN.{length, get_or, take}
use lib.Seq.{get_or-take}
use Rattle.laws.specs.Charged.{Charged, free, visit, after}
use Rattle.laws.specs.Inner.Allowance.{Outcome, spent, left, within, onward}
use Rattle.laws.proofs.Places.{at_mem}
use Rattle.laws.proofs.Runs.{within-free, within-after, within-left, onward-spent, onward-left}
use Rattle.floats.specs.Values.{gap_of}
use Rattle.floats.specs.TotalOrder.{float_at}
use Rattle.drawing.specs.Inner.LeastFloats.{Number}
use Rattle.rows.specs.Rows.{Row}
use Rattle.separation.specs.declared.search.Search.{Search}
use Rattle.separation.specs.Figures.{Figures}
use Rattle.separation.specs.Lines.{index}
use Rattle.separation.specs.Searches.{other_in, search_leaf, search_node, rightmost, leftmost, set_run}
use Rattle.separation.specs.Inner.Searches.{search_of}
use Rattle.separation.specs.Inner.Summaries.{summary_has_other}
use Rattle.separation.specs.Walk.{own_line, other_line, with_nearest}
use Rattle.separation.proofs.Lines.{other→, other_widen}
use Rattle.separation.proofs.Searches.{Best, In, Below, From, right_best, left_best}
use Rattle.separation.proofs.States.{went_on, stopped, gives_on, gap_joins}
use Rattle.separation.specs.declared.state.Sweeping.{Sweeping}
use Rattle.separation_call.specs.Inner.ActiveTree.{summary_at, other_net_of, charge_of, Covers}
use Rattle.separation.specs.Inner.States.{met_by, Gives, with_gap, gap_met}
use Rattle.separation_call.specs.Inner.Sweeping.{WithinLines, Gapped, joined, Lined}
use Rattle.separation_call.proofs.StoredSearches.{was_spent, was_paid}
use Rattle.separation_call.proofs.Trees.{stored-right, stored-left}

-- ---- a search's answer joined to the figures
module _ (ls : List ℕ) (line : ℕ) (st : Sweeping) (o : Outcome (Option ℕ)) (search : Result Search Refusal) (e : search ≡ search_of o) where
  pub joined-spent : (x : Refusal) → search ≡ Err x → Gives (Err WorkLimitExceeded) (joined ls (get_or ls line 0) (met_by st) o)
  joined-spent x h = (refl, rw (was_spent o x (sym h ∙ e)).1 (onward-spent _))

  module _ (a : Search) (h : search ≡ Ok a) where
    answered : (v : Option ℕ) → a.line ≡ v → o ≡ left v a.remaining
    answered v f = was_paid o a (sym h ∙ e) ∙ ap (λ (z : Option ℕ). left z a.remaining) f

    pub joined-empty : a.line ≡ None → Gives (Ok (record { minimum = st.minimum; minimum_positive = st.minimum_positive; remaining = a.remaining })) (joined ls (get_or ls line 0) (met_by st) o)
    joined-empty f = rw (answered None f) (onward-left None a.remaining _)

    pub joined-found : (fixed : List ℕ) (i : ℕ) (there here : Float) (t : Sweeping) → a.line ≡ Some i → take (length ls) fixed ≡ ls → WithinLines search line (length ls) → Gapped ls
        → there ≡ float_at (get_or fixed i 0) → here ≡ float_at (get_or fixed line 0) → t ≡ gap_met (gap_of there here) a.remaining st
        → Gives (Ok t) (joined ls (get_or ls line 0) (met_by st) o)
    joined-found fixed i there here t k f w gaps p q g =
        let at : (k : ℕ) → k < length ls → get_or fixed k 0 ≡ get_or ls k 0 = λ k b. sym (get_or-take (length ls) fixed k 0 b) ∙ ap (λ (l : List ℕ). get_or l k 0) f in
        let far : there ≡ float_at (get_or ls i 0) = p ∙ ap float_at (at i (w.found a i h k)) in
        let near : here ≡ float_at (get_or ls line 0) = q ∙ ap float_at (at line w.own) in
        let number : Number (gap_of there here) = rw (far, near) (gaps (get_or ls i 0) (get_or ls line 0) (at_mem ls i 0 (w.found a i h k)) (at_mem ls line 0 w.own)) in
        let met : met_by t ≡ with_gap (gap_of (float_at (get_or ls i 0)) (float_at (get_or ls line 0))) (met_by st) = ap met_by g ∙ gap_joins st a.remaining (gap_of there here) number ∙ (λ j. with_gap (gap_of (far j) (near j)) (met_by st)) in
        rw (answered (Some i) k) (onward-left (Some i) a.remaining _) ∙ (λ j. left (sym met j) (sym (ap (λ (z : Sweeping). z.remaining) g) j))

-- ---- where a search finds something
found-leaf : (t : Bool) (s i : ℕ) → (search_leaf t s).value ≡ Some i → i ≡ s
found-leaf true s i e = cc
found-leaf false s i e = cc

found-node : (t : Bool) (one two : Charged (Option ℕ)) (P : ℕ → Type 0) (i : ℕ) → (one.value ≡ Some i → P i) → (two.value ≡ Some i → P i) → (search_node t one two).value ≡ Some i → P i
found-node false one two P i f g e = absurd (let z : ◌≡◌ {A = ℕ} 0 1 = cc in omega arith)
found-node true one two P i f g e = go one.value refl e
  where
    go : (v : Option ℕ) → one.value ≡ v → (search_node true (record { value = v; cost = one.cost }) two).value ≡ Some i → P i
    go None h e = g e
    go (Some j) h e = f (h ∙ e)

module _ (has : ℕ → ℕ → ℕ → Bool) (q : ℕ) where
  right-inside : (h k s i : ℕ) → (rightmost has q h k s).value ≡ Some i → i < s + 2 ^ h
  unfolding rightmost
  right-inside zero k s i e = omega (arith, found-leaf (ltb s q && has k s (s + 1)) s i e)
  right-inside (suc h) k s i e =
      let w = pow-succ' 2 h in
      found-node (ltb s q && has k s (s + 2 ^ suc h)) (rightmost has q h (2 * k + 1) (s + 2 ^ h)) (rightmost has q h (2 * k) s) (λ j. j < s + 2 ^ suc h) i
      (λ g. omega (arith, right-inside h (2 * k + 1) (s + 2 ^ h) i g)) (λ g. omega (arith, right-inside h (2 * k) s i g)) e

  left-inside : (h k s i : ℕ) → (leftmost has q h k s).value ≡ Some i → i < s + 2 ^ h
  unfolding leftmost
  left-inside zero k s i e = omega (arith, found-leaf (ltb q (s + 1) && has k s (s + 1)) s i e)
  left-inside (suc h) k s i e =
      let w = pow-succ' 2 h in
      found-node (ltb q (s + 2 ^ suc h) && has k s (s + 2 ^ suc h)) (leftmost has q h (2 * k) s) (leftmost has q h (2 * k + 1) (s + 2 ^ h)) (λ j. j < s + 2 ^ suc h) i
      (λ g. omega (arith, left-inside h (2 * k) s i g)) (λ g. omega (arith, left-inside h (2 * k + 1) (s + 2 ^ h) i g)) e

found-value : (m i : ℕ) (a : Search) (c : Charged (Option ℕ)) (search : Result Search Refusal) → search ≡ search_of (within m c) → search ≡ Ok a → a.line ≡ Some i → c.value ≡ Some i
found-value m i a c search e h f = (within-left m c (Some i) a.remaining (was_paid (within m c) a (sym h ∙ e) ∙ ap (λ (v : Option ℕ). left v a.remaining) f)).1

-- the line and what a search found are within the leaves
module _ (leaves line n left : ℕ) (search : Result Search Refusal) (has : ℕ → ℕ → ℕ → Bool) (q H : ℕ) (count : leaves ≡ 2 ^ H) (own : line < leaves) (room : leaves ≤ n) where
  pub right-within : search ≡ search_of (within left (rightmost has q H 1 0)) → WithinLines search line n
  right-within e = record { own = omega arith; found = λ a i h f. omega (arith, right-inside has q H 1 0 i (found-value left i a (rightmost has q H 1 0) search e h f)) }

  pub left-within : search ≡ search_of (within left (leftmost has q H 1 0)) → WithinLines search line n
  left-within e = record { own = omega arith; found = λ a i h f. omega (arith, left-inside has q H 1 0 i (found-value left i a (leftmost has q H 1 0) search e h f)) }

-- ---- what `has_other_at` answers
was_unpaid : (o : Outcome Bool) (x : Refusal) → Err x ≡ other_net_of o → (x ≡ WorkLimitExceeded) × (o ≡ spent)
unfolding other_net_of
was_unpaid spent x e = (cc, refl)
was_unpaid (left b m) x e = cc

was_known : (o : Outcome Bool) (b : Bool) (m : ℕ) → Ok (b, m) ≡ other_net_of o → o ≡ left b m
unfolding other_net_of
was_known spent b m e = cc
was_known (left c n) b m e = let z : (c, n) ≡ (b, m) = cc in ap (λ (p : Bool × ℕ). left p.0 p.1) z

-- ---- what a start searches, within an allowance
module _ (ls : List ℕ) (h : ℕ) (active : List Row) (f : Figures) (x : Row) where
  abbrev place : ℕ
  place = index ls x.line

  abbrev has : ℕ → ℕ → Bool
  has = other_in ls active x.net

  abbrev own : Bool
  own = has place (suc place)

  -- the runs after `has_other_at`, each with what is known by then
  abbrev above : Figures → Charged Figures
  above g = after (leftmost (λ k. has) (suc place) h 1 0) (λ v. free (other_line ls x.line v g))

  abbrev below : Bool → Charged Figures
  below b = after (rightmost (λ k. has) place h 1 0) (λ v. above (other_line ls x.line v (own_line b f)))

  then-joined : (m : ℕ) (c : Charged (Option ℕ)) (g : Figures) → within m (after c (λ v. free (other_line ls x.line v g))) ≡ joined ls x.line g (within m c)
  then-joined m c g = within-after m c (λ v. free (other_line ls x.line v g)) ∙ (λ i. onward (within m c) (λ v r. within-free r (other_line ls x.line v g) i))

  pub nearest_spent : (m : ℕ) → within m (visit (free own)) ≡ spent → within m (with_nearest ls h active f x) ≡ spent
  unfolding with_nearest
  nearest_spent m e = within-after m (visit (free own)) below ∙ rw e (onward-spent (λ b r. within r (below b)))

  onward-joined : (o : Outcome (Option ℕ)) (g : Figures) (k : Figures → ℕ → Outcome Figures) → onward o (λ v r. k (other_line ls x.line v g) r) ≡ onward (joined ls x.line g o) k
  unfolding onward
  onward-joined spent g k = refl
  onward-joined (left v m) g k = refl

  pub nearest_paid : (n m : ℕ) (b : Bool) → within n (visit (free own)) ≡ left b m → within n (with_nearest ls h active f x) ≡ onward (joined ls x.line (own_line b f) (within m (rightmost (λ k. has) place h 1 0))) (λ g r. joined ls x.line g (within r (leftmost (λ k. has) (suc place) h 1 0)))
  unfolding with_nearest
  nearest_paid n m b e =
      within-after n (visit (free own)) below
      ∙ rw e (onward-left b m (λ b r. within r (below b)))
      ∙ within-after m (rightmost (λ k. has) place h 1 0) (λ v. above (other_line ls x.line v (own_line b f)))
      ∙ (λ i. onward (within m (rightmost (λ k. has) place h 1 0)) (λ v r. then-joined r (leftmost (λ k. has) (suc place) h 1 0) (other_line ls x.line v (own_line b f)) i))
      ∙ onward-joined (within m (rightmost (λ k. has) place h 1 0)) (own_line b f) (λ g r. joined ls x.line g (within r (leftmost (λ k. has) (suc place) h 1 0)))

-- ---- `look`: the own line, the search below, the search above
module _ (tree fixed : List ℕ) (leaves line net : ℕ) (st : Sweeping) (ls : List ℕ) (H : ℕ) (active : List Row) (x : Row)
    (count : leaves ≡ 2 ^ H) (covers : Covers ls active (summary_at tree) H) (values : take (length ls) fixed ≡ ls) (lined : Lined ls H active x line net) where
  abbrev stored : ℕ → ℕ → ℕ → Bool
  stored k a b = summary_has_other (summary_at tree k) net

  abbrev others : ℕ → ℕ → ℕ → Bool
  others k = other_in ls active x.net

  right-stored : rightmost stored line H 1 0 ≡ rightmost others (index ls x.line) H 1 0
  right-stored = rw (sym lined.of, sym lined.place) (stored-right ls active (summary_at tree) H covers x.net (index ls x.line))

  left-stored : leftmost stored (line + 1) H 1 0 ≡ leftmost others (suc (index ls x.line)) H 1 0
  left-stored =
      let e : line + 1 ≡ suc (index ls x.line) = omega (arith, lined.place) in
      rw (e, sym lined.of) (stored-left ls active (summary_at tree) H covers x.net (suc (index ls x.line)))

  -- the leaf of the own line
  own-stored : summary_has_other (summary_at tree (leaves + line)) net ≡ other_in ls active x.net (index ls x.line) (suc (index ls x.line))
  own-stored =
      let room : line + 1 ≤ 2 ^ H = omega (arith, lined.there, lined.enough) in
      let number : (2 ^ H + line) * 1 ≡ 2 ^ H + line = omega arith in
      let c = covers 0 (2 ^ H + line) line (record { number = number; room = room }) x.net in
      let s : line + 1 ≡ suc (index ls x.line) = omega (arith, lined.place) in
      (λ i. summary_has_other (summary_at tree (count i + line)) (sym lined.of i)) ∙ c ∙ (λ i. other_in ls active x.net (sym lined.place i) (s i))

  -- what a search finds is a line
  a-line : (i : ℕ) → other_in ls active x.net i (i + 1) ≡ true → i < length ls
  a-line i t = let g = other→ ls active x.net i (i + 1) t in omega (arith, g.2.1, g.2.2, lined.actives g.0 g.1)

  right-line : (v : Option ℕ) (i : ℕ) → Best (In 0 (2 ^ H)) (Below (other_in ls active x.net) (index ls x.line)) (λ i j. i < j) v → v ≡ Some i → i < length ls
  right-line None i b e = absurd (let z : ◌≡◌ {A = ℕ} 0 1 = cc in omega arith)
  right-line (Some j) i b e = let k : j ≡ i = cc in omega (arith, a-line j b.1.1)

  left-line : (v : Option ℕ) (i : ℕ) → Best (In 0 (2 ^ H)) (From (other_in ls active x.net) (suc (index ls x.line))) (λ i j. j < i) v → v ≡ Some i → i < length ls
  left-line None i b e = absurd (let z : ◌≡◌ {A = ℕ} 0 1 = cc in omega arith)
  left-line (Some j) i b e = let k : j ≡ i = cc in omega (arith, a-line j b.1.1)

  right-lines : (m : ℕ) (search : Result Search Refusal) → search ≡ search_of (within m (rightmost stored line H 1 0)) → WithinLines search line (length ls)
  right-lines m search e = record {
    own = lined.there;
    found = λ a i h f. right-line _ i (right_best (other_in ls active x.net) (other_widen ls active x.net) (index ls x.line) H 1 0)
        (ap (λ (c : Charged (Option ℕ)). c.value) (sym right-stored) ∙ found-value m i a (rightmost stored line H 1 0) search e h f);
  }

  left-lines : (m : ℕ) (search : Result Search Refusal) → search ≡ search_of (within m (leftmost stored (line + 1) H 1 0)) → WithinLines search line (length ls)
  left-lines m search e = record {
    own = lined.there;
    found = λ a i h f. left-line _ i (left_best (other_in ls active x.net) (other_widen ls active x.net) (suc (index ls x.line)) H 1 0)
        (ap (λ (c : Charged (Option ℕ)). c.value) (sym left-stored) ∙ found-value m i a (leftmost stored (line + 1) H 1 0) search e h f);
  }

  -- the answer of `with_search`, for a search's answer
  abbrev Joins : Sweeping → Result Search Refusal → Result Sweeping Refusal → Type 0
  Joins t search r = (ls : List ℕ) (o : Outcome (Option ℕ)) → search ≡ search_of o → take (length ls) fixed ≡ ls → WithinLines search line (length ls) → Gapped ls → Gives r (joined ls (get_or ls line 0) (met_by t) o)

  -- `has_other_at` was answered
  module _ (at : Result (Bool × ℕ) Refusal) (told : at ≡ other_net_of (within st.remaining (visit (free (summary_has_other (summary_at tree (leaves + line)) net))))) where
    own_run : within st.remaining (visit (free (summary_has_other (summary_at tree (leaves + line)) net))) ≡ within st.remaining (visit (free (other_in ls active x.net (index ls x.line) (suc (index ls x.line)))))
    own_run = ap (λ (b : Bool). within st.remaining (visit (free b))) own-stored

    pub look_none : (y : Refusal) → at ≡ Err y → Gives (Err y) (within st.remaining (with_nearest ls H active (met_by st) x))
    look_none y e = let k = was_unpaid _ y (sym e ∙ told) in (k.0, nearest_spent ls H active (met_by st) x st.remaining (sym own_run ∙ k.1))

    module _ (own : Bool) (begun : Sweeping) (rest : ℕ) (known : at ≡ Ok (own, rest)) (search : Result Search Refusal) (handled : Result Sweeping Refusal) (b : met_by begun ≡ own_line own (met_by st)) (d : begun.remaining ≡ rest)
        (s : (K : ℕ) → leaves ≡ 2 ^ K → search ≡ search_of (within begun.remaining (rightmost stored line K 1 0))) (j : Joins begun search handled) where
      abbrev first : Outcome Figures
      first = joined ls x.line (own_line own (met_by st)) (within begun.remaining (rightmost others (index ls x.line) H 1 0))

      abbrev second : Figures → ℕ → Outcome Figures
      second g r = joined ls x.line g (within r (leftmost others (suc (index ls x.line)) H 1 0))

      first-is : Gives handled first
      first-is = gives_on handled _ _ (λ i. joined ls (lined.value i) (b i) (within begun.remaining (right-stored i)))
          (j ls (within begun.remaining (rightmost stored line H 1 0)) (s H count) values (right-lines begun.remaining search (s H count)) lined.gaps)

      whole : within st.remaining (with_nearest ls H active (met_by st) x) ≡ onward first second
      whole = nearest_paid ls H active (met_by st) x st.remaining begun.remaining own (sym own_run ∙ was_known _ own rest (sym known ∙ told) ∙ ap (left own) (sym d))

      pub look_stops : (y : Refusal) → handled ≡ Err y → Gives (Err y) (within st.remaining (with_nearest ls H active (met_by st) x))
      look_stops y e = let k = stopped handled y first e first-is in (k.0, whole ∙ rw k.1 (onward-spent second))

      pub look_on : (half : Sweeping) (above : Result Search Refusal) (r : Result Sweeping Refusal) → handled ≡ Ok half → ((K : ℕ) → leaves ≡ 2 ^ K → above ≡ search_of (within half.remaining (leftmost stored (line + 1) K 1 0))) → Joins half above r
          → Gives r (within st.remaining (with_nearest ls H active (met_by st) x))
      look_on half above r e t k =
          let then : joined ls (get_or ls line 0) (met_by half) (within half.remaining (leftmost stored (line + 1) H 1 0)) ≡ within st.remaining (with_nearest ls H active (met_by st) x) = (λ i. joined ls (lined.value i) (met_by half) (within half.remaining (left-stored i))) ∙ sym (whole ∙ rw (went_on handled half first e first-is) (onward-left (met_by half) half.remaining second)) in
          gives_on r _ _ then (k ls (within half.remaining (leftmost stored (line + 1) H 1 0)) (t H count) values (left-lines half.remaining above (t H count)) lined.gaps)

-- ---- a `set` that was charged, and one that was not
was_refused : (o : Outcome (Unit {0})) (x : Refusal) → Err x ≡ charge_of o → (x ≡ WorkLimitExceeded) × (o ≡ spent)
unfolding charge_of
was_refused spent x e = (cc, refl)
was_refused (left u m) x e = cc

was_charged : (o : Outcome (Unit {0})) (m : ℕ) → Ok m ≡ charge_of o → o ≡ left tt m
unfolding charge_of
was_charged spent m e = cc
was_charged (left u n) m e = let z : n ≡ m = cc in ap (left tt) z

module _ (st : Sweeping) (H : ℕ) (charge : Result ℕ Refusal) (told : charge ≡ charge_of (within st.remaining (set_run H))) where
  pub charge_stops : (x : Refusal) → charge ≡ Err x → Gives (Err x) (onward (within st.remaining (set_run H)) (λ done m. left (met_by st) m))
  charge_stops x e = let k = was_refused (within st.remaining (set_run H)) x (sym e ∙ told) in (k.0, rw k.1 (onward-spent _))

  pub charge_pays : (m : ℕ) → charge ≡ Ok m → Gives (Ok (record { minimum = st.minimum; minimum_positive = st.minimum_positive; remaining = m })) (onward (within st.remaining (set_run H)) (λ done m. left (met_by st) m))
  charge_pays m e = rw (was_charged (within st.remaining (set_run H)) m (sym e ∙ told)) (onward-left tt m _)
