-- The code's searches over the stored tree, step by step: what each of its returns answers. Assumes nothing.
use Rattle.drawing.specs.declared.refusal.Refusal.{Refusal}
use Rattle.drawing.specs.declared.refusal.Refusal.TheVariants.{WorkLimitExceeded}
use Rattle.std.specs.Prelude.{Option, None, Some, Result, Ok, Err, is_some}
use mathlib.Core.Path.{◌≡◌, refl, sym, ap, ◌∙◌}
use mathlib.Core.Logic.{◌⊎◌, inl, inr}
use mathlib.Core.Bool.{Bool, true, false, ◌&&◌, and-false}
use mathlib.Core.List.{List}
use Prim.Native.Nat.{ℕ, zero, suc, ◌+◌, ◌-◌, ◌*◌, ◌/◌, ◌^◌}
use native.Mathlib.Nat.{pow-succ'}
use native.Mathlib.Omega.{arith}
use lib.Dec.{ltb}
use lib.Pow.{pow_pos}
use Rattle.laws.specs.Charged.{Charged, free, visit}
use Rattle.laws.specs.Inner.Allowance.{Outcome, spent, left, within}
use Rattle.laws.proofs.Runs.{within-free, visit-spent, visit-paid}
use Rattle.separation.specs.declared.search.Search.{Search}
use Rattle.separation.specs.Searches.{search_leaf, search_node, rightmost, leftmost}
use Rattle.separation.specs.Inner.Searches.{search_of}
use Rattle.separation.specs.Inner.Summaries.{summary_has_other}
use Rattle.separation.proofs.Allowances.{answer-spent, answer-paid, leaf-spent, leaf-found, empty-paid, node-spent, first-spent, first_found, first-empty}
use Rattle.separation_call.specs.Inner.ActiveTree.{summary_at, other_net_of}

-- ---- an answer determines the outcome of the run
pub was_spent : (o : Outcome (Option ℕ)) (x : Refusal) → Err x ≡ search_of o → (x ≡ WorkLimitExceeded) × (o ≡ spent)
unfolding search_of
was_spent spent x e = (cc, refl)
was_spent (left found m) x e = cc

pub was_paid : (o : Outcome (Option ℕ)) (a : Search) → Ok a ≡ search_of o → o ≡ left a.line a.remaining
unfolding search_of
was_paid spent a e = cc
was_paid (left found m) a e = let z : a ≡ record { line = found; remaining = m } = cc in sym (ap (λ (k : Search). left k.line k.remaining) z)

-- ---- a visit is paid: the run within m continues within m - 1
pub paid-before : (m : ℕ) → (m ≡ 0 → ⊥) → m ≡ suc (m - 1)
paid-before m p = omega arith

-- ---- `has_other_at` costs one visit
module _ (m : ℕ) (b : Bool) where
  pub other_unpaid : m ≡ 0 → Err WorkLimitExceeded ≡ other_net_of (within m (visit (free b)))
  unfolding other_net_of
  other_unpaid e = sym (rw e (ap other_net_of (visit-spent (free b))))

  pub other_known : (m ≡ 0 → ⊥) → (other : Bool) → other ≡ b → Ok (other, m - 1) ≡ other_net_of (within m (visit (free b)))
  unfolding other_net_of
  other_known p other e = ap (λ (t : Bool). Ok (t, m - 1)) e ∙ sym (ap other_net_of (ap (λ (z : ℕ). within z (visit (free b))) (paid-before m p) ∙ visit-paid (m - 1) (free b) ∙ within-free (m - 1) b))

-- ---- a search continues
paid : (m : ℕ) → (m ≡ 0 → ⊥) → (run : Charged (Option ℕ)) (r : Result Search Refusal) → r ≡ search_of (within (suc (m - 1)) run) → r ≡ search_of (within m run)
paid m p run r e = e ∙ ap (λ (z : ℕ). search_of (within z run)) (sym (paid-before m p))

-- whether a line was found
pub some-line : (v : Option ℕ) → is_some v ≡ true → (i : ℕ) × (v ≡ Some i)
some-line (Some i) e = (i, refl)
some-line None e = absurd (let z : ◌≡◌ {A = ℕ} 0 1 = cc in omega arith)

pub no-line : (v : Option ℕ) → is_some v ≡ false → v ≡ None
no-line None e = refl
no-line (Some i) e = absurd (let z : ◌≡◌ {A = ℕ} 0 1 = cc in omega arith)

-- ---- a node whose children are searched: the first one's answer is returned, or the second one is searched with the remaining visits
module _ (one two : Charged (Option ℕ)) (a : Result Search Refusal) (m : ℕ) (p : m ≡ 0 → ⊥) (e : a ≡ search_of (within (m - 1) one)) where
  hand_spent : (x : Refusal) → a ≡ Err x → Err x ≡ search_of (within m (search_node true one two))
  hand_spent x h =
      let k = was_spent (within (m - 1) one) x (sym h ∙ e) in
      paid m p (search_node true one two) (Err x) (rw (first-spent one two (m - 1) k.1, k.0) (sym answer-spent))

  hand_found : (s : Search) (i : ℕ) → a ≡ Ok s → s.line ≡ Some i → Ok s ≡ search_of (within m (search_node true one two))
  hand_found s i h f =
      let k : within (m - 1) one ≡ left (Some i) s.remaining = was_paid (within (m - 1) one) s (sym h ∙ e) ∙ ap (λ (v : Option ℕ). left v s.remaining) f in
      paid m p (search_node true one two) (Ok s) (rw (first_found one two (m - 1) i s.remaining k) ((λ j. Ok (record { line = f j; remaining = s.remaining })) ∙ sym (answer-paid (Some i) s.remaining)))

  go_on : (s : Search) → a ≡ Ok s → s.line ≡ None → (b : Result Search Refusal) → b ≡ search_of (within s.remaining two) → b ≡ search_of (within m (search_node true one two))
  go_on s h f b g =
      let k : within (m - 1) one ≡ left None s.remaining = was_paid (within (m - 1) one) s (sym h ∙ e) ∙ ap (λ (v : Option ℕ). left v s.remaining) f in
      paid m p (search_node true one two) b (rw (first-empty one two (m - 1) s.remaining k) g)

-- ---- both searches by their direction: `rightmost` goes down from the query, `leftmost` up
pub data Way : Type 0 where
  down : Way
  up : Way

abbrev pub search : Way → (ℕ → ℕ → ℕ → Bool) → ℕ → ℕ → ℕ → ℕ → Charged (Option ℕ)
search down = rightmost
search up = leftmost

-- the leaves from s on, before e, reach into the query
abbrev pub reaches : Way → ℕ → ℕ → ℕ → Bool
reaches down q s e = ltb s q
reaches up q s e = ltb q e

-- the child that is searched first, of a node whose middle is m: its number, its first leaf and its end
abbrev pub child : Way → ℕ → ℕ
child down k = 2 * k + 1
child up k = 2 * k

abbrev pub from : Way → ℕ → ℕ → ℕ
from down s m = m
from up s m = s

abbrev pub to : Way → ℕ → ℕ → ℕ
to down m e = e
to up m e = m

-- the child that is searched second is the first one of the other direction
abbrev pub other : Way → Way
other down = up
other up = down

at_leaf : (w : Way) (has : ℕ → ℕ → ℕ → Bool) (q k s : ℕ) → search w has q 0 k s ≡ search_leaf (reaches w q s (s + 1) && has k s (s + 1)) s
unfolding rightmost leftmost
at_leaf down has q k s = refl
at_leaf up has q k s = refl

at-node : (w : Way) (has : ℕ → ℕ → ℕ → Bool) (q h k s : ℕ) → search w has q (suc h) k s ≡ search_node (reaches w q s (s + 2 ^ suc h) && has k s (s + 2 ^ suc h)) (search w has q h (child w k) (from w s (s + 2 ^ h))) (search w has q h (child (other w) k) (from (other w) s (s + 2 ^ h)))
unfolding rightmost leftmost
at-node down has q h k s = refl
at-node up has q h k s = refl

half : (h s e : ℕ) → e ≡ s + 2 ^ suc h → (s + e) / 2 ≡ s + 2 ^ h
half h s e x = omega (arith, pow-succ' 2 h)

child_end : (w : Way) (h s e : ℕ) → e ≡ s + 2 ^ suc h → to w ((s + e) / 2) e ≡ from w s ((s + e) / 2) + 2 ^ h
child_end down h s e x = omega (arith, half h s e x, pow-succ' 2 h)
child_end up h s e x = half h s e x

not_both : (a b : Bool) → (a ≡ false) ⊎ (b ≡ false) → (a && b) ≡ false
not_both a b (inl e) = rw e
not_both a b (inr e) = rw (e, and-false a)

-- a node whose children are searched
pub record Opened (w : Way) (t : List ℕ) (n q k s e m : ℕ) : Type 0 where
  pub some : m ≡ 0 → ⊥
  pub reached : reaches w q s e ≡ true
  pub active : summary_has_other (summary_at t k) n ≡ true
  pub wide : e - s ≡ 1 → ⊥

-- ---- a search from node k over the leaves from s on, before e, within m
abbrev others : List ℕ → ℕ → ℕ → ℕ → ℕ → Bool
others t n k a b = summary_has_other (summary_at t k) n

module _ (w : Way) (t : List ℕ) (n q : ℕ) where
  abbrev pub Searched : ℕ → ℕ → ℕ → ℕ → Result Search Refusal → Type 0
  Searched k s e m r = (h : ℕ) → e ≡ s + 2 ^ h → r ≡ search_of (within m (search w (others t n) q h k s))

  module _ (k s e m : ℕ) where
    pub search_spent : m ≡ 0 → Searched k s e m (Err WorkLimitExceeded)
    search_spent z zero x = rw (z, at_leaf w (others t n) q k s, leaf-spent) (sym answer-spent)
    search_spent z (suc h) x = rw (z, at-node w (others t n) q h k s, node-spent) (sym answer-spent)

    pub search_shut : (m ≡ 0 → ⊥) → (reaches w q s e ≡ false) ⊎ (summary_has_other (summary_at t k) n ≡ false) → Searched k s e m (Ok (record { line = None; remaining = m - 1 }))
    search_shut p o zero x = paid m p (search w (others t n) q 0 k s) (Ok (record { line = None; remaining = m - 1 })) (rw (at_leaf w (others t n) q k s, not_both _ _ (rw x at o), empty-paid (m - 1)) (sym (answer-paid None (m - 1))))
    search_shut p o (suc h) x = paid m p (search w (others t n) q (suc h) k s) (Ok (record { line = None; remaining = m - 1 })) (rw (at-node w (others t n) q h k s, not_both _ _ (rw x at o), empty-paid (m - 1)) (sym (answer-paid None (m - 1))))

    pub search-leaf : (m ≡ 0 → ⊥) → reaches w q s e ≡ true → summary_has_other (summary_at t k) n ≡ true → e - s ≡ 1 → Searched k s e m (Ok (record { line = Some s; remaining = m - 1 }))
    search-leaf p g o u zero x = paid m p (search w (others t n) q 0 k s) (Ok (record { line = Some s; remaining = m - 1 })) (rw (at_leaf w (others t n) q k s, rw x at g, o, leaf-found (m - 1) s) (sym (answer-paid (Some s) (m - 1))))
    search-leaf p g o u (suc h) x = absurd (omega (arith, pow-succ' 2 h, pow_pos h))

module _ {w : Way} {t : List ℕ} {n q k s e m : ℕ} (o : Opened w t n q k s e m) {a : Result Search Refusal} (first : Searched w t n q (child w k) (from w s ((s + e) / 2)) (to w ((s + e) / 2) e) (m - 1) a) where
  abbrev one : ℕ → Charged (Option ℕ)
  one h = search w (others t n) q h (child w k) (from w s ((s + e) / 2))

  abbrev two : ℕ → Charged (Option ℕ)
  two h = search w (others t n) q h (child (other w) k) (from (other w) s ((s + e) / 2))

  -- the search from the inner node is that of its children
  by_children : (b : Result Search Refusal) → ((h : ℕ) → e ≡ s + 2 ^ suc h → b ≡ search_of (within m (search_node true (one h) (two h)))) → Searched w t n q k s e m b
  by_children b f zero x = absurd (o.wide (omega arith))
  by_children b f (suc h) x = rw (at-node w (others t n) q h k s, rw x at o.reached, o.active, ← half h s e x) (f h x)

  pub hands_spent : {x : Refusal} → a ≡ Err x → Searched w t n q k s e m (Err x)
  hands_spent {x} g = by_children (Err x) (λ h y. hand_spent (one h) (two h) a m o.some (first h (child_end w h s e y)) x g)

  pub hands_found : {r : Search} → a ≡ Ok r → is_some r.line ≡ true → Searched w t n q k s e m (Ok r)
  hands_found {r} g f = let v = some-line r.line f in by_children (Ok r) (λ h y. hand_found (one h) (two h) a m o.some (first h (child_end w h s e y)) r v.0 g v.1)

  pub goes_on : {r : Search} → a ≡ Ok r → is_some r.line ≡ false → {b : Result Search Refusal} → Searched w t n q (child (other w) k) (from (other w) s ((s + e) / 2)) (to (other w) ((s + e) / 2) e) r.remaining b → Searched w t n q k s e m b
  goes_on {r} g f {b} second = by_children b (λ h y. go_on (one h) (two h) a m o.some (first h (child_end w h s e y)) r g (no-line r.line f) b (second h (child_end (other w) h s e y)))
