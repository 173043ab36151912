-- A search over a tree of h levels: what it finds, and that it touches at most 4 h + 1 nodes; a `set` touches h + 1. For a general level. Assumes nothing.
use Rattle.std.specs.Prelude.{Option, None, Some}
use mathlib.Core.Path.{◌≡◌, refl, ap, subst}
use mathlib.Core.Logic.{◌⊎◌, inl, inr}
use mathlib.Core.Bool.{Bool, true, false, ◌&&◌}
use Prim.Native.Nat.{ℕ, zero, suc, ◌+◌, ◌*◌, ◌^◌, ◌≤◌, ◌<◌}
use native.Mathlib.Nat.{le_refl, pow-succ'}
use native.Mathlib.Omega.{arith}
use borrow.Author.Tests.{ltb-true, lt-ltb}
use lib.Dec.{ltb}
use lib.Pow.{pow_pos}
use Rattle.laws.specs.Charged.{Charged}
use Rattle.laws.proofs.Tests.{clash, and_left, and_right, and_both, le_or_lt}
use Rattle.separation.specs.Searches.{search_leaf, search_node, rightmost, leftmost, set_run}

pub set-cost : (h : ℕ) → (set_run h).cost ≡ suc h
unfolding set_run
set-cost zero = refl
set-cost (suc h) = ap suc (set-cost h)

-- a search touches the node that it begins at
leaf-least : (t : Bool) (s : ℕ) → 1 ≤ (search_leaf t s).cost
leaf-least true s = le_refl 1
leaf-least false s = le_refl 1

node-least : (t : Bool) (one two : Charged (Option ℕ)) → 1 ≤ (search_node t one two).cost
node-least true one two = omega arith
node-least false one two = le_refl 1

module _ (has : ℕ → ℕ → ℕ → Bool) (q : ℕ) where
  pub right-least : (h k s : ℕ) → 1 ≤ (rightmost has q h k s).cost
  unfolding rightmost
  right-least zero k s = leaf-least (ltb s q && has k s (s + 1)) s
  right-least (suc h) k s = node-least (ltb s q && has k s (s + 2 ^ suc h)) (rightmost has q h (2 * k + 1) (s + 2 ^ h)) (rightmost has q h (2 * k) s)

  pub left-least : (h k s : ℕ) → 1 ≤ (leftmost has q h k s).cost
  unfolding leftmost
  left-least zero k s = leaf-least (ltb q (s + 1) && has k s (s + 1)) s
  left-least (suc h) k s = node-least (ltb q (s + 2 ^ suc h) && has k s (s + 2 ^ suc h)) (leftmost has q h (2 * k) s) (leftmost has q h (2 * k + 1) (s + 2 ^ h))

-- a search that found v at the cost c
abbrev found : Option ℕ → ℕ → Charged (Option ℕ)
found v c = record { value = v; cost = c }

-- ---- the cost at any node, whichever child is searched first
abbrev IsEmpty : Option ℕ → Type 0
IsEmpty None = Unit {0}
IsEmpty (Some i) = ⊥

-- Past: the node's range is outside of the query; Full: it is inside; Has: another net is active in it
record Costs (Past Full Has : Type 0) (h : ℕ) (r : Charged (Option ℕ)) : Type 0 where
  past : Past → (r.cost ≤ 1) × IsEmpty r.value
  sure : Full → Has → IsEmpty r.value → ⊥
  full_empty : Full → IsEmpty r.value → r.cost ≤ 1
  empty-cost : IsEmpty r.value → r.cost ≤ 2 * h + 1
  full_cost : Full → r.cost ≤ 2 * h + 1
  all-cost : r.cost ≤ 4 * h + 1

leaf_costs : {P F H : Type 0} (s : ℕ) (t : Bool) → (t ≡ true → P → ⊥) → (t ≡ false → F → H → ⊥) → Costs P F H 0 (search_leaf t s)
leaf_costs s true p n = record { past = λ x. absurd (p refl x); sure = λ f x e. e; full_empty = λ f e. absurd e; empty-cost = λ e. absurd e; full_cost = λ f. le_refl 1; all-cost = le_refl 1 }
leaf_costs s false p n = record { past = λ x. (le_refl 1, tt); sure = λ f x e. n refl f x; full_empty = λ f e. le_refl 1; empty-cost = λ e. le_refl 1; full_cost = λ f. le_refl 1; all-cost = le_refl 1 }

-- the first child is outside of the query, or the second one is inside
module _ {P F H P1 F1 H1 P2 F2 H2 : Type 0} (h : ℕ) (f1 : F → F1) (f2 : F → F2) (d : P1 ⊎ F2) (hs : H → H1 ⊎ H2) where
  node_costs : (t : Bool) (v w : Option ℕ) (c k : ℕ) → (t ≡ true → P → ⊥) → (t ≡ true → H) → (t ≡ false → F → H → ⊥) → Costs P1 F1 H1 h (found v c) → Costs P2 F2 H2 h (found w k) → Costs P F H (suc h) (search_node t (found v c) (found w k))
  node_costs false v w c k p y n a b = record { past = λ x. (le_refl 1, tt); sure = λ f x e. n refl f x; full_empty = λ f e. le_refl 1; empty-cost = λ e. omega arith; full_cost = λ f. omega arith; all-cost = omega arith }
  node_costs true (Some i) w c k p y n a b = record {
    past = λ x. absurd (p refl x);
    sure = λ f x e. e;
    full_empty = λ f e. absurd e;
    empty-cost = λ e. absurd e;
    full_cost = λ f. omega (arith, a.full_cost (f1 f));
    all-cost = omega (arith, a.all-cost);
  }
  node_costs true None (Some i) c k p y n a b = record {
    past = λ x. absurd (p refl x);
    sure = λ f x e. e;
    full_empty = λ f e. absurd e;
    empty-cost = λ e. absurd e;
    full_cost = λ f. omega (arith, a.full_empty (f1 f) tt, b.full_cost (f2 f));
    all-cost = by d;
  }
    where
      by : P1 ⊎ F2 → suc (c + k) ≤ 4 * suc h + 1
      by (inl x) = omega (arith, (a.past x).0, b.all-cost)
      by (inr f) = omega (arith, a.empty-cost tt, b.full_cost f)
  node_costs true None None c k p y n a b = record {
    past = λ x. absurd (p refl x);
    sure = λ f x e. empty_both f (hs x);
    full_empty = λ f e. absurd (empty_both f (hs (y refl)));
    empty-cost = λ e. small;
    full_cost = λ f. small;
    all-cost = omega (arith, small);
  }
    where
      empty_both : F → H1 ⊎ H2 → ⊥
      empty_both f (inl x) = a.sure (f1 f) x tt
      empty_both f (inr x) = b.sure (f2 f) x tt

      by : P1 ⊎ F2 → suc (c + k) ≤ 2 * suc h + 1
      by (inl x) = omega (arith, (a.past x).0, b.empty-cost tt)
      by (inr f) = omega (arith, a.empty-cost tt, b.full_empty f tt)

      small : suc (c + k) ≤ 2 * suc h + 1
      small = by d

-- ---- what is found: the best of what is wanted in the range
abbrev pub Best : (ℕ → Type 0) → (ℕ → Type 0) → (ℕ → ℕ → Type 0) → Option ℕ → Type 0
Best In Want Better None = (j : ℕ) → In j → Want j → ⊥
Best In Want Better (Some i) = In i × Want i × ((j : ℕ) → In j → Better i j → Want j → ⊥)

leaf_best : (In Want : ℕ → Type 0) (Better : ℕ → ℕ → Type 0) (s : ℕ) (t : Bool) → In s → (t ≡ true → Want s) → ((j : ℕ) → In j → Better s j → ⊥) → (t ≡ false → (j : ℕ) → In j → Want j → ⊥) → Best In Want Better (search_leaf t s).value
leaf_best In Want Better s true i w b n = (i, w refl, λ j x y z. b j x y)
leaf_best In Want Better s false i w b n = n refl

module _ (In In1 In2 Want : ℕ → Type 0) (Better : ℕ → ℕ → Type 0) (i1 : (j : ℕ) → In1 j → In j) (i2 : (j : ℕ) → In2 j → In j) (cover : (j : ℕ) → In j → In1 j ⊎ In2 j) (far : (i j : ℕ) → In1 i → In2 j → Better i j → ⊥) where
  node_best : (t : Bool) (v w : Option ℕ) (c k : ℕ) → (t ≡ false → (j : ℕ) → In j → Want j → ⊥) → Best In1 Want Better v → Best In2 Want Better w → Best In Want Better (search_node t (found v c) (found w k)).value
  node_best false v w c k n a b = n refl
  node_best true (Some i) w c k n a b = (i1 i a.0, a.1, λ j x y z. by j (cover j x) y z)
    where
      by : (j : ℕ) → In1 j ⊎ In2 j → Better i j → Want j → ⊥
      by j (inl x) y z = a.2 j x y z
      by j (inr x) y z = far i j a.0 x y
  node_best true None (Some i) c k n a b = (i2 i b.0, b.1, λ j x y z. by j (cover j x) y z)
    where
      by : (j : ℕ) → In1 j ⊎ In2 j → Better i j → Want j → ⊥
      by j (inl x) y z = a j x z
      by j (inr x) y z = b.2 j x y z
  node_best true None None c k n a b = λ j x z. by j (cover j x) z
    where
      by : (j : ℕ) → In1 j ⊎ In2 j → Want j → ⊥
      by j (inl x) z = a j x z
      by j (inr x) z = b j x z

either : (a b : ℕ) → (a ≤ b) ⊎ (b ≤ a)
either a b = elim (le_or_lt a b) [ inl h ↦ inl h | inr h ↦ inr (omega arith) ]

turn : {A B : Type 0} → A ⊎ B → B ⊎ A
turn (inl x) = inr x
turn (inr x) = inl x

-- ---- a node's test: its range meets the query, and another net is active in it
meets_query : (m n : ℕ) (b : Bool) → (ltb m n && b) ≡ true → m < n
meets_query m n b e = ltb-true m n (and_left (ltb m n) b e)

has_none : (m n : ℕ) (b : Bool) → (ltb m n && b) ≡ false → m < n → b ≡ true → ⊥
has_none m n b e h q = clash (ltb m n && b) (and_both (ltb m n) b (lt-ltb m n h) q) e

-- `splits`: what is active in a range is so in one part of it or the other
module _ (has : ℕ → ℕ → Bool) (splits : (a b c : ℕ) → has a c ≡ true → (has a b ≡ true) ⊎ (has b c ≡ true)) (q : ℕ) where
  halves : (s w : ℕ) → has s (s + 2 * w) ≡ true → (has s (s + w) ≡ true) ⊎ (has (s + w) (s + w + w) ≡ true)
  halves s w t = splits s (s + w) (s + w + w) (subst (λ (z : ℕ). has s z ≡ true) (twice s w) t)
    where
      twice : (s w : ℕ) → s + 2 * w ≡ s + w + w
      twice s w = omega arith

  right_costs : (h k s : ℕ) → Costs (q ≤ s) (s + 2 ^ h ≤ q) (has s (s + 2 ^ h) ≡ true) h (rightmost (λ j. has) q h k s)
  unfolding rightmost
  right_costs zero k s =
      leaf_costs s (ltb s q && has s (s + 1)) (λ t x. omega (arith, meets_query s q (has s (s + 1)) t)) (λ n f x. has_none s q (has s (s + 1)) n (omega arith) x)
  right_costs (suc h) k s =
      let w = 2 ^ h in
      let e : 2 ^ suc h ≡ 2 * w = pow-succ' 2 h in
      let o : 0 < w = pow_pos h in
      let high = rightmost (λ j. has) q h (2 * k + 1) (s + w) in
      let low = rightmost (λ j. has) q h (2 * k) s in
      let Has-All = has s (s + 2 ^ suc h) in
      node_costs h (λ f. omega arith) (λ f. omega arith) (either q (s + w))
      (λ x. turn (halves s w (subst (λ (z : ℕ). has s (s + z) ≡ true) e x)))
      (ltb s q && Has-All) high.value low.value high.cost low.cost
      (λ t x. omega (arith, meets_query s q Has-All t))
      (λ t. and_right (ltb s q) Has-All t)
      (λ n f x. has_none s q Has-All n (omega arith) x)
      (right_costs h (2 * k + 1) (s + w)) (right_costs h (2 * k) s)

  left_costs : (h k s : ℕ) → Costs (s + 2 ^ h ≤ q) (q ≤ s) (has s (s + 2 ^ h) ≡ true) h (leftmost (λ j. has) q h k s)
  unfolding leftmost
  left_costs zero k s =
      leaf_costs s (ltb q (s + 1) && has s (s + 1)) (λ t x. omega (arith, meets_query q (s + 1) (has s (s + 1)) t)) (λ n f x. has_none q (s + 1) (has s (s + 1)) n (omega arith) x)
  left_costs (suc h) k s =
      let w = 2 ^ h in
      let e : 2 ^ suc h ≡ 2 * w = pow-succ' 2 h in
      let o : 0 < w = pow_pos h in
      let low = leftmost (λ j. has) q h (2 * k) s in
      let high = leftmost (λ j. has) q h (2 * k + 1) (s + w) in
      let Has-All = has s (s + 2 ^ suc h) in
      node_costs h (λ f. f) (λ f. omega arith) (either (s + w) q)
      (λ x. halves s w (subst (λ (z : ℕ). has s (s + z) ≡ true) e x))
      (ltb q (s + 2 ^ suc h) && Has-All) low.value high.value low.cost high.cost
      (λ t x. omega (arith, meets_query q (s + 2 ^ suc h) Has-All t))
      (λ t. and_right (ltb q (s + 2 ^ suc h)) Has-All t)
      (λ n f x. has_none q (s + 2 ^ suc h) Has-All n (omega arith) x)
      (left_costs h (2 * k) s) (left_costs h (2 * k + 1) (s + w))

  -- a search from any node of h levels
  pub right-cost : (h k s : ℕ) → (rightmost (λ j. has) q h k s).cost ≤ 4 * h + 1
  right-cost h k s = (right_costs h k s).all-cost

  pub left-cost : (h k s : ℕ) → (leftmost (λ j. has) q h k s).cost ≤ 4 * h + 1
  left-cost h k s = (left_costs h k s).all-cost

-- the range of w leaves from s on; what the two searches look for
abbrev pub In : ℕ → ℕ → ℕ → Type 0
In s w j = (s ≤ j) × (j < s + w)

abbrev pub Below : (ℕ → ℕ → Bool) → ℕ → ℕ → Type 0
Below has q j = (j < q) × (has j (j + 1) ≡ true)

abbrev pub From : (ℕ → ℕ → Bool) → ℕ → ℕ → Type 0
From has q j = (q ≤ j) × (has j (j + 1) ≡ true)

-- `widen`: what is active in a range is so in every wider one
module _ (has : ℕ → ℕ → Bool) (widen : (a b c d : ℕ) → c ≤ a → b ≤ d → has a b ≡ true → has c d ≡ true) (q : ℕ) where
  in-range : (s w j : ℕ) → In s w j → has j (j + 1) ≡ true → has s (s + w) ≡ true
  in-range s w j i t = widen j (j + 1) s (s + w) i.0 (omega arith) t

  -- the halves of a range
  parts : (s h j : ℕ) → In s (2 ^ suc h) j → In s (2 ^ h) j ⊎ In (s + 2 ^ h) (2 ^ h) j
  parts s h j x = elim (le_or_lt (s + 2 ^ h) j) [
    | inl y ↦ inr (y, omega (arith, x.1, pow-succ' 2 h))
    | inr y ↦ inl (x.0, y)
  ]

  low_part : (s h j : ℕ) → In s (2 ^ h) j → In s (2 ^ suc h) j
  low_part s h j x = (x.0, omega (arith, x.1, pow-succ' 2 h))

  high_part : (s h j : ℕ) → In (s + 2 ^ h) (2 ^ h) j → In s (2 ^ suc h) j
  high_part s h j x = (omega (arith, x.0), omega (arith, x.1, pow-succ' 2 h))

  pub right_best : (h k s : ℕ) → Best (In s (2 ^ h)) (Below has q) (λ i j. i < j) (rightmost (λ j. has) q h k s).value
  unfolding rightmost
  right_best zero k s =
      leaf_best (In s 1) (Below has q) (λ i j. i < j) s (ltb s q && has s (s + 1)) (le_refl s, omega arith)
      (λ t. (meets_query s q (has s (s + 1)) t, and_right (ltb s q) (has s (s + 1)) t))
      (λ j x y. omega (arith, x.0, x.1, y))
      (λ n j x z. has_none s q (has s (s + 1)) n (omega (arith, x.0, z.0)) (in-range s 1 j x z.1))
  right_best (suc h) k s =
      let w = 2 ^ h in
      let high = rightmost (λ j. has) q h (2 * k + 1) (s + w) in
      let low = rightmost (λ j. has) q h (2 * k) s in
      let Has-All = has s (s + 2 ^ suc h) in
      node_best (In s (2 ^ suc h)) (In (s + w) w) (In s w) (Below has q) (λ i j. i < j)
      (high_part s h) (low_part s h) (λ j x. turn (parts s h j x))
      (λ i j x y z. omega (arith, x.0, y.1, z))
      (ltb s q && Has-All) high.value low.value high.cost low.cost
      (λ n j x z. has_none s q Has-All n (omega (arith, x.0, z.0)) (in-range s (2 ^ suc h) j x z.1))
      (right_best h (2 * k + 1) (s + w)) (right_best h (2 * k) s)

  pub left_best : (h k s : ℕ) → Best (In s (2 ^ h)) (From has q) (λ i j. j < i) (leftmost (λ j. has) q h k s).value
  unfolding leftmost
  left_best zero k s =
      leaf_best (In s 1) (From has q) (λ i j. j < i) s (ltb q (s + 1) && has s (s + 1)) (le_refl s, omega arith)
      (λ t. (omega (arith, meets_query q (s + 1) (has s (s + 1)) t), and_right (ltb q (s + 1)) (has s (s + 1)) t))
      (λ j x y. omega (arith, x.0, x.1, y))
      (λ n j x z. has_none q (s + 1) (has s (s + 1)) n (omega (arith, x.1, z.0)) (in-range s 1 j x z.1))
  left_best (suc h) k s =
      let w = 2 ^ h in
      let low = leftmost (λ j. has) q h (2 * k) s in
      let high = leftmost (λ j. has) q h (2 * k + 1) (s + w) in
      let Has-All = has s (s + 2 ^ suc h) in
      node_best (In s (2 ^ suc h)) (In s w) (In (s + w) w) (From has q) (λ i j. j < i)
      (low_part s h) (high_part s h) (parts s h)
      (λ i j x y z. omega (arith, x.1, y.0, z))
      (ltb q (s + 2 ^ suc h) && Has-All) low.value high.value low.cost high.cost
      (λ n j x z. has_none q (s + 2 ^ suc h) Has-All n (omega (arith, x.1, z.0)) (in-range s (2 ^ suc h) j x z.1))
      (left_best h (2 * k) s) (left_best h (2 * k + 1) (s + w))
