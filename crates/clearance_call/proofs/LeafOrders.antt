-- The build of the leaf order, step by step. Assumes nothing.
use mathlib.Core.Path.{◌≡◌, refl, sym, ap, subst, ◌∙◌}
use mathlib.Core.Logic.{inl, inr}
use mathlib.Core.Bool.{Bool, true, false, cond}
use mathlib.Core.List.{List, ◌∷◌, ◌++◌, append_assoc, map}
use Prim.Native.Nat.{ℕ, zero, suc, ◌+◌, ◌-◌, ◌*◌, ◌/◌, ◌≤◌, ◌<◌}
use native.Mathlib.Numerals.{add-one}
use native.Mathlib.Omega.{arith}
use borrow.Author.Tests.{lt-ltb, le-ltb, ltb-true, ltb-false, le-leb}
use borrow.Rule.Slice.PartMut.{mid_of, put_mid}
use lib.Dec.{ltb, leb}
use lib.ListN.{length, get_or, take, drop, length-drop, take-append-drop, drop_of_length-le}
use lib.Seq.{take_at, drop_at, take-append-le, drop-append-le, length-take-le, drop-drop, drop-cons, get_or-take}
use Rattle.laws.specs.Lists.{All}
use Rattle.laws.specs.Perm.{Perm, via}
use Rattle.laws.specs.Sort.{sort_by}
use Rattle.laws.proofs.Tests.{decide, and_both}
use Rattle.laws.proofs.ListLaws.{all_first, all-second, all-every, all_map}
use Rattle.laws.proofs.Perms.{perm-length, perm-all, perm_sym, perm-eq, perm_both}
use Rattle.laws.proofs.Sorting.{sort_perm}
use Rattle.laws.proofs.Places.{first-at}
use Rattle.laws.proofs.Parts.{tail_lent, tail_back, drop_past}
use Rattle.sorting.specs.Inner.Sorted.{before, has_row, sortable, sorted}
use Rattle.sorting.proofs.Entries.{sorted-is}
use Rattle.drawing.specs.Entries.{NodeColumns}
use Rattle.boxes.specs.declared.aabb.Aabb.{Aabb}
use Rattle.boxes.specs.Boxes.{union}
use Rattle.clearance.specs.Tree.{hull, horizontal_wider}
use Rattle.clearance_call.specs.Inner.LeafOrder.{indexed_at, box_from, horizontal_part, in_axis_order, leaf_order, Places, Buildable}

-- ---- the box around the nodes at the indices
pub place-small : (s : List ℕ) (n : ℕ) (c : NodeColumns) → Places s n c → (k : ℕ) → k < n → get_or s k 0 < length c.id
place-small s n c p k h = first-at (λ i. i < length c.id) 0 n s p.inside p.small k h

-- after k indices, b united with the boxes at the others is the box around all
pub record Hulled (s : List ℕ) (n : ℕ) (c : NodeColumns) (b : Aabb) (k : ℕ) : Type 0 where
  pub places : Places s n c
  pub below : k ≤ n
  pub left : hull b (map (indexed_at c) (drop k (take n s))) ≡ box_from c (get_or s 0 0) (drop 1 (take n s))

pub hulled_first : (s : List ℕ) (n : ℕ) (c : NodeColumns) (b : Aabb) → 0 < n → Places s n c → b ≡ (indexed_at c (get_or s 0 0)).bounds → Hulled s n c b 1
unfolding box_from
hulled_first s n c b h p e = record { places = p; below = h; left = ap (λ (z : Aabb). hull z (map (indexed_at c) (drop 1 (take n s)))) e }

pub hulled_next : (s : List ℕ) (n : ℕ) (c : NodeColumns) (b r : Aabb) (k : ℕ) → Hulled s n c b k → k < n → r ≡ union b (indexed_at c (get_or s k 0)).bounds → Hulled s n c r (k + 1)
unfolding hull
hulled_next s n c b r k u h e =
    let l : length (take n s) ≡ n = length-take-le n s u.places.inside in
    let d : drop k (take n s) ≡ get_or s k 0 ∷ drop (k + 1) (take n s) = rw (add-one k) (drop-cons (take n s) k 0 (omega arith) ∙ ap (λ (z : ℕ). z ∷ drop (suc k) (take n s)) (get_or-take n s k 0 h)) in
    record { places = u.places; below = omega arith; left = ap (λ (z : Aabb). hull z (map (indexed_at c) (drop (k + 1) (take n s)))) e ∙ sym (ap (λ (z : List ℕ). hull b (map (indexed_at c) z)) d) ∙ u.left }

pub hulled_all : (s : List ℕ) (n : ℕ) (c : NodeColumns) (b : Aabb) (k : ℕ) → Hulled s n c b k → n ≤ k → b ≡ box_from c (get_or s 0 0) (drop 1 (take n s))
unfolding hull
hulled_all s n c b k u h =
    let l : length (take n s) ≡ n = length-take-le n s u.places.inside in
    sym (ap (λ (z : List ℕ). hull b (map (indexed_at c) z)) (drop_of_length-le (take n s) {i = k} (omega arith))) ∙ u.left

-- ---- the leaf order, case by case
pub order-short : (k : ℕ) (c : NodeColumns) (kx ky l : List ℕ) → length l < 2 → leaf_order k c kx ky l ≡ l
unfolding leaf_order
order-short zero c kx ky l h = refl
order-short (suc k) c kx ky l h = rw (lt-ltb (length l) 2 h)

pub order-long : (k : ℕ) (c : NodeColumns) (kx ky l : List ℕ) → 2 ≤ length l
    → leaf_order (suc k) c kx ky l ≡ leaf_order k c kx ky (take (length l / 2) (in_axis_order c kx ky l)) ++ leaf_order k c kx ky (drop (length l / 2) (in_axis_order c kx ky l))
unfolding leaf_order
order-long k c kx ky l h = rw (le-ltb (length l) 2 h)

pub along-perm : (c : NodeColumns) (kx ky l : List ℕ) → Perm (in_axis_order c kx ky l) l
unfolding in_axis_order
along-perm c kx ky l = sort_perm (before (cond (horizontal_part c l) kx ky) 5) l

pub order-perm : (k : ℕ) (c : NodeColumns) (kx ky l : List ℕ) → Perm (leaf_order k c kx ky l) l
order-perm zero c kx ky l = perm-eq (unfold leaf_order in refl)
order-perm (suc k) c kx ky l = elim (decide (ltb (length l) 2)) [
  | inl t ↦ perm-eq (order-short (suc k) c kx ky l (ltb-true (length l) 2 t))
  | inr f ↦
      let row = in_axis_order c kx ky l in
      let half = length l / 2 in
      via (perm-eq (order-long k c kx ky l (ltb-false (length l) 2 f)))
      (via (perm_both (order-perm k c kx ky (take half row)) (order-perm k c kx ky (drop half row))) (via (perm-eq (take-append-drop half row)) (along-perm c kx ky l)))
]

-- ---- what one call of the build does
all_take : (P : ℕ → Type 0) (n : ℕ) (l : List ℕ) → All P l → All P (take n l)
all_take P n l h = all_first P (take n l) (drop n l) (subst (All P) (sym (take-append-drop n l)) h)

all_drop : (P : ℕ → Type 0) (n : ℕ) (l : List ℕ) → All P l → All P (drop n l)
all_drop P n l h = all-second P (take n l) (drop n l) (subst (All P) (sym (take-append-drop n l)) h)

-- the first n words in order along the wider axis
abbrev pub in_line : List ℕ → ℕ → ℕ → NodeColumns → List ℕ
in_line s n t c = in_axis_order c (drop t s) (drop (t + 5 * length c.id) s) (take n s)

-- s with its first n words in leaf order
abbrev pub ordered : ℕ → NodeColumns → ℕ → ℕ → List ℕ → List ℕ
ordered k c t n s = leaf_order k c (drop t s) (drop (t + 5 * length c.id) s) (take n s) ++ drop n s

pub ordered-short : (k : ℕ) (c : NodeColumns) (t n : ℕ) (s : List ℕ) → Buildable s n t c → n < 2 → s ≡ ordered k c t n s
ordered-short k c t n s b h =
    let l : length (take n s) ≡ n = length-take-le n s b.places.inside in
    let e = order-short k c (drop t s) (drop (t + 5 * length c.id) s) (take n s) (omega arith) in
    sym (take-append-drop n s) ∙ rw e

-- the table that a test chooses
drop-choice : (h : Bool) (a b : ℕ) (s : List ℕ) → drop (cond h a b) s ≡ cond h (drop a s) (drop b s)
drop-choice true a b s = refl
drop-choice false a b s = refl

table_fits : (h : Bool) (s : List ℕ) (n t : ℕ) (c : NodeColumns) → Buildable s n t c → sortable s n (cond h t (t + 5 * length c.id)) 5 ≡ true
table_fits h s n t c b = go (cond h t (t + 5 * length c.id)) (lo h) (hi h)
  where
    lo : (h : Bool) → t ≤ cond h t (t + 5 * length c.id)
    lo true = omega arith
    lo false = omega arith

    hi : (h : Bool) → cond h t (t + 5 * length c.id) ≤ t + 5 * length c.id
    hi true = omega arith
    hi false = omega arith

    has-row : (table i : ℕ) → table ≤ t + 5 * length c.id → i < length c.id → leb (i * 5 + 5) (length (drop table s)) ≡ true
    has-row table i g q = le-leb (i * 5 + 5) (length (drop table s)) (simp length-drop (omega (arith, b.room)))

    go : (table : ℕ) → t ≤ table → table ≤ t + 5 * length c.id → sortable s n table 5 ≡ true
    go table f g = unfold sortable in and_both (leb n table) _ (le-leb n table (omega (arith, b.apart)))
        (and_both (leb table (length s)) _ (le-leb table (length s) (omega (arith, b.room)))
        (all-every (has_row (drop table s) 5) (take n s) (all_map (λ i q. has-row table i g q) (take n s) b.places.small)))

module _ (s : List ℕ) (n t : ℕ) (c : NodeColumns) (b : Buildable s n t c) (two : 2 ≤ n) where
  -- which axis is wider follows from the box around the part
  wider_part : (box : Aabb) → box ≡ box_from c (get_or s 0 0) (drop 1 (take n s)) → horizontal_wider box ≡ horizontal_part c (take n s)
  unfolding horizontal_part
  wider_part box e =
      let l : length (take n s) ≡ n = length-take-le n s b.places.inside in
      let d : take n s ≡ get_or s 0 0 ∷ drop 1 (take n s) = drop-cons (take n s) 0 0 (omega arith) ∙ ap (λ (z : ℕ). z ∷ drop 1 (take n s)) (get_or-take n s 0 0 (omega arith)) in
      ap horizontal_wider e ∙ sym (ap (horizontal_part c) d)

  -- so the sort by that table puts the part in order along it
  pub sorted_part : (s₁ : List ℕ) (box : Aabb) (table : ℕ) → box ≡ box_from c (get_or s 0 0) (drop 1 (take n s)) → table ≡ cond (horizontal_wider box) t (t + 5 * length c.id) → s₁ ≡ sorted s n table 5 → s₁ ≡ in_line s n t c ++ drop n s
  unfolding in_axis_order
  sorted_part s₁ box table x e g =
      let h = horizontal_part c (take n s) in
      g ∙ ap (λ (z : ℕ). sorted s n z 5) (e ∙ ap (λ (z : Bool). cond z t (t + 5 * length c.id)) (wider_part box x)) ∙ sorted-is s n (cond h t (t + 5 * length c.id)) 5 (table_fits h s n t c b)
      ∙ ap (λ (z : List ℕ). sort_by (before z 5) (take n s) ++ drop n s) (drop-choice h t (t + 5 * length c.id) s)

  length-line : length (in_line s n t c) ≡ n
  length-line = perm-length (along-perm c (drop t s) (drop (t + 5 * length c.id) s) (take n s)) ∙ length-take-le n s b.places.inside

  small_line : All (λ i. i < length c.id) (in_line s n t c)
  small_line = perm-all (λ i. i < length c.id) (perm_sym (along-perm c (drop t s) (drop (t + 5 * length c.id) s) (take n s))) b.places.small

  module _ (s₁ : List ℕ) (same : length s₁ ≡ length s) (e : s₁ ≡ in_line s n t c ++ drop n s) where
    rest : drop n s₁ ≡ drop n s
    rest = ap (drop n) e ∙ drop_at (in_line s n t c) (drop n s) n length-line

    later : (k : ℕ) → n ≤ k → drop k s₁ ≡ drop k s
    later k h = drop_past n k s₁ s rest h

    front : take (n / 2) s₁ ≡ take (n / 2) (in_line s n t c)
    front = ap (take (n / 2)) e ∙ take-append-le (n / 2) (in_line s n t c) (drop n s) (omega (arith, length-line))

    behind : drop (n / 2) s₁ ≡ drop (n / 2) (in_line s n t c) ++ drop n s
    behind = ap (drop (n / 2)) e ∙ drop-append-le (n / 2) (in_line s n t c) (drop n s) (omega (arith, length-line))

    back : take (n - n / 2) (drop (n / 2) s₁) ≡ drop (n / 2) (in_line s n t c)
    back = ap (take (n - n / 2)) behind ∙ take_at (drop (n / 2) (in_line s n t c)) (drop n s) (n - n / 2) (length-drop (n / 2) (in_line s n t c) ∙ ap (λ (z : ℕ). z - n / 2) length-line)

    -- what the first call requires
    pub first_buildable : Buildable s₁ (n / 2) t c
    first_buildable = record {
      places = record {
        inside = omega (arith, b.places.inside);
        small = subst (All (λ i. i < length c.id)) (sym front) (all_take (λ i. i < length c.id) (n / 2) (in_line s n t c) small_line);
        agree = b.places.agree;
      };
      apart = omega (arith, b.apart);
      room = omega (arith, b.room);
    }

    module _ (s₂ : List ℕ) (same₂ : length s₂ ≡ length s₁) (first : (k : ℕ) → n / 2 ≤ k → s₂ ≡ ordered k c t (n / 2) s₁) where
      length-first : (k : ℕ) → length (leaf_order k c (drop t s₁) (drop (t + 5 * length c.id) s₁) (take (n / 2) s₁)) ≡ n / 2
      length-first k = perm-length (order-perm k c (drop t s₁) (drop (t + 5 * length c.id) s₁) (take (n / 2) s₁)) ∙ length-take-le (n / 2) s₁ (omega (arith, b.places.inside))

      -- the part that is lent for the second half
      part : mid_of (n / 2) (length s₂ - n / 2) s₂ ≡ drop (n / 2) s₁
      part = tail_lent (n / 2) s₂ ∙ ap (drop (n / 2)) (first n (omega arith)) ∙ drop_at (leaf_order n c (drop t s₁) (drop (t + 5 * length c.id) s₁) (take (n / 2) s₁)) (drop (n / 2) s₁) (n / 2) (length-first n)

      deep : (k : ℕ) → n / 2 ≤ k → drop (k - n / 2) (drop (n / 2) s₁) ≡ drop k s₁
      deep k h = let g : n / 2 + (k - n / 2) ≡ k = omega arith in drop-drop (k - n / 2) (n / 2) s₁ ∙ ap (λ (z : ℕ). drop z s₁) g

      pub second_buildable : Buildable (mid_of (n / 2) (length s₂ - n / 2) s₂) (n - n / 2) (t - n / 2) c
      second_buildable = subst (λ (z : List ℕ). Buildable z (n - n / 2) (t - n / 2) c) (sym part) (record {
        places = record {
          inside = simp length-drop (omega (arith, b.places.inside));
          small = subst (All (λ i. i < length c.id)) (sym back) (all_drop (λ i. i < length c.id) (n / 2) (in_line s n t c) small_line);
          agree = b.places.agree;
        };
        apart = omega (arith, b.apart);
        room = simp length-drop (omega (arith, b.room, b.apart));
      })

      pub built : (p : List ℕ) → ((k : ℕ) → n - n / 2 ≤ k → p ≡ ordered k c (t - n / 2) (n - n / 2) (mid_of (n / 2) (length s₂ - n / 2) s₂)) → (k : ℕ) → n ≤ k → put_mid (n / 2) (length s₂ - n / 2) s₂ p ≡ ordered k c t n s
      built p second zero h = absurd (omega arith)
      built p second (suc k) h =
          let half = n / 2 in
          let kx = drop t s in
          let ky = drop (t + 5 * length c.id) s in
          let line = in_line s n t c in
          let ln : length (take n s) ≡ n = length-take-le n s b.places.inside in
          let tx : drop t s₁ ≡ kx = later t b.apart in
          let ty : drop (t + 5 * length c.id) s₁ ≡ ky = later (t + 5 * length c.id) (omega (arith, b.apart)) in
          let ox : drop (t - half) (drop half s₁) ≡ kx = deep t (omega (arith, b.apart)) ∙ tx in
          let shift : t - half + 5 * length c.id ≡ t + 5 * length c.id - half = omega (arith, b.apart) in
          let oy : drop (t - half + 5 * length c.id) (drop half s₁) ≡ ky = ap (λ (z : ℕ). drop z (drop half s₁)) shift ∙ deep (t + 5 * length c.id) (omega (arith, b.apart)) ∙ ty in
          let f : take half s₂ ≡ leaf_order k c kx ky (take half line) =
          ap (take half) (first k (omega arith)) ∙ take_at (leaf_order k c (drop t s₁) (drop (t + 5 * length c.id) s₁) (take half s₁)) (drop half s₁) half (length-first k) ∙ (λ i. leaf_order k c (tx i) (ty i) (front i)) in
          let g : p ≡ leaf_order k c kx ky (drop half line) ++ drop n s =
          second k (omega arith) ∙ ap (ordered k c (t - half) (n - half)) part ∙ (λ i. leaf_order k c (ox i) (oy i) (back i) ++ (deep n (omega arith) ∙ rest) i) in
          tail_back half s₂ p (omega (arith, b.places.inside))
          ∙ (λ i. f i ++ g i)
          ∙ sym (append_assoc (leaf_order k c kx ky (take half line)) (leaf_order k c kx ky (drop half line)) (drop n s))
          ∙ ap (λ (z : List ℕ). z ++ drop n s) (sym (order-long k c kx ky (take n s) (omega arith) ∙ ap (λ (z : ℕ). leaf_order k c kx ky (take (z / 2) line) ++ leaf_order k c kx ky (drop (z / 2) line)) ln))
