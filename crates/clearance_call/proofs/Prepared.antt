-- The tree prepared in the scratch, call by call. Assumes nothing.
use mathlib.Core.Path.{◌≡◌, refl, sym, ap, ap₂, subst, ◌∙◌}
use mathlib.Core.List.{List, [], ◌∷◌, ◌++◌, map}
use Prim.Native.Nat.{ℕ, suc, ◌+◌, ◌-◌, ◌*◌, ◌≤◌, ◌<◌}
use native.Mathlib.Omega.{arith}
use borrow.Rule.Slice.PartMut.{mid_of, put_mid}
use lib.Ieee.{binary64, of_bits}
use lib.ListN.{length, get_or, take, drop, length-drop, length-append}
use lib.Seq.{take_at, drop_at, length-take-le, get_or-take, get_or-drop}
use Rattle.laws.specs.Lists.{All}
use Rattle.laws.proofs.Perms.{perm-all, perm-length, perm_sym}
use Rattle.laws.proofs.Parts.{tail_lent, tail_back}
use Rattle.sorting.specs.Inner.Sorted.{up_to}
use Rattle.sorting.proofs.Entries.{length-up_to}
use Rattle.drawing.specs.Entries.{NodeColumns}
use Rattle.drawing.specs.Inner.Lengths.{NodesAgree}
use Rattle.boxes.specs.declared.aabb.Aabb.{Aabb}
use Rattle.clearance.specs.Tree.{IndexedNode}
use Rattle.clearance_call.specs.Inner.LeafOrder.{indexed_at, leaf_order, tree_over, Places, Buildable}
use Rattle.clearance_call.specs.Inner.Tables.{NodesFilled}
use Rattle.clearance_call.specs.Inner.Stored.{box_at, leaf_from, leaf_at, stored_tree, leaves_from, LeavesPut, SplitsPut, TreeStored}
use Rattle.clearance_call.specs.Inner.Marks.{TreeAtEnd}
use Rattle.clearance_call.proofs.LeafOrders.{ordered, order-perm}
use Rattle.clearance_call.proofs.TableLaws.{all-places}

-- ---- leaves from a word on
box-behind : (r : ℕ) (s : List ℕ) (p : ℕ) → box_at (drop r s) p ≡ box_at s (r + p)
box-behind r s p =
    let word : (k : ℕ) → get_or (drop r s) (p + k) 0 ≡ get_or s (r + p + k) 0 = λ k. get_or-drop r s (p + k) 0 ∙ ap (λ (z : ℕ). get_or s z 0) (more k) in
    let a = get_or-drop r s p 0 in
    let b = word 1 in
    let c = word 2 in
    let d = word 3 in
    λ i. record { left = of_bits binary64 (a i); top = of_bits binary64 (b i); right = of_bits binary64 (c i); bottom = of_bits binary64 (d i) }
  where
    more : (k : ℕ) → r + (p + k) ≡ r + p + k
    more k = omega arith

leaf-behind : (r : ℕ) (s : List ℕ) (p : ℕ) → leaf_from (drop r s) p ≡ leaf_from s (r + p)
leaf-behind r s p =
    let d = get_or-drop r s (p + 8) 0 ∙ ap (λ (z : ℕ). get_or s z 0) more in
    let b = box-behind r s p in
    λ i. record { id = d i; bounds = b i }
  where
    more : r + (p + 8) ≡ r + p + 8
    more = omega arith

leaves_of : (w : List ℕ) (f : ℕ → IndexedNode) (i : ℕ) (l : List ℕ) → ((j : ℕ) → j < length l → leaf_at w (i + j) ≡ f (get_or l j 0)) → leaves_from w i (length l) ≡ map f l
unfolding leaves_from
leaves_of w f i [] h = refl
leaves_of w f i (x ∷ l) h = ap₂ (λ (a : IndexedNode) (z : List IndexedNode). a ∷ z) (ap (leaf_at w) none ∙ h 0 (omega arith)) (leaves_of w f (suc i) l (λ j g. ap (leaf_at w) (on j) ∙ h (suc j) (omega arith)))
  where
    none : i ≡ i + 0
    none = omega arith

    on : (j : ℕ) → suc i + j ≡ i + suc j
    on j = omega arith

module _ (c : NodeColumns) (agree : NodesAgree c) where
  abbrev m : ℕ
  m = length c.id

  module _ (s₀ s₁ s₂ : List ℕ) (whole : length s₀ ≡ 20 * length c.id) (same : length s₁ ≡ length s₀) (placed : s₁ ≡ up_to (length c.id) ++ drop (length c.id) s₀) (filled : NodesFilled c (length c.id) s₁ s₂) where
    places : take m s₂ ≡ up_to m
    places = filled.front ∙ ap (take m) placed ∙ take_at (up_to m) (drop m s₀) m (length-up_to m)

    pub buildable : Buildable s₂ (length c.id) (length c.id) c
    buildable = record {
      places = record { inside = omega (arith, filled.same); small = subst (All (λ i. i < m)) (sym places) (all-places m); agree = agree };
      apart = omega arith;
      room = omega (arith, filled.same);
    }

    module _ (s₃ : List ℕ) (same₃ : length s₃ ≡ length s₂) (built : (k : ℕ) → length c.id ≤ k → s₃ ≡ ordered k c (length c.id) (length c.id) s₂) where
      in_order : (k : ℕ) → m ≤ k → take m s₃ ≡ leaf_order k c (drop m s₂) (drop (m + 5 * m) s₂) (up_to m)
      in_order k h =
          let column = leaf_order k c (drop m s₂) (drop (m + 5 * m) s₂) (take m s₂) in
          let l : length column ≡ m = perm-length (order-perm k c (drop m s₂) (drop (m + 5 * m) s₂) (take m s₂)) ∙ length-take-le m s₂ (omega (arith, filled.same)) in
          ap (take m) (built k h) ∙ take_at column (drop m s₂) m l ∙ ap (leaf_order k c (drop m s₂) (drop (m + 5 * m) s₂)) places

      pub leaves-placed : Places s₃ (length c.id) c
      leaves-placed = record {
        inside = omega (arith, filled.same);
        small = subst (All (λ i. i < m)) (sym (in_order m (omega arith))) (perm-all (λ i. i < m) (perm_sym (order-perm m c (drop m s₂) (drop (m + 5 * m) s₂) (up_to m))) (all-places m));
        agree = agree;
      }

      module _ (s₄ : List ℕ) (put : LeavesPut s₃ s₄ (11 * length c.id) (length c.id) c) where
        leaves : leaves_from (drop (11 * m) s₄) 0 m ≡ map (indexed_at c) (take m s₃)
        leaves =
            let l : length (take m s₃) ≡ m = length-take-le m s₃ (omega (arith, filled.same)) in
            ap (leaves_from (drop (11 * m) s₄) 0) (sym l)
            ∙ leaves_of (drop (11 * m) s₄) (indexed_at c) 0 (take m s₃)
            (λ j h. let g : j < m = omega arith in let same : 0 + j ≡ j = omega arith in ap (leaf_at (drop (11 * m) s₄)) same ∙ leaf-behind (11 * m) s₄ (9 * j) ∙ put.leaf j g ∙ ap (indexed_at c) (sym (get_or-take m s₃ j 0 g)))

        pub rest-long : 9 * (0 + length c.id) ≤ length (mid_of (11 * length c.id) (length s₄ - 11 * length c.id) s₄)
        rest-long = rw (tail_lent (11 * m) s₄) (simp length-drop (omega (arith, put.len, filled.same)))

        module _ (e : List ℕ) (b : Aabb) (splits : SplitsPut (mid_of (11 * length c.id) (length s₄ - 11 * length c.id) s₄) e 0 (length c.id) b) where
          abbrev s₅ : List ℕ
          s₅ = put_mid (11 * m) (length s₄ - 11 * m) s₄ e

          within : 11 * m ≤ length s₄
          within = omega (arith, put.len, filled.same)

          joined : s₅ ≡ take (11 * m) s₄ ++ e
          joined = tail_back (11 * m) s₄ e within

          front_long : length (take (11 * m) s₄) ≡ 11 * m
          front_long = length-take-le (11 * m) s₄ within

          back : drop (11 * m) s₅ ≡ e
          back = ap (drop (11 * m)) joined ∙ drop_at (take (11 * m) s₄) e (11 * m) front_long

          pub lists : length c.id ≤ 4096 → TreeAtEnd (put_mid (11 * length c.id) (length s₄ - 11 * length c.id) s₄ e) (length c.id)
          lists few = record {
            whole = ap length joined ∙ length-append (take (11 * m) s₄) e ∙ (let f = splits.len ∙ ap length (tail_lent (11 * m) s₄) ∙ length-drop (11 * m) s₄ in omega (arith, front_long, put.len, filled.same));
            few = few;
          }

          -- the tree is unchanged where the words before it become the ids in order and the leaves' groups
          pub grown : (s₆ : List ℕ) → drop (11 * length c.id) s₆ ≡ drop (11 * length c.id) (put_mid (11 * length c.id) (length s₄ - 11 * length c.id) s₄ e) → TreeStored c s₆
          grown s₆ same = record {
            table_across = drop m s₂;
            table_down = drop (m + 5 * m) s₂;
            across = filled.across;
            down = filled.down;
            tree = λ k h. ap (λ (z : List ℕ). stored_tree k z 0 m) (same ∙ back) ∙ splits.tree k h ∙ ap (λ (z : List ℕ). tree_over k (leaves_from z 0 m)) (tail_lent (11 * m) s₄) ∙ ap (tree_over k) (leaves ∙ ap (map (indexed_at c)) (in_order k h));
          }
