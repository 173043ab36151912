-- Leaves in the scratch: one put, and all put. Assumes nothing.
use mathlib.Core.Path.{◌≡◌, refl, sym, ap, ◌∙◌}
use mathlib.Core.Logic.{inl, inr}
use mathlib.Core.List.{List}
use Prim.Native.Nat.{ℕ, ◌+◌, ◌*◌, ◌≤◌, ◌<◌}
use native.Mathlib.Omega.{arith}
use lib.ListN.{length, get_or, set, length-set}
use lib.Seq.{get_or-set_same, get_or-set_other}
use Rattle.laws.proofs.Tests.{le_or_lt}
use Rattle.drawing.specs.Entries.{NodeColumns}
use Rattle.boxes.specs.declared.aabb.Aabb.{Aabb}
use Rattle.clearance_call.specs.Inner.LeafOrder.{indexed_at, Places}
use Rattle.clearance_call.specs.Inner.Stored.{box_at, leaf_from, BoxPut, LeafPut, LeavesPut}
use Rattle.clearance_call.proofs.LeafOrders.{place-small}
use Rattle.clearance_call.proofs.StoredBoxes.{box-same}

pub leaf-put : (s b : List ℕ) (p v : ℕ) (n : Aabb) → p + 9 ≤ length s → BoxPut s b p n → LeafPut s (set b (p + 8) v) p (record { id = v; bounds = n })
leaf-put s b p v n room u =
    let l : length b ≡ length s = u.len in
    let here : get_or (set b (p + 8) v) (p + 8) 0 ≡ v = get_or-set_same b (p + 8) v 0 (omega arith) in
    let box : box_at (set b (p + 8) v) p ≡ n = box-same b (set b (p + 8) v) p (λ q g h. get_or-set_other b (p + 8) q v 0 (λ e. omega arith)) ∙ u.box in
    record {
      len = length-set b (p + 8) v ∙ l;
      leaf = λ i. record { id = here i; bounds = box i };
      low = λ q h. get_or-set_other b (p + 8) q v 0 (λ e. omega arith) ∙ u.low q h;
    }

leaf-same-words : (s r : List ℕ) (p : ℕ) → ((q : ℕ) → q < p + 9 → get_or r q 0 ≡ get_or s q 0) → leaf_from r p ≡ leaf_from s p
leaf-same-words s r p h =
    let d = h (p + 8) (omega arith) in
    let b = box-same s r p (λ q f g. h q (omega arith)) in
    λ i. record { id = d i; bounds = b i }

leaves_next : (s e e' : List ℕ) (r k n : ℕ) (c : NodeColumns) (v : ℕ) (b : Aabb) → LeavesPut s e r k c → k < n → n ≤ r
    → v ≡ (indexed_at c (get_or e k 0)).id → b ≡ (indexed_at c (get_or e k 0)).bounds → LeafPut e e' (r + 9 * k) (record { id = v; bounds = b }) → LeavesPut s e' r (k + 1) c
leaves_next s e e' r k n c v b u h g ev eb p = record { len = p.len ∙ u.len; low = λ q f. p.low q (omega arith) ∙ u.low q f; leaf = leaf }
  where
    leaf : (j : ℕ) → j < k + 1 → leaf_from e' (r + 9 * j) ≡ indexed_at c (get_or s j 0)
    leaf j f = elim (le_or_lt k j) [
      | inl a ↦
          let same : j ≡ k = omega arith in
          let put : leaf_from e' (r + 9 * k) ≡ indexed_at c (get_or e k 0) = p.leaf ∙ (λ i. record { id = ev i; bounds = eb i }) in
          ap (λ (z : ℕ). leaf_from e' (r + 9 * z)) same ∙ put ∙ ap (indexed_at c) (u.low k (omega arith) ∙ ap (λ (z : ℕ). get_or s z 0) (sym same))
      | inr a ↦ leaf-same-words e e' (r + 9 * j) (λ q x. p.low q (omega arith)) ∙ u.leaf j a
    ]

-- ---- the loop: k leaves are put
pub record Leaving (s e : List ℕ) (r k : ℕ) (c : NodeColumns) : Type 0 where
  pub put : LeavesPut s e r k c
  pub below : k ≤ length c.id
  pub places : Places s (length c.id) c
  pub apart : length c.id ≤ r
  pub room : r + 9 * length c.id ≤ length s

pub leaving_first : (s : List ℕ) (r : ℕ) (c : NodeColumns) → Places s (length c.id) c → length c.id ≤ r → r + 9 * length c.id ≤ length s → Leaving s s r 0 c
leaving_first s r c p a h = record { put = record { len = refl; low = λ q f. refl; leaf = λ j f. absurd (omega arith) }; below = omega arith; places = p; apart = a; room = h }

pub leaving_place : (s e : List ℕ) (r k : ℕ) (c : NodeColumns) → Leaving s e r k c → k < length c.id → get_or e k 0 < length c.id
leaving_place s e r k c u h =
    let a : length c.id ≤ r = u.apart in
    let same : get_or e k 0 ≡ get_or s k 0 = u.put.low k (omega arith) in
    let small : get_or s k 0 < length c.id = place-small s (length c.id) c u.places k h in
    omega arith

pub leaving_room : (s e : List ℕ) (r k : ℕ) (c : NodeColumns) → Leaving s e r k c → k < length c.id → r + 9 * k + 9 ≤ length e
leaving_room s e r k c u h =
    let a : r + 9 * length c.id ≤ length s = u.room in
    let l : length e ≡ length s = u.put.len in
    omega arith

pub leaving_next : (s e e' : List ℕ) (r k : ℕ) (c : NodeColumns) (v : ℕ) (b : Aabb) → Leaving s e r k c → k < length c.id
    → v ≡ (indexed_at c (get_or e k 0)).id → b ≡ (indexed_at c (get_or e k 0)).bounds → LeafPut e e' (r + 9 * k) (record { id = v; bounds = b }) → Leaving s e' r (k + 1) c
leaving_next s e e' r k c v b u h ev eb p = record { put = leaves_next s e e' r k (length c.id) c v b u.put h u.apart ev eb p; below = omega arith; places = u.places; apart = u.apart; room = u.room }

pub leaving_last : (s e : List ℕ) (r k : ℕ) (c : NodeColumns) → Leaving s e r k c → length c.id ≤ k → LeavesPut s e r (length c.id) c
leaving_last s e r k c u h = let b : k ≤ length c.id = u.below in record { len = u.put.len; low = u.put.low; leaf = λ j f. u.put.leaf j (omega arith) }
