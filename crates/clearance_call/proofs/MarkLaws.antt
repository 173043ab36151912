-- The groups of the ids that are exempt for a net are marked, one exemption after another. Assumes nothing.
use Rattle.std.specs.Prelude.{Option, Some, None, eqb}
use Rattle.std.specs.Option.{option_eq}
use mathlib.Core.Path.{◌≡◌, refl, sym, ap, ◌∙◌, subst}
use mathlib.Core.Logic.{inl, inr}
use mathlib.Core.Bool.{true, false}
use mathlib.Core.List.{List, []}
use Prim.Native.Nat.{ℕ, ◌+◌, ◌/◌, ◌≤◌, ◌<◌}
use native.Mathlib.Omega.{arith}
use borrow.Author.Tests.{eqb-true}
use lib.ListN.{length, get_or, take, replicate, length-replicate}
use lib.Seq.{take_all}
use Rattle.laws.proofs.Tests.{decide, clash, le_or_lt}
use Rattle.bitset.specs.Inner.Members.{member, inserted}
use Rattle.bitset.proofs.Sets.{length_inserted, member_beyond, member-none, member-kept, member_new, member-only}
use Rattle.drawing.specs.Entries.{Exemption}
use Rattle.exemptions.specs.declared.Range.{Range}
use Rattle.clearance.specs.Figures.{exempt}
use Rattle.clearance_call.specs.Inner.Stored.{leaf_at}
use Rattle.exemptions.specs.Inner.Exempting.{word_at, node_of, Holds, LowerBound, Own, Listed}
use Rattle.clearance_call.specs.Inner.Marks.{Grouped, Added, MarksOf, MarksIfAny}
use Rattle.exemptions.proofs.ExemptLaws.{listed_of, listed, unlisted, none-there}

-- ---- one id: the index that is found is its group, or no leaf has it
bound_same : {key : ℕ → ℕ} {a b v r s : ℕ} → LowerBound key a b v r → LowerBound key a b v s → r ≡ s
bound_same {r = r} {s = s} x y = elim (le_or_lt r s) [
  | inl h ↦ elim (le_or_lt s r) [ inl k ↦ omega arith | inr k ↦ absurd (omega (arith, x.above r (omega arith) (omega (arith, y.to)), y.below r x.from k)) ]
  | inr h ↦ absurd (omega (arith, y.above s (omega arith) (omega (arith, x.to)), x.below s y.from h))
]

module _ (ids : List ℕ) (m id g : ℕ) (b : LowerBound (word_at ids) 0 m id g) (marks : List ℕ) where
  pub added_none : (g < m → word_at ids g ≡ id → ⊥) → Added ids m id marks marks
  added_none none = record {
    same = refl;
    kept = λ f h. h;
    every = λ f c less e inside. absurd (let same : f ≡ g = bound_same c b in none (omega arith) (ap (word_at ids) (sym same) ∙ e));
    only = λ f h. inl h;
  }

  pub added_group : word_at ids g ≡ id → (after : List ℕ) → after ≡ inserted marks g → Added ids m id marks after
  added_group e after put = rw put
      (record {
        same = length_inserted marks g;
        kept = λ f h. member-kept marks g f h;
        every = λ f c less z inside. (let same : f ≡ g = bound_same c b in member_new marks g f (subst (λ (x : ℕ). x / 64 < length marks) same inside) same);
        only = λ f h. elim (member-only marks g f h) [ inl k ↦ inl k | inr k ↦ inr (ap (word_at ids) k ∙ e) ];
      })

-- ---- a net: the exemptions before index i of its range are done
module _ (packed ids : List ℕ) (m from to : ℕ) where
  pub record NetMarking (marks : List ℕ) (i : ℕ) : Type 0 where
    pub room : length marks ≡ 64
    pub begun : from ≤ i
    pub end : i ≤ to
    pub every : (p : ℕ) → from ≤ p → p < i → (g : ℕ) → LowerBound (word_at ids) 0 m (node_of packed p) g → g < m → word_at ids g ≡ node_of packed p → g / 64 < 64 → member marks g ≡ true
    pub only : (g : ℕ) → member marks g ≡ true → (p : ℕ) × (from ≤ p) × (p < i) × (word_at ids g ≡ node_of packed p)

  pub net_marking_start : (marks : List ℕ) (n : ℕ) → n ≡ 64 → marks ≡ replicate n 0 → from ≤ to → NetMarking marks from
  net_marking_start marks n long e ordered = rw e
      (record {
        room = length-replicate n 0 ∙ long;
        begun = omega arith;
        end = ordered;
        every = λ p h k. absurd (omega arith);
        only = λ g h. clash (member (replicate n 0) g) h (member-none n g);
      })

  pub net_marking_next : (marks : List ℕ) (i : ℕ) → NetMarking marks i → i < to → (after : List ℕ) → Added ids m (node_of packed i) marks after → NetMarking after (i + 1)
  net_marking_next marks i u less after a = record {
    room = a.same ∙ u.room;
    begun = omega (arith, u.begun);
    end = omega arith;
    every = λ p h k g b z e f. elim (le_or_lt i p) [
      | inl y ↦ let here : p ≡ i = omega arith in a.every g (subst (λ (x : ℕ). LowerBound (word_at ids) 0 m (node_of packed x) g) here b) z (e ∙ ap (node_of packed) here) (omega (arith, u.room))
      | inr y ↦ a.kept g (u.every p h y g b z e f)
    ];
    only = λ g h. elim (a.only g h) [ inl k ↦ (let o = u.only g k in (o.0, o.1, omega (arith, o.2), o.3)) | inr k ↦ (i, u.begun, omega arith, k) ];
  }

-- all are done: the marks are those of the net
module _ (packed ids : List ℕ) (m : ℕ) (r : Range) (marks : List ℕ) (i : ℕ) (u : NetMarking packed ids m r.from r.to marks i) (k net : ℕ) (done : r.to ≤ i) (own : Own packed k net r) (ex : List Exemption) (groups w : List ℕ) (holds : Holds packed ex) (count : length ex ≡ k) (b : Grouped ids groups w m) where
  l : Listed packed ex net r
  l = listed_of packed k net r own ex holds count

  module _ (j : ℕ) (less : j < m) where
    abbrev g : ℕ
    g = get_or groups j 0

    -- a marked group has the id of one of the net's exemptions
    exempt_where_marked : member marks g ≡ true → true ≡ exempt ex net (leaf_at w j).id
    exempt_where_marked t =
        let o = u.only g t in
        let inside : o.0 < r.to = omega (arith, o.2, u.end) in
        listed packed ex net r l (leaf_at w j).id o.0 (omega (arith, own.inside)) (own.own o.0 o.1 inside) (sym o.3 ∙ (b.there j less).1)

    -- and where one of them names the leaf's id, its group is marked
    not_exempt-else : member marks g ≡ false → false ≡ exempt ex net (leaf_at w j).id
    not_exempt-else f = unlisted packed ex net r l (leaf_at w j).id (λ p h a e.
        let z = l.places.others p h a in
        let y = b.there j less in
        clash (member marks g) (u.every p z.0 (omega arith) g (subst (λ (x : ℕ). LowerBound (word_at ids) 0 m x g) (sym e) (b.first j less)) y.0 (y.1 ∙ sym e) (omega (arith, y.0, b.few))) f)

    leaf-marked : member marks g ≡ exempt ex net (leaf_at w j).id
    leaf-marked = elim (decide (member marks g)) [ inl t ↦ t ∙ exempt_where_marked t | inr f ↦ f ∙ not_exempt-else f ]

  pub net-marked : MarksOf (take 64 marks) groups w ex net
  net-marked = record { leaf = λ j h. ap (λ (s : List ℕ). member s (get_or groups j 0)) (take_all 64 marks (omega (arith, u.room))) ∙ leaf-marked j (omega (arith, b.whole)) }

-- ---- no group is marked: the net has no exemptions
pub none-marked : (packed : List ℕ) (k net : ℕ) (r : Range) → Own packed k net r → r.from ≡ r.to → (groups w : List ℕ) (ex : List Exemption) → Holds packed ex → length ex ≡ k → MarksOf [] groups w ex net
none-marked packed k net r own empty groups w ex holds count = record { leaf = λ j inside. member_beyond [] (get_or groups j 0) (omega arith) ∙ none-there packed ex net r (listed_of packed k net r own ex holds count) (leaf_at w j).id (omega arith) }

-- ---- the net is the same as before
pub same_net : (before : Option ℕ) (net : ℕ) → option_eq eqb before (Some net) ≡ true → before ≡ Some net
same_net None net e = clash false e refl
same_net (Some b) net e = ap Some (eqb-true b net e)

pub still_marked : (marks groups w : List ℕ) (ex : List Exemption) (before : Option ℕ) (net : ℕ) → MarksIfAny marks groups w ex before → before ≡ Some net → MarksOf marks groups w ex net
still_marked marks groups w ex before net stand e = rw e at stand
