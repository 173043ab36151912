-- The leaves' ids in order, and the group of each leaf: the words are written one by one, and the tree after them is unchanged. Assumes nothing.
use mathlib.Core.Path.{◌≡◌, refl, sym, ap, ◌∙◌, subst}
use mathlib.Core.Logic.{inl, inr}
use mathlib.Core.List.{List}
use Prim.Native.Nat.{ℕ, ◌+◌, ◌*◌, ◌≤◌, ◌<◌}
use native.Mathlib.Omega.{arith}
use lib.ListN.{length, get_or, take, drop, set, length-set, length-drop}
use lib.Seq.{get_or-take, get_or-drop, get_or-set_same, get_or-set_other, drop-set-lt, length-take-le}
use Rattle.laws.specs.Perm.{Perm}
use Rattle.laws.proofs.Tests.{le_or_lt}
use Rattle.laws.proofs.Places.{at_mem, mem_at}
use Rattle.laws.proofs.Perms.{perm_sym, perm_mem}
use Rattle.laws.proofs.Parts.{drop_past}
use Rattle.sorting.specs.Inner.Sorted.{sorted}
use Rattle.sorting.proofs.Entries.{sorted-perm, sorted_rest, sorted-length}
use Rattle.clearance_call.specs.Inner.Stored.{leaf_at}
use Rattle.exemptions.specs.Inner.Exempting.{word_at, Rising, LowerBound}
use Rattle.clearance_call.specs.Inner.Marks.{TreeAtEnd, IdsSorted, LeavesGrouped}
use Rattle.exemptions.proofs.ExemptLaws.{words-sortable, words-rising}

-- the id of leaf j, in the tree that follows 11 words for each of m leaves
abbrev id_of : List ℕ → ℕ → ℕ → ℕ
id_of s m j = (leaf_at (drop (11 * m) s) j).id

-- the word from which the code reads it
id-read : (s s₀ : List ℕ) (m j : ℕ) → drop (11 * m) s ≡ drop (11 * m) s₀ → get_or s (11 * m + 9 * j + 8) 0 ≡ id_of s₀ m j
id-read s s₀ m j e =
    let f : 11 * m + 9 * j + 8 ≡ 11 * m + (9 * j + 8) = omega arith in
    ap (λ (x : ℕ). get_or s x 0) f ∙ sym (get_or-drop (11 * m) s (9 * j + 8) 0) ∙ ap (λ (l : List ℕ). get_or l (9 * j + 8) 0) e

-- ---- the ids are written one by one, and put in order
module _ (s₀ : List ℕ) (m : ℕ) where
  pub record Copying (s : List ℕ) (j : ℕ) : Type 0 where
    pub lists : TreeAtEnd s₀ m
    pub same : length s ≡ length s₀
    pub written : (q : ℕ) → q < j → get_or s q 0 ≡ id_of s₀ m q
    pub behind : drop m s ≡ drop m s₀

  pub copying_start : TreeAtEnd s₀ m → Copying s₀ 0
  copying_start h = record { lists = h; same = refl; written = λ q g. absurd (omega arith); behind = refl }

  module _ (s : List ℕ) (j : ℕ) (u : Copying s j) where
    pub copying_next : j < m → (v : ℕ) → v ≡ get_or s (11 * m + 9 * j + 8) 0 → Copying (set s j v) (j + 1)
    copying_next h v e = record {
      lists = u.lists;
      same = length-set s j v ∙ u.same;
      written = λ q g. elim (le_or_lt j q) [
        | inl k ↦ let here : q ≡ j = omega arith in subst (λ (x : ℕ). get_or (set s j v) x 0 ≡ id_of s₀ m x) (sym here) (get_or-set_same s j v 0 (omega (arith, u.same, u.lists.whole)) ∙ e ∙ id-read s s₀ m j (drop_past m (11 * m) s s₀ u.behind (omega arith)))
        | inr k ↦ get_or-set_other s j q v 0 (λ f. omega arith) ∙ u.written q k
      ];
      behind = drop-set-lt m s j v h ∙ u.behind;
    }

    pub copying_end : m ≤ j → (t : List ℕ) → t ≡ sorted s m m 0 → IdsSorted s₀ t m
    copying_end h t e = record { rising = rw e (words-rising s m room); behind = ap (drop m) e ∙ sorted_rest s m m 0 (words-sortable s m room) ∙ u.behind; every = every }
      where
        room : m ≤ length s
        room = omega (arith, u.same, u.lists.whole)

        perm : Perm (take m t) (take m s)
        perm = subst (λ (l : List ℕ). Perm (take m l) (take m s)) (sym e) (sorted-perm s m m 0 (words-sortable s m room))

        long : length t ≡ length s
        long = ap length e ∙ sorted-length s m m 0

        every : (i : ℕ) → i < m → (q : ℕ) × (q < m) × (get_or t q 0 ≡ id_of s₀ m i)
        every i g =
            let a = length-take-le m s room in
            let b = length-take-le m t (omega (arith, long)) in
            let z = mem_at _ (take m t) 0 (perm_mem _ (perm_sym perm) (at_mem (take m s) i 0 (omega arith))) in
            let less : z.0 < m = omega (arith, z.1) in
            (z.0, less, sym (get_or-take m t z.0 0 less) ∙ sym z.2 ∙ get_or-take m s i 0 g ∙ u.written i (omega arith))

-- ---- the groups are found one by one
bound_keys : (key other : ℕ → ℕ) (a b v r : ℕ) → ((i : ℕ) → i < b → other i ≡ key i) → LowerBound key a b v r → LowerBound other a b v r
bound_keys key other a b v r same x = record {
  from = x.from;
  to = x.to;
  below = λ i p q. subst (λ (z : ℕ). z < v) (sym (same i (omega (arith, x.to)))) (x.below i p q);
  above = λ i p q. subst (λ (z : ℕ). v ≤ z) (sym (same i q)) (x.above i p q);
}

module _ (s₀ : List ℕ) (m : ℕ) where
  -- the groups of the leaves before leaf j are written after the ids
  pub record Grouping (s : List ℕ) (j : ℕ) : Type 0 where
    pub whole : length s ≡ 20 * m
    pub few : m ≤ 4096
    pub rising : Rising s m
    pub tree : drop (11 * m) s ≡ drop (11 * m) s₀
    pub every : (i : ℕ) → i < m → (q : ℕ) × (q < m) × (word_at s q ≡ id_of s₀ m i)
    pub written : (i : ℕ) → i < j → LowerBound (word_at s) 0 m (id_of s₀ m i) (get_or s (m + i) 0)

  pub grouping_start : (b : List ℕ) → TreeAtEnd b m → IdsSorted b s₀ m → length s₀ ≡ length b → Grouping s₀ 0
  grouping_start b lists ids same = record {
    whole = same ∙ lists.whole;
    few = lists.few;
    rising = ids.rising;
    tree = refl;
    every = λ i h. (let z = ids.every i h in (z.0, z.1, z.2 ∙ sym (ap (λ (l : List ℕ). (leaf_at l i).id) (drop_past m (11 * m) s₀ b ids.behind (omega arith)))));
    written = λ i h. absurd (omega arith);
  }

  module _ (s : List ℕ) (j : ℕ) (u : Grouping s j) where
    pub grouping_next : j < m → (v : ℕ) → v ≡ get_or s (11 * m + 9 * j + 8) 0 → (g : ℕ) → LowerBound (word_at s) 0 m v g → Grouping (set s (m + j) g) (j + 1)
    grouping_next h v e g b = record {
      whole = length-set s (m + j) g ∙ u.whole;
      few = u.few;
      rising = record { room = omega (arith, length-set s (m + j) g, u.rising.room); order = λ i k z p q. (let y = u.rising.order i k z p q in omega (arith, keys i (omega arith), keys k q)) };
      tree = drop-set-lt (11 * m) s (m + j) g (omega arith) ∙ u.tree;
      every = λ i k. (let z = u.every i k in (z.0, z.1, keys z.0 z.1 ∙ z.2));
      written = λ i k. elim (le_or_lt j i) [
        | inl z ↦
            let here : i ≡ j = omega arith in
            subst (λ (x : ℕ). LowerBound (word_at (set s (m + j) g)) 0 m (id_of s₀ m x) (get_or (set s (m + j) g) (m + x) 0)) (sym here)
            (rw (get_or-set_same s (m + j) g 0 (omega (arith, u.whole)))
            (bound_keys (word_at s) (word_at (set s (m + j) g)) 0 m (id_of s₀ m j) g keys (subst (λ (x : ℕ). LowerBound (word_at s) 0 m x g) (e ∙ id-read s s₀ m j u.tree) b)))
        | inr z ↦
            rw (get_or-set_other s (m + j) (m + i) g 0 (λ f. omega arith))
            (bound_keys (word_at s) (word_at (set s (m + j) g)) 0 m (id_of s₀ m i) (get_or s (m + i) 0) keys (u.written i z))
      ];
    }
      where
        keys : (i : ℕ) → i < m → word_at (set s (m + j) g) i ≡ word_at s i
        keys i k = get_or-set_other s (m + j) i g 0 (λ f. omega arith)

    -- the first index whose word is not below an id that occurs there has that id
    there : (i v g : ℕ) → LowerBound (word_at s) 0 m v g → ((q : ℕ) × (q < m) × (word_at s q ≡ v)) → (g < m) × (word_at s g ≡ v)
    there i v g b z = elim (le_or_lt g z.0) [
      | inl h ↦ let less : g < m = omega (arith, z.1) in (less, omega (arith, b.above g (omega arith) less, u.rising.order g z.0 (omega arith) h z.1, z.2))
      | inr h ↦ absurd (omega (arith, b.below z.0 (omega arith) h, z.2))
    ]

    pub grouping_end : m ≤ j → (b : List ℕ) → IdsSorted b s₀ m → (exemptions : ℕ) → LeavesGrouped b s m exemptions
    grouping_end h b ids exemptions = record {
      tree = u.tree ∙ drop_past m (11 * m) s₀ b ids.behind (omega arith);
      leaves = λ some. record {
        rising = u.rising;
        few = u.few;
        whole = length-drop (11 * m) s ∙ (let f = u.whole in omega arith);
        first = λ i k. rw (get_or-drop m s i 0, u.tree) (u.written i (omega arith));
        there = λ i k. rw (get_or-drop m s i 0, u.tree) (there i (id_of s₀ m i) (get_or s (m + i) 0) (u.written i (omega arith)) (u.every i k));
      };
    }

-- no groups are made
pub not_grouped : (s : List ℕ) (m exemptions : ℕ) → exemptions ≡ 0 → LeavesGrouped s s m exemptions
not_grouped s m exemptions e = record { tree = refl; leaves = λ h. absurd (omega arith) }
