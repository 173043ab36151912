-- A summary decides, for every net, whether another one is in the list that it sums up; and what the functions on summaries answer. Assumes nothing.
use mathlib.Core.Path.{◌≡◌, refl, sym, ap, ◌∙◌, subst}
use mathlib.Core.Logic.{inl, inr}
use mathlib.Core.Bool.{Bool, true, false, not, ◌||◌}
use mathlib.Core.List.{List, [], ◌∷◌}
use Prim.Native.Nat.{ℕ, ◌+◌, ◌-◌, ◌≤◌, ◌<◌}
use native.Mathlib.Omega.{arith}
use borrow.Author.Tests.{ne_eqb, eqb-true, eqb-false, not-true, le-leb, lt-leb}
use lib.Dec.{eqb}
use Rattle.laws.specs.Lists.{Mem, some_of, keep}
use Rattle.laws.proofs.Tests.{decide, is_true, of_true, same_test, or_false}
use Rattle.laws.proofs.ListLaws.{mem_some, some_mem, mem_chosen, chosen_mem}
use Rattle.separation.specs.declared.summary.NetSummary.{NetSummary}
use Rattle.separation.specs.declared.summary.NetSummary.TheVariants.{Nothing, One, Two}
use Rattle.separation.specs.Inner.Summaries.{summary_has_other, summary_of_word}

-- ---- the summary of a list of nets
abbrev pub other_than : ℕ → ℕ → Bool
other_than n m = not (eqb m n)

-- a net with those that differ from it
abbrev with_second : ℕ → List ℕ → NetSummary
with_second n [] = One n
with_second n (m ∷ l) = Two

unfoldable pub summary_of : List ℕ → NetSummary
summary_of [] = Nothing
summary_of (n ∷ l) = with_second n (keep (other_than n) l)

-- tests that hold together are one test
pub both : (a b : Bool) → (a ≡ true → b ≡ true) → (b ≡ true → a ≡ true) → a ≡ b
both a b f g = same_test a b (λ t. of_true b (f (is_true a t))) (λ t. of_true a (g (is_true b t)))

-- the entries kept differ from n
kept : (n : ℕ) (l : List ℕ) (m : ℕ) (k : List ℕ) → keep (other_than n) l ≡ m ∷ k → m ≡ n → ⊥
kept n l m k e =
    let g = mem_chosen (other_than n) (λ (x : ℕ). x) m l (subst (λ (z : List ℕ). Mem m z) (sym e) (inl refl)) in
    eqb-false m n (not-true (eqb m n) (ap (other_than n) g.3 ∙ g.2))

-- ---- SCOPE 14.7: "a tree summary with one net only" would not do: of two different nets one is always another than n
pub two_decide : (a b n : ℕ) → (b ≡ a → ⊥) → (not (eqb a n) || not (eqb b n)) ≡ true
two_decide a b n h = elim (decide (eqb a n)) [
  | inr f ↦ rw f
  | inl t ↦ rw (t, ne_eqb b n (λ e. h (e ∙ sym (eqb-true a n t))))
]

some_more : (p : ℕ → Bool) (l r : List ℕ) → ((x : ℕ) → Mem x l → Mem x r) → some_of p l ≡ true → some_of p r ≡ true
some_more p l r h t = let g = some_mem p l t in mem_some p g.0 r (h g.0 g.1) g.2

two-some : (a b n : ℕ) → (b ≡ a → ⊥) → some_of (other_than n) (a ∷ b ∷ []) ≡ true
unfolding some_of
two-some a b n h = ap (λ (z : Bool). not (eqb a n) || z) (sym (or_false (not (eqb b n)))) ∙ two_decide a b n h

one-some : (a n : ℕ) → some_of (other_than n) (a ∷ []) ≡ not (eqb a n)
unfolding some_of
one-some a n = sym (or_false (not (eqb a n)))

pub summary_decides : (l : List ℕ) (n : ℕ) → summary_has_other (summary_of l) n ≡ some_of (other_than n) l
unfolding summary_of summary_has_other some_of
summary_decides [] n = refl
summary_decides (m ∷ l) n = go (keep (other_than m) l) refl
  where
    -- no entry differs from m
    alone : keep (other_than m) l ≡ [] → (x : ℕ) → Mem x (m ∷ l) → Mem x (m ∷ [])
    alone e x (inl k) = inl k
    alone e x (inr k) = elim (decide (eqb x m)) [
      | inl t ↦ inl (eqb-true x m t)
      | inr f ↦ absurd (subst (λ (z : List ℕ). Mem x z) e (chosen_mem (other_than m) (λ (y : ℕ). y) x l k (ap not f)))
    ]

    first : (x : ℕ) → Mem x (m ∷ []) → Mem x (m ∷ l)
    first x (inl k) = inl k
    first x (inr k) = absurd k

    -- the second net is one of the list
    second : (a : ℕ) (k : List ℕ) → keep (other_than m) l ≡ a ∷ k → (x : ℕ) → Mem x (m ∷ a ∷ []) → Mem x (m ∷ l)
    second a k e x (inl q) = inl q
    second a k e x (inr (inl q)) =
        let g = mem_chosen (other_than m) (λ (y : ℕ). y) a l (subst (λ (z : List ℕ). Mem a z) (sym e) (inl refl)) in
        inr (subst (λ (z : ℕ). Mem z l) (sym (q ∙ g.3)) g.1)
    second a k e x (inr (inr q)) = absurd q

    go : (k : List ℕ) → keep (other_than m) l ≡ k → summary_has_other (with_second m k) n ≡ some_of (other_than n) (m ∷ l)
    go [] e = sym (one-some m n) ∙ both (some_of (other_than n) (m ∷ [])) (some_of (other_than n) (m ∷ l)) (some_more (other_than n) (m ∷ []) (m ∷ l) first) (some_more (other_than n) (m ∷ l) (m ∷ []) (alone e))
    go (a ∷ k) e = sym (some_more (other_than n) (m ∷ a ∷ []) (m ∷ l) (second a k e) (two-some m a n (kept m l a k e)))

-- ---- two ranges together, by cases of their summaries
module _ (l r : NetSummary) (n : ℕ) where
  pub merged_nothing : l ≡ Nothing → summary_has_other r n ≡ (summary_has_other l n || summary_has_other r n)
  unfolding summary_has_other
  merged_nothing e = rw e

  pub merged-left : (a : ℕ) → l ≡ One a → r ≡ Nothing → summary_has_other (One a) n ≡ (summary_has_other l n || summary_has_other r n)
  unfolding summary_has_other
  merged-left a e f = rw (e, f) (or_false (not (eqb a n)))

  pub merged-same : (a b : ℕ) → l ≡ One a → r ≡ One b → b ≡ a → summary_has_other (One a) n ≡ (summary_has_other l n || summary_has_other r n)
  unfolding summary_has_other
  merged-same a b e f t = rw (e, f, t) (go (not (eqb a n)))
    where
      go : (z : Bool) → z ≡ (z || z)
      go true = refl
      go false = refl

  pub merged-apart : (a b : ℕ) → l ≡ One a → r ≡ One b → (b ≡ a → ⊥) → summary_has_other Two n ≡ (summary_has_other l n || summary_has_other r n)
  unfolding summary_has_other
  merged-apart a b e f t = rw (e, f) (sym (two_decide a b n t))

  pub merged-right : (a : ℕ) → l ≡ One a → r ≡ Two → summary_has_other r n ≡ (summary_has_other l n || summary_has_other r n)
  unfolding summary_has_other
  merged-right a e f = rw (e, f) (go (not (eqb a n)))
    where
      go : (z : Bool) → true ≡ (z || true)
      go true = refl
      go false = refl

  pub merged-two : l ≡ Two → summary_has_other l n ≡ (summary_has_other l n || summary_has_other r n)
  unfolding summary_has_other
  merged-two e = rw e

-- ---- another net, by cases of the summary
module _ (s : NetSummary) (n : ℕ) where
  pub other_nothing : s ≡ Nothing → false ≡ summary_has_other s n
  unfolding summary_has_other
  other_nothing e = rw e

  pub other-one : (a : ℕ) → s ≡ One a → not (eqb a n) ≡ summary_has_other s n
  unfolding summary_has_other
  other-one a e = rw e

  pub other-two : s ≡ Two → true ≡ summary_has_other s n
  unfolding summary_has_other
  other-two e = rw e

-- ---- words
pub word_nothing : (w : ℕ) → w ≡ 0 → Nothing ≡ summary_of_word w
unfolding summary_of_word
word_nothing w e = rw e

pub word-one : (w : ℕ) → (w ≡ 0 → ⊥) → w ≤ 4294967296 → One (w - 1) ≡ summary_of_word w
unfolding summary_of_word
word-one w n h = rw (ne_eqb w 0 n, le-leb w 4294967296 h)

pub word_two : (w : ℕ) → (w ≡ 0 → ⊥) → 4294967296 < w → Two ≡ summary_of_word w
unfolding summary_of_word
word_two w n h = rw (ne_eqb w 0 n, lt-leb w 4294967296 h)

pub one_word : (net : ℕ) → net < 4294967296 → summary_of_word (net + 1) ≡ One net
one_word net h = sym (word-one (net + 1) (λ e. omega arith) (omega arith)) ∙ ap One (omega arith)

-- the word of two words' summaries together
pub merged-words : (a b r : ℕ) (x y z : NetSummary) → x ≡ summary_of_word a → y ≡ summary_of_word b → ((n : ℕ) → summary_has_other z n ≡ (summary_has_other x n || summary_has_other y n)) → summary_of_word r ≡ z → (n : ℕ) → summary_has_other (summary_of_word r) n ≡ (summary_has_other (summary_of_word a) n || summary_has_other (summary_of_word b) n)
merged-words a b r x y z e f m g n = ap (λ (w : NetSummary). summary_has_other w n) g ∙ m n ∙ (λ i. summary_has_other (e i) n || summary_has_other (f i) n)
