-- The first 4,097 entries of a list decide as the whole list does: with more than 4,096 entries a call is refused (SCOPE 7.3), whatever they are. Assumes nothing.
use Rattle.std.specs.Prelude.{Result, Ok, Err, true, cond, List, ℕ, ◌<◌, Float, length, take, ◌≡◌, refl}
use Rattle.std.proofs.Common.{sym, ap, subst, ◌∙◌, inl, inr, arith}
use Rattle.std.proofs.lemmas.List.{take_all, length-take-le}
use borrow.Author.Tests.{lt-ltb}
use Rattle.laws.proofs.Tests.{le_or_lt, decide}
use Rattle.drawing.specs.declared.refusal.Refusal.{Refusal}
use Rattle.drawing.specs.declared.refusal.Refusal.TheVariants.{ColumnsDiffer, TooManyEntries}
use Rattle.drawing.specs.Entries.{Segment, SegmentColumns, NodeColumns, ExemptionColumns, columns_of}
use Rattle.drawing.specs.Conditions.{too_many}
use Rattle.drawing.specs.Refusals.{first_of, scratch_after}
use Rattle.drawing.specs.Checks.{nodes_differ, exemptions_differ, segment_conditions, list_conditions}
use Rattle.drawing.proofs.FirstRefusal.{first_yes, first_no, first_stop}
use Rattle.drawing.proofs.ColumnLaws.{columns_same, columns_count}
use Rattle.separation.specs.Conditions.{separation_conditions}
use Rattle.separation.specs.Answer.{separation_answer}
use Rattle.congestion.specs.Conditions.{congestion_conditions}
use Rattle.congestion.specs.Answer.{density_answer, profile_answer, congestion_answer}
use Rattle.clearance.specs.Conditions.{clearance_conditions}
use Rattle.clearance.specs.Answer.{clearance_answer}

-- a list has at most 4,096 entries, or it is refused for their number alone
few_or_many : {A : Type 0} (P : List A → List A → Type 0) (l : List A) → ((k : List A) → P k k) → ((j k : List A) → 4096 < length j → 4096 < length k → P j k) → P (take 4097 l) l
few_or_many P l same many = elim (le_or_lt (length l) 4096) [
  | inl h ↦ let e : take 4097 l ≡ l = take_all 4097 l (omega arith) in rw e (same l)
  | inr h ↦ let e : length (take 4097 l) ≡ 4097 = length-take-le 4097 l (omega arith) in many (take 4097 l) l (omega (arith, e)) h
]

too_many_entries : (l : List Segment) → 4096 < length l → too_many (length (columns_of l).net) ≡ true
unfolding too_many
too_many_entries l h = lt-ltb 4096 (length (columns_of l).net) (rw (columns_count l) h)

-- ---- the checks of a list with more than 4,096 entries
segments-many : (l : List Segment) (words : ℕ) → 4096 < length l → first_of (segment_conditions (columns_of l) words) ≡ Err TooManyEntries
unfolding segment_conditions
segments-many l words h = first_no _ _ _ (columns_same l) ∙ first_yes _ _ _ (too_many_entries l h)

pub separation-many : (words : ℕ) (l : List Segment) → 4096 < length l → first_of (separation_conditions (columns_of l) words) ≡ Err TooManyEntries
unfolding separation_conditions
separation-many words l h = segments-many l words h

pub congestion-many : (cutoff : Float) (words : ℕ) (l : List Segment) → 4096 < length l → first_of (congestion_conditions (columns_of l) cutoff words) ≡ Err TooManyEntries
unfolding congestion_conditions
congestion-many cutoff words l h = sym (first_stop (segment_conditions (columns_of l) words) _ (Err TooManyEntries) TooManyEntries (sym (segments-many l words h)) refl)

-- refusal 2 of the other lists is checked first
abbrev pub stops : NodeColumns → ExemptionColumns → Refusal
stops n e = cond (nodes_differ n) ColumnsDiffer (cond (exemptions_differ e) ColumnsDiffer TooManyEntries)

lists-many : (l : List Segment) (n : NodeColumns) (e : ExemptionColumns) → 4096 < length l → first_of (list_conditions (columns_of l) n e) ≡ Err (stops n e)
unfolding list_conditions
lists-many l n e h = first_no _ _ _ (columns_same l) ∙ elim (decide (nodes_differ n)) [
  | inl d ↦ first_yes _ _ _ d ∙ rw d
  | inr d ↦ first_no _ _ _ d ∙ elim (decide (exemptions_differ e)) [
    | inl x ↦ first_yes _ _ _ x ∙ rw (d, x)
    | inr x ↦ first_no _ _ _ x ∙ first_yes _ _ _ (too_many_entries l h) ∙ rw (d, x)
  ]
]

pub clearance-many : (n : NodeColumns) (e : ExemptionColumns) (threshold : Float) (words : ℕ) (l : List Segment) → 4096 < length l → first_of (clearance_conditions (columns_of l) n e threshold words) ≡ Err (stops n e)
unfolding clearance_conditions
clearance-many n e threshold words l h = sym (first_stop (list_conditions (columns_of l) n e) _ (Err (stops n e)) (stops n e) (sym (lists-many l n e h)) refl)

-- what holds of a list that passes, j being its first 4,097 entries, holds of all entries where they pass
pub passed_all : (c : List Segment → Result Unit Refusal) (r : Refusal) → ((k : List Segment) → 4096 < length k → c k ≡ Err r) → (P : List Segment → Type 0) (j l : List Segment) → j ≡ take 4097 l → (c j ≡ Ok tt → P j) → c l ≡ Ok tt → P l
passed_all c r many P j l e h =
    let late : (i k : List Segment) → 4096 < length i → 4096 < length k → (c i ≡ Ok tt → P i) → c k ≡ Ok tt → P k = λ i k a b g.
    let stop : c k ≡ Err r = many k b in λ passed. cc in
    few_or_many (λ i k. (c i ≡ Ok tt → P i) → c k ≡ Ok tt → P k) l (λ k g. g) late (subst (λ k. c k ≡ Ok tt → P k) e h)

-- ---- so what a call promises of the columns of the first 4,097 entries it promises of those of all
module _ {A : Type 0} (answer : SegmentColumns → Result A Refusal) (checked : SegmentColumns → Result Unit Refusal) (IsHeld : SegmentColumns → Type 0) (before : List ℕ) where
  -- the result, the scratch at exit, and what is held where the checks pass
  abbrev pub Promised : Result A Refusal → List ℕ → SegmentColumns → Type 0
  Promised told after s = (told ≡ answer s) × (after ≡ scratch_after (checked s) before) × (checked s ≡ Ok tt → IsHeld s)

  pub decided : {told : Result A Refusal} {after : List ℕ} {s : SegmentColumns} (why : Refusal) → ((k : List Segment) → 4096 < length k → checked (columns_of k) ≡ Err why) → ((t : SegmentColumns) → checked t ≡ Err why → answer t ≡ Err why) → (l : List Segment) → s ≡ columns_of (take 4097 l) → Promised told after s → Promised told after (columns_of l)
  decided {told} {after} {s} why many refused l e p =
      let first = subst (Promised told after) e p in (
        few_or_many (λ j k. told ≡ answer (columns_of j) → told ≡ answer (columns_of k)) l (λ k q. q) (λ j k x y q. q ∙ refused (columns_of j) (many j x) ∙ sym (refused (columns_of k) (many k y))) first.0,
        few_or_many (λ j k. after ≡ scratch_after (checked (columns_of j)) before → after ≡ scratch_after (checked (columns_of k)) before) l (λ k q. q) (λ j k x y q. q ∙ ap (λ r. scratch_after r before) (many j x ∙ sym (many k y))) first.1,
        passed_all (λ k. checked (columns_of k)) why many (λ k. IsHeld (columns_of k)) (take 4097 l) l refl first.2,
      )

pub separation-refused : (allowance words : ℕ) (s : SegmentColumns) → first_of (separation_conditions s words) ≡ Err TooManyEntries → separation_answer s allowance words ≡ Err TooManyEntries
unfolding separation_answer
separation-refused allowance words s e = rw e

pub density-refused : (cutoff : Float) (allowance words : ℕ) (s : SegmentColumns) → first_of (congestion_conditions s cutoff words) ≡ Err TooManyEntries → density_answer s cutoff allowance words ≡ Err TooManyEntries
unfolding density_answer
density-refused cutoff allowance words s e = rw e

pub profile-refused : (cutoff : Float) (allowance words : ℕ) (s : SegmentColumns) → first_of (congestion_conditions s cutoff words) ≡ Err TooManyEntries → profile_answer s cutoff allowance words ≡ Err TooManyEntries
unfolding profile_answer
profile-refused cutoff allowance words s e = rw e

pub congestion-refused : (cutoff : Float) (words : ℕ) (s : SegmentColumns) → first_of (congestion_conditions s cutoff words) ≡ Err TooManyEntries → congestion_answer s cutoff words ≡ Err TooManyEntries
unfolding congestion_answer
congestion-refused cutoff words s e = rw e

pub clearance-refused : (n : NodeColumns) (e : ExemptionColumns) (threshold : Float) (allowance words : ℕ) (s : SegmentColumns) → first_of (clearance_conditions s n e threshold words) ≡ Err (stops n e) → clearance_answer s n e threshold allowance words ≡ Err (stops n e)
unfolding clearance_answer
clearance-refused n e threshold allowance words s p = rw p
