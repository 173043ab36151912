-- Parts of the file that are of one width: such a part is read where none of its bytes is missing and it has no fault, and else the file is malformed. Assumes nothing.
use mathlib.Core.Path.{◌≡◌, refl, sym, ap, ◌∙◌}
use mathlib.Core.Logic.{inl, inr}
use mathlib.Core.Bool.{Bool, true, false, ◌||◌}
use mathlib.Core.List.{List, [], ◌∷◌, map}
use Prim.Native.Nat.{ℕ, zero, suc, ◌+◌, ◌*◌, ◌≤◌, ◌<◌}
use native.Mathlib.Nat.{mul-suc}
use native.Mathlib.Omega.{arith}
use borrow.Author.Tests.{le-leb, lt-leb}
use lib.ListN.{length, take, drop, length-drop}
use lib.Seq.{drop-drop}
use Rattle.laws.specs.Lists.{some_of}
use Rattle.laws.proofs.Tests.{le_or_lt, decide, cond_true, cond_false, or_false, neither_left, neither_right}
use Rattle.drawing.specs.declared.refusal.Refusal.{Refusal}
use Rattle.drawing.specs.declared.refusal.Refusal.TheVariants.{MalformedFile}
use Rattle.file.specs.Reading.{Read, got, refused, then, big_endian, number, entries}
use Rattle.file.specs.Inner.Places.{places}

pub then-got : {A B : Type 0} (x : Read A) (k : A → List ℕ → Read B) (a : A) (l : List ℕ) → x ≡ got a l → then x k ≡ k a l
unfolding then
then-got x k a l e = rw e

pub then-refused : {A B : Type 0} (x : Read A) (k : A → List ℕ → Read B) (r : Refusal) → x ≡ refused r → then x k ≡ refused r
unfolding then
then-refused x k r e = rw e

-- `entry` reads w bytes, gives `value` of them and refuses those that `bad` finds a fault in
pub record Fixed {A : Type 0} (w : ℕ) (bad : List ℕ → Bool) (value : List ℕ → A) (entry : List ℕ → Read A) : Type 0 where
  pub short : (l : List ℕ) → length l < w → entry l ≡ refused MalformedFile
  pub wrong : (l : List ℕ) → w ≤ length l → bad l ≡ true → entry l ≡ refused MalformedFile
  pub reads : (l : List ℕ) → w ≤ length l → bad l ≡ false → entry l ≡ got (value l) (drop w l)

-- a number has no fault
pub fixed_number : (k : ℕ) → Fixed k (λ l. false) (λ l. big_endian 0 (take k l)) (number k)
unfolding number
fixed_number k =
    record {
      short = λ l h. cond_false _ _ _ (lt-leb k (length l) h);
      wrong = λ l h e. absurd (no e);
      reads = λ l h e. cond_true _ _ _ (le-leb k (length l) h);
    }
  where
    no : false ≡ true → ⊥
    no e = let z : ◌≡◌ {A = ℕ} 0 1 = cc in omega arith

-- a part of no bytes
pub fixed-got : {A : Type 0} (a : A) → Fixed 0 (λ l. false) (λ l. a) (λ l. got a l)
fixed-got a =
    record {
      short = λ l h. absurd (omega arith);
      wrong = λ l h e. cc;
      reads = λ l h e. refl;
    }

-- one part after another
module _
    {A B : Type 0}
    {w v : ℕ}
    {bad : List ℕ → Bool}
    {value : List ℕ → A}
    {entry : List ℕ → Read A}
    {bad' : A → List ℕ → Bool}
    {value' : A → List ℕ → B}
    {entry' : A → List ℕ → Read B}
    (first : Fixed w bad value entry)
    (second : (a : A) → Fixed v (bad' a) (value' a) (entry' a))
  where
    pub fixed_then : Fixed (w + v) (λ l. bad l || bad' (value l) (drop w l)) (λ l. value' (value l) (drop w l)) (λ l. then (entry l) entry')
    fixed_then = record { short = short; wrong = wrong; reads = reads }
      where
        short : (l : List ℕ) → length l < w + v → then (entry l) entry' ≡ refused MalformedFile
        short l h = elim (le_or_lt w (length l)) [
          | inr k ↦ then-refused (entry l) entry' MalformedFile (first.short l k)
          | inl k ↦ elim (decide (bad l)) [
            | inl t ↦ then-refused (entry l) entry' MalformedFile (first.wrong l k t)
            | inr f ↦ then-got (entry l) entry' _ _ (first.reads l k f) ∙ (second (value l)).short (drop w l) (simp length-drop (omega arith))
          ]
        ]

        wrong : (l : List ℕ) → w + v ≤ length l → (bad l || bad' (value l) (drop w l)) ≡ true → then (entry l) entry' ≡ refused MalformedFile
        wrong l h e =
            let k : w ≤ length l = omega arith in
            elim (decide (bad l)) [
              | inl t ↦ then-refused (entry l) entry' MalformedFile (first.wrong l k t)
              | inr f ↦ then-got (entry l) entry' _ _ (first.reads l k f) ∙ (second (value l)).wrong (drop w l) (simp length-drop (omega arith)) (sym (rw f) ∙ e)
            ]

        reads : (l : List ℕ) → w + v ≤ length l → (bad l || bad' (value l) (drop w l)) ≡ false → then (entry l) entry' ≡ got (value' (value l) (drop w l)) (drop (w + v) l)
        reads l h e =
            let k : w ≤ length l = omega arith in
            then-got (entry l) entry' _ _ (first.reads l k (neither_left (bad l) (bad' (value l) (drop w l)) e))
            ∙ (second (value l)).reads (drop w l) (simp length-drop (omega arith)) (neither_right (bad l) (bad' (value l) (drop w l)) e)
            ∙ ap (got (value' (value l) (drop w l))) (drop-drop v w l)

-- the same part, with equal width, faults and value
pub fixed_as : {A : Type 0} {w v : ℕ} {bad bad' : List ℕ → Bool} {value value' : List ℕ → A} {entry : List ℕ → Read A} → w ≡ v → ((l : List ℕ) → bad' l ≡ bad l) → ((l : List ℕ) → value l ≡ value' l) → Fixed w bad value entry → Fixed v bad' value' entry
fixed_as {w} {v} {bad} {bad'} {value} {value'} {entry} e p q f =
    record {
      short = λ l h. f.short l (omega arith);
      wrong = λ l h t. f.wrong l (omega arith) (sym (p l) ∙ t);
      reads = λ l h t. f.reads l (omega arith) (sym (p l) ∙ t) ∙ (λ i. got (q l i) (drop (e i) l));
    }

-- n entries of one width
pub fixed-entries : {A : Type 0} {w : ℕ} {bad : List ℕ → Bool} {value : List ℕ → A} {entry : List ℕ → Read A} → Fixed w bad value entry → (n : ℕ) → Fixed (w * n) (λ l. some_of bad (places w n l)) (λ l. map value (places w n l)) (entries entry n)
unfolding entries places some_of
fixed-entries {w} {bad} {value} {entry} f zero = fixed_as (omega arith) (λ l. refl) (λ l. refl) (fixed-got [])
fixed-entries {w} {bad} {value} {entry} f (suc n) =
    fixed_as (omega (arith, mul-suc w n)) (λ l. ap (λ (b : Bool). bad l || b) (or_false (some_of bad (places w n (drop w l))))) (λ l. refl) (fixed_then f (λ a. fixed_then (fixed-entries f n) (λ rest. fixed-got (a ∷ rest))))
