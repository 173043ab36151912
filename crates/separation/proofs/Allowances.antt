-- Searches, `set` and the steps of the sweep within an allowance, node by node: the outcomes of code that pays for each visit. Assumes nothing.
use Rattle.drawing.specs.declared.refusal.Refusal.TheVariants.{WorkLimitExceeded}
use Rattle.std.specs.Prelude.{Option, None, Some, Ok, Err}
use mathlib.Core.Path.{◌≡◌, refl, ◌∙◌}
use mathlib.Core.Bool.{Bool, true, false}
use mathlib.Core.List.{List, [], ◌∷◌}
use Prim.Native.Nat.{ℕ, zero, suc, ◌≤◌, ◌<◌}
use native.Mathlib.Omega.{arith}
use lib.ListN.{length}
use Rattle.laws.specs.Charged.{Charged, free, visit, after, runs}
use Rattle.laws.specs.Inner.Allowance.{spent, left, within, onward}
use Rattle.laws.proofs.Runs.{within-free, within-after, visit-spent, visit-paid, onward-spent, onward-left}
use Rattle.drawing.specs.Entries.{Segment}
use Rattle.rows.specs.Rows.{Row, oriented, events}
use Rattle.separation.specs.Lines.{lines, levels}
use Rattle.separation.specs.Searches.{search_leaf, or_else, search_node, set_run}
use Rattle.separation.specs.Inner.Searches.{search_of}
use Rattle.separation.specs.Walk.{no_figures, lesser_figures, Sweep, remove, ends_at, step, sweep, along, walk_all}

-- ---- SCOPE 15.6: "a search answers found, empty or spent"
pub answer-spent : search_of spent ≡ Err WorkLimitExceeded
unfolding search_of
answer-spent = refl

pub answer-paid : (found : Option ℕ) (m : ℕ) → search_of (left found m) ≡ Ok (record { line = found; remaining = m })
unfolding search_of
answer-paid found m = refl

-- ---- a leaf and a node, with no visit left and with at least one
pub leaf-spent : (t : Bool) (s : ℕ) → within 0 (search_leaf t s) ≡ spent
leaf-spent true s = visit-spent (free (Some s))
leaf-spent false s = visit-spent (free None)

pub leaf-found : (m s : ℕ) → within (suc m) (search_leaf true s) ≡ left (Some s) m
leaf-found m s = visit-paid m (free (Some s)) ∙ within-free m (Some s)

pub empty-paid : (m : ℕ) → within {A = Option ℕ} (suc m) (visit (free None)) ≡ left None m
empty-paid m = visit-paid m (free None) ∙ within-free m None

module _ (one two : Charged (Option ℕ)) where
  pub node-spent : (t : Bool) → within 0 (search_node t one two) ≡ spent
  node-spent true = visit-spent (after one (λ r. or_else r two))
  node-spent false = visit-spent (free None)

  -- the first child's search, and what its answer leads to
  node-on : (m : ℕ) → within (suc m) (search_node true one two) ≡ onward (within m one) (λ v r. within r (or_else v two))
  node-on m = visit-paid m (after one (λ r. or_else r two)) ∙ within-after m one (λ r. or_else r two)

  pub first-spent : (m : ℕ) → within m one ≡ spent → within (suc m) (search_node true one two) ≡ spent
  first-spent m e = node-on m ∙ rw e (onward-spent (λ v r. within r (or_else v two)))

  pub first_found : (m i r : ℕ) → within m one ≡ left (Some i) r → within (suc m) (search_node true one two) ≡ left (Some i) r
  first_found m i r e = node-on m ∙ rw e (onward-left (Some i) r (λ v r. within r (or_else v two)) ∙ within-free r (Some i))

  pub first-empty : (m r : ℕ) → within m one ≡ left None r → within (suc m) (search_node true one two) ≡ within r two
  first-empty m r e = node-on m ∙ rw e (onward-left None r (λ v r. within r (or_else v two)))

-- ---- `set`: the nodes from a leaf up, h of them above it
pub set-spent : (h : ℕ) → within 0 (set_run h) ≡ spent
unfolding set_run
set-spent zero = visit-spent (free tt)
set-spent (suc h) = visit-spent (set_run h)

pub set_last : (m : ℕ) → within (suc m) (set_run 0) ≡ left tt m
unfolding set_run
set_last m = visit-paid m (free tt) ∙ within-free m tt

pub set_more : (m h : ℕ) → within (suc m) (set_run (suc h)) ≡ within m (set_run h)
unfolding set_run
set_more m h = visit-paid m (set_run h)

-- ---- a run whose value is only read
then-read : {A B : Type 0} (m : ℕ) (c : Charged A) (f : A → B) → within m (after c (λ a. free (f a))) ≡ onward (within m c) (λ a r. left (f a) r)
then-read m c f = within-after m c (λ a. free (f a)) ∙ (λ i. onward (within m c) (λ a r. within-free r (f a) i))

-- ---- an end: its `set`
pub end-within : (h m : ℕ) (s : Sweep) (x : Row) → within m (ends_at h s x) ≡ onward (within m (set_run h)) (λ done r. left (record { active = remove x s.active; met = s.met }) r)
unfolding ends_at
end-within h m s x = then-read m (set_run h) (λ done. record { active = remove x s.active; met = s.met })

-- ---- a sweep, an orientation and the walk
pub sweep-within : (m : ℕ) (l : List Row) → within m (sweep l) ≡ onward (within m (runs (step (lines l) (levels (length (lines l)))) (record { active = []; met = no_figures }) (events l))) (λ s r. left s.met r)
unfolding sweep
sweep-within m l = then-read m (runs (step (lines l) (levels (length (lines l)))) (record { active = []; met = no_figures }) (events l)) (λ s. s.met)

pub along-few : (m : ℕ) (l : List Row) → length l < 2 → within m (along l) ≡ left no_figures m
unfolding along
along-few m [] h = within-free m no_figures
along-few m (r ∷ []) h = within-free m no_figures
along-few m (r ∷ t ∷ l) h = absurd (omega arith)

pub along_more : (l : List Row) → 2 ≤ length l → along l ≡ sweep l
unfolding along
along_more [] h = absurd (omega arith)
along_more (r ∷ []) h = absurd (omega arith)
along_more (r ∷ t ∷ l) h = refl

pub walk-within : (m : ℕ) (l : List Segment) → within m (walk_all l) ≡ onward (within m (along (oriented 1 l))) (λ f r. onward (within r (along (oriented 0 l))) (λ g r. left (lesser_figures f g) r))
unfolding walk_all
walk-within m l =
    within-after m (along (oriented 1 l)) (λ f. after (along (oriented 0 l)) (λ g. free (lesser_figures f g)))
    ∙ (λ i. onward (within m (along (oriented 1 l))) (λ f r. then-read r (along (oriented 0 l)) (lesser_figures f) i))
