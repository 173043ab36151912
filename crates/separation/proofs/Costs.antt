-- The visits of the walk: a sweep of n segments takes at least 5 n, and at most n (10 h + 5), 2 to the power h being its leaf count (SCOPE 4.4). Assumes nothing.
use mathlib.Core.Path.{◌≡◌, refl, sym, ap, ◌∙◌}
use mathlib.Core.List.{List, [], ◌∷◌}
use mathlib.Core.Bool.{Bool, true, false}
use Prim.Native.Nat.{ℕ, suc, ◌+◌, ◌*◌, ◌≤◌, zero-le}
use native.Mathlib.Nat.{le_trans, le_of_eq, zero-add, one-mul, add-mul, mul-add}
use native.Mathlib.Omega.{arith}
use lib.Dec.{eqb}
use lib.ListN.{length}
use Rattle.laws.specs.Lists.{fold, count}
use Rattle.laws.specs.Charged.{runs}
use Rattle.laws.proofs.Perms.{perm-count}
use Rattle.laws.proofs.Sorting.{sort_perm}
use Rattle.drawing.specs.Entries.{Segment}
use Rattle.rows.specs.Rows.{Row, oriented, at_least_two, Event, ends, starts, events_in_order, events_from, events}
use Rattle.rows.proofs.Oriented.{oriented-length}
use Rattle.rows.proofs.ToSweep.{two_or_more}
use Rattle.separation.specs.Lines.{lines, index, levels}
use Rattle.separation.specs.Searches.{other_in}
use Rattle.separation.specs.Walk.{Sweep, no_figures, with_nearest, starts_at, ends_at, step, sweep, along, walk_all, visit_count}
use Rattle.separation.proofs.Lines.{other_splits}
use Rattle.separation.proofs.Searches.{set-cost, right-least, left-least, right-cost, left-cost}

-- a start takes `has_other_at`, two searches and a `set`
start-cost : (ls : List ℕ) (h : ℕ) (s : Sweep) (x : Row) → (starts_at ls h s x).cost ≤ 9 * h + 4
unfolding starts_at with_nearest
start-cost ls h s x =
    let has = other_in ls s.active x.net in
    let i = index ls x.line in
    let split = other_splits ls s.active x.net in
    omega (arith, right-cost has split i h 1 0, left-cost has split (suc i) h 1 0, set-cost h)

end-cost : (h : ℕ) (s : Sweep) (x : Row) → (ends_at h s x).cost ≡ suc h
unfolding ends_at
end-cost h s x = omega (arith, set-cost h)

start-least : (ls : List ℕ) (h : ℕ) (s : Sweep) (x : Row) → 4 ≤ (starts_at ls h s x).cost
unfolding starts_at with_nearest
start-least ls h s x =
    let has = other_in ls s.active x.net in
    let i = index ls x.line in
    omega (arith, right-least (λ k. has) i h 1 0, left-least (λ k. has) (suc i) h 1 0, set-cost h)

abbrev is-end : Event → Bool
is-end (ends i r) = true
is-end (starts i r) = false

abbrev is-start : Event → Bool
is-start (ends i r) = false
is-start (starts i r) = true

end_more : (k c e v a b : ℕ) → e ≡ k → v ≤ a * k + b * c → e + v ≤ (1 + a) * k + (0 + b) * c
end_more k c e v a b g h = rw (add-mul 1 a k, one-mul k, zero-add b) (omega arith)

start_more : (k c e v a b : ℕ) → e ≤ c → v ≤ a * k + b * c → e + v ≤ (0 + a) * k + (1 + b) * c
start_more k c e v a b g h = rw (add-mul 1 b c, one-mul c, zero-add a) (omega arith)

runs_bound : (ls : List ℕ) (h : ℕ) (s : Sweep) (es : List Event) → (runs (step ls h) s es).cost ≤ count is-end es * suc h + count is-start es * (9 * h + 4)
unfolding runs step fold
runs_bound ls h s [] = zero-le
runs_bound ls h s (ends i x ∷ es) =
    let t = (ends_at h s x).value in
    end_more (suc h) (9 * h + 4) (ends_at h s x).cost (runs (step ls h) t es).cost (count is-end es) (count is-start es) (end-cost h s x) (runs_bound ls h t es)
runs_bound ls h s (starts i x ∷ es) =
    let t = (starts_at ls h s x).value in
    start_more (suc h) (9 * h + 4) (starts_at ls h s x).cost (runs (step ls h) t es).cost (count is-end es) (count is-start es) (start-cost ls h s x) (runs_bound ls h t es)

runs-least : (ls : List ℕ) (h : ℕ) (s : Sweep) (es : List Event) → count is-end es + 4 * count is-start es ≤ (runs (step ls h) s es).cost
unfolding runs step fold
runs-least ls h s [] = zero-le
runs-least ls h s (ends i x ∷ es) = omega (arith, end-cost h s x, runs-least ls h (ends_at h s x).value es)
runs-least ls h s (starts i x ∷ es) = omega (arith, start-least ls h s x, runs-least ls h (starts_at ls h s x).value es)

-- each segment ends once and starts once
ends-count : (i : ℕ) (l : List Row) → count is-end (events_from i l) ≡ length l
unfolding fold events_from
ends-count i [] = refl
ends-count i (r ∷ l) = omega (arith, ends-count (suc i) l)

starts-count : (i : ℕ) (l : List Row) → count is-start (events_from i l) ≡ length l
unfolding fold events_from
starts-count i [] = refl
starts-count i (r ∷ l) = omega (arith, starts-count (suc i) l)

abbrev bound : List Row → ℕ
bound l = length l * (10 * levels (length (lines l)) + 5)

sweep_bound : (l : List Row) → (sweep l).cost ≤ bound l
unfolding sweep events
sweep_bound l =
    let h = levels (length (lines l)) in
    let p = sort_perm events_in_order (events_from 0 l) in
    let g = runs_bound (lines l) h (record { active = []; met = no_figures }) (events l) in
    let e : count is-end (events l) ≡ length l = perm-count is-end p ∙ ends-count 0 l in
    let s : count is-start (events l) ≡ length l = perm-count is-start p ∙ starts-count 0 l in
    le_trans (omega arith) (le_trans (rw (e, s) at g) (le_of_eq (join (length l) h)))
  where
    join : (n h : ℕ) → n * suc h + n * (9 * h + 4) ≡ n * (10 * h + 5)
    join n h = sym (mul-add n (suc h) (9 * h + 4)) ∙ ap (λ (z : ℕ). n * z) (all h)
      where
        all : (h : ℕ) → suc h + (9 * h + 4) ≡ 10 * h + 5
        all h = omega arith

sweep-least : (l : List Row) → 5 * length l ≤ (sweep l).cost
unfolding sweep events
sweep-least l =
    let p = sort_perm events_in_order (events_from 0 l) in
    let g = runs-least (lines l) (levels (length (lines l))) (record { active = []; met = no_figures }) (events l) in
    omega (arith, g, perm-count is-end p, ends-count 0 l, perm-count is-start p, starts-count 0 l)

along-least : (l : List Row) → 5 * at_least_two (length l) ≤ (along l).cost
unfolding along
along-least [] = zero-le
along-least (r ∷ []) = zero-le
along-least (r ∷ t ∷ l) = omega (arith, two_or_more (length (r ∷ t ∷ l)) (omega arith), sweep-least (r ∷ t ∷ l))

-- the walk takes at least five visits for each segment that is swept
pub walk-least : (l : List Segment) → 5 * (at_least_two (length (oriented 1 l)) + at_least_two (length (oriented 0 l))) ≤ (walk_all l).cost
unfolding walk_all
walk-least l = omega (arith, along-least (oriented 1 l), along-least (oriented 0 l))

along_bound : (l : List Row) → (along l).cost ≤ bound l
unfolding along
along_bound [] = zero-le
along_bound (r ∷ []) = zero-le
along_bound (r ∷ t ∷ l) = sweep_bound (r ∷ t ∷ l)

-- SCOPE 4.4: "n is that orientation's segments and 2 to the power h its leaf count"
abbrev pub segments_along : ℕ → List Segment → ℕ
segments_along o l = count (λ (s : Segment). eqb s.orientation o) l

abbrev pub levels_along : ℕ → List Segment → ℕ
levels_along o l = levels (length (lines (oriented o l)))

-- SCOPE 4.4: "separation at most the sum over orientations of n times (10h + 5)"
pub visit_bound : (l : List Segment) → visit_count l ≤ segments_along 1 l * (10 * levels_along 1 l + 5) + segments_along 0 l * (10 * levels_along 0 l + 5)
unfolding visit_count walk_all
visit_bound l = rw (← oriented-length 1 l, ← oriented-length 0 l) (omega (arith, along_bound (oriented 1 l), along_bound (oriented 0 l)))
