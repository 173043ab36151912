-- The Rust's walk with no limit (SCOPE 5.8, 5.9, 5.10, 5.11): the figures that it finds, at the cost of its visits. It depends on no allowance and no scratch (SCOPE 4.1).
use Rattle.std.specs.Prelude.{Bool, true, false, ◌&&◌, cond, List, [], ◌∷◌, ℕ, suc, length, get_or, eqb, Option, Some, None}
use Rattle.laws.specs.Charged.{Charged, free, visit, after, runs}
use Rattle.floats.specs.Values.{plus_zero, gap_of}
use Rattle.floats.specs.TotalOrder.{float_at}
use Rattle.drawing.specs.Entries.{Segment}
use Rattle.drawing.specs.Gaps.{lesser_gap}
use Rattle.rows.specs.Rows.{Row, oriented, Event, ends, starts, events}
use Rattle.separation.specs.Figures.{Figures}
use Rattle.separation.specs.Lines.{lines, index, levels}
use Rattle.separation.specs.Searches.{other_in, rightmost, leftmost, set_run}

abbrev pub no_figures : Figures
no_figures = record { least = None; least_nonzero = None }

-- `minimum_option` of each figure
unfoldable pub lesser_figures : Figures → Figures → Figures
lesser_figures f g = record { least = lesser_gap f.least g.least; least_nonzero = lesser_gap f.least_nonzero g.least_nonzero }

-- the state of the sweep: the active segments, and the figures of the gaps so far
pub record Sweep : Type 0 where
  pub active : List Row
  pub met : Figures

-- two rows are equal word by word
unfoldable pub same : Row → Row → Bool
same a b = (eqb a.net b.net && eqb a.line b.line) && (eqb a.start b.start && eqb a.end b.end)

-- the rows without the first one that equals x
unfoldable pub remove : Row → List Row → List Row
remove x [] = []
remove x (a ∷ l) = let r = remove x l in cond (same x a) l (a ∷ r)

-- SCOPE 5.10: another net is on the segment's own line, so that the gap is 0
abbrev pub own_line : Bool → Figures → Figures
own_line true f = record { least = Some plus_zero; least_nonzero = f.least_nonzero }
own_line false f = f

-- SCOPE 5.10: another net is on the line that a search found
abbrev pub other_line : List ℕ → ℕ → Option ℕ → Figures → Figures
other_line ls line None f = f
other_line ls line (Some i) f = let g = Some (gap_of (float_at (get_or ls i 0)) (float_at line)) in lesser_figures f (record { least = g; least_nonzero = g })

-- SCOPE 5.10, 5.11: what a start searches: is another net on the segment's own line (`has_other_at`), which is the nearest line below with another net, which the nearest above. "Every node touched by a search or a `set` costs one visit, and so does each `has_other_at`."
unfoldable pub with_nearest : List ℕ → ℕ → List Row → Figures → Row → Charged Figures
with_nearest ls h active f x =
    let i = index ls x.line in
    let has = other_in ls active x.net in
    after (visit (free (has i (suc i)))) (λ own.
    after (rightmost (λ k. has) i h 1 0) (λ below.
    after (leftmost (λ k. has) (suc i) h 1 0) (λ above.
    free (other_line ls x.line above (other_line ls x.line below (own_line own f))))))

-- SCOPE 5.10: a segment starts: the searches, then its line's `set`
unfoldable pub starts_at : List ℕ → ℕ → Sweep → Row → Charged Sweep
starts_at ls h s x =
    after (with_nearest ls h s.active s.met x) (λ f.
    after (set_run h) (λ done. free (record { active = x ∷ s.active; met = f })))

-- SCOPE 5.10: a segment ends: its line's `set`
unfoldable pub ends_at : ℕ → Sweep → Row → Charged Sweep
ends_at h s x = after (set_run h) (λ done. free (record { active = remove x s.active; met = s.met }))

unfoldable pub step : List ℕ → ℕ → Sweep → Event → Charged Sweep
step ls h s (ends i x) = ends_at h s x
step ls h s (starts i x) = starts_at ls h s x

-- SCOPE 5.9, 5.10: the sweep over one orientation's segments in order, from no active segment and absent figures
unfoldable pub sweep : List Row → Charged Figures
sweep l =
    let ls = lines l in
    after (runs (step ls (levels (length ls))) (record { active = []; met = no_figures }) (events l)) (λ s. free s.met)

-- SCOPE 5.8: "An orientation with fewer than two segments costs nothing."
unfoldable pub along : List Row → Charged Figures
along [] = free no_figures
along (r ∷ []) = free no_figures
along (r ∷ t ∷ l) = sweep (r ∷ t ∷ l)

-- SCOPE 5.8: horizontal first, then vertical
unfoldable pub walk_all : List Segment → Charged Figures
walk_all l = after (along (oriented 1 l)) (λ f. after (along (oriented 0 l)) (λ g. free (lesser_figures f g)))

-- SCOPE 4.2: "Clearance and separation: the visits of the Rust's walk with no limit, its lists ordered as the departures say."
unfoldable pub visit_count : List Segment → ℕ
visit_count l = (walk_all l).cost
