-- A clearance call that meets no refusal before 7: its lists are fit, and its result depends on its allowance only through whether that reaches the visit count. Assumes nothing.
use Rattle.std.specs.Prelude.{Ok, Err}
use Rattle.std.proofs.Common.{◌≡◌, ℕ, Bool, true, false, cond, T, refl}
use lib.Ieee.{Float, binary64, fits}
use Rattle.laws.specs.Lists.{All}
use Rattle.laws.specs.Charged.{reaches, settle}
use Rattle.laws.proofs.ListLaws.{all_mem, mem_all, none-all}
use Rattle.drawing.specs.declared.refusal.Refusal.TheVariants.{WorkLimitExceeded}
use Rattle.drawing.specs.Entries.{SegmentColumns, NodeColumns, ExemptionColumns, segments, nodes, exemptions}
use Rattle.drawing.specs.Refusals.{number_of, first_of}
use Rattle.drawing.specs.Conditions.{unfit_segment, unfit_node}
use Rattle.drawing.specs.Checks.{list_conditions, entry_conditions}
use Rattle.drawing.proofs.FirstRefusal.{passed_head}
use Rattle.drawing.specs.Held.{SegmentHeld, NodeHeld, FitSegment}
use Rattle.drawing.proofs.Fit.{FitNode, FitThreshold}
use Rattle.clearance.specs.Conditions.{clearance_conditions}
use Rattle.clearance.specs.Figures.{Figures}
use Rattle.clearance.specs.Answer.{report_of, accepted, all_pairs, clearance_answer, zeros, result_of}

-- what holds of the floats of every call: they are values of binary64
pub record Lent (s : SegmentColumns) (n : NodeColumns) (t : Float) : Type 0 where
  pub segments-held : All SegmentHeld (segments s)
  pub nodes-held : All NodeHeld (nodes n)
  pub threshold-held : T (fits binary64 t)

-- ---- a call that meets no refusal before 7 has fit lists: the three conditions of refusal 5 follow the six of the lists and that of the scratch
pub record FitCall (s : SegmentColumns) (n : NodeColumns) (t : Float) : Type 0 where
  pub segments-fit : All FitSegment (segments s)
  pub nodes-fit : All FitNode (nodes n)
  pub threshold-fit : FitThreshold t

abbrev pub passes : SegmentColumns → NodeColumns → ExemptionColumns → Float → ℕ → Type 0
passes s n e t words = first_of (clearance_conditions s n e t words) ≡ Ok tt

pub fit_call : (s : SegmentColumns) (n : NodeColumns) (e : ExemptionColumns) (t : Float) (words : ℕ) → Lent s n t → passes s n e t words → FitCall s n t
unfolding clearance_conditions list_conditions entry_conditions
fit_call s n e t words l h =
    let lists = passed_head _ _ _ (passed_head _ _ _ (passed_head _ _ _ (passed_head _ _ _ (passed_head _ _ _ (passed_head _ _ _ h).1).1).1).1).1 in
    let a = passed_head _ _ _ (passed_head _ _ _ lists.1).1 in
    let b = passed_head _ _ _ a.1 in
    let c = passed_head _ _ _ b.1 in
    let ss = none-all unfit_segment (segments s) a.0 in
    let ns = none-all unfit_node (nodes n) b.0 in
    record {
      segments-fit = mem_all FitSegment (segments s) (λ x m. record { held = all_mem SegmentHeld (segments s) l.segments-held x m; passes = all_mem _ (segments s) ss x m });
      nodes-fit = mem_all FitNode (nodes n) (λ x m. record { held = all_mem NodeHeld (nodes n) l.nodes-held x m; passes = all_mem _ (nodes n) ns x m });
      threshold-fit = record { held = l.threshold-held; passes = c.0 };
    }

-- ---- the result of such a call (SCOPE 8.3): "A call whose allowance reaches it returns the all-pairs report, whose visits are that count; a call whose allowance does not returns the spent-allowance refusal", which is 7
pub result_settles : (s : SegmentColumns) (n : NodeColumns) (e : ExemptionColumns) (t : Float) (allowance words : ℕ) → passes s n e t words
    → result_of (clearance_answer s n e t allowance words) ≡ settle (λ g count. (0, report_of g count)) (7, zeros) allowance (all_pairs (exemptions e) (λ net. t) (segments s) (nodes n))
unfolding clearance_answer settle result_of accepted number_of
result_settles s n e t allowance words h = let c = all_pairs (exemptions e) (λ net. t) (segments s) (nodes n) in rw h (go (reaches allowance c) c.value c.cost)
  where
    go : (b : Bool) (g : Figures) (count : ℕ) → result_of (cond b (accepted g count) (Err WorkLimitExceeded)) ≡ cond b (0, report_of g count) (7, zeros)
    go true g count = refl
    go false g count = refl
