-- `clearance_call::measure::walk_segments` meets its contract: where there are no pairs, there is no walk; else the scratch holds the segments' order, the tree and the groups of its leaves, and the walks over it are the definition's. Assumes nothing.
use mathlib.Core.Path.{refl, sym, subst}
use Prim.Native.Nat.{ℕ, ◌≤◌}
use native.Mathlib.Omega.{arith}
use lib.ListN.{length}
use borrow.Author.Rules.{rules}
use Rattle.drawing.specs.Entries.{lent_segments, lent_nodes}
use Rattle.clearance_call.specs.Inner.Marks.{Grouped}
use Rattle.clearance_call.specs.Inner.Nested.{Nested}
use Rattle.clearance_call.specs.Inner.Stored.{stored_tree}
use Rattle.clearance_call.specs.Inner.Walking.{Part}
use Rattle.clearance.proofs.Answers.{Lent, fit_call}
use Rattle.clearance_call.proofs.WholeCall.{sizes, walked_none, walked_no_segment, part-long, all-long, tree-part, ids, ids-long, tree, groups, lent-length, leaves_grouped, groups_long, held, held-count, in_turns, tree-nested, held_of, walked_all}
use Rattle.clearance_call.proofs.measure.walk_segments.Goals as goal

pub returns-then-segments-eq0-clause-outcome : goal.returns-then-segments-eq0-clause-outcome
returns-then-segments-eq0-clause-outcome c = let z = sizes _ _ _ _ _ c.requires in walked_no_segment _ _ _ _ z.segments c.if-segments-eq0.true _ _ c.at_start.ensures

pub returns-then-m-eq0-clause-outcome : goal.returns-then-m-eq0-clause-outcome
returns-then-m-eq0-clause-outcome c = let z = sizes _ _ _ _ _ c.requires in walked_none _ _ _ _ z.nodes c.if-m-eq0.true _ _ c.at_start-then-m-eq0.ensures

pub order_segments-requires : goal.order_segments-requires
order_segments-requires c = let z = sizes _ _ _ _ _ c.requires in (z.segments, omega (arith, z.room))

pub overflow_mul-last : goal.overflow_mul-last
overflow_mul-last c = let z = sizes _ _ _ _ _ c.requires in omega (arith, z.few-segments, z.few-nodes)

pub overflow_add-last : goal.overflow_add-last
overflow_add-last c = let z = sizes _ _ _ _ _ c.requires in omega (arith, z.few-segments, z.few-nodes)

pub offset_bounds-scratch-first : goal.offset_bounds-scratch-first
offset_bounds-scratch-first c = let z = sizes _ _ _ _ _ c.requires in omega (arith, z.few-segments, z.few-nodes)

pub slice_bounds-prepare_nodes-count : goal.slice_bounds-prepare_nodes-count
slice_bounds-prepare_nodes-count c = let z = sizes _ _ _ _ _ c.requires in omega (arith, z.room, c.order_segments.ensures.same)

pub slice_bounds-prepare_nodes-start : goal.slice_bounds-prepare_nodes-start
slice_bounds-prepare_nodes-start c = let z = sizes _ _ _ _ _ c.requires in omega (arith, z.room, c.order_segments.ensures.same)

pub slice_bounds-prepare_nodes-end : goal.slice_bounds-prepare_nodes-end
slice_bounds-prepare_nodes-end c = let z = sizes _ _ _ _ _ c.requires in omega (arith, z.room, c.order_segments.ensures.same)

pub prepare_nodes-requires : goal.prepare_nodes-requires
prepare_nodes-requires c = let z = sizes _ _ _ _ _ c.requires in (z.nodes, omega (arith, c.if-m-eq0.false), z.few-nodes, part-long _ _ _ _ z _ _ refl c.order_segments.ensures)

pub overflow_mul-m : goal.overflow_mul-m
overflow_mul-m c = let z = sizes _ _ _ _ _ c.requires in omega (arith, z.few-segments, z.few-nodes)

pub overflow_add-first : goal.overflow_add-first
overflow_add-first c = let z = sizes _ _ _ _ _ c.requires in omega (arith, z.few-segments, z.few-nodes)

pub offset_bounds-scratch-first-2 : goal.offset_bounds-scratch-first-2
offset_bounds-scratch-first-2 c = let z = sizes _ _ _ _ _ c.requires in omega (arith, z.few-segments, z.few-nodes)

pub slice_bounds-walk_all-count : goal.slice_bounds-walk_all-count
slice_bounds-walk_all-count c = let z = sizes _ _ _ _ _ c.requires in let l = all-long _ _ _ _ z _ _ refl c.order_segments.ensures c.prepare_nodes.new.s c.prepare_nodes.auto.s in omega (arith, z.room, l)

pub slice_bounds-walk_all-start : goal.slice_bounds-walk_all-start
slice_bounds-walk_all-start c = let z = sizes _ _ _ _ _ c.requires in let l = all-long _ _ _ _ z _ _ refl c.order_segments.ensures c.prepare_nodes.new.s c.prepare_nodes.auto.s in omega (arith, z.room, l)

pub slice_bounds-walk_all-end : goal.slice_bounds-walk_all-end
slice_bounds-walk_all-end c = let z = sizes _ _ _ _ _ c.requires in let l = all-long _ _ _ _ z _ _ refl c.order_segments.ensures c.prepare_nodes.new.s c.prepare_nodes.auto.s in omega (arith, z.room, l)

pub offset_bounds-scratch-first-3 : goal.offset_bounds-scratch-first-3
offset_bounds-scratch-first-3 c = let z = sizes _ _ _ _ _ c.requires in omega (arith, z.few-segments, z.few-nodes)

pub slice_bounds-walk_all-end-3 : goal.slice_bounds-walk_all-end-3
slice_bounds-walk_all-end-3 c = let z = sizes _ _ _ _ _ c.requires in let few = z.few-exemptions in search (rules, few)

pub slice_bounds-walk_all-count-3 : goal.slice_bounds-walk_all-count-3
slice_bounds-walk_all-count-3 c = let z = sizes _ _ _ _ _ c.requires in let l = all-long _ _ _ _ z _ _ refl c.order_segments.ensures c.prepare_nodes.new.s c.prepare_nodes.auto.s in omega (arith, z.room, l)

pub slice_bounds-walk_all-start-3 : goal.slice_bounds-walk_all-start-3
slice_bounds-walk_all-start-3 c = let z = sizes _ _ _ _ _ c.requires in let l = all-long _ _ _ _ z _ _ refl c.order_segments.ensures c.prepare_nodes.new.s c.prepare_nodes.auto.s in omega (arith, z.room, l)

pub slice_bounds-walk_all-end-4 : goal.slice_bounds-walk_all-end-4
slice_bounds-walk_all-end-4 c = let z = sizes _ _ _ _ _ c.requires in let l = all-long _ _ _ _ z _ _ refl c.order_segments.ensures c.prepare_nodes.new.s c.prepare_nodes.auto.s in omega (arith, z.room, l)

pub overflow_add-first-2 : goal.overflow_add-first-2
overflow_add-first-2 c = let z = sizes _ _ _ _ _ c.requires in omega (arith, z.few-segments, z.few-nodes)

pub offset_bounds-scratch-first-4 : goal.offset_bounds-scratch-first-4
offset_bounds-scratch-first-4 c = let z = sizes _ _ _ _ _ c.requires in omega (arith, z.few-segments, z.few-nodes)

pub slice_bounds-walk_all-count-4 : goal.slice_bounds-walk_all-count-4
slice_bounds-walk_all-count-4 c = let z = sizes _ _ _ _ _ c.requires in let l = all-long _ _ _ _ z _ _ refl c.order_segments.ensures c.prepare_nodes.new.s c.prepare_nodes.auto.s in omega (arith, z.room, l)

pub slice_bounds-walk_all-start-4 : goal.slice_bounds-walk_all-start-4
slice_bounds-walk_all-start-4 c = let z = sizes _ _ _ _ _ c.requires in let l = all-long _ _ _ _ z _ _ refl c.order_segments.ensures c.prepare_nodes.new.s c.prepare_nodes.auto.s in omega (arith, z.room, l)

pub slice_bounds-walk_all-end-5 : goal.slice_bounds-walk_all-end-5
slice_bounds-walk_all-end-5 c = let z = sizes _ _ _ _ _ c.requires in let l = all-long _ _ _ _ z _ _ refl c.order_segments.ensures c.prepare_nodes.new.s c.prepare_nodes.auto.s in omega (arith, z.room, l)

pub walk_all-requires : goal.walk_all-requires
walk_all-requires c =
    let s = lent_segments c.args.segments.now in
    let n = lent_nodes c.args.nodes.now in
    let z = sizes s n _ _ _ c.requires in
    let lent : Lent s n c.args.threshold = record {
      segments-held = c.held.ensures.floats z.segments;
      nodes-held = c.held-2.ensures z.nodes;
      threshold-held = search rules;
    } in
    let fit = fit_call s n _ _ _ lent c.requires in
    let ordered = c.order_segments.ensures in
    let last = c.prepare_nodes.new.s in
    let kept = c.prepare_nodes.auto.s in
    let prepared = c.prepare_nodes.ensures in
    let some : 1 ≤ length n.id = omega (arith, c.if-m-eq0.false) in
    let long = ids-long s n _ _ z _ _ refl ordered last kept in
    let tree = tree s n _ _ z _ _ refl ordered last kept in
    let groups = groups s n _ _ z _ _ refl ordered last kept in
    let ids = ids s n _ _ z _ _ refl ordered last kept in
    let packed = lent-length _ _ _ (c.gather.ensures z.exemptions z.few-exemptions) in
    record {
      part = subst (λ (x : ℕ). Part tree 0 x × (x ≤ 4096)) (sym long) (tree-part s n _ _ z _ _ refl ordered last kept some, z.few-nodes);
      segment_places = in_turns s n _ _ z _ _ refl ordered last kept fit.segments-fit;
      held_and_grouped = (held_of _ _ _ (c.gather.ensures z.exemptions z.few-exemptions), λ h. subst (λ (x : ℕ). Grouped ids groups tree x) (sym long) (leaves_grouped s n _ _ z _ _ refl ordered last kept _ prepared.grouped (omega (arith, packed, h))), groups_long s n _ _ z _ _ refl ordered last kept);
      nested = subst (λ (x : ℕ). Nested (stored_tree x tree 0 x)) (sym long) (tree-nested s n _ _ z _ _ refl ordered last kept fit.nodes-fit prepared.tree_stored some);
    }

pub shape_of-scratch : goal.shape_of-scratch
shape_of-scratch c = let z = sizes _ _ _ _ _ c.requires in all-long _ _ _ _ z _ _ refl c.order_segments.ensures c.prepare_nodes.new.s c.prepare_nodes.auto.s

pub returns-clause-outcome : goal.returns-clause-outcome
returns-clause-outcome c =
    let s = lent_segments c.args.segments.now in
    let n = lent_nodes c.args.nodes.now in
    let z = sizes s n _ _ _ c.requires in
    let lent : Lent s n c.args.threshold = record {
      segments-held = c.held.ensures.floats z.segments;
      nodes-held = c.held-2.ensures z.nodes;
      threshold-held = search rules;
    } in
    let fit = fit_call s n _ _ _ lent c.requires in
    let ordered = c.order_segments.ensures in
    let last = c.prepare_nodes.new.s in
    let kept = c.prepare_nodes.auto.s in
    let prepared = c.prepare_nodes.ensures in
    let gathered = c.gather.ensures z.exemptions z.few-exemptions in
    walked_all s n _ _ z _ _ refl ordered last kept _ fit.segments-fit fit.nodes-fit prepared.tree_stored _ _ (c.walk_all.ensures.outcome _ (held _ _ _ gathered) (held-count _ _ _ gathered))
