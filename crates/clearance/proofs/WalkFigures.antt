-- The walk of one segment over a tree adds the distances of that segment's pairs, and a pruned part has none that would change the figures. Assumes nothing.
use Rattle.std.specs.Prelude.{Option, Some, None}
use Rattle.std.proofs.Common.{◌≡◌, ℕ, ◌+◌, ◌≤◌, Bool, true, false, not, leb, List, [], ◌∷◌, ◌++◌, sym, refl, ap, ◌∙◌, inl, inr, append_assoc, append-nil, le_trans, le_refl, add-zero, add_assoc, arith, ltb-false, le-ltb}
use lib.Ieee.{Float, binary64, lt}
use lib.Ieee.Scale.{overflow}
use Rattle.laws.specs.Lists.{Mem, All, put, chosen, fold, bit}
use Rattle.laws.specs.Least.{least}
use Rattle.laws.specs.Charged.{Charged}
use Rattle.laws.proofs.Tests.{decide, clash, neither_left, neither_right}
use Rattle.laws.proofs.ListLaws.{all_mem, mem_all, all_append, mem_append, append_left, chosen-append}
use Rattle.laws.proofs.Perms.{perm-right, perm-turn, perm-count}
use Rattle.laws.proofs.Folds.{plus, fold-append, fold-unit}
use Rattle.laws.proofs.Leasts.{IsLeast, is-least, least-same}
use Rattle.floats.specs.TotalOrder.{key_of}
use Rattle.floats.proofs.Rank.{mag, rank, Num, lt_rank}
use Rattle.floats.proofs.Gaps.{Good, good_rank, good_lt}
use Rattle.drawing.specs.Entries.{Segment, Exemption}
use Rattle.drawing.specs.Gaps.{least_gap, lesser_gap}
use Rattle.drawing.proofs.GapLaws.{gaps_ranked, least-one, least_join, least-gap-perm}
use Rattle.boxes.specs.Boxes.{segment_box, distance}
use Rattle.clearance.specs.Figures.{Figures, exempt}
use Rattle.clearance.specs.Tree.{Tree, empty, leaf, branch, bounds_of}
use Rattle.clearance.specs.Walk.{contributes, with_pair, walk}
use Rattle.drawing.specs.Held.{FitSegment}
use Rattle.boxes.proofs.BoxLaws.{not_below, fit-segment, distance_good, distance-within}
use Rattle.clearance.proofs.TreeLaws.{leaves, In, Sound, sound_box, sound_in, sound_fit}
use Rattle.clearance.proofs.Distances.{all-distances, distances_of, good_distances}
use Rattle.clearance.proofs.Violations.{under}
use Rattle.clearance.proofs.WalkSteps.{lower, walk-empty, walk_pruned, walk-leaf, walk-left-first, walk-right-first}

-- the figures after the distances `seen` and v violations
abbrev pub sofar : List Float → ℕ → Figures
sofar seen v = record { least = least_gap seen; violations = v }

-- the figures after the further distances ds
abbrev pub onwards : Float → List Float → ℕ → List Float → Figures
onwards t seen v ds = sofar (seen ++ ds) (v + under t ds)

onwards_none : (t : Float) (seen : List Float) (v : ℕ) → onwards t seen v [] ≡ sofar seen v
unfolding fold
onwards_none t seen v = λ i. sofar (append-nil seen i) (add-zero v i)

onwards_more : (t : Float) (seen : List Float) (v : ℕ) (ds es : List Float) → onwards t (seen ++ ds) (v + under t ds) es ≡ onwards t seen v (ds ++ es)
onwards_more t seen v ds es = λ i. sofar (append_assoc seen ds es i) ((add_assoc v (under t ds) (under t es) ∙ ap (λ (n : ℕ). v + n) (sym (fold-append plus (λ d. bit (lt d t)) ds es))) i)

onwards_turn : (t : Float) (seen : List Float) (v : ℕ) (ds es : List Float) → All Good seen → All Good ds → All Good es → onwards t seen v (ds ++ es) ≡ onwards t seen v (es ++ ds)
onwards_turn t seen v ds es p q r =
    let a = least-gap-perm (perm-right seen (perm-turn ds es)) (all_append Good seen (ds ++ es) p (all_append Good ds es q r)) in
    let b = perm-count (λ d. lt d t) (perm-turn ds es) in
    λ i. record { least = a i; violations = v + b i }

onwards_pair : (t d : Float) (seen : List Float) (v : ℕ) → All Good seen → Good d → (e : Bool) → with_pair e t d (sofar seen v) ≡ onwards t seen v (put (not e) d [])
unfolding with_pair fold
onwards_pair t d seen v p q true = sym (onwards_none t seen v)
onwards_pair t d seen v p q false =
    let a : lesser_gap (least_gap seen) (Some d) ≡ least_gap (seen ++ d ∷ []) = sym (least_join seen (d ∷ []) p (q, tt) ∙ ap (lesser_gap (least_gap seen)) (least-one d)) in
    let b : v + bit (lt d t) ≡ v + (bit (lt d t) + 0) = omega arith in
    λ i. record { least = a i; violations = b i }

-- ---- what a pruned part has: no distance below the threshold, and none below the least so far
module _ (t bound : Float) (seen ds : List Float) (v : ℕ) (q : Num binary64 t) (b : Good bound) (p : All Good seen) (r : All Good ds) (far : All (λ d. mag binary64 bound ≤ mag binary64 d) ds) where
  none_under : lt bound t ≡ false → under t ds ≡ 0
  none_under e = fold-unit plus (λ d. bit (lt d t)) ds (λ d m. ap bit (not_under d (all_mem Good ds r d m) (all_mem _ ds far d m)))
    where
      raise : (B x y m n z : ℕ) → x ≡ B + m → y ≡ B + n → m ≤ n → z ≤ x → z ≤ y
      raise B x y m n z h k l o = omega arith

      not_under : (d : Float) → Good d → mag binary64 bound ≤ mag binary64 d → lt d t ≡ false
      not_under d g h = lt_rank binary64 d t g.num q ∙ le-ltb (rank binary64 d) (rank binary64 t)
          (raise (overflow binary64) (rank binary64 bound) (rank binary64 d) (mag binary64 bound) (mag binary64 d) (rank binary64 t) (good_rank bound b) (good_rank d g) h (not_below bound t b.num q e))

  same-least : (m : Float) → Good m → Mem m seen → lt bound m ≡ false → least lt (seen ++ ds) ≡ least lt seen
  same-least m g k e =
      let h : mag binary64 m ≤ mag binary64 bound = ltb-false (mag binary64 bound) (mag binary64 m) (sym (good_lt bound m b g) ∙ e) in
      least-same gaps_ranked (seen ++ ds) seen (all_append Good seen ds p r) p
      (λ x i. elim (mem_append x seen ds i) [
        | inl j ↦ (x, j, le_refl (mag binary64 x))
        | inr j ↦ (m, k, le_trans h (all_mem _ ds far x j))
      ])
      (λ x i. (x, append_left x seen ds i, le_refl (mag binary64 x)))

  pub stays : contributes bound t (least_gap seen) ≡ false → onwards t seen v ds ≡ sofar seen v
  unfolding least_gap contributes
  stays e = go (least lt seen) refl (is-least gaps_ranked seen p) e
    where
      go : (o : Option Float) → least lt seen ≡ o → IsLeast (mag binary64) seen o → contributes bound t (o) ≡ false → onwards t seen v ds ≡ sofar seen v
      go None o i e = clash true refl e
      go (Some m) o i e =
          let a = same-least m (all_mem Good seen p m i.0) i.0 (neither_right (lt bound t) (lt bound m) e) in
          let c = none_under (neither_left (lt bound t) (lt bound m) e) in
          λ j. record { least = (a j); violations = (ap (λ (n : ℕ). v + n) c ∙ add-zero v) j }

-- ---- the walk of one segment
module _ (ex : List Exemption) (t : Float) (s : Segment) (q : Num binary64 t) (p : FitSegment s) where
  abbrev of : Tree → List Float
  of tree = distances_of ex s (leaves tree)

  good_of : (tree : Tree) → Sound tree → All Good (of tree)
  good_of tree h = good_distances ex s (leaves tree) p (sound_fit tree h)

  walk_stays : (tree : Tree) → Sound tree → (seen : List Float) → All Good seen → (v : ℕ) → contributes (lower s tree) t (least_gap seen) ≡ false → (walk ex t s tree (sofar seen v)).value ≡ onwards t seen v (of tree)
  walk_stays tree h seen k v e =
      let box = bounds_of tree in
      let fs = fit-segment s p in
      let fb = sound_box tree h in
      let far = all-distances (λ d. mag binary64 (lower s tree) ≤ mag binary64 d) ex s (leaves tree)
      (mem_all _ (leaves tree) (λ n m. let i = all_mem (In box) (leaves tree) (sound_in tree h) n m in distance-within (segment_box s) n.bounds box fs i.fit fb i.within)) in
      ap (λ (c : Charged Figures). c.value) (walk_pruned ex t s tree (sofar seen v) e)
      ∙ sym (stays t (lower s tree) seen (of tree) v q (distance_good (segment_box s) box fs fb) k (good_of tree h) far e)

  pub walk-figures : (tree : Tree) → Sound tree → (seen : List Float) → All Good seen → (v : ℕ) → (walk ex t s tree (sofar seen v)).value ≡ onwards t seen v (distances_of ex s (leaves tree))
  unfolding leaves chosen bounds_of
  walk-figures empty h seen k v = ap (λ (c : Charged Figures). c.value) (walk-empty ex t s (sofar seen v)) ∙ sym (onwards_none t seen v)
  walk-figures (leaf n) h seen k v = elim (decide (contributes (lower s (leaf n)) t (least_gap seen))) [
    | inr e ↦ walk_stays (leaf n) h seen k v e
    | inl e ↦ ap (λ (c : Charged Figures). c.value) (walk-leaf ex t s n (sofar seen v) e)
        ∙ onwards_pair t (distance (segment_box s) n.bounds) seen v k (distance_good (segment_box s) n.bounds (fit-segment s p) h) (exempt ex s.net n.id)
  ]
  walk-figures (branch b l r) h seen k v = elim (decide (contributes (lower s (branch b l r)) t (least_gap seen))) [
    | inr e ↦ walk_stays (branch b l r) h seen k v e
    | inl e ↦ elim (decide (leb (key_of (lower s l)) (key_of (lower s r)))) [
      | inl w ↦ ap (λ (c : Charged Figures). c.value) (walk-left-first ex t s b l r (sofar seen v) e w)
          ∙ ap (λ (g : Figures). (walk ex t s r g).value) (walk-figures l h.2 seen k v)
          ∙ walk-figures r h.3 (seen ++ of l) (all_append Good seen (of l) k (good_of l h.2)) (v + under t (of l))
          ∙ onwards_more t seen v (of l) (of r)
          ∙ joined
      | inr w ↦ ap (λ (c : Charged Figures). c.value) (walk-right-first ex t s b l r (sofar seen v) e w)
          ∙ ap (λ (g : Figures). (walk ex t s l g).value) (walk-figures r h.3 seen k v)
          ∙ walk-figures l h.2 (seen ++ of r) (all_append Good seen (of r) k (good_of r h.3)) (v + under t (of r))
          ∙ onwards_more t seen v (of r) (of l)
          ∙ onwards_turn t seen v (of r) (of l) k (good_of r h.3) (good_of l h.2)
          ∙ joined
    ]
  ]
    where
      joined : onwards t seen v (of l ++ of r) ≡ onwards t seen v (distances_of ex s (leaves l ++ leaves r))
      joined = ap (onwards t seen v) (sym (chosen-append (λ n. not (exempt ex s.net n.id)) (λ n. distance (segment_box s) n.bounds) (leaves l) (leaves r)))
