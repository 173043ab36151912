-- What only the contracts of the inner functions around the tight pair cite: the best pair so far, and how each pair changes it.
use Rattle.std.specs.Prelude.{Bool, true, false, cond, List, [], ◌∷◌, ℕ, suc, Float, Option, Some, None}
use Rattle.std.specs.Float.Ieee.{lt}
use Rattle.drawing.specs.Entries.{Segment, Node, Exemption}
use Rattle.boxes.specs.declared.aabb.Aabb.{Aabb}
use Rattle.tight_pair.specs.declared.Best.{Best}
use Rattle.tight_pair.specs.declared.TightPair.{TightPair}
use Rattle.boxes.specs.Boxes.{node_box, segment_box, distance}
use Rattle.clearance.specs.Figures.{exempt}

-- the distance is strictly below that of the best so far, if there is one
unfoldable pub nearer : Float → Option Best → Bool
nearer d None = true
nearer d (Some best) = lt d best.distance

-- the best so far with one pair more, which counts unless it is exempt
unfoldable pub best_with : Bool → Float → TightPair → Option Best → Option Best
best_with true d p b = b
best_with false d p b = cond (nearer d b) (Some (record { distance = d; pair = p })) b

-- each entry in turn with its position, counted from i on
unfoldable pub in_turn : {A S : Type 0} → (ℕ → A → S → S) → ℕ → List A → S → S
in_turn step i [] b = b
in_turn step i (x ∷ l) b = in_turn step (suc i) l (step i x b)

-- segment i, of this net and with this box, and each node
unfoldable pub look_nodes : List Exemption → ℕ → Aabb → ℕ → List Node → Option Best → Option Best
look_nodes ex net box i ns b = in_turn (λ j n c. best_with (exempt ex net n.id) (distance box (node_box n)) (record { segment = i; node = j }) c) 0 ns b

-- each segment with each node
unfoldable pub look_segments : List Exemption → List Segment → List Node → Option Best
look_segments ex ss ns = in_turn (λ i s b. look_nodes ex s.net (segment_box s) i ns b) 0 ss None
