-- The visit count of wires in 64ths, which only laws cite: the sweep over wires costs it (SweepFigures), and that of a fit drawing's segments is the same number (Visits). Assumes nothing.
use mathlib.Core.List.{List}
use mathlib.Core.Bool.{Bool, true, false, beq, cond}
use Prim.Native.Nat.{ℕ, ◌+◌, ◌*◌}
use lib.Dec.{eqb}
use Rattle.laws.specs.Lists.{count, pairs}
use Rattle.rows.specs.Rows.{at_least_two}
use Rattle.congestion.specs.Wires.{Wire}
use Rattle.congestion.specs.Figures.{close}

-- the number of close pairs of all nets
unfoldable pub close_pairs : ℕ → List Wire → ℕ
close_pairs c l = count (λ p. close c p.0 p.1) (pairs l)

-- the number of wires of one orientation
abbrev pub in_orientation : Bool → List Wire → ℕ
in_orientation h l = count (λ s. beq h s.horizontal) l

-- the visits of the sweep over all wires
unfoldable pub visits : ℕ → List Wire → ℕ
visits c l = cond (eqb c 0) 0 (at_least_two (in_orientation true l) + at_least_two (in_orientation false l) + 2 * close_pairs c l)
