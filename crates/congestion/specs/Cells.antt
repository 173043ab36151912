-- A stretch as a run of cells: the cell k is the piece between the coordinates k and k + 1, so of length 1/64 (SCOPE 3.12, 9.1).
use Rattle.std.specs.Prelude.{List, [], ◌∷◌, Bool, ◌&&◌, ℕ, zero, suc, ◌-◌, leb, ltb}
use Rattle.congestion.specs.Wires.{Wire}

-- the n cells from a on
unfoldable pub cells_from : ℕ → ℕ → List ℕ
cells_from a zero = []
cells_from a (suc n) = a ∷ cells_from (suc a) n

-- a wire's length, in whole numbers of 1/64
abbrev pub extent : Wire → ℕ
extent s = s.end - s.start

-- the cells that a wire consists of
abbrev pub cells : Wire → List ℕ
cells s = cells_from s.start (extent s)

-- whether a cell is one of the wire's
abbrev pub covers : ℕ → Wire → Bool
covers k s = leb s.start k && ltb k s.end
