-- Congestion over all pairs (SCOPE 3.10, 3.11, 3.12, 3.13, 3.14), in whole numbers of 1/64: c is the cutoff in these numbers, and the wires come in any order. No sweep and no allowance is in these definitions.
use Rattle.std.specs.Prelude.{List, Bool, not, ◌&&◌, ℕ, ◌-◌, min, max, ltb, eqb}
use Rattle.std.specs.Bool.{beq}
use Rattle.laws.specs.Lists.{some_of, keep, fold, sum, count, pairs}
use Rattle.congestion.specs.Wires.{Wire}
use Rattle.congestion.specs.Cells.{extent, cells, covers}

-- the gap of two coordinates
abbrev pub apart : ℕ → ℕ → ℕ
apart a b = max a b - min a b

-- SCOPE 3.10: "same orientation, .. fixed gap below the cutoff"
abbrev pub near : ℕ → Wire → Wire → Bool
near c s t = beq s.horizontal t.horizontal && ltb (apart s.fixed t.fixed) c

-- SCOPE 3.7, 3.10: "overlap is positive (larger start < smaller end)"
abbrev pub overlaps : Wire → Wire → Bool
overlaps s t = ltb (max s.start t.start) (min s.end t.end)

-- SCOPE 3.13, from the larger start to the smaller end
abbrev pub overlap : Wire → Wire → ℕ
overlap s t = min s.end t.end - max s.start t.start

-- SCOPE 3.10: "Close: same orientation, positive overlap, fixed gap below the cutoff"
abbrev pub close : ℕ → Wire → Wire → Bool
close c s t = near c s t && overlaps s t

-- SCOPE 3.12, 3.13, 3.14, 3.15: "different-net"
abbrev pub other : Wire → Wire → Bool
other s t = not (eqb s.net t.net)

-- SCOPE 3.12: t is "a close different-net segment" of s
abbrev pub close_other : ℕ → Wire → Wire → Bool
close_other c s t = close c s t && other s t

-- SCOPE 3.11: "total length"
unfoldable pub total : List Wire → ℕ
total l = sum extent l

-- SCOPE 3.12: of one segment, the length of its "stretches with a close different-net segment": the cells that it shares with one
unfoldable pub stretches : ℕ → List Wire → Wire → ℕ
stretches c l s = count (λ k. some_of (λ t. close_other c s t && covers k t) l) (cells s)

-- SCOPE 3.12: "summed length of each segment's stretches with a close different-net segment"
unfoldable pub congested : ℕ → List Wire → ℕ
congested c l = sum (stretches c l) l

-- SCOPE 3.13: "close different-net pairs"
unfoldable pub close_other_pairs : ℕ → List Wire → List (Wire × Wire)
close_other_pairs c l = keep (λ p. close_other c p.0 p.1) (pairs l)

-- SCOPE 3.13: "summed overlap of close different-net pairs"
unfoldable pub pair_overlap : ℕ → List Wire → ℕ
pair_overlap c l = sum (λ p. overlap p.0 p.1) (close_other_pairs c l)

-- SCOPE 3.14: how many "different-net segments" are "close to one segment on one stretch", here on the cell k of s
abbrev pub neighbors_on : ℕ → List Wire → Wire → ℕ → ℕ
neighbors_on c l s k = count (λ t. close_other c s t && covers k t) l

-- SCOPE 3.14: "the peak, the most different-net segments close to one segment on one stretch"
unfoldable pub peak : ℕ → List Wire → ℕ
peak c l = fold max 0 (λ s. fold max 0 (neighbors_on c l s) (cells s)) l
