-- A sheet that was put into a buffer is no longer than the buffer: what a caller needs to pass the text on as a slice.
use mathlib.Core.Path.{◌≡◌, ap, ◌∙◌}
use mathlib.Core.List.{List, ◌++◌}
use native.Mathlib.Omega.{arith}
use Prim.Native.Nat.{ℕ, ◌≤◌}
use lib.ListN.{length, drop, length-append}
use Rattle.printing.specs.Sheet.{sheet}

pub sheet-fits :
    (bytes before after : List ℕ) (n : ℕ) → n ≡ length (sheet bytes) → after ≡ sheet bytes ++ drop (length (sheet bytes)) before → n ≤ length after
sheet-fits bytes before after n e h =
    let l = ap length h ∙ length-append (sheet bytes) (drop (length (sheet bytes)) before) in
    omega (arith, e, l)
