-- What the proofs of the replay's functions use: a whole part is within its buffer, and the front of a buffer is the sheet that was put there.
use mathlib.Core.Path.{◌≡◌, sym, ap, ◌∙◌}
use mathlib.Core.Bool.{Bool, true}
use mathlib.Core.List.{List, ◌++◌}
use Prim.Native.Nat.{ℕ}
use lib.ListN.{length, take, drop}
use lib.Seq.{take-append_seam}
use Rattle.printing.specs.Sheet.{sheet}

pub front-is-sheet :
    (bytes before after : List ℕ) (n : ℕ) → n ≡ length (sheet bytes) → after ≡ sheet bytes ++ drop (length (sheet bytes)) before → take n after ≡ sheet bytes
front-is-sheet bytes before after n e h =
    ap (λ k. take k after) e ∙ (ap (λ l. take (length (sheet bytes)) l) h ∙ take-append_seam (sheet bytes) (drop (length (sheet bytes)) before))

pub same-is-agreeing :
    (bytes front expected : List ℕ) (r : Bool) → front ≡ sheet bytes → (r ≡ true → front ≡ expected) × (front ≡ expected → r ≡ true) → (r ≡ true → sheet bytes ≡ expected) × (sheet bytes ≡ expected → r ≡ true)
same-is-agreeing bytes front expected r e h = (λ t. sym e ∙ h.0 t, λ q. h.1 (e ∙ q))
