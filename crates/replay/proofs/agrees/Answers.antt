-- `replay::agrees` meets its contract: the front of the buffer is the sheet, and it is compared with the expected one.
use Rattle.std.proofs.lemmas.Bool.Decides.{Decides-eqb}
use Rattle.std.proofs.lemmas.Slice.Eq.{slice_eq-Decides}
use Rattle.replay.proofs.Replaying.{front-is-sheet, same-is-agreeing}
use Rattle.replay.proofs.agrees.Goals as goal

pub returns : goal.returns
returns c = same-is-agreeing _ _ _ _ (front-is-sheet _ _ _ _ c.sheet-length.ensures.value c.sheet-length.ensures.text_after) (slice_eq-Decides Decides-eqb _ _ _ c.eq.ensures)
