-- `drawing::ends::ends_in_order` meets its contract, end by end. Assumes nothing.
use Rattle.drawing.proofs.ends.ends_in_order.Goals as goal

pub returns : goal.returns
returns c = λ i. record { start = c.lesser-first.ensures i; end = c.greater-last.ensures i }
