-- `list_checks::segments_differ` meets its contract: the first length that differs from that of `net` decides. Assumes nothing.
use borrow.Author.Tests.{eq-eqb, ne_eqb}
use Rattle.laws.specs.Lists.{some_of}
use Rattle.laws.proofs.Tests.{or_false}
use Rattle.drawing.specs.Conditions.{differ}
use Rattle.drawing.specs.Checks.{segments_differ}
use Rattle.list_checks.proofs.segments_differ.Goals as goal

pub returns-then-n-segments : goal.returns-then-n-segments
unfolding segments_differ differ some_of
returns-then-n-segments c = rw (ne_eqb _ _ c.if-n-segments.true)

pub returns-then-n-segments-2 : goal.returns-then-n-segments-2
unfolding segments_differ differ some_of
returns-then-n-segments-2 c = rw (eq-eqb _ _ c.if-n-segments.false, ne_eqb _ _ c.if-n-segments-2.true)

pub returns-then-n-segments-3 : goal.returns-then-n-segments-3
unfolding segments_differ differ some_of
returns-then-n-segments-3 c = rw (eq-eqb _ _ c.if-n-segments.false, eq-eqb _ _ c.if-n-segments-2.false, ne_eqb _ _ c.if-n-segments-3.true)

pub returns : goal.returns
unfolding segments_differ differ some_of
returns c = rw (eq-eqb _ _ c.if-n-segments.false, eq-eqb _ _ c.if-n-segments-2.false, eq-eqb _ _ c.if-n-segments-3.false) (or_false _)
